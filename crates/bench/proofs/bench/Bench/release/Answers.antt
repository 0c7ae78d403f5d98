use Rattle.std.proofs.Common.{◌≡◌, Ok, sym, refl, ap, ◌∙◌, rules}
use Rattle.std.specs.Result as results
use Rattle.std.proofs.lemmas.Result.{err_from_is_err_and}
use Rattle.fields.specs.declared.refusal.Place.TheVariants as place
use Rattle.slots.specs.Rows.{row_of}
use Rattle.bench.specs.Benches.{kinds}
use Rattle.bench.proofs.Calls.{unplanned, untimely, refused_by_book, released}
use Rattle.bench.proofs.bench.Bench.release.Goals as goal

pub returns-in_err-row : goal.returns-in_err-row
returns-in_err-row g c =
    let x = c.args.self.now in
    let k = kinds g.B.ReleaseBook.book g.B.ReleaseBook.meaning g.S.SendBuffer.meaning g.S.SendBuffer.sound in
    let p = err_from_is_err_and c.from_residual.result c.from_residual.ensures.1 in
    let found = c.in_err-row.ensures in
    let none = sym found.ok_part ∙ c.row_of.ensures ∙ ap (λ l. row_of l c.args.message) c.as_slice.ensures.value in
    let given : c.in_err-row.field-0.0 ≡ c.refuses.result = let v = rw found.ok_part at found.value in cc in
    let is = p.2 ∙ given ∙ rw c.from-concerns.ensures at c.refuses.ensures in
    rw p.1 (record {
      same_bus = refl;
      same_rows = refl;
      promised = λ from past course. unplanned k g.met.B.ReleaseBook.lawful from past x course c.args.message c.args.time p.0 is none;
    })

pub returns-then-not-allows : goal.returns-then-not-allows
returns-then-not-allows g c =
    let x = c.args.self.now in
    let k = kinds g.B.ReleaseBook.book g.B.ReleaseBook.meaning g.S.SendBuffer.meaning g.S.SendBuffer.sound in
    let row = sym c.in_ok-row.ensures.ok_part ∙ c.row_of.ensures ∙ ap (λ l. row_of l c.args.message) c.as_slice.ensures.value in
    record {
      same_bus = refl;
      same_rows = refl;
      promised = λ from past course. untimely k g.met.B.ReleaseBook.lawful from past x course c.args.message c.args.time
          c.refuses-then-not-allows.result
          (rw c.from-concerns.ensures at c.refuses-then-not-allows.ensures) c.in_ok-row.row row c.if-not-allows.ensures;
    }

pub returns-in_err-map_err : goal.returns-in_err-map_err
returns-in_err-map_err g c =
    let x = c.args.self.now in
    let k = kinds g.B.ReleaseBook.book g.B.ReleaseBook.meaning g.S.SendBuffer.meaning g.S.SendBuffer.sound in
    let row = sym c.in_ok-row.ensures.ok_part ∙ c.row_of.ensures ∙ ap (λ l. row_of l c.args.message) c.as_slice.ensures.value in
    let p = err_from_is_err_and c.from_residual-in_err-map_err.result c.from_residual-in_err-map_err.ensures.1 in
    let spoken : results.MatchResult c.release.result (λ _. ⊥) (λ d. c.in_err-map_err.field-0.0 ≡ record {
      reason = d.reason;
      place = place.Bench;
      concerns = c.from-concerns.result;
    }) = search rules in
    let same : p.0 ≡ c.in_err-map_err.field-0.0 = p.2 in
    rw (p.1, same) (record {
      same_bus = refl;
      same_rows = refl;
      promised = λ from past course. refused_by_book k g.met.B.ReleaseBook.lawful from past x course c.args.message c.args.time
          c.in_ok-row.row row c.if-not-allows.ensures c.release.new.self c.release.result c.release.ensures c.in_err-map_err.field-0.0
          (rw c.from-concerns.ensures at spoken);
    })

pub returns : goal.returns
returns g c =
    let x = c.args.self.now in
    let k = kinds g.B.ReleaseBook.book g.B.ReleaseBook.meaning g.S.SendBuffer.meaning g.S.SendBuffer.sound in
    let row = sym c.in_ok-row.ensures.ok_part ∙ c.row_of.ensures ∙ ap (λ l. row_of l c.args.message) c.as_slice.ensures.value in
    let accepted : c.release.result ≡ Ok tt = search rules in
    let says = rw accepted at c.release.ensures in
    record {
      same_bus = refl;
      same_rows = refl;
      promised = λ from past course. released k g.met.B.ReleaseBook.lawful from past x course c.args.message c.args.time
          c.in_ok-row.row row c.if-not-allows.ensures says.0.0 c.release.new.self says.1 c.put.new.self (c.put.ensures.sound course.sound)
          c.put.result (c.put.ensures.effect course.sound);
    }

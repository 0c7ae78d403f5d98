use Rattle.std.proofs.Common.{ℕ, ◌+◌, ◌*◌, leb, get_or, Some, None, vec_items, Option, refl, ap, ◌∙◌, subst, ap₂}
use Rattle.std.proofs.lemmas.Result.{err_from_is_err_and}
use Rattle.buffers.specs.declared.instance.Instance.{Instance}
use Rattle.bench.specs.Benches.{kinds, rows_in, TakenIf}
use Rattle.bench.proofs.Tables.{size_read}
use Rattle.bench.proofs.Calls.{slot_ran, cycles_over}
use Rattle.bench.proofs.bench.Bench.slot_run.Goals as goal
use Rattle.bench.proofs.bench.Bench.slot_run.Goals.{in-Some, in-None}

pub returns-in_err-may_run : goal.returns-in_err-may_run
returns-in_err-may_run g c =
    let k = kinds g.B.ReleaseBook.book g.B.ReleaseBook.meaning g.S.SendBuffer.meaning g.S.SendBuffer.sound in
    let p = err_from_is_err_and c.from_residual.result c.from_residual.ensures.1 in
    rw (p.1, p.2) (record {
      same_bus = refl;
      same_rows = refl;
      promised = λ from past course. cycles_over k g.met.B.ReleaseBook.lawful from past c.args.self.now course c.in_err-may_run.field-0.0
          c.in_err-may_run.ensures;
    })

pub returns : goal.returns
returns g c =
    let x = c.args.self.now in
    let k = kinds g.B.ReleaseBook.book g.B.ReleaseBook.meaning g.S.SendBuffer.meaning g.S.SendBuffer.sound in
    let start = c.clock-start.result in
    let pair = c.match-taken.size in
    let latest = c.read-latest.ensures ∙ ap (λ l. get_or l x.position.slot 0) c.as_slice.ensures.value in
    let may = λ (o : Option Instance) (a : ℕ). TakenIf (leb x.position.minislot a) (k.buffer x.buffer) x.position.slot o
    (k.buffer c.take_for-taken.new.buffer) in
    record {
      same_bus = refl;
      same_rows = refl;
      promised = λ from past course.
          let ran = λ (o : Option Instance). slot_ran k g.met.B.ReleaseBook.lawful from past x course
          (record { cycle = x.position.cycle; slot = x.position.slot; start = start; sent = pair.1 }) o pair.0
          c.take_for-taken.new.buffer c.onward-self.result start c.in_ok-may_run.ensures.0 in
          elim c.match-taken.branch [
            | in-Some w ↦
                let y = w.in-Some.x in
                let size = w.read-size.ensures ∙ ap (λ l. get_or l y.message 1) w.as_slice-in-Some.ensures.value
                ∙ size_read (rows_in x) (vec_items x.sizes) course.sizes y.message in
                ran (Some y) (subst (may (Some y)) latest (w.in-Some.ensures.taken course.sound)) (w.in-Some.ensures.sound course.sound)
                c.clock-start.ensures.value refl refl refl
                (ap (λ p. p.1) w.size-is
                ∙ ap₂ (λ n l. Some (record { message = y.message; release = y.release; finish = start + n * l })) (w.from.ensures ∙ size)
                w.from-in-Some.ensures)
                (ap (λ p. p.0) w.size-is ∙ size) c.onward-self.ensures
            | in-None w ↦ ran None (subst (may None) latest (w.in-None.ensures.taken course.sound)) (w.in-None.ensures.sound course.sound)
                c.clock-start.ensures.value refl refl refl (ap (λ p. p.1) w.size-is) (ap (λ p. p.0) w.size-is) c.onward-self.ensures
          ];
    }

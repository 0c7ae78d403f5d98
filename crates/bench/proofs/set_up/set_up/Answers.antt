use Rattle.std.proofs.Common.{map, refl, ap, ◌∙◌}
use Rattle.std.specs.List.{range_with_len}
use Rattle.slots.specs.Rows.{last_start_of, size_of}
use Rattle.bench.specs.Benches.{kinds}
use Rattle.bench.specs.SetUps.{Ready, FaultOf}
use Rattle.bench.proofs.Begins.{at_plan, bench_of}
use Rattle.bench.proofs.set_up.set_up.Goals as goal

pub returns-in-Err : goal.returns-in-Err
returns-in-Err g c =
    let k = kinds g.B.ReleaseBook.book g.B.ReleaseBook.meaning g.S.SendBuffer.meaning g.S.SendBuffer.sound in
    record {
      same_plan = refl;
      same_buffer = refl;
      why = at_plan k c.args.plan c.args.buffer (λ s rows. FaultOf k.book s rows (k.buffer c.args.buffer) c.in-Err.fault)
          c.sheet.result.now c.book.result.now c.sheet.ensures c.book.ensures c.in-Err.ensures.why;
    }

pub returns : goal.returns
returns g c =
    let k = kinds g.B.ReleaseBook.book g.B.ReleaseBook.meaning g.S.SendBuffer.meaning g.S.SendBuffer.sound in
    let made = c.in-Ok.ensures in
    let ready = at_plan k c.args.plan c.args.buffer (λ s rows. Ready k.book s rows (k.buffer c.args.buffer)) c.sheet.result.now
    c.book.result.now c.sheet.ensures c.book.ensures made.why in
    let parts = c.into_parts-parts.ensures in
    bench_of k g.met.B.ReleaseBook.lawful c.args.plan _ g.met.B.ReleaseBook.sound (λ f. g.met.S.SendBuffer.room c.args.buffer f)
    (λ f. g.met.S.SendBuffer.outside c.args.buffer f) parts.bus parts.rows parts.book
    c.first_position-position.ensures.begins refl refl ready
    (made.starts ∙ ap (λ l. map (last_start_of l) (range_with_len 0 2048)) c.sheet.ensures)
    (made.sizes ∙ ap (λ l. map (size_of l) (range_with_len 0 129)) c.sheet.ensures)

use Rattle.std.proofs.Common.{◌≡◌, length, vec_items, arith}
use Rattle.std.proofs.lemmas.List.{take_all}
use Rattle.bench.specs.Benches.{kinds}
use Rattle.bench.proofs.Carrying.{one_more, all_kept}
use Rattle.bench.proofs.bench.Bench.carry_out.Goals as goal

pub loop-call-preserved : goal.loop-call-preserved
loop-call-preserved g c =
    let k = kinds g.B.ReleaseBook.book g.B.ReleaseBook.meaning g.S.SendBuffer.meaning g.S.SendBuffer.sound in
    let before = c.loop-call.invariant in
    let given = vec_items c.loop-call.answers in
    let size : length given ≡ c.loop-call.call-index = omega (arith, before.0, c.loop-call.answers.ok.0) in (
      omega (arith, c.push_reserved.ensures.len),
      omega (arith, c.push_reserved.ensures.capacity),
      one_more k c.args.self.now c.loop-call.self c.answer.new.bench c.args.calls.now c.loop-call.call-index given
          (vec_items c.push_reserved.new.self)
          c.answer.result _ c.loop-call-test.true size c.push_reserved.ensures.items before.2 c.answer.ensures,
    )

pub returns : goal.returns
returns g c =
    let k = kinds g.B.ReleaseBook.book g.B.ReleaseBook.meaning g.S.SendBuffer.meaning g.S.SendBuffer.sound in
    let all = take_all c.loop-call.call-index c.args.calls.now c.loop-call-test.false in
    let given = vec_items c.loop-call.answers in
    let size : length given ≡ length c.args.calls.now = omega (
      arith,
      c.loop-call.invariant.0,
      c.loop-call.answers.ok.0,
      c.loop-call.auto.call-index-end,
    ) in
    record {
      kept = all_kept k g.met.B.ReleaseBook.lawful c.args.self.now c.loop-call.self c.args.calls.now given size
          (rw all at c.loop-call.invariant.2);
      unchanged = tt;
    }

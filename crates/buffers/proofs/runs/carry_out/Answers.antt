use Rattle.std.proofs.Common.{vec_items, arith}
use Rattle.std.proofs.lemmas.List.{take_all}
use Rattle.buffers.specs.Runs.{Carried}
use Rattle.buffers.proofs.RunLaws.{carried_more, determined, nothing_lost_in_run}
use Rattle.buffers.proofs.runs.carry_out.Goals as goal

pub loop-call-init : goal.loop-call-init
loop-call-init g c =
    let made = c.in_ok-answers.ensures in
    let law = g.met.B.SendBuffer in
    (made.len, made.capacity, λ sound. sound, λ sound. rw made.items (Carried.none (λ f. law.ordered c.args.buffer.now f sound)))

pub loop-call-preserved : goal.loop-call-preserved
loop-call-preserved g c =
    let law = g.met.B.SendBuffer in
    let before = c.loop-call.invariant in (
      omega arith,
      omega arith,
      λ sound. c.answer.ensures.sound (before.2 sound),
      λ sound. carried_more c.args.calls.now c.loop-call.call-index _ (vec_items c.push_reserved.new.self) c.loop-call-test.true (before.3 sound)
          (λ f. law.ordered c.answer.new.buffer f (c.answer.ensures.sound (before.2 sound)))
          (c.answer.ensures.step (before.2 sound)) c.push_reserved.ensures.items,
    )

pub returns : goal.returns
returns g c =
    let all = take_all c.loop-call.call-index c.args.calls.now c.loop-call-test.false in
    let run = rw all at c.loop-call.invariant.3 in
    record {
      ran = λ sound. record { carried = run sound; determined = determined (run sound); nothing_lost = nothing_lost_in_run (run sound) };
      sound = c.loop-call.invariant.2;
      unchanged = tt;
    }

use Rattle.std.proofs.Common.{◌≡◌, length, vec_items, ap, ◌∙◌, arith}
use Rattle.buffers.specs.Places.{places_given}
use Rattle.buffers.proofs.QueueTable.{begun_more}
use Rattle.buffers.proofs.ranked_buffer.queues.Goals as goal

pub loop-frame-preserved : goal.loop-frame-preserved
loop-frame-preserved c =
    let pushed = c.in_ok-push.ensures in
    let made = c.in_ok-new.ensures in
    let size : c.loop-frame.frame ≡ length (vec_items c.loop-frame.queues) = omega arith in (
      omega (arith, pushed.len),
      rw pushed.items
          (begun_more c.args.places.now _ _ c.loop-frame.invariant.1 (made.0 ∙ c.given.ensures ∙ ap (places_given c.args.places.now) size) made.1),
    )

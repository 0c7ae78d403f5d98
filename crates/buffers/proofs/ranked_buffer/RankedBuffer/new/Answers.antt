use Rattle.std.proofs.Common.{vec_items, arith}
use Rattle.buffers.proofs.QueueTable.{queues_new}
use Rattle.buffers.proofs.ranked_buffer.RankedBuffer.new.Goals as goal

pub returns : goal.returns
returns c =
    let made = c.in_ok-queues.ensures in
    queues_new c.args.places.now (vec_items c.in_ok-queues.queues) (omega arith) c.in_ok-fit.ensures
    (record { places = λ f l. made.places f (omega arith); nothing = made.nothing })

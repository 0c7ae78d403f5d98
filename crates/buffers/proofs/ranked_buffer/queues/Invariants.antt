use Rattle.std.proofs.Common.{◌≡◌, vec_items, vec_len}
use Rattle.buffers.proofs.QueueTable.{Begun}
use Rattle.buffers.proofs.ranked_buffer.queues.Given as goal

abbrev pub invariant-loop-frame : goal.invariant-loop-frame
invariant-loop-frame l = (vec_len l.queues ≡ l.frame) × Begun l.places (vec_items l.queues)

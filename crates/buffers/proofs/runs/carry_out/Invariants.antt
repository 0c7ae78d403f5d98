use Rattle.std.proofs.Common.{◌≡◌, ◌≤◌, length, take, vec_items, vec_len, vec_capacity}
use Rattle.buffers.specs.Runs.{Carried}
use Rattle.buffers.proofs.runs.carry_out.Given as goal

abbrev pub invariant-loop-call : goal.invariant-loop-call
invariant-loop-call g l =
    let b = g.B.SendBuffer in
    (vec_len l.answers ≡ l.call-index) × (length l.calls ≤ vec_capacity l.answers)
    × (b.sound l.initial.buffer → b.sound l.buffer)
    × (b.sound l.initial.buffer → Carried (b.meaning l.initial.buffer) (take l.call-index l.calls) (vec_items l.answers) (b.meaning l.buffer))

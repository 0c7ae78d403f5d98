use Rattle.std.proofs.Common.{◌≡◌, ◌≤◌, length, take, vec_items, vec_len, vec_capacity}
use Rattle.bench.specs.Benches.{kinds}
use Rattle.bench.proofs.Carrying.{SoFar}
use Rattle.bench.proofs.bench.Bench.carry_out.Given as goal

abbrev pub invariant-loop-call : goal.invariant-loop-call
invariant-loop-call g l =
    let k = kinds g.B.ReleaseBook.book g.B.ReleaseBook.meaning g.S.SendBuffer.meaning g.S.SendBuffer.sound in
    (vec_len l.answers ≡ l.call-index) × (length l.calls ≤ vec_capacity l.answers)
    × SoFar k l.initial.self (take l.call-index l.calls) (vec_items l.answers) l.self

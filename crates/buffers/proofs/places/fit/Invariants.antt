use Rattle.std.proofs.Common.{◌≡◌, length, ℕ, ◌+◌, ◌≤◌, take, drop, sum}
use Rattle.buffers.specs.Places.{Fits}
use Rattle.buffers.proofs.places.fit.Given as goal

abbrev pub invariant-loop-frame : goal.invariant-loop-frame
invariant-loop-frame l =
    (l.frame-iterator.a.start ≡ length l.yielded + 1) × (l.frame-iterator.b.rest.now ≡ drop (length l.yielded) l.places)
    × (l.total ≡ sum (take (length l.yielded) l.places)) × ((k : ℕ) → k ≤ length l.yielded → Fits l.places k)

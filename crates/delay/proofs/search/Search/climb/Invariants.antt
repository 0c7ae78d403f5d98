use Rattle.std.proofs.Common.{ℕ, ◌-◌, ◌≤◌, max}
use Rattle.delay.specs.Delay.{Meets}
use Rattle.delay.proofs.search.Search.climb.Given as goal

abbrev pub invariant-rounds : goal.invariant-rounds
invariant-rounds g l =
    let count = g.B.ReleaseBook.book.count (g.B.ReleaseBook.meaning l.self.releases.now) in
    (1 ≤ l.waits) × (l.waits ≤ max l.limit 1) × ((e : ℕ) → 1 ≤ e → Meets l.self.bus.now count l.self.rows.now l.self.message.now e → l.waits ≤ e)

abbrev pub decreases-rounds : goal.decreases-rounds
decreases-rounds g l = l.limit - l.waits

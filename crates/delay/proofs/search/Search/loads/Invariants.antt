use Rattle.std.proofs.Common.{◌≡◌, ◌*◌, ◌≤◌, length, take}
use Rattle.delay.specs.Delay.{total, share_of_lower, share_of_urgent}
use Rattle.delay.proofs.search.Search.loads.Given as goal

abbrev pub invariant-loop-row : goal.invariant-loop-row
invariant-loop-row g l =
    let count = g.B.ReleaseBook.book.count (g.B.ReleaseBook.meaning l.self.releases.now) in
    (l.row-index ≤ length l.self.rows.now)
    × (l.lower ≡ total (share_of_lower l.self.bus.now count l.self.message.now l.d.time) (take l.row-index l.self.rows.now))
    × (l.urgent ≡ total (share_of_urgent count l.self.message.now l.d.time) (take l.row-index l.self.rows.now))
    × (l.lower ≤ 4000000000000 * l.row-index) × (l.urgent ≤ 4000000000000 * l.row-index)

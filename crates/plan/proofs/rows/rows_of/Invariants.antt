use Rattle.std.proofs.Common.{◌≡◌, ◌≤◌, length, take, vec_items, vec_len, vec_capacity}
use Rattle.plan.specs.Sheets.{Sheet}
use Rattle.plan.proofs.rows.rows_of.Given as goal

abbrev pub invariant-loop-e : goal.invariant-loop-e
invariant-loop-e g l =
    (l.e-index ≤ length l.entries) × (vec_len l.rows ≡ l.e-index) × (length l.entries ≤ vec_capacity l.rows)
    × Sheet l.bus g.B.ReleaseBook.book (g.B.ReleaseBook.meaning l.releases) (take l.e-index l.entries) (vec_items l.rows)

use Rattle.std.proofs.Common.{◌≡◌, ℕ, ◌+◌, List, length, ap, arith}
use Rattle.books.specs.Window.{Span}
use Rattle.books.proofs.Places.{ends_pushed}
use Rattle.books.proofs.window.WindowRowMessageRow.released.Goals as goal

pub returns : goal.returns
returns c =
    let x = c.args.self in
    let v = c.args.time + x.window in
    let span : List ℕ → Span = λ ends. record { releases = x.releases; window = x.window; last = c.args.time; ends = ends } in
    let sixteen : length x.ends ≡ 16 = omega arith in
    rw c.from.ensures (ap span (ends_pushed x.ends c.rotate_right.new.self v sixteen c.rotate_right.ensures.after))

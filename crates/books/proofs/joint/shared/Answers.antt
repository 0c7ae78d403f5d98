use Rattle.std.proofs.Common.{◌≡◌, true, false, rules}
use Rattle.std.proofs.lemmas.Iterator.{first_from_Range}
use Rattle.books.specs.Joint.{both_list}
use Rattle.books.proofs.Lowest.{lowest_shared}
use Rattle.books.proofs.joint.shared.Goals as goal

pub returns : goal.returns
returns g c =
    let left = g.L.ReleaseBook in
    let right = g.R.ReleaseBook in
    let x = left.meaning c.args.left.now in
    let y = right.meaning c.args.right.now in
    let both = both_list left.book right.book x y in
    let first = first_from_Range _ _ _ c.find.result (λ m. both m ≡ true) (λ m. both m ≡ false) c.find.ensures.ran
    (λ x q k. search rules) (λ x q k. search rules) in
    lowest_shared left.book right.book x y g.met.L.ReleaseBook.lawful (g.met.L.ReleaseBook.sound c.args.left.now) c.find.result (rw (c.limits_of-limits.ensures.low, c.limits_of-limits.ensures.high) at first)

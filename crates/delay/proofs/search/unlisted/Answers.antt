use Rattle.std.proofs.Common.{◌≡◌, true, false, rules}
use Rattle.std.proofs.lemmas.Iterator.{first_from_find, YieldsList-from_slice, YieldsList-from_map}
use Rattle.delay.proofs.Found.{found, all_or_not}
use Rattle.delay.proofs.search.unlisted.Goals as goal

pub returns : goal.returns
returns g c =
    let lists = g.B.ReleaseBook.book.lists (g.B.ReleaseBook.meaning c.args.releases.now) in
    let rows = c.args.rows.now in
    let numbers = YieldsList-from_map _ (λ row. row.entry.number) (YieldsList-from_slice rows (search rules)) (search rules) (λ x r q k. search rules) in
    all_or_not lists (λ row. row.entry.number) rows c.find.result
    (found lists (λ row. row.entry.number) rows c.find.result
    (first_from_find _ _ c.find.result (λ n. lists n ≡ false) (λ n. lists n ≡ true) c.find.ensures.ran numbers (λ x q k. search rules) (λ x q k. search rules)))

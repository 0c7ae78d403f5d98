use Rattle.std.proofs.Common.{◌≡◌, ℕ, true, false, List, Some, None, Option, rules}
use Rattle.std.specs.Option as options
use Rattle.std.specs.List.{AllByRecursion}
use Rattle.std.proofs.lemmas.Iterator.{first_from_find, YieldsList-from_slice, YieldsList-from_map}
use Rattle.books.specs.Book.{Book}
use Rattle.delay.proofs.Found.{FirstOut, found}
use Rattle.delay.specs.declared.entry.Entry.{Entry}
use Rattle.plan.specs.Sheets.{Listed, FirstUnlisted}
use Rattle.plan.proofs.rows.first_unlisted.Goals as goal

first_of : (b : Book) (s : b.State) (entries : List Entry) (o : Option ℕ)
    → options.MatchOption o (AllByRecursion (Listed b s) entries) (FirstOut (b.lists s) (λ e. e.number) entries)
    → options.MatchOption o (AllByRecursion (Listed b s) entries) (FirstUnlisted b s entries)
first_of b s entries None all = all
first_of b s entries (Some n) f = record {
  front = f.front;
  entry = f.here;
  back = f.back;
  parts = f.parts;
  before = f.before;
  here = f.out;
  concerns = f.named;
}

pub returns : goal.returns
returns g c =
    let book = g.B.ReleaseBook.book in
    let s = g.B.ReleaseBook.meaning c.args.releases.now in
    let entries = c.args.entries.now in
    let numbers = YieldsList-from_map _ (λ e. e.number) (YieldsList-from_slice entries (search rules)) (search rules) (λ x r q k. search rules) in
    first_of book s entries c.find.result
    (found (book.lists s) (λ e. e.number) entries c.find.result
    (first_from_find _ _ c.find.result (λ n. book.lists s n ≡ false) (λ n. book.lists s n ≡ true) c.find.ensures.ran numbers
    (λ x q k. search rules) (λ x q k. search rules)))

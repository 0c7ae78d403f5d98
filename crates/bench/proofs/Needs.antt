-- The places that rows need of a frame, summed up row by row.
use Rattle.std.proofs.Common.{◌≡◌, ℕ, true, cond, eqb, List, [], ◌∷◌, refl, inl, inr, arith}
use Rattle.std.specs.List.{sum_by}
use Rattle.std.proofs.lemmas.List.Sums.{sum_by-cons}
use Rattle.books.specs.Book.{Book}
use Rattle.delay.specs.Delay.{total}
use Rattle.delay.specs.declared.entry.Row.{Row}
use Rattle.slots.specs.Rows.{needs}
use Rattle.bench.specs.SetUps.{needed_by, AllListed}

summed : (b : Book) (s : b.State) (rows : List Row) (f : ℕ) → AllListed b s rows
    → sum_by (needed_by b s f) rows ≡ total (λ r. cond (eqb r.entry.frame f) (b.count s r.entry.number r.delay) 0) rows
summed b s [] f listed = refl
summed b s (r ∷ rs) f listed =
    let here : needed_by b s f r ≡ cond (eqb r.entry.frame f) (b.count s r.entry.number r.delay) 0 =
    let known : b.lists s r.entry.number ≡ true = listed r (inl refl) in rw known in
    omega (arith, sum_by-cons (needed_by b s f) r rs, here, summed b s rs f (λ i m. listed i (inr m)))

pub all_needed : (b : Book) (s : b.State) (rows : List Row) (f : ℕ) → AllListed b s rows → sum_by (needed_by b s f) rows ≡ needs (b.count s) rows f
unfolding needs
all_needed b s rows f listed = summed b s rows f listed

-- The lowest message that two books list both, found among the numbers in range.
use Rattle.std.proofs.Common.{◌≡◌, ℕ, ◌<◌, ◌≤◌, true, false, Some, None, Option, ⊎_elim, arith}
use Rattle.std.specs.Option as options
use Rattle.std.proofs.lemmas.Bool.{cases_Bool, and_parts}
use Rattle.books.specs.Book.{Book, Lawful}
use Rattle.books.specs.Joint.{both_list, Sharing}

module _ (l r : Book) (x : l.State) (y : r.State) (lawful : Lawful l) (sound : l.Sound x) where
  below_range : (k : ℕ) → (1 ≤ k → k < 129 → both_list l r x y k ≡ false) → both_list l r x y k ≡ false
  below_range k none = ⊎_elim
      (λ e. let range = lawful.listed x k sound (and_parts _ _ e).0 in none (omega arith) (omega arith))
      (λ e. e)
      (cases_Bool (both_list l r x y k))

  pub lowest_shared : (o : Option ℕ) → options.MatchOption o ((k : ℕ) → 1 ≤ k → k < 129 → both_list l r x y k ≡ false)
      (λ m. (1 ≤ m) × (m < 129) × (both_list l r x y m ≡ true) × ((k : ℕ) → 1 ≤ k → k < m → both_list l r x y k ≡ false))
      → Sharing l r x y o
  lowest_shared None none = λ m. below_range m (none m)
  lowest_shared (Some m) found = record {
    shared = found.2;
    lowest = λ k below. below_range k (λ one _. found.3 k one below);
  }

-- Sums over lists.
use Rattle.std.proofs.Common.{◌≡◌, ℕ, zero, suc, ◌+◌, ◌<◌, ◌≤◌, List, [], ◌∷◌, length, get_or, take, sym, ap, subst, le_of_suc-le-suc, not-suc-le-zero, add-one, arith}
use Rattle.std.specs.List.{AllByRecursion}
use Rattle.std.proofs.ByRecursion.{All-get_or}
use Rattle.delay.specs.Delay.{total}

total_next : {X : Type 0} (f : X → ℕ) (xs : List X) (i : ℕ) (d : X) → i < length xs → total f (take (suc i) xs) ≡ total f (take i xs) + f (get_or xs i d)
total_next f [] i d h = absurd (not-suc-le-zero h)
total_next f (x ∷ xs) zero d h = omega arith
total_next f (x ∷ xs) (suc i) d h = omega (arith, total_next f xs i d (le_of_suc-le-suc h))

-- A sum over one element more.
pub total_more : {X : Type 0} (f : X → ℕ) (xs : List X) (i : ℕ) (d : X) → i < length xs → total f (take (i + 1) xs) ≡ total f (take i xs) + f (get_or xs i d)
total_more f xs i d h = rw add-one (total_next f xs i d h)

-- Where each term grows, so does the sum.
pub total_grows : {X : Type 0} (f g : X → ℕ) → ((x : X) → f x ≤ g x) → (xs : List X) → total f xs ≤ total g xs
total_grows f g h [] = omega arith
total_grows f g h (x ∷ xs) = omega (arith, h x, total_grows f g h xs)

-- The step of a loop that adds a figure of each element that it reads.
pub total_step : {X : Type 0} (f : X → ℕ) (xs : List X) (i : ℕ) (x : X) (sum n m : ℕ) → i < length xs → x ≡ get_or xs i x
    → sum ≡ total f (take i xs) → n ≡ m → m ≡ f x → sum + n ≡ total f (take (i + 1) xs)
total_step f xs i x sum n m h e s t u = omega (arith, total_more f xs i x h, ap f e)

-- What holds of every element holds of one that is read.
pub all_read : {X : Type 0} (P : X → Type 0) (xs : List X) (i : ℕ) (x : X) → i < length xs → x ≡ get_or xs i x → AllByRecursion P xs → P x
all_read P xs i x h e all = subst P (sym e) (All-get_or P xs i x h all)

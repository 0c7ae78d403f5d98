-- How many times lie in a stretch, against parts of it and against longer ones.
use Rattle.std.specs.Prelude.{ℕ, ◌+◌, ◌≤◌, cond, List, [], ◌∷◌}
use Rattle.std.proofs.Common.{arith}
use Rattle.std.proofs.lemmas.Bool.Decides.{nat_tests}
use Rattle.books.specs.Book.{tally}
use Rattle.books.specs.Rows.{inside}

one_split : (from a b t : ℕ) → cond (inside from (a + b) t) 1 0 ≤ cond (inside from a t) 1 0 + cond (inside (from + a) b t) 1 0
one_split from a b t = grind (arith, nat_tests)

pub tally_split : (from a b : ℕ) (ts : List ℕ) → tally (inside from (a + b)) ts ≤ tally (inside from a) ts + tally (inside (from + a) b) ts
tally_split from a b [] = omega arith
tally_split from a b (t ∷ ts) = let one = one_split from a b t in let rest = tally_split from a b ts in omega arith

one_longer : (from len more t : ℕ) → len ≤ more → cond (inside from len t) 1 0 ≤ cond (inside from more t) 1 0
one_longer from len more t l = grind (arith, nat_tests)

pub tally_longer : (from len more : ℕ) → len ≤ more → (ts : List ℕ) → tally (inside from len) ts ≤ tally (inside from more) ts
tally_longer from len more l [] = omega arith
tally_longer from len more l (t ∷ ts) = let one = one_longer from len more t l in let rest = tally_longer from len more l ts in omega arith

one_none : (from t : ℕ) → cond (inside from 0 t) 1 0 ≤ 0
one_none from t = grind (arith, nat_tests)

pub tally_none : (from : ℕ) (ts : List ℕ) → tally (inside from 0) ts ≤ 0
tally_none from [] = omega arith
tally_none from (t ∷ ts) = let one = one_none from t in let rest = tally_none from ts in omega arith

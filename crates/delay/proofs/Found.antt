-- The first element whose number is not listed, found by reading a list in its order.
use Rattle.std.proofs.Common.{◌≡◌, ℕ, zero, suc, ◌<◌, Bool, true, false, List, [], ◌∷◌, ◌++◌, length, map, Some, None, Option, refl, sym, ap, ◌∙◌, arith}
use Rattle.std.specs.Option as options
use Rattle.std.specs.List.{AllByRecursion, AllWithin, HoldsAt}
use Rattle.std.proofs.lemmas.Bool.{both_ways}

module _ {X : Type 0} (lists : ℕ → Bool) (number : X → ℕ) where
  -- the element at which a number stands that is not listed, with those before it, which all are
  pub record FirstOut (xs : List X) (n : ℕ) : Type 0 where
    pub front : List X
    pub here : X
    pub back : List X
    pub parts : xs ≡ front ++ here ∷ back
    pub before : AllByRecursion (λ x. lists (number x) ≡ true) front
    pub out : lists (number here) ≡ false
    pub named : n ≡ number here

  all_listed : (xs : List X) → AllWithin (λ n. lists n ≡ true) (map number xs) 0 (length (map number xs)) → AllByRecursion (λ x. lists (number x) ≡ true) xs
  all_listed [] all = tt
  all_listed (x ∷ xs) all = (all 0 (number x) (omega arith) (omega arith), all_listed xs (λ k d _ l. all (suc k) d (omega arith) (omega arith)))

  first_at : (xs : List X) (n i : ℕ) → lists n ≡ false → i < length (map number xs) → HoldsAt (λ m. m ≡ n) (map number xs) i
      → AllWithin (λ m. lists m ≡ true) (map number xs) 0 i → FirstOut xs n
  first_at [] n i out l here before = absurd (omega arith)
  first_at (x ∷ xs) n zero out l here before =
      let named = sym (here n) in
      record { front = []; here = x; back = xs; parts = refl; before = tt; out = ap lists (sym named) ∙ out; named = named }
  first_at (x ∷ xs) n (suc i) out l here before =
      let rest = first_at xs n i out (omega arith) here (λ k d _ b. before (suc k) d (omega arith) (omega arith)) in
      record {
        front = x ∷ rest.front;
        here = rest.here;
        back = rest.back;
        parts = ap (λ ys. x ∷ ys) rest.parts;
        before = (before 0 (number x) (omega arith) (omega arith), rest.before);
        out = rest.out;
        named = rest.named;
      }

  -- what a search answers that stops at the first number that is not listed
  pub found : (xs : List X) (o : Option ℕ)
      → options.MatchOption o (AllWithin (λ n. lists n ≡ true) (map number xs) 0 (length (map number xs)))
      (λ n. (lists n ≡ false) × (i : ℕ) × (i < length (map number xs)) × HoldsAt (λ m. m ≡ n) (map number xs) i
      × AllWithin (λ m. lists m ≡ true) (map number xs) 0 i)
      → options.MatchOption o (AllByRecursion (λ x. lists (number x) ≡ true) xs) (FirstOut xs)
  found xs None all = all_listed xs all
  found xs (Some n) f = first_at xs n f.1 f.0 f.2 f.3 f.4

  out_of_all : (front : List X) (x : X) (back : List X) → lists (number x) ≡ false → AllByRecursion (λ y. lists (number y) ≡ true) (front ++ x ∷ back) → ⊥
  out_of_all [] x back out all = both_ways (lists (number x)) out all.0
  out_of_all (y ∷ front) x back out all = out_of_all front x back out all.1

  -- then not all are listed
  pub not_all : (xs : List X) (n : ℕ) → FirstOut xs n → (lists n ≡ false) × (AllByRecursion (λ x. lists (number x) ≡ true) xs → ⊥)
  not_all xs n f = (rw f.named f.out, λ all. out_of_all f.front f.here f.back f.out (rw f.parts at all))

  pub all_or_not : (xs : List X) (o : Option ℕ) → options.MatchOption o (AllByRecursion (λ x. lists (number x) ≡ true) xs) (FirstOut xs)
      → options.MatchOption o (AllByRecursion (λ x. lists (number x) ≡ true) xs) (λ n. (lists n ≡ false) × (AllByRecursion (λ x. lists (number x) ≡ true) xs → ⊥))
  all_or_not xs None all = all
  all_or_not xs (Some n) f = not_all xs n f

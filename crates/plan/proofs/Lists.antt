-- Tests over lists, one element at a time.
use Rattle.std.proofs.Common.{◌≡◌, ℕ, zero, suc, ◌+◌, ◌<◌, Bool, true, false, ◌||◌, List, [], ◌∷◌, ◌++◌, length, get_or, take, drop, set, refl, le_of_suc-le-suc, not-suc-le-zero}
use Rattle.std.proofs.lemmas.List.{drop_more, take-append-drop}
use Rattle.std.proofs.lemmas.Bool.{and_parts, and_from}
use Rattle.plan.specs.Entries.{every, some}

-- A test that every element passes, after a write.
pub every_set : {X : Type 0} (p : X → Bool) (xs : List X) (i : ℕ) (x : X) → every p xs ≡ true → p x ≡ true → every p (set xs i x) ≡ true
every_set p [] i x all one = refl
every_set p (y ∷ ys) zero x all one = and_from (p x) (every p ys) one (and_parts (p y) (every p ys) all).1
every_set p (y ∷ ys) (suc i) x all one =
    let a = and_parts (p y) (every p ys) all in and_from (p y) (every p (set ys i x)) a.0 (every_set p ys i x a.1 one)

-- A test that every element passes, at one that is read.
pub every_get_d : {X : Type 0} (p : X → Bool) (xs : List X) (i : ℕ) (d : X) → i < length xs → every p xs ≡ true → p (get_or xs i d) ≡ true
every_get_d p [] i d h all = absurd (not-suc-le-zero h)
every_get_d p (x ∷ xs) zero d h all = (and_parts (p x) (every p xs) all).0
every_get_d p (x ∷ xs) (suc i) d h all = every_get_d p xs i d (le_of_suc-le-suc h) (and_parts (p x) (every p xs) all).1

-- A list around an element that is read.
pub split_read : {X : Type 0} (xs : List X) (i : ℕ) (x : X) → i < length xs → x ≡ get_or xs i x → xs ≡ take i xs ++ x ∷ drop (i + 1) xs
split_read xs i x h e =
    let d = drop_more xs i x h in
    let t = take-append-drop i xs in
    cc

-- One test or the other, asked of every element together.
mixed : (a b c d : Bool) → ((a || b) || (c || d)) ≡ ((a || c) || (b || d))
mixed true b c d = refl
mixed false true true d = refl
mixed false true false d = refl
mixed false false c d = refl

pub some_or : {X : Type 0} (p q : X → Bool) (xs : List X) → some (λ x. p x || q x) xs ≡ (some p xs || some q xs)
some_or p q [] = refl
some_or p q (x ∷ xs) = rw (some_or p q xs) (mixed (p x) (q x) (some p xs) (some q xs))

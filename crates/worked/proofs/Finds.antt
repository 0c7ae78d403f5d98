-- Facts that are found by computing.
use Rattle.std.proofs.Common.{◌≡◌, ℕ, zero, suc, ◌+◌, ◌<◌, ◌≤◌, Bool, true, false, eqb, leb, List, [], ◌∷◌, Some, None, Option, refl, ap, ◌∙◌, ap₂, ⊎_elim, arith}
use Rattle.std.specs.List.{range_with_len, AllByRecursion}
use Rattle.std.proofs.lemmas.Bool.{leb-true, eqb-true, and_parts, cases_eq}
use Rattle.fields.specs.Limits.{lowest, highest, Admitted}
use Rattle.fields.specs.declared.limits.Field.{Field}
use Rattle.plan.specs.Entries.{every}

pub data Found (A : Type 0) : Type 0 where
  found : A → Found A
  nothing : Found A

abbrev pub is_found : {A : Type 0} → Found A → Bool
is_found (found a) = true
is_found nothing = false

pub the_found : {A : Type 0} (x : Found A) → is_found x ≡ true → A
the_found (found a) h = a
the_found nothing h = absurd (no_way h)
  where
    no_way : false ≡ true → ⊥
    no_way e = let z : ◌≡◌ {A = ℕ} 0 1 = cc in omega arith

-- One fact after another.
abbrev pub and_then : {A B : Type 0} → Found A → (A → Found B) → Found B
and_then (found a) f = f a
and_then nothing f = nothing

-- What follows from a test, where it passes.
abbrev pub when_true : {A : Type 0} (b : Bool) → (b ≡ true → A) → Found A
when_true true f = found (f refl)
when_true false f = nothing

abbrev pub at_most : (m n : ℕ) → Found (m ≤ n)
at_most m n = when_true (leb m n) (leb-true m n)

abbrev pub in_range : (f : Field) (v : ℕ) → Found (Admitted f v)
in_range f v = and_then (at_most (lowest f) v) (λ l. and_then (at_most v (highest f)) (λ h. found (l, h)))

abbrev pub same_bytes : (xs ys : List ℕ) → Found (xs ≡ ys)
same_bytes [] [] = found refl
same_bytes [] (y ∷ ys) = nothing
same_bytes (x ∷ xs) [] = nothing
same_bytes (x ∷ xs) (y ∷ ys) = and_then (when_true (eqb x y) (eqb-true x y)) (λ h. and_then (same_bytes xs ys) (λ t. found (ap₂ (λ a b. a ∷ b) h t)))

abbrev pub is_none : {A : Type 0} (o : Option A) → Found (o ≡ None)
is_none None = found refl
is_none (Some a) = nothing

abbrev pub all_true : {X : Type 0} (p : X → Bool) (xs : List X) → Found (AllByRecursion (λ x. p x ≡ true) xs)
all_true p [] = found tt
all_true p (x ∷ xs) = and_then (when_true (p x) (λ h. h)) (λ h. and_then (all_true p xs) (λ t. found (h, t)))

-- A test that every number of a stretch passes.
pub at_each : (p : ℕ → Bool) (a n : ℕ) → every p (range_with_len a n) ≡ true → (e : ℕ) → a ≤ e → e < a + n → p e ≡ true
at_each p a zero h e low high = absurd (omega arith)
at_each p a (suc n) h e low high =
    let parts = and_parts (p a) (every p (range_with_len (a + 1) n)) h in
    ⊎_elim (λ same. ap p same ∙ parts.0) (λ other. at_each p (a + 1) n parts.1 e (omega arith) (omega arith)) (cases_eq e a)

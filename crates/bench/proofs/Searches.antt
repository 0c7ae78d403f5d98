-- Searching an inclusive range from below, and the lowest value that is found in it.
use Rattle.std.proofs.Common.{◌≡◌, ℕ, suc, ◌+◌, ◌-◌, ◌<◌, ◌≤◌, Bool, true, false, List, ◌∷◌, get_or, map, length, Some, None, Option, sym, refl, ap, ◌∙◌, subst, arith}
use Rattle.std.specs.Option as options
use Rattle.std.specs.List.{AllWithin, HoldsAt, range_with_len}
use Rattle.std.specs.declared.ops.RangeInclusive.{RangeInclusive}
use Rattle.std.specs.Range.{range_inclusive_len, range_inclusive_start, range_inclusive_end, range_inclusive_exhausted}
use Rattle.std.proofs.iter.runs.Sources.{nat_range_inclusive_steps}
use Rattle.std.proofs.lemmas.Iterator.{YieldsList}
use Rattle.std.proofs.lemmas.Iterator.Consumers.{YieldsList-from_shown}
use Rattle.std.proofs.lemmas.List.FromFn.{get_or-map-range_with_len, length-map-range_with_len, length-range_with_len}

-- how many values a range has left, and which
abbrev span : RangeInclusive ℕ → ℕ
span s = range_inclusive_len (λ x y. y - x) (range_inclusive_start s) (range_inclusive_end s) (range_inclusive_exhausted s)

abbrev pub left_in : RangeInclusive ℕ → List ℕ
left_in s = range_with_len (range_inclusive_start s) (span s)

none_left : (s t : RangeInclusive ℕ) → nat_range_inclusive_steps s None t → length (left_in s) ≡ 0
none_left s t y = length-range_with_len (range_inclusive_start s) (span s) ∙ y.1.0

one_less : (s : RangeInclusive ℕ) (x : ℕ) (t : RangeInclusive ℕ) → nat_range_inclusive_steps s (Some x) t → left_in s ≡ x ∷ left_in t
one_less s x t y =
    let more : span s ≡ suc (span t) = omega (arith, y.1.1) in
    rw (more, y.1.0) (ap (λ l. range_inclusive_start s ∷ l) (rest (range_inclusive_exhausted t) refl))
  where
    rest : (b : Bool) → range_inclusive_exhausted t ≡ b → range_with_len (range_inclusive_start s + 1) (span t) ≡ left_in t
    rest true e =
        let spent : span t ≡ 0 = ap (range_inclusive_len (λ x y. y - x) (range_inclusive_start t) (range_inclusive_end t)) e in
        rw spent
    rest false e = ap (λ n. range_with_len n (span t)) (sym (y.1.2 e))

pub range_left : (s : RangeInclusive ℕ) → YieldsList nat_range_inclusive_steps (λ x. x) s (left_in s)
range_left = YieldsList-from_shown nat_range_inclusive_steps (λ x. x) left_in none_left one_less

-- what a search of a fresh range has found: what P says of each number and an answer
module _ (P : ℕ → Bool → Type 0) (a b : ℕ) (s : RangeInclusive ℕ) (from : range_inclusive_start s ≡ a) (upto : range_inclusive_end s ≡ b)
    (fresh : range_inclusive_exhausted s ≡ false) where
  abbrev all : List ℕ
  all = map (λ m. m) (left_in s)

  long : length all ≡ span s
  long = length-map-range_with_len (λ m. m) (range_inclusive_start s) (span s)

  count : span s ≡ range_inclusive_end s + 1 - range_inclusive_start s
  count = omega (arith, ap (range_inclusive_len (λ x y. y - x) (range_inclusive_start s) (range_inclusive_end s)) fresh)

  read : (m d : ℕ) → a ≤ m → m ≤ b → get_or all (m - a) d ≡ m
  read m d low high = get_or-map-range_with_len (λ k. k) (range_inclusive_start s) (span s) (m - a) m d (omega (arith, count)) (omega arith)

  none_of : (i m : ℕ) → AllWithin (λ k. P k false) all 0 i → a ≤ m → m ≤ b → m - a < i → P m false
  none_of i m none low high l = subst (λ k. P k false) (read m 0 low high) (none (m - a) 0 (omega arith) l)

  pub lowest_in : (r : Option ℕ)
      → options.MatchOption r (AllWithin (λ m. P m false) all 0 (length all))
      (λ x. P x true × (i : ℕ) × (i < length all) × HoldsAt (λ m. m ≡ x) all i × AllWithin (λ m. P m false) all 0 i)
      → options.MatchOption r ((m : ℕ) → (a ≤ m) × (m ≤ b) → P m false)
      (λ x. ((a ≤ x) × (x ≤ b)) × P x true × ((m : ℕ) → (a ≤ m) × (m ≤ b) → m < x → P m false))
  lowest_in None none = λ m within. none_of (length all) m none within.0 within.1 (omega (arith, within, long, count))
  lowest_in (Some x) found =
      let i = found.1 in
      let short : i < span s = omega (arith, found.2, long) in
      let here : a + i ≡ x =
      sym (get_or-map-range_with_len (λ k. k) (range_inclusive_start s) (span s) i (a + i) 0 short (omega arith)) ∙ found.3 0 in (
        (omega arith, omega (arith, count)),
        found.0,
        λ m within l. none_of i m found.4 within.0 within.1 (omega arith),
      )

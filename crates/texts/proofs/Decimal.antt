-- The decimal digits of numbers, read from left to right.
use Rattle.std.proofs.Common.{◌≡◌, ℕ, zero, suc, ◌+◌, ◌-◌, ◌*◌, ◌/◌, ◌%◌, ◌^◌, ◌<◌, ◌≤◌, true, false, leb, cond, List, [], ◌∷◌, ◌++◌, map, length, get_or, take, drop, sym, refl, ap, ◌∙◌, subst, ⊎_elim, add-one, zero-add, arith, take_all}
use Rattle.std.specs.Fmt as Written
use Rattle.std.proofs.lemmas.Fmt.{decimal_digit, decimal-digits_of}
use Rattle.std.specs.Int.Digits.{digits_of}
use Rattle.std.proofs.lemmas.Int.Digits.{digits_of_step, first_digits_of, all_below_base_digits_of, length-digits_of_step, digits_value_more}
use Rattle.std.proofs.lemmas.List.{map_push, take_more, get_or-take, get_or-map, length-map, length-append, get_or_append_left}
use Rattle.std.proofs.ByRecursion.{All-get_or}
use Rattle.std.proofs.lemmas.Nat.{div-mul-add}
use Rattle.std.proofs.Math.Numerals.{one-add}
use Rattle.std.proofs.lemmas.Bool.{cases_Bool, cases_eq, le-leb, and_from, both_ways}
use Rattle.std.proofs.lemmas.Bool.Decides.{nat_tests}
use Rattle.std.specs.Char.{is_ascii_digit, digit_value}
use Rattle.std.specs.List.{AllByRecursion, prefix_len}
use Rattle.std.specs.Str.Parse.{digits_value}
use Rattle.std.proofs.lemmas.Str.{digit_value_digit}
use Rattle.texts.specs.Forms.{decimal, Ends, NoNumber}

-- The last digit of a number, and what stands before it.
split : (n d : ℕ) → d < 10 → ((n * 10 + d) / 10 ≡ n) × ((n * 10 + d) % 10 ≡ d)
split n d h = (div-mul-add n 10 d h, omega (arith, div-mul-add n 10 d h))

pub decimal_one : (d : ℕ) → d < 10 → decimal d ≡ (48 + d) ∷ []
unfolding decimal
decimal_one zero h = refl
decimal_one (suc k) h =
    let q : suc k / 10 ≡ 0 = omega arith in
    let r : suc k % 10 ≡ suc k = omega arith in
    let e : digits_of 10 (suc k) ≡ suc k ∷ [] = rw (digits_of_step 10 (suc k) (omega arith) (omega arith), q, r) refl in
    ap (map (λ d. 48 + d)) e

positive : (n : ℕ) → 0 < n → decimal n ≡ map (λ d. 48 + d) (digits_of 10 n)
unfolding decimal
positive zero h = absurd (omega arith)
positive (suc n) h = refl

pub decimal_more : (n d : ℕ) → 0 < n → d < 10 → decimal (n * 10 + d) ≡ decimal n ++ (48 + d) ∷ []
decimal_more n d p h =
    let s = split n d h in
    let step : digits_of 10 (n * 10 + d) ≡ digits_of 10 n ++ d ∷ [] = rw (digits_of_step 10 (n * 10 + d) (omega arith) (omega arith), s.0, s.1) refl in
    positive (n * 10 + d) (omega arith)
    ∙ ap (map (λ x. 48 + x)) step
    ∙ map_push (λ x. 48 + x) (digits_of 10 n) d
    ∙ ap (λ l. l ++ (48 + d) ∷ []) (sym (positive n p))

is_digit : (b : ℕ) → is_ascii_digit b ≡ true → (48 ≤ b) × (b ≤ 57)
is_digit b h = (grind (arith, nat_tests), grind (arith, nat_tests))

-- The first byte of a number is a digit, and no zero but for the number 0.
pub first_byte : (n : ℕ) → (0 < length (decimal n)) × (is_ascii_digit (get_or (decimal n) 0 0) ≡ true) × (0 < n → 48 < get_or (decimal n) 0 0)
unfolding decimal
first_byte zero = (omega arith, refl, λ h. absurd (omega arith))
first_byte (suc n) =
    let ds = digits_of 10 (suc n) in
    let some : 0 < length ds = omega (arith, length-digits_of_step 10 (suc n) (omega arith) (omega arith)) in
    let at = get_or-map (λ d. 48 + d) ds 0 0 0 some in
    let under = All-get_or (λ d. d < 10) ds 0 0 some (all_below_base_digits_of 10 (suc n) (omega arith)) in
    let low : 48 ≤ get_or (map (λ d. 48 + d) ds) 0 0 = omega arith in
    let high : get_or (map (λ d. 48 + d) ds) 0 0 ≤ 57 = omega arith in (
      rw (length-map ds (λ d. 48 + d)) some,
      and_from (leb 48 (get_or (map (λ d. 48 + d) ds) 0 0)) (leb (get_or (map (λ d. 48 + d) ds) 0 0) 57) (le-leb _ _ low) (le-leb _ _ high),
      λ h. omega (arith, first_digits_of 10 (suc n) (omega arith) (omega arith)),
    )

first_found : (bs rest : List ℕ) (n : ℕ) → bs ≡ decimal n ++ rest → get_or bs 0 0 ≡ get_or (decimal n) 0 0
first_found bs rest n e = ap (λ l. get_or l 0 0) e ∙ get_or_append_left (decimal n) rest 0 0 (first_byte n).0

-- No number begins where no digit stands, or past the end.
pub none_without_digit : (bs : List ℕ) → Ends bs → NoNumber bs
none_without_digit [] h n rest ends e =
    let l = ap length e in omega (arith, length-append (decimal n) rest, (first_byte n).0)
none_without_digit (b ∷ bs) h n rest ends e =
    both_ways (is_ascii_digit b) h (rw (first_found (b ∷ bs) rest n e) (first_byte n).1)

-- No number begins with a zero that a digit follows.
pub none_after_zero : (ds more : List ℕ) → AllByRecursion (λ b. is_ascii_digit b ≡ true) ds → 0 < length ds → NoNumber (48 ∷ (ds ++ more))
none_after_zero [] more all some n rest ends e = absurd (omega arith)
none_after_zero (b ∷ bs) more all some n rest ends e =
    ⊎_elim
    (λ z.
    let tail : 48 ∷ b ∷ (bs ++ more) ≡ 48 ∷ rest = e ∙ ap (λ k. decimal k ++ rest) z ∙ ap (λ l. l ++ rest) (decimal_one 0 (omega arith)) in
    both_ways (is_ascii_digit b) (subst Ends (sym (ap (drop 1) tail)) ends) all.0)
    (λ nz. let f = first_found (48 ∷ b ∷ (bs ++ more)) rest n e in omega (arith, (first_byte n).2 (omega arith)))
    (cases_eq n 0)

-- No number begins with a zero whose next byte is a digit.
pub none_after_idle : (bs : List ℕ) → get_or bs 0 0 ≡ 48 → is_ascii_digit (get_or bs 1 0) ≡ true → NoNumber bs
none_after_idle [] zero_first digit = absurd (omega arith)
none_after_idle (a ∷ []) zero_first digit = let d = is_digit 0 digit in absurd (omega arith)
none_after_idle (a ∷ b ∷ bs) zero_first digit = subst (λ x. NoNumber (x ∷ b ∷ bs)) (sym zero_first) (none_after_zero (b ∷ []) bs (digit, tt) (omega arith))

-- Two digits or more begin above zero, where no digit comes after a zero.
pub first_above : (bs ds rest : List ℕ) → bs ≡ ds ++ rest → AllByRecursion (λ b. is_ascii_digit b ≡ true) ds
    → (get_or bs 0 0 ≡ 48 → is_ascii_digit (get_or bs 1 0) ≡ false) → 1 < length ds → 48 < get_or ds 0 0
first_above bs [] rest e all never more = absurd (omega arith)
first_above bs (a ∷ []) rest e all never more = absurd (omega arith)
first_above bs (a ∷ b ∷ ds) rest e all never more =
    ⊎_elim
    (λ z. absurd (both_ways (is_ascii_digit b) (rw (ap (λ l. get_or l 1 0) e) at (never (ap (λ l. get_or l 0 0) e ∙ z))) all.1.0))
    (λ nz. let d = is_digit a all.0 in omega arith)
    (cases_eq a 48)

-- The value of the digit at a place.
pub digit_at : (ds : List ℕ) → AllByRecursion (λ b. is_ascii_digit b ≡ true) ds → (i : ℕ) → i < length ds
    → (digit_value (get_or ds i 0) + 48 ≡ get_or ds i 0) × (get_or ds i 0 ≤ 57)
digit_at ds all i h =
    let d = is_digit (get_or ds i 0) (All-get_or (λ b. is_ascii_digit b ≡ true) ds i 0 h all) in
    (digit_value_digit (get_or ds i 0) d, d.1)

-- The digits that bytes begin with, and what follows them.
module _ (b : ℕ) (bs : List ℕ) where
  take_digit : is_ascii_digit b ≡ true → take (prefix_len is_ascii_digit (b ∷ bs)) (b ∷ bs) ≡ b ∷ take (prefix_len is_ascii_digit bs) bs
  take_digit e = ap (λ v. take (cond v (1 + prefix_len is_ascii_digit bs) 0) (b ∷ bs)) e ∙ ap (λ n. take n (b ∷ bs)) (one-add (prefix_len is_ascii_digit bs))

  drop_digit : is_ascii_digit b ≡ true → drop (prefix_len is_ascii_digit (b ∷ bs)) (b ∷ bs) ≡ drop (prefix_len is_ascii_digit bs) bs
  drop_digit e = ap (λ v. drop (cond v (1 + prefix_len is_ascii_digit bs) 0) (b ∷ bs)) e ∙ ap (λ n. drop n (b ∷ bs)) (one-add (prefix_len is_ascii_digit bs))

  no_digit : is_ascii_digit b ≡ false → prefix_len is_ascii_digit (b ∷ bs) ≡ 0
  no_digit e = ap (λ v. cond v (1 + prefix_len is_ascii_digit bs) 0) e

pub ahead_all : (bs : List ℕ) → AllByRecursion (λ b. is_ascii_digit b ≡ true) (take (prefix_len is_ascii_digit bs) bs)
ahead_all [] = tt
ahead_all (b ∷ bs) =
    ⊎_elim (λ e. rw (take_digit b bs e) (e, ahead_all bs)) (λ e. rw (no_digit b bs e) tt) (cases_Bool (is_ascii_digit b))

pub ends_after : (bs : List ℕ) → Ends (drop (prefix_len is_ascii_digit bs) bs)
ends_after [] = tt
ends_after (b ∷ bs) =
    ⊎_elim (λ e. rw (drop_digit b bs e) (ends_after bs)) (λ e. rw (no_digit b bs e) e) (cases_Bool (is_ascii_digit b))

-- Digits without a leading zero are those of the number that they spell.
module _ (ds : List ℕ) (all : AllByRecursion (λ b. is_ascii_digit b ≡ true) ds) (big : 1 < length ds → 48 < get_or ds 0 0) where
  spelled_to : (i : ℕ) → i < length ds → decimal (digits_value 10 (take (i + 1) ds)) ≡ take (i + 1) ds
  spelled_to zero h =
      let d = get_or ds 0 0 in
      let v = digit_at ds all 0 h in
      let n : digits_value 10 (take (0 + 1) ds) ≡ digit_value d = digits_value_more 10 ds 0 h ∙ zero-add (digit_value d) in
      ap decimal n ∙ decimal_one (digit_value d) (omega arith) ∙ ap (λ x. x ∷ []) (omega arith) ∙ sym (take_more ds 0 0 h)
  spelled_to (suc k) h =
      let d = get_or ds (suc k) 0 in
      let v = digit_at ds all (suc k) h in
      let before : decimal (digits_value 10 (take (suc k) ds)) ≡ take (suc k) ds = rw (add-one k) at (spelled_to k (omega arith)) in
      let m = digits_value 10 (take (suc k) ds) in
      let nonzero : 0 < m = ⊎_elim
      (λ z. omega (arith, ap (λ l. get_or l 0 0) (sym before ∙ ap decimal z ∙ decimal_one 0 (omega arith)), get_or-take (suc k) ds 0 0 (omega arith), big (omega arith)))
      (λ nz. omega arith) (cases_eq m 0) in
      ap decimal (digits_value_more 10 ds (suc k) h) ∙ decimal_more m (digit_value d) nonzero (omega arith)
      ∙ ap (λ l. l ++ (48 + digit_value d) ∷ []) before ∙ ap (λ x. take (suc k) ds ++ x ∷ []) (omega arith) ∙ sym (take_more ds (suc k) 0 h)

  pub spelled_all : 0 < length ds → decimal (digits_value 10 ds) ≡ ds
  spelled_all some =
      let all_taken : take (length ds - 1 + 1) ds ≡ ds = take_all (length ds - 1 + 1) ds (omega arith) in
      ap (λ l. decimal (digits_value 10 l)) (sym all_taken) ∙ spelled_to (length ds - 1) (omega arith) ∙ all_taken

-- What `{n}` writes is the number's decimal digits.
pub written : (n : ℕ) → n < 2 ^ 64 → Written.decimal n ≡ decimal n
written zero h = decimal_digit 0 (omega arith) ∙ sym (decimal_one 0 (omega arith))
written (suc n) h = decimal-digits_of (suc n) (omega arith) h ∙ sym (positive (suc n) (omega arith))

-- A line is printed from one letter and one list of numbers only.
use Rattle.std.proofs.Common.{◌≡◌, ℕ, zero, suc, ◌+◌, ◌<◌, ◌≤◌, true, leb, ◌⊎◌, List, [], ◌∷◌, ◌++◌, map, length, get_or, drop, sym, refl, ap, ◌∙◌, subst, inl, ⊎_elim, arith}
use Rattle.std.specs.List.{AllByRecursion}
use Rattle.std.specs.Int.Digits.{digits_of}
use Rattle.std.proofs.lemmas.Int.Digits.{all_below_base_digits_of, same_from_digits_of}
use Rattle.std.proofs.ByRecursion.{All-map, All-weaker}
use Rattle.std.proofs.lemmas.List.{length-append, length-map}
use Rattle.std.proofs.lemmas.Bool.{and_from, le-leb, both_ways}
use Rattle.std.specs.Char.{is_ascii_digit}
use Rattle.texts.specs.Forms.{decimal, Ends, fields, printed, cut, NoNumber, NoForm, FormSoFar}
use Rattle.texts.proofs.Decimal.{decimal_one, first_byte}

byte_digit : (d : ℕ) → d < 10 → is_ascii_digit (48 + d) ≡ true
byte_digit d h =
    let low : 48 ≤ 48 + d = omega arith in
    let high : 48 + d ≤ 57 = omega arith in
    and_from (leb 48 (48 + d)) (leb (48 + d) 57) (le-leb 48 (48 + d) low) (le-leb (48 + d) 57 high)

-- Only digits are printed of a number.
pub all_digits : (n : ℕ) → AllByRecursion (λ b. is_ascii_digit b ≡ true) (decimal n)
unfolding decimal
all_digits zero = (refl, tt)
all_digits (suc n) =
    All-map (λ b. is_ascii_digit b ≡ true) (λ d. 48 + d) (digits_of 10 (suc n))
    (All-weaker (λ d. d < 10) (λ d. is_ascii_digit (48 + d) ≡ true) (λ d h. byte_digit d h) (digits_of 10 (suc n)) (all_below_base_digits_of 10 (suc n) (omega arith)))

-- Where digits end, and what follows, is one only.
digits_end : (xs ys r s : List ℕ) → AllByRecursion (λ b. is_ascii_digit b ≡ true) xs → AllByRecursion (λ b. is_ascii_digit b ≡ true) ys → Ends r → Ends s → xs ++ r ≡ ys ++ s → (xs ≡ ys) × (r ≡ s)
digits_end [] [] r s dx dy er es e = (refl, e)
digits_end [] (y ∷ ys) r s dx dy er es e = absurd (both_ways (is_ascii_digit y) (subst Ends e er) dy.0)
digits_end (x ∷ xs) [] r s dx dy er es e = absurd (both_ways (is_ascii_digit x) (subst Ends (sym e) es) dx.0)
digits_end (x ∷ xs) (y ∷ ys) r s dx dy er es e =
    let h : x ≡ y = cc in
    let t : xs ++ r ≡ ys ++ s = cc in
    let q = digits_end xs ys r s dx.1 dy.1 er es t in
    (rw (h, q.0) refl, q.1)

unmap : (xs ys : List ℕ) → map (λ d. 48 + d) xs ≡ map (λ d. 48 + d) ys → xs ≡ ys
unmap [] [] e = refl
unmap [] (y ∷ ys) e = let z : ◌≡◌ {A = ℕ} 0 1 = cc in absurd (omega arith)
unmap (x ∷ xs) [] e = let z : ◌≡◌ {A = ℕ} 0 1 = cc in absurd (omega arith)
unmap (x ∷ xs) (y ∷ ys) e =
    let h : 48 + x ≡ 48 + y = cc in
    let same : x ≡ y = omega arith in
    let t : map (λ d. 48 + d) xs ≡ map (λ d. 48 + d) ys = cc in
    rw (same, unmap xs ys t) refl

positive_first : (n : ℕ) → decimal (suc n) ≡ decimal 0 → ⊥
positive_first n e =
    omega (arith, (first_byte (suc n)).2 (omega arith), ap (λ l. get_or l 0 0) (e ∙ decimal_one 0 (omega arith)))

-- Two numbers that are printed alike are equal.
pub decimal_same : (m n : ℕ) → decimal m ≡ decimal n → m ≡ n
unfolding decimal
decimal_same zero zero e = refl
decimal_same zero (suc n) e = absurd (positive_first n (sym e))
decimal_same (suc m) zero e = absurd (positive_first m e)
decimal_same (suc m) (suc n) e = same_from_digits_of 10 (suc m) (suc n) (omega arith) (unmap (digits_of 10 (suc m)) (digits_of 10 (suc n)) e)

pub number_same : (m n : ℕ) (r s : List ℕ) → Ends r → Ends s → decimal m ++ r ≡ decimal n ++ s → (m ≡ n) × (r ≡ s)
number_same m n r s er es e =
    let q = digits_end (decimal m) (decimal n) r s (all_digits m) (all_digits n) er es e in
    (decimal_same m n q.0, q.1)

-- After numbers no digit follows.
pub fields_end : (ns rest : List ℕ) → Ends rest → Ends (fields ns rest)
fields_end [] rest e = e
fields_end (n ∷ ns) rest e = refl

-- What numbers a line begins with, and what is left for the others.
pub record Left (ns rest ms : List ℕ) : Type 0 where
  pub others : List ℕ
  pub more : ms ≡ ns ++ others
  pub left : rest ≡ fields others []

pub fields_same : (ns rest ms : List ℕ) → Ends rest ⊎ (ns ≡ []) → fields ns rest ≡ fields ms [] → Left ns rest ms
fields_same [] rest ms ends e = record { others = ms; more = refl; left = e }
fields_same (n ∷ ns) rest [] ends e = let z : ◌≡◌ {A = ℕ} 0 1 = cc in absurd (omega arith)
fields_same (n ∷ ns) rest (m ∷ ms) ends e =
    let t : decimal n ++ fields ns rest ≡ decimal m ++ fields ms [] = ap (drop 1) e in
    let stop : Ends rest = ⊎_elim (λ h. h) (λ none. let z : ◌≡◌ {A = ℕ} 0 1 = cc in absurd (omega arith)) ends in
    let q = number_same n m (fields ns rest) (fields ms []) (fields_end ns rest stop) (fields_end ms [] tt) t in
    let l = fields_same ns rest ms (inl stop) q.1 in
    record { others = l.others; more = ap (λ x. x ∷ ms) (sym q.0) ∙ ap (λ t. n ∷ t) l.more; left = l.left }

-- The next number of a line, where one is left.
record NextNumber (blank : ℕ) (bytes others : List ℕ) : Type 0 where
  number : ℕ
  rest : List ℕ
  are : others ≡ number ∷ rest
  is_blank : blank ≡ 32
  digits : bytes ≡ decimal number ++ fields rest []

next_number : (blank : ℕ) (bytes others : List ℕ) → blank ∷ bytes ≡ fields others [] → NextNumber blank bytes others
next_number blank bytes [] e = let z : ◌≡◌ {A = ℕ} 0 1 = cc in absurd (omega arith)
next_number blank bytes (m ∷ ms) e = record { number = m; rest = ms; are = refl; is_blank = ap (λ l. get_or l 0 0) e; digits = ap (drop 1) e }

-- What a line that is read up to the rest leaves for any other way to print it.
left_over : (line : List ℕ) (letter : ℕ) (values rest : List ℕ) (f : FormSoFar line letter values rest) (other : ℕ) (ms : List ℕ)
    → line ≡ printed other ms → Left f.numbers rest ms
left_over line letter values rest f other ms e = fields_same f.numbers rest ms f.ends (ap (drop 1) (sym f.form ∙ e))

-- No line is printed from a letter with numbers where no blank follows, where eight numbers stand before others, or where
-- no number follows the blank.
module _ (line : List ℕ) (letter : ℕ) (values : List ℕ) (blank : ℕ) (bytes : List ℕ) (f : FormSoFar line letter values (blank ∷ bytes)) where
  pub no_blank : (blank ≡ 32 → ⊥) → NoForm line
  no_blank never other ms short e =
      let o = left_over line letter values (blank ∷ bytes) f other ms e in never (next_number blank bytes o.others o.left).is_blank

  pub no_room : length values ≡ 8 → NoForm line
  no_room full other ms short e =
      let o = left_over line letter values (blank ∷ bytes) f other ms e in
      let n = next_number blank bytes o.others o.left in
      omega (arith, ap length o.more, length-append f.numbers o.others, ap length n.are, ap length f.kept, length-map f.numbers cut)

  pub no_number : NoNumber bytes → NoForm line
  no_number never other ms short e =
      let o = left_over line letter values (blank ∷ bytes) f other ms e in
      let n = next_number blank bytes o.others o.left in
      never n.number (fields n.rest []) (fields_end n.rest [] tt) n.digits

-- From the form of a line to the line.
use Rattle.std.proofs.Common.{◌≡◌, ℕ, suc, ◌+◌, ◌<◌, ◌≤◌, true, false, ◌&&◌, leb, List, [], ◌∷◌, ◌++◌, length, get_or, drop, Some, None, sym, refl, ap, ◌∙◌, inl, ⊎_elim, add-one, arith, rules}
use Rattle.std.proofs.lemmas.List.{length-map, get_or-map, drop_more, drop_all, append-nil}
use Rattle.std.proofs.lemmas.Bool.{and_parts, cases_lt, leb-true, lt-leb, and_right}
use Rattle.std.proofs.lemmas.Bool.Decides.{nat_tests}
use Rattle.fields.specs.Limits.{lowest, highest, admitted}
use Rattle.fields.specs.declared.limits.Field.{Field}
use Rattle.plan.specs.declared.draft.Message.{Message}
use Rattle.texts.specs.Forms.{value_cap, cut, fields, printed, FormOf}
use Rattle.texts.specs.Lines.{kind_by, values_of, kind_of, letter_of, fields_of, all_admitted, firsts, line_text, fits, Figures, OutOf}
use Rattle.texts.specs.declared.line.Kind.{Kind}
use Rattle.texts.specs.declared.line.Kind.TheVariants as kind
use Rattle.texts.specs.declared.line.Line.{Line}
use Rattle.texts.specs.declared.line.Line.TheVariants as line
use Rattle.texts.proofs.Unique.{fields_same}

-- The letter and the count of numbers say the kind of a line.
kind_said : (l : Line) → kind_by (letter_of l) (length (values_of l)) ≡ Some (kind_of l)
kind_said (line.Bus g s l q) = refl
kind_said (line.Node n a) = refl
kind_said (line.Periodic m t j) = refl
kind_said (line.Window m n w) = refl

nothing_left : (others : List ℕ) → [] ≡ fields others [] → others ≡ []
nothing_left [] e = refl
nothing_left (m ∷ ms) e = let z : ◌≡◌ {A = ℕ} 0 1 = cc in absurd (omega arith)

-- A form and a line of one text have one letter and the same numbers.
pub same_numbers : (bytes : List ℕ) (letter : ℕ) (values : List ℕ) (f : FormOf bytes letter values) (l : Line) → bytes ≡ line_text l
    → (letter ≡ letter_of l) × (f.numbers ≡ values_of l)
same_numbers bytes letter values f l e =
    let both : printed letter f.numbers ≡ printed (letter_of l) (values_of l) = sym f.form ∙ e in
    let left = fields_same f.numbers [] (values_of l) (inl tt) (ap (drop 1) both) in (
      ap (λ t. get_or t 0 0) both,
      sym (left.more ∙ ap (λ t. f.numbers ++ t) (nothing_left left.others left.left) ∙ append-nil f.numbers),
    )

-- How many numbers the form has.
form_length : (bytes : List ℕ) (letter : ℕ) (values : List ℕ) (f : FormOf bytes letter values) → length f.numbers ≡ length values
form_length bytes letter values f = sym (length-map f.numbers cut) ∙ ap length f.kept

-- A line of the same text is of the kind that the form says.
pub same_kind : (bytes : List ℕ) (letter : ℕ) (values : List ℕ) → FormOf bytes letter values → (l : Line) → bytes ≡ line_text l
    → kind_by letter (length values) ≡ Some (kind_of l)
same_kind bytes letter values f l e =
    let s = same_numbers bytes letter values f l e in
    let n : length values ≡ length (values_of l) = sym (form_length bytes letter values f) ∙ ap length s.1 in
    ap (λ x. kind_by x (length values)) s.0 ∙ ap (kind_by (letter_of l)) n ∙ kind_said l

-- The letter of a kind, and the line of a kind with given numbers.
abbrev letter_by : Kind → ℕ
letter_by kind.Bus = 66
letter_by kind.Node = 78
letter_by kind.Periodic = 80
letter_by kind.Window = 87

message : List ℕ → Message
message ns = record { number = get_or ns 0 0; frame = get_or ns 1 0; node = get_or ns 2 0; priority = get_or ns 3 0; size = get_or ns 4 0; deadline = get_or ns 5 0 }

line_from : Kind → List ℕ → Line
line_from kind.Bus ns = line.Bus (get_or ns 0 0) (get_or ns 1 0) (get_or ns 2 0) (get_or ns 3 0)
line_from kind.Node ns = line.Node (get_or ns 0 0) (get_or ns 1 0)
line_from kind.Periodic ns = line.Periodic (message ns) (get_or ns 6 0) (get_or ns 7 0)
line_from kind.Window ns = line.Window (message ns) (get_or ns 6 0) (get_or ns 7 0)

record Drawn (k : Kind) (ns : List ℕ) (l : Line) : Type 0 where
  of_kind : kind_of l ≡ k
  of_values : values_of l ≡ firsts (fields_of k) ns 0

drawn : (k : Kind) (ns : List ℕ) → Drawn k ns (line_from k ns)
unfolding message line_from
drawn kind.Bus ns = record { of_kind = refl; of_values = refl }
drawn kind.Node ns = record { of_kind = refl; of_values = refl }
drawn kind.Periodic ns = record { of_kind = refl; of_values = refl }
drawn kind.Window ns = record { of_kind = refl; of_values = refl }

letter_of_kind : (l : Line) → letter_of l ≡ letter_by (kind_of l)
letter_of_kind (line.Bus g s l q) = refl
letter_of_kind (line.Node n a) = refl
letter_of_kind (line.Periodic m t j) = refl
letter_of_kind (line.Window m n w) = refl

-- A kind is said by its letter with its count of numbers only.
pub kind_says : (k : Kind) (letter count : ℕ) → kind_by letter count ≡ Some k → (letter ≡ letter_by k) × (count ≡ length (fields_of k))
kind_says kind.Bus letter count e = (grind (arith, nat_tests), grind (arith, nat_tests))
kind_says kind.Node letter count e = (grind (arith, nat_tests), grind (arith, nat_tests))
kind_says kind.Periodic letter count e = (grind (arith, nat_tests), grind (arith, nat_tests))
kind_says kind.Window letter count e = (grind (arith, nat_tests), grind (arith, nat_tests))

firsts_all : (fs : List Field) (vs : List ℕ) (k : ℕ) → k + length fs ≡ length vs → firsts fs vs k ≡ drop k vs
firsts_all [] vs k e = sym (drop_all k vs (omega arith))
firsts_all (f ∷ fs) vs k e =
    ap (λ t. get_or vs k 0 ∷ t) (firsts_all fs vs (suc k) (omega arith)) ∙ ap (λ j. get_or vs k 0 ∷ drop j vs) (sym (add-one k)) ∙ sym (drop_more vs k 0 (omega arith))

under_cap : (f : Field) → highest f < value_cap
under_cap f = search rules

-- A value past every range is out of each.
admitted_cut : (f : Field) (n : ℕ) → admitted f (cut n) ≡ admitted f n
admitted_cut f n =
    ⊎_elim (λ l. ap (admitted f) (omega arith))
    (λ h. and_right (leb (lowest f) (cut n)) (leb (cut n) (highest f)) (lt-leb (cut n) (highest f) (omega (arith, under_cap f)))
    ∙ sym (and_right (leb (lowest f) n) (leb n (highest f)) (lt-leb n (highest f) (omega (arith, under_cap f)))))
    (cases_lt n value_cap)

kept_whole : (f : Field) (n : ℕ) → admitted f (cut n) ≡ true → cut n ≡ n
kept_whole f n h = let p = and_parts (leb (lowest f) (cut n)) (leb (cut n) (highest f)) h in omega (arith, leb-true (cut n) (highest f) p.1, under_cap f)

module _ (values ns : List ℕ) (at : (j : ℕ) → j < length ns → get_or values j 0 ≡ cut (get_or ns j 0)) where
  all_cut : (fs : List Field) (k : ℕ) → k + length fs ≤ length ns → all_admitted fs values k ≡ all_admitted fs ns k
  all_cut [] k h = refl
  all_cut (f ∷ fs) k h =
      ap (λ b. b && all_admitted fs values (suc k)) (ap (admitted f) (at k (omega arith)) ∙ admitted_cut f (get_or ns k 0))
      ∙ ap (λ b. admitted f (get_or ns k 0) && b) (all_cut fs (suc k) (omega arith))

  firsts_cut : (fs : List Field) (k : ℕ) → k + length fs ≤ length ns → all_admitted fs values k ≡ true → firsts fs values k ≡ firsts fs ns k
  firsts_cut [] k h all = refl
  firsts_cut (f ∷ fs) k h all =
      let p = and_parts (admitted f (get_or values k 0)) (all_admitted fs values (suc k)) all in
      let here : get_or values k 0 ≡ cut (get_or ns k 0) = at k (omega arith) in
      let whole : get_or values k 0 ≡ get_or ns k 0 = here ∙ kept_whole f (get_or ns k 0) (rw here at p.0) in
      ap (λ v. v ∷ firsts fs values (suc k)) whole ∙ ap (λ t. get_or ns k 0 ∷ t) (firsts_cut fs (suc k) (omega arith) p.1)

-- The line that a form with a value out of range is the text of.
pub record FormOut (bytes : List ℕ) (k : Kind) : Type 0 where
  pub line : Line
  pub of_kind : kind_of line ≡ k
  pub text : bytes ≡ line_text line
  pub out : fits line ≡ false

-- A form whose letter and count of values say a kind.
module _ (bytes : List ℕ) (letter : ℕ) (values : List ℕ) (f : FormOf bytes letter values) (k : Kind) (said : kind_by letter (length values) ≡ Some k) where
  -- its kept values are its numbers, cut off
  kept_at : (j : ℕ) → j < length f.numbers → get_or values j 0 ≡ cut (get_or f.numbers j 0)
  kept_at j h = ap (λ t. get_or t j 0) (sym f.kept) ∙ get_or-map cut f.numbers j 0 0 h

  size : length (fields_of k) ≡ length f.numbers
  size = sym (kind_says k letter (length values) said).1 ∙ sym (form_length bytes letter values f)

  -- the line of these numbers, with the form's letter
  is_text : (l : Line) → kind_of l ≡ k → values_of l ≡ f.numbers → bytes ≡ line_text l
  is_text l of_kind same =
      let letters : letter ≡ letter_of l = (kind_says k letter (length values) said).0 ∙ ap letter_by (sym of_kind) ∙ sym (letter_of_kind l) in
      f.form ∙ ap (λ x. printed x f.numbers) letters ∙ ap (printed (letter_of l)) (sym same)

  fits_is : (l : Line) → kind_of l ≡ k → values_of l ≡ f.numbers → fits l ≡ all_admitted (fields_of k) values 0
  fits_is l of_kind same =
      ap (λ q. all_admitted (fields_of q) (values_of l) 0) of_kind ∙ ap (λ v. all_admitted (fields_of k) v 0) same
      ∙ sym (all_cut values f.numbers kept_at (fields_of k) 0 (omega (arith, size)))

  -- with values in range it is the text of the line that they make
  pub form_read : (l : Line) → Figures k values l → (bytes ≡ line_text l) × (fits l ≡ true)
  form_read l fig =
      let ns = f.numbers in
      let same : values_of l ≡ ns = fig.same_values ∙ firsts_cut values ns kept_at (fields_of k) 0 (omega (arith, size)) fig.within_range
      ∙ firsts_all (fields_of k) ns 0 (omega (arith, size)) in
      (is_text l fig.same_kind same, fits_is l fig.same_kind same ∙ fig.within_range)

  -- with a value out of range it is the text of a line that does not fit
  pub form_out : OutOf k values → FormOut bytes k
  form_out out =
      let l = line_from k f.numbers in
      let d = drawn k f.numbers in
      let same : values_of l ≡ f.numbers = d.of_values ∙ firsts_all (fields_of k) f.numbers 0 (omega (arith, size)) in
      record { line = l; of_kind = d.of_kind; text = is_text l d.of_kind same; out = fits_is l d.of_kind same ∙ out }

-- No line has more than eight numbers.
pub few_values : (l : Line) → length (values_of l) ≤ 8
few_values (line.Bus g s l q) = omega arith
few_values (line.Node n a) = omega arith
few_values (line.Periodic m t j) = omega arith
few_values (line.Window m n w) = omega arith

pub none_some : {X : Type 0} {k : X} → None ≡ Some k → ⊥
none_some e = cc

-- Lines that are printed alike are the same line.
use Rattle.std.proofs.Common.{◌≡◌, ℕ, suc, ◌<◌, true, List, [], ◌∷◌, ◌++◌, map, get_or, refl, ap₂, arith}
use Rattle.std.specs.List.{AllByRecursion}
use Rattle.std.proofs.ByRecursion.{All-get_or, All-weaker}
use Rattle.std.proofs.lemmas.Bool.Decides.{nat_tests}
use Rattle.std.specs.Char.{is_ascii_digit}
use Rattle.texts.specs.Forms.{decimal, fields, cut}
use Rattle.texts.specs.Lines.{letter_of, values_of, line_text}
use Rattle.by_lines.specs.Tables.{lines_text, table_text, OneLine}
use Rattle.texts.specs.declared.line.Line.{Line}
use Rattle.texts.specs.declared.line.Line.TheVariants as line
use Rattle.texts.proofs.OfForms.{same_numbers}
use Rattle.texts.proofs.Unique.{all_digits}

-- A line is determined by its letter and its numbers.
from_parts : (l k : Line) → letter_of l ≡ letter_of k → values_of l ≡ values_of k → l ≡ k
from_parts (line.Bus g s l q) (line.Bus g' s' l' q') e v = λ i. line.Bus (get_or (v i) 0 0) (get_or (v i) 1 0) (get_or (v i) 2 0) (get_or (v i) 3 0)
from_parts (line.Bus g s l q) (line.Node n a) e v = absurd (omega arith)
from_parts (line.Bus g s l q) (line.Periodic m t j) e v = absurd (omega arith)
from_parts (line.Bus g s l q) (line.Window m n w) e v = absurd (omega arith)
from_parts (line.Node n a) (line.Bus g s l q) e v = absurd (omega arith)
from_parts (line.Node n a) (line.Node n' a') e v = λ i. line.Node (get_or (v i) 0 0) (get_or (v i) 1 0)
from_parts (line.Node n a) (line.Periodic m t j) e v = absurd (omega arith)
from_parts (line.Node n a) (line.Window m k w) e v = absurd (omega arith)
from_parts (line.Periodic m t j) (line.Bus g s l q) e v = absurd (omega arith)
from_parts (line.Periodic m t j) (line.Node n a) e v = absurd (omega arith)
from_parts (line.Periodic m t j) (line.Periodic m' t' j') e v = λ i. line.Periodic (record {
  number = get_or (v i) 0 0;
  frame = get_or (v i) 1 0;
  node = get_or (v i) 2 0;
  priority = get_or (v i) 3 0;
  size = get_or (v i) 4 0;
  deadline = get_or (v i) 5 0;
})
    (get_or (v i) 6 0) (get_or (v i) 7 0)
from_parts (line.Periodic m t j) (line.Window m' n w) e v = absurd (omega arith)
from_parts (line.Window m n w) (line.Bus g s l q) e v = absurd (omega arith)
from_parts (line.Window m n w) (line.Node k a) e v = absurd (omega arith)
from_parts (line.Window m n w) (line.Periodic m' t j) e v = absurd (omega arith)
from_parts (line.Window m n w) (line.Window m' n' w') e v = λ i. line.Window (record {
  number = get_or (v i) 0 0;
  frame = get_or (v i) 1 0;
  node = get_or (v i) 2 0;
  priority = get_or (v i) 3 0;
  size = get_or (v i) 4 0;
  deadline = get_or (v i) 5 0;
})
    (get_or (v i) 6 0) (get_or (v i) 7 0)

pub same_line : (l k : Line) → line_text l ≡ line_text k → l ≡ k
same_line l k e =
    let s = same_numbers (line_text l) (letter_of l) (map cut (values_of l)) (record { numbers = values_of l; form = refl; kept = refl }) k e in
    from_parts l k s.0 s.1

-- A line holds no line feed.
abbrev NoFeed : ℕ → Type 0
NoFeed b = b ≡ 10 → ⊥

all_more : {X : Type 0} (P : X → Type 0) (xs ys : List X) → AllByRecursion P xs → AllByRecursion P ys → AllByRecursion P (xs ++ ys)
all_more P [] ys a b = b
all_more P (x ∷ xs) ys a b = (a.0, all_more P xs ys a.1 b)

digit_no_feed : (b : ℕ) → is_ascii_digit b ≡ true → NoFeed b
digit_no_feed b h e = grind (arith, nat_tests)

fields_no_feed : (ns : List ℕ) → AllByRecursion NoFeed (fields ns [])
fields_no_feed [] = tt
fields_no_feed (n ∷ ns) = (
  λ e. omega arith,
  all_more NoFeed (decimal n) (fields ns []) (All-weaker (λ b. is_ascii_digit b ≡ true) NoFeed digit_no_feed (decimal n) (all_digits n)) (fields_no_feed ns),
)

letter_no_feed : (l : Line) → NoFeed (letter_of l)
letter_no_feed (line.Bus g s l q) e = omega arith
letter_no_feed (line.Node n a) e = omega arith
letter_no_feed (line.Periodic m t j) e = omega arith
letter_no_feed (line.Window m n w) e = omega arith

pub line_no_feed : (l : Line) → OneLine (line_text l)
line_no_feed l k h e = All-get_or NoFeed (line_text l) k 0 h (letter_no_feed l, fields_no_feed (values_of l)) e

-- Where the first line ends is one only.
pub first_same : (a b x y : List ℕ) → OneLine a → OneLine b → a ++ 10 ∷ x ≡ b ++ 10 ∷ y → (a ≡ b) × (x ≡ y)
first_same [] [] x y p q e = (refl, cc)
first_same [] (c ∷ b) x y p q e = let h : c ≡ 10 = cc in absurd (q 0 (omega arith) h)
first_same (c ∷ a) [] x y p q e = let h : c ≡ 10 = cc in absurd (p 0 (omega arith) h)
first_same (c ∷ a) (d ∷ b) x y p q e =
    let h : c ≡ d = cc in
    let t : a ++ 10 ∷ x ≡ b ++ 10 ∷ y = cc in
    let r = first_same a b x y (λ k l f. p (suc k) (suc_lt l) f) (λ k l f. q (suc k) (suc_lt l) f) t in
    (ap₂ (λ u v. u ∷ v) h r.0, r.1)
  where
    suc_lt : {m n : ℕ} → m < n → suc m < suc n
    suc_lt h = omega arith

-- So lines that are printed alike one after the other are the same lines.
pub same_lines : (ls ks : List Line) → lines_text ls ≡ lines_text ks → ls ≡ ks
same_lines [] [] e = refl
same_lines [] (k ∷ ks) e = let z : ◌≡◌ {A = ℕ} 0 1 = cc in absurd (omega arith)
same_lines (l ∷ ls) [] e = let z : ◌≡◌ {A = ℕ} 0 1 = cc in absurd (omega arith)
same_lines (l ∷ ls) (k ∷ ks) e =
    let r = first_same (line_text l) (line_text k) (lines_text ls) (lines_text ks) (line_no_feed l) (line_no_feed k) e in
    ap₂ (λ u v. u ∷ v) (same_line l k r.0) (same_lines ls ks r.1)

pub same_tables : (ls ks : List Line) → table_text ls ≡ table_text ks → ls ≡ ks
same_tables ls ks e = let t : lines_text ls ≡ lines_text ks = cc in same_lines ls ks t

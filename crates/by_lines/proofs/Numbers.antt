-- The number of the line that gives a message.
use Rattle.std.proofs.Common.{◌≡◌, ℕ, ◌+◌, Bool, true, false, cond, List, [], ◌∷◌, Some, Option, sym, refl, ap, ◌∙◌, arith}
use Rattle.std.specs.List.{position, position_from}
use Rattle.std.specs.Option.{option_map_or}
use Rattle.std.proofs.lemmas.Iterator.Adapters.{position_from-zero}
use Rattle.by_lines.specs.Sheets.{gives, line_from, line_of}
use Rattle.texts.specs.declared.line.Line.{Line}

picked : (b : Bool) (k n l : ℕ) (r : Option ℕ) → l ≡ option_map_or (λ i. i + n) r 0 → cond b (k + n) l ≡ option_map_or (λ i. i + n) (cond b (Some k) r) 0
picked true k n l r h = refl
picked false k n l r h = h

from_place : (k n : ℕ) (ls : List Line) (m : ℕ) → line_from (k + n) ls m ≡ option_map_or (λ i. i + n) (position_from (gives m) k ls) 0
from_place k n [] m = refl
from_place k n (l ∷ ls) m =
    picked (gives m l) k n (line_from (k + n + 1) ls m) (position_from (gives m) (k + 1) ls)
    (ap (λ j. line_from j ls m) (omega arith) ∙ from_place (k + 1) n ls m)

pub line_of_is : (ls : List Line) (m : ℕ) → line_of ls m ≡ option_map_or (λ i. i + 2) (position (gives m) ls) 0
line_of_is ls m = from_place 0 2 ls m ∙ ap (λ o. option_map_or (λ i. i + 2) o 0) (sym (position_from-zero (gives m) ls))

-- The numbers of a line, one after the other.
use Rattle.std.proofs.Common.{◌≡◌, ℕ, ◌+◌, ◌<◌, List, [], ◌∷◌, ◌++◌, length, get_or, take, Bool, true, false, cond, Option, Some, ◌==◌, sym, refl, ap, ◌∙◌, inl}
use Rattle.std.proofs.lemmas.List.{map_push, take_more, flat_map_more}
use Rattle.delay.specs.declared.entry.Row.{Row}
use Rattle.texts.specs.Forms.{decimal, fields, cut, Reads, FormSoFar}
use Rattle.std.specs.List.{find}
use Rattle.std.specs.Option.{option_map_or}
use Rattle.texts.specs.Sheets.{sheet_mark, text_of_row, text_of_sheet, line_in}
use Rattle.texts.specs.declared.table.Origin.{Origin}

fields_push : (ns : List ℕ) (n : ℕ) (rest : List ℕ) → fields (ns ++ n ∷ []) rest ≡ fields ns (32 ∷ (decimal n ++ rest))
fields_push [] n rest = refl
fields_push (m ∷ ms) n rest = ap (λ l. 32 ∷ (decimal m ++ l)) (fields_push ms n rest)

-- One number more, after a blank.
pub form_step : (line : List ℕ) (letter : ℕ) (values bytes rest : List ℕ) (value : ℕ) → FormSoFar line letter values (32 ∷ bytes) → Reads bytes rest value
    → FormSoFar line letter (values ++ value ∷ []) rest
form_step line letter values bytes rest value f r =
    let n = r.spelled.number in
    record {
      numbers = f.numbers ++ n ∷ [];
      form = f.form ∙ ap (λ t. letter ∷ fields f.numbers (32 ∷ t)) r.spelled.digits ∙ ap (λ t. letter ∷ t) (sym (fields_push f.numbers n rest));
      kept = map_push cut f.numbers n ∙ ap (λ vs. vs ++ cut n ∷ []) f.kept ∙ ap (λ v. values ++ v ∷ []) (sym r.spelled.cut);
      ends = inl r.ends;
    }

-- One row more of a sheet.
pub sheet_step : (rows : List Row) (i : ℕ) (r : Row) (text line : List ℕ) → i < length rows → r ≡ get_or rows i r → text ≡ text_of_sheet (take i rows)
    → line ≡ text_of_row r → text ++ line ≡ text_of_sheet (take (i + 1) rows)
sheet_step rows i r text line l is so_far one =
    let next : take (i + 1) rows ≡ take i rows ++ r ∷ [] = take_more rows i r l ∙ ap (λ x. take i rows ++ x ∷ []) (sym is) in
    ap (λ t. t ++ line) so_far ∙ ap (λ t. text_of_sheet (take i rows) ++ t) one ∙ flat_map_more text_of_row sheet_mark (take i rows) r ∙ ap text_of_sheet (sym next)

-- The line of a message is that of the first origin that has it.
picked : (b : Bool) (o : Origin) (l : ℕ) (r : Option Origin) → l ≡ option_map_or (λ x. x.line) r 0
    → cond b o.line l ≡ option_map_or (λ x. x.line) (cond b (Some o) r) 0
picked true o l r h = refl
picked false o l r h = h

pub line_in_is : (os : List Origin) (m : ℕ) → line_in os m ≡ option_map_or (λ o. o.line) (find (λ o. o.message == m) os) 0
line_in_is [] m = refl
line_in_is (o ∷ os) m = picked (o.message == m) o (line_in os m) (find (λ x. x.message == m) os) (line_in_is os m)

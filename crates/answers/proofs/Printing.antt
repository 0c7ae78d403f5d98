-- A table is printed line by line.
use Rattle.std.proofs.Common.{◌≡◌, ℕ, ◌+◌, ◌<◌, List, [], ◌∷◌, ◌++◌, length, get_or, take, sym, refl, ap, ◌∙◌, append_assoc}
use Rattle.std.proofs.lemmas.List.{take_more, append-nil}
use Rattle.texts.specs.Forms.{decimal, fields}
use Rattle.texts.specs.Lines.{letter_of, values_of, line_text}
use Rattle.by_lines.specs.Tables.{table_text}
use Rattle.texts.specs.declared.line.Line.{Line}
use Rattle.by_lines.proofs.Accepts.{text_push}

pub fields_more : (ns ms rest : List ℕ) → fields (ns ++ ms) rest ≡ fields ns [] ++ fields ms rest
fields_more [] ms rest = refl
fields_more (n ∷ ns) ms rest =
    ap (λ t. 32 ∷ (decimal n ++ t)) (fields_more ns ms rest) ∙ ap (λ t. 32 ∷ t) (sym (append_assoc (decimal n) (fields ns []) (fields ms rest)))

-- One number more, and the end of the line.
pub fields_step : (letter ns : List ℕ) (i : ℕ) (old more : List ℕ) → i < length ns → old ≡ letter ++ fields (take i ns) [] → more ≡ 32 ∷ decimal (get_or ns i 0)
    → old ++ more ≡ letter ++ fields (take (i + 1) ns) []
fields_step letter ns i old more h so_far one =
    ap (λ o. o ++ more) so_far ∙ append_assoc letter (fields (take i ns) []) more
    ∙ ap (λ m. letter ++ (fields (take i ns) [] ++ m)) (one ∙ sym (append-nil (32 ∷ decimal (get_or ns i 0))))
    ∙ ap (λ m. letter ++ m) (sym (fields_more (take i ns) (get_or ns i 0 ∷ []) [])) ∙ ap (λ ms. letter ++ fields ms []) (sym (take_more ns i 0 h))

pub fields_end : (letter ns : List ℕ) → (letter ++ fields ns []) ++ 10 ∷ [] ≡ letter ++ fields ns (10 ∷ [])
fields_end letter ns =
    append_assoc letter (fields ns []) (10 ∷ []) ∙ ap (λ m. letter ++ m) (sym (fields_more ns [] (10 ∷ [])) ∙ ap (λ ms. fields ms (10 ∷ [])) (append-nil ns))

fed : (l : Line) → letter_of l ∷ fields (values_of l) (10 ∷ []) ≡ line_text l ++ 10 ∷ []
fed l = ap (λ t. letter_of l ∷ t) (ap (λ ns. fields ns (10 ∷ [])) (sym (append-nil (values_of l))) ∙ fields_more (values_of l) [] (10 ∷ []))

-- One line more.
pub print_step : (ls : List Line) (i : ℕ) (d : Line) (old line : List ℕ) → i < length ls → old ≡ table_text (take i ls)
    → line ≡ letter_of (get_or ls i d) ∷ fields (values_of (get_or ls i d)) (10 ∷ []) → old ++ line ≡ table_text (take (i + 1) ls)
print_step ls i d old line h so_far one =
    let l = get_or ls i d in
    ap (λ o. o ++ line) so_far ∙ text_push (table_text (take i ls) ++ line) line [] (take i ls) l refl (one ∙ fed l)
    ∙ append-nil (table_text (take i ls ++ l ∷ [])) ∙ ap table_text (sym (take_more ls i d h))

-- The next line begins where the rest of a text does.
use Rattle.std.proofs.Common.{◌≡◌, ℕ, ◌+◌, List, [], ◌∷◌, ◌++◌, length, drop, Option, Some, None, MatchOption, IfSome, IfNone, sym, ap, ◌∙◌}
use Rattle.std.proofs.Math.Seq.{drop-append_seam}
use Rattle.std.proofs.lemmas.List.{append_assoc, append-nil, length-append}
use Rattle.texts.specs.Parts.{Starts, next, last}
use Rattle.texts.specs.Readers.{OneLine}

-- The rest of a text begins where the line of a number does.
abbrev pub RestFrom : List ℕ → ℕ → List ℕ → Type 0
RestFrom text n rest = (before : List ℕ) × (text ≡ before ++ rest) × Starts text n (length before)

pub rest_after : {A : Type 0} (line rest : A → List ℕ) (text whole new : List ℕ) (n : ℕ) (cut : Option A)
    → MatchOption cut (new ≡ []) (λ c. new ≡ rest c) → IfSome cut (λ c. whole ≡ line c ++ 10 ∷ rest c) → IfSome cut (λ c. OneLine (line c))
    → IfNone cut (OneLine whole) → RestFrom text n whole → RestFrom text (n + 1) new
rest_after line rest text whole new n (Some c) is parts one none from =
    let before = from.0 in
    let ended = line c ++ 10 ∷ [] in
    let seam = ap (drop (length before)) from.1 ∙ drop-append_seam before whole in
    let long = length-append before ended ∙ ap (λ k. length before + k) (length-append (line c) (10 ∷ [])) in
    let there = ap (λ w. before ++ w) (parts ∙ ap (λ r. line c ++ 10 ∷ r) (sym is) ∙ sym (append_assoc (line c) (10 ∷ []) new)) in
    (before ++ ended, from.1 ∙ there ∙ sym (append_assoc before ended new), rw long (next n (length before) (line c) (rest c) from.2 (seam ∙ parts) one))
rest_after line rest text whole new n None is parts one none from =
    let before = from.0 in
    let seam = ap (drop (length before)) from.1 ∙ drop-append_seam before whole in
    let ends : OneLine (drop (length before) text) = rw seam none in
    (text, sym (ap (λ r. text ++ r) is ∙ append-nil text), last n (length before) from.2 ends)

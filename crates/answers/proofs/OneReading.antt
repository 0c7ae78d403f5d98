-- A text is read in one way only: it is one table, or has one first fault.
use Rattle.std.proofs.Common.{◌≡◌, ℕ, ◌+◌, ◌<◌, List, [], ◌∷◌, ◌++◌, length, get_or, Some, None, Option, sym, refl, ap, ◌∙◌, subst, ap₂, ⊎_elim, append_assoc, arith}
use Rattle.std.proofs.lemmas.List.{append-nil, length-append}
use Rattle.fields.specs.Refusals.{first_reason}
use Rattle.fields.specs.declared.refusal.Reason.{Reason}
use Rattle.texts.specs.Lines.{line_text}
use Rattle.by_lines.specs.Tables.{mark, lines_text, line_rules, AllAccepted, TableOf, OneLine, NextFault, unended, unformed, refused, FaultOf, too_long, unmarked, at_line}
use Rattle.texts.specs.declared.line.Line.{Line}
use Rattle.by_lines.proofs.Accepts.{rules_turn}
use Rattle.answers.proofs.Distinct.{same_line, line_no_feed, first_same, same_lines}

-- A reading goes no further: what is left begins with no line that is accepted.
Stops : List Line → List ℕ → Type 0
Stops before rest = (l : Line) (more : List ℕ) → rest ≡ line_text l ++ 10 ∷ more → first_reason (line_rules before l) ≡ None → ⊥

feed_inside : (bytes more rest : List ℕ) → rest ≡ bytes ++ 10 ∷ more → OneLine rest → ⊥
feed_inside bytes more rest e one =
    one (length bytes) (omega (arith, ap length e, length-append bytes (10 ∷ more)))
    (ap (λ r. get_or r (length bytes) 0) e ∙ feed_at bytes more)
  where
    feed_at : (bytes more : List ℕ) → get_or (bytes ++ 10 ∷ more) (length bytes) 0 ≡ 10
    feed_at [] more = refl
    feed_at (b ∷ bs) more = feed_at bs more

some_none : {r : Reason} (o : Option Reason) → o ≡ Some r → o ≡ None → ⊥
some_none o p q = let z : ◌≡◌ {A = ℕ} 0 1 = cc in omega arith

fault_stops : {before : List Line} {rest : List ℕ} {r : Reason} → NextFault before rest r → Stops before rest
unfolding Stops
fault_stops (unended one due) l more e ok = feed_inside (line_text l) more _ e one
fault_stops {before} (unformed bytes more parts one never) l more' e ok =
    let same = first_same bytes (line_text l) more more' one (line_no_feed l) (sym parts ∙ e) in
    some_none (first_reason (line_rules before l)) (rules_turn before l (never l same.0)) ok
fault_stops {before} (refused k more r parts why) l more' e ok =
    let same = first_same (line_text k) (line_text l) more more' (line_no_feed k) (line_no_feed l) (sym parts ∙ e) in
    some_none (first_reason (line_rules before k)) why (ap (λ x. first_reason (line_rules before x)) (same_line k l same.0) ∙ ok)

end_stops : (ls : List Line) → Stops ls []
unfolding Stops
end_stops ls l more e ok = let z : ◌≡◌ {A = ℕ} 0 1 = cc in omega arith

-- Two readings of one text stop at one place.
one_place : (done before before' : List Line) (rest rest' : List ℕ) → lines_text before ++ rest ≡ lines_text before' ++ rest' → AllAccepted done before
    → AllAccepted done before' → Stops (done ++ before) rest → Stops (done ++ before') rest' → (before ≡ before') × (rest ≡ rest')
unfolding Stops
one_place done [] [] rest rest' e a a' s s' = (refl, e)
one_place done [] (k ∷ ks) rest rest' e a a' s s' =
    absurd (s k (lines_text ks ++ rest') (e ∙ append_assoc (line_text k) (10 ∷ lines_text ks) rest')
    (ap (λ b. first_reason (line_rules b k)) (append-nil done) ∙ a'.0))
one_place done (l ∷ ls) [] rest rest' e a a' s s' =
    absurd (s' l (lines_text ls ++ rest) (sym e ∙ append_assoc (line_text l) (10 ∷ lines_text ls) rest)
    (ap (λ b. first_reason (line_rules b l)) (append-nil done) ∙ a.0))
one_place done (l ∷ ls) (k ∷ ks) rest rest' e a a' s s' =
    let parts : line_text l ++ 10 ∷ (lines_text ls ++ rest) ≡ line_text k ++ 10 ∷ (lines_text ks ++ rest') =
    sym (append_assoc (line_text l) (10 ∷ lines_text ls) rest) ∙ e ∙ append_assoc (line_text k) (10 ∷ lines_text ks) rest' in
    let heads = first_same (line_text l) (line_text k) (lines_text ls ++ rest) (lines_text ks ++ rest') (line_no_feed l) (line_no_feed k) parts in
    let same = same_line l k heads.0 in
    let more = one_place (done ++ l ∷ []) ls ks rest rest' heads.1 a.1 (subst (λ x. AllAccepted (done ++ x ∷ []) ks) (sym same) a'.1)
    (subst (λ b. Stops b rest) (sym (append_assoc done (l ∷ []) ls)) s)
    (subst (λ x. Stops ((done ++ x ∷ []) ++ ks) rest') (sym same) (subst (λ b. Stops b rest') (sym (append_assoc done (k ∷ []) ks)) s')) in
    (ap₂ (λ x xs. x ∷ xs) same more.0, more.1)

after_mark : (text rest rest' : List ℕ) → text ≡ mark ++ rest → text ≡ mark ++ rest' → rest ≡ rest'
after_mark text rest rest' p q = cc

pub one_table : (text : List ℕ) (ls ks : List Line) → TableOf text ls → TableOf text ks → ls ≡ ks
one_table text ls ks p q = same_lines ls ks (after_mark text (lines_text ls) (lines_text ks) p.printed q.printed)

pub table_without_fault : (text : List ℕ) (ls : List Line) {r : Reason} {n : ℕ} → TableOf text ls → FaultOf text r n → ⊥
table_without_fault text ls t (too_long h) = omega (arith, t.short)
table_without_fault text ls t (unmarked h never) = never (lines_text ls) t.printed
table_without_fault text ls t (at_line before rest r short parts all why) =
    let e = after_mark text (lines_text before ++ rest) (lines_text ls ++ []) parts (t.printed ∙ ap (λ x. mark ++ x) (sym (append-nil (lines_text ls)))) in
    let place = one_place [] before ls rest [] e all t.accepted (fault_stops why) (end_stops ls) in
    not_at_end before rest (ap length place.0) place.1 t.begun why
  where
    not_at_end : (before : List Line) (rest : List ℕ) {r : Reason} → length before ≡ length ls → rest ≡ [] → 0 < length ls → NextFault before rest r → ⊥
    not_at_end before rest e none some (unended one due) = ⊎_elim (λ h. omega (arith, ap length none)) (λ h. omega (arith, ap length h)) due
    not_at_end before rest e none some (unformed bytes more parts one never) = omega (arith, ap length none, ap length parts, length-append bytes (10 ∷ more))
    not_at_end before rest e none some (refused l more r parts w) = omega (arith, ap length none, ap length parts, length-append (line_text l) (10 ∷ more))

one_next : {before : List Line} {rest : List ℕ} {r r' : Reason} → NextFault before rest r → NextFault before rest r' → r ≡ r'
one_next (unended one due) (unended one' due') = refl
one_next (unended one due) (unformed bytes more parts one' never) = refl
one_next (unended one due) (refused l more r parts why) = absurd (feed_inside (line_text l) more _ parts one)
one_next (unformed bytes more parts one never) (unended one' due) = refl
one_next (unformed bytes more parts one never) (unformed bytes' more' parts' one' never') = refl
one_next {before} (unformed bytes more parts one never) (refused l more' r parts' why) =
    let same = first_same bytes (line_text l) more more' one (line_no_feed l) (sym parts ∙ parts') in
    let turn = rules_turn before l (never l same.0) in cc
one_next (refused l more r parts why) (unended one due) = absurd (feed_inside (line_text l) more _ parts one)
one_next {before} (refused l more r parts why) (unformed bytes more' parts' one never) =
    let same = first_same bytes (line_text l) more' more one (line_no_feed l) (sym parts' ∙ parts) in
    let turn = rules_turn before l (never l same.0) in cc
one_next {before} (refused l more r parts why) (refused k more' r' parts' why') =
    let same = first_same (line_text l) (line_text k) more more' (line_no_feed l) (line_no_feed k) (sym parts ∙ parts') in
    let e = ap (λ x. first_reason (line_rules before x)) (same_line l k same.0) in cc

pub one_fault : {text : List ℕ} {r r' : Reason} {n n' : ℕ} → FaultOf text r n → FaultOf text r' n' → (r ≡ r') × (n ≡ n')
one_fault (too_long h) (too_long h') = (refl, refl)
one_fault (too_long h) (unmarked h' never) = absurd (omega arith)
one_fault (too_long h) (at_line before rest r short parts all why) = absurd (omega arith)
one_fault (unmarked h never) (too_long h') = absurd (omega arith)
one_fault (unmarked h never) (unmarked h' never') = (refl, refl)
one_fault (unmarked h never) (at_line before rest r short parts all why) = absurd (never (lines_text before ++ rest) parts)
one_fault (at_line before rest r short parts all why) (too_long h) = absurd (omega arith)
one_fault (at_line before rest r short parts all why) (unmarked h never) = absurd (never (lines_text before ++ rest) parts)
one_fault {text} (at_line before rest r short parts all why) (at_line before' rest' r' short' parts' all' why') =
    let e = after_mark text (lines_text before ++ rest) (lines_text before' ++ rest') parts parts' in
    let place = one_place [] before before' rest rest' e all all' (fault_stops why) (fault_stops why') in
    let there : NextFault before rest r' = subst (λ b. NextFault b rest r') (sym place.0) (subst (λ x. NextFault before' x r') (sym place.1) why') in
    (one_next why there, ap (λ b. length b + 2) place.0)

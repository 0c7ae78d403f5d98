-- Lines that are accepted one after the other.
use Rattle.std.proofs.Common.{◌≡◌, ℕ, ◌+◌, ◌≤◌, Bool, true, false, cond, not, eqb, List, [], ◌∷◌, ◌++◌, length, is_some, Some, None, Option, sym, refl, ap, ◌∙◌, subst, ⊎_elim, append_assoc, arith}
use Rattle.std.proofs.lemmas.List.{append-nil, length-append}
use Rattle.fields.specs.Refusals.{Check, first_reason}
use Rattle.fields.specs.declared.refusal.Reason.{Reason}
use Rattle.fields.specs.declared.refusal.Reason.TheVariants.{Malformed, OutOfRange}
use Rattle.plan.specs.declared.draft.Message.{Message}
use Rattle.texts.specs.Lines.{kind_of, next_phase, fits, line_text, LineRead, LineRefused}
use Rattle.by_lines.specs.Tables.{mark, lines_text, table_text, messages_of, start_of, phase_of, phase_after, in_turn, table_rules, line_rules, AllAccepted, longest_text, OneLine, NextFault, unformed, refused, FaultOf, at_line}
use Rattle.texts.specs.Readers.{RefusedAt}
use Rattle.by_lines.specs.Held.{TableFaultOf}
use Rattle.texts.specs.declared.fault.TableFault.{TableFault}
use Rattle.texts.specs.declared.fault.TableFault.TheVariants as fault
use Rattle.texts.specs.declared.fault.LineFault.{LineFault}
use Rattle.texts.specs.declared.line.Line.{Line}
use Rattle.texts.specs.declared.line.Line.TheVariants as line
use Rattle.texts.specs.declared.line.Phase.{Phase}
use Rattle.texts.specs.declared.line.Phase.TheVariants as phase
use Rattle.texts.specs.declared.line.Step.{Step}

-- A line in turn and in range is refused for what it says only.
pub rules_said : (before : List Line) (l : Line) → in_turn before l ≡ true → fits l ≡ true → first_reason (line_rules before l) ≡ first_reason (table_rules before l)
rules_said before l t f =
    ap (λ b. cond (not b) (Some Malformed) (cond (not (fits l)) (Some OutOfRange) (first_reason (table_rules before l)))) t
    ∙ ap (λ b. cond (not b) (Some OutOfRange) (first_reason (table_rules before l))) f

pub rules_range : (before : List Line) (l : Line) → in_turn before l ≡ true → fits l ≡ false → first_reason (line_rules before l) ≡ Some OutOfRange
rules_range before l t f =
    ap (λ b. cond (not b) (Some Malformed) (cond (not (fits l)) (Some OutOfRange) (first_reason (table_rules before l)))) t
    ∙ ap (λ b. cond (not b) (Some OutOfRange) (first_reason (table_rules before l))) f

pub rules_turn : (before : List Line) (l : Line) → in_turn before l ≡ false → first_reason (line_rules before l) ≡ Some Malformed
rules_turn before l t = ap (λ b. cond (not b) (Some Malformed) (cond (not (fits l)) (Some OutOfRange) (first_reason (table_rules before l)))) t

-- One accepted line more.
pub accepted_push : (done ls : List Line) (l : Line) → AllAccepted done ls → first_reason (line_rules (done ++ ls) l) ≡ None → AllAccepted done (ls ++ l ∷ [])
accepted_push done [] l all h = (subst (λ (b : List Line). first_reason (line_rules b l) ≡ None) (append-nil done) h, tt)
accepted_push done (k ∷ ks) l all h =
    (all.0, accepted_push (done ++ k ∷ []) ks l all.1 (subst (λ (b : List Line). first_reason (line_rules b l) ≡ None) (sym (append_assoc done (k ∷ []) ks)) h))

lines_push : (ls : List Line) (l : Line) (rest : List ℕ) → lines_text (ls ++ l ∷ []) ++ rest ≡ lines_text ls ++ (line_text l ++ 10 ∷ rest)
lines_push [] l rest = append_assoc (line_text l) (10 ∷ []) rest
lines_push (k ∷ ks) l rest =
    append_assoc (line_text k) (10 ∷ lines_text (ks ++ l ∷ [])) rest ∙ ap (λ t. line_text k ++ 10 ∷ t) (lines_push ks l rest)
    ∙ sym (append_assoc (line_text k) (10 ∷ lines_text ks) (line_text l ++ 10 ∷ rest))

-- The text up to a line, with that line.
pub text_push : (text rest more : List ℕ) (ls : List Line) (l : Line) → text ≡ table_text ls ++ rest → rest ≡ line_text l ++ 10 ∷ more
    → text ≡ table_text (ls ++ l ∷ []) ++ more
text_push text rest more ls l e f = e ∙ ap (λ r. mark ++ (lines_text ls ++ r)) f ∙ ap (λ r. mark ++ r) (sym (lines_push ls l more))

-- The lines of a text are no more than its bytes.
pub lines_few : (ls : List Line) → length ls ≤ length (lines_text ls)
lines_few [] = omega arith
lines_few (l ∷ ls) = omega (arith, lines_few ls, length-append (line_text l) (10 ∷ lines_text ls))

-- What lines say, one after the other.
pub messages_more : (ls ks : List Line) → messages_of (ls ++ ks) ≡ messages_of ls ++ messages_of ks
messages_more [] ks = refl
messages_more (line.Bus g s l q ∷ ls) ks = messages_more ls ks
messages_more (line.Node n a ∷ ls) ks = messages_more ls ks
messages_more (line.Periodic m t j ∷ ls) ks = ap (λ r. m ∷ r) (messages_more ls ks)
messages_more (line.Window m n w ∷ ls) ks = ap (λ r. m ∷ r) (messages_more ls ks)

abbrev pub or_else : Option ℕ → Option ℕ → Option ℕ
or_else None o = o
or_else (Some x) o = Some x

cond_else : (b : Bool) (x : ℕ) (o p : Option ℕ) → cond b (Some x) (or_else o p) ≡ or_else (cond b (Some x) o) p
cond_else true x o p = refl
cond_else false x o p = refl

pub start_more : (ls ks : List Line) (n : ℕ) → start_of (ls ++ ks) n ≡ or_else (start_of ls n) (start_of ks n)
start_more [] ks n = refl
start_more (line.Bus g s l q ∷ ls) ks n = start_more ls ks n
start_more (line.Node k a ∷ ls) ks n = ap (cond (eqb k n) (Some a)) (start_more ls ks n) ∙ cond_else (eqb k n) a (start_of ls n) (start_of ks n)
start_more (line.Periodic m t j ∷ ls) ks n = start_more ls ks n
start_more (line.Window m k w ∷ ls) ks n = start_more ls ks n

-- The phase after one line more that is in turn.
phase_first : (l : Line) (q : Phase) → next_phase phase.Bus (kind_of l) ≡ Some q → phase_of (messages_of (l ∷ [])) ≡ q
phase_first (line.Bus g s l q) p e = cc
phase_first (line.Node n a) p e = let z : ◌≡◌ {A = ℕ} 0 1 = cc in absurd (omega arith)
phase_first (line.Periodic m t j) p e = let z : ◌≡◌ {A = ℕ} 0 1 = cc in absurd (omega arith)
phase_first (line.Window m n w) p e = let z : ◌≡◌ {A = ℕ} 0 1 = cc in absurd (omega arith)

phase_next : (ms : List Message) (l : Line) (q : Phase) → next_phase (phase_of ms) (kind_of l) ≡ Some q → phase_of (ms ++ messages_of (l ∷ [])) ≡ q
phase_next [] (line.Bus g s l q) p e = let z : ◌≡◌ {A = ℕ} 0 1 = cc in absurd (omega arith)
phase_next [] (line.Node n a) p e = cc
phase_next [] (line.Periodic m t j) p e = cc
phase_next [] (line.Window m n w) p e = cc
phase_next (o ∷ os) (line.Bus g s l q) p e = let z : ◌≡◌ {A = ℕ} 0 1 = cc in absurd (omega arith)
phase_next (o ∷ os) (line.Node n a) p e = let z : ◌≡◌ {A = ℕ} 0 1 = cc in absurd (omega arith)
phase_next (o ∷ os) (line.Periodic m t j) p e = cc
phase_next (o ∷ os) (line.Window m n w) p e = cc

pub phase_push : (ls : List Line) (l : Line) (q : Phase) → next_phase (phase_after ls) (kind_of l) ≡ Some q → phase_after (ls ++ l ∷ []) ≡ q
phase_push [] l q e = phase_first l q e
phase_push (k ∷ ks) l q e = ap phase_of (messages_more (k ∷ ks) (l ∷ [])) ∙ phase_next (messages_of (k ∷ ks)) l q e

-- A line that was read is in turn after the lines before it.
pub read_in_turn : (bytes : List ℕ) (before : List Line) (p : Phase) (s : Step) → p ≡ phase_after before → LineRead bytes p s → in_turn before s.line ≡ true
read_in_turn bytes before p s e r =
    ap (λ q. is_some (next_phase q (kind_of s.line))) (sym e) ∙ ap is_some r.its_turn.turn

turn_none : (o : Option Phase) → ((q : Phase) → o ≡ Some q → ⊥) → is_some o ≡ false
turn_none None h = refl
turn_none (Some q) h = absurd (h q refl)

-- A line that was refused is the fault of the text that begins with it.
pub refused_here : (bytes more rest : List ℕ) (before : List Line) (p : Phase) (n : ℕ) (f : LineFault) → p ≡ phase_after before → rest ≡ bytes ++ 10 ∷ more
    → OneLine bytes → LineRefused bytes p n f → NextFault before rest f.reason
refused_here bytes more rest before p n f e parts one why =
    ⊎_elim
    (λ m. subst (NextFault before rest) (sym m.0) (unformed bytes more parts one (λ l text.
    turn_none (next_phase (phase_after before) (kind_of l)) (λ q turn. m.1 l q (record { text = text; turn = ap (λ x. next_phase x (kind_of l)) e ∙ turn })))))
    (λ o. subst (NextFault before rest) (sym o.0) (refused o.1.line more OutOfRange (parts ∙ ap (λ b. b ++ 10 ∷ more) o.1.its_turn.text)
    (rules_range before o.1.line (ap (λ q. is_some (next_phase q (kind_of o.1.line))) (sym e) ∙ ap is_some o.1.its_turn.turn) o.1.out)))
    why.1

-- So is one that the draft refuses.
pub refused_said : (bytes more rest : List ℕ) (before : List Line) (p : Phase) (s : Step) (r : Reason) → p ≡ phase_after before → rest ≡ bytes ++ 10 ∷ more
    → LineRead bytes p s → first_reason (table_rules before s.line) ≡ Some r → NextFault before rest r
refused_said bytes more rest before p s r e parts read why =
    refused s.line more r (parts ∙ ap (λ b. b ++ 10 ∷ more) read.its_turn.text)
    (rules_said before s.line (read_in_turn bytes before p s e read) read.within_range ∙ why)

-- The fault that a refused line gives its text.
pub fault_at : (text rest : List ℕ) (before : List Line) → length text ≤ longest_text → text ≡ table_text before ++ rest → AllAccepted [] before
    → (cs : List Check) (n : ℕ) → n ≡ length before + 2 → (e : TableFault) → ((r : Reason) → first_reason cs ≡ Some r → NextFault before rest r) → RefusedAt cs n e
    → TableFaultOf text e
fault_at text rest before short parts all cs n at (fault.Refused f) next why =
    subst (FaultOf text f.reason) (sym (why.0 ∙ at)) (at_line before rest f.reason short parts all (next f.reason why.1))
fault_at text rest before short parts all cs n at fault.Memory next why = tt

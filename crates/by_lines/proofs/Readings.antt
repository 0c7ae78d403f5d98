-- What is read of a text, as its lines.
use Rattle.std.proofs.Common.{◌≡◌, ℕ, ◌+◌, ◌<◌, ◌≤◌, List, [], ◌∷◌, ◌++◌, length, sym, refl, ap, ◌∙◌, subst, inl, inr, ⊎_elim, arith}
use Rattle.std.proofs.lemmas.List.{append-nil, length-append}
use Rattle.fields.specs.declared.refusal.Reason.TheVariants.{Malformed}
use Rattle.texts.specs.Lines.{kind_of, next_phase, line_text}
use Rattle.texts.specs.Readers as readers
use Rattle.texts.specs.Readers.{bus_line_checks, noting_checks, ReadUpTo, FirstFault}
use Rattle.texts.specs.declared.fault.LineFault.{LineFault}
use Rattle.texts.specs.declared.fault.TableFault.{TableFault}
use Rattle.plan.specs.declared.draft.Draft.{Draft}
use Rattle.texts.specs.declared.line.Line.{Line}
use Rattle.texts.specs.declared.line.Phase.{Phase}
use Rattle.texts.specs.declared.line.Phase.TheVariants as phase
use Rattle.by_lines.specs.Tables.{table_text, phase_after, longest_text, AllAccepted, TableOf, FaultOf, NextFault, too_long, unmarked, at_line, unended}
use Rattle.by_lines.specs.Held.{lines_of, DraftOf, TableFaultOf, Begins, Adds, checks_of}
use Rattle.by_lines.specs.declared.table.Table.{Table}
use Rattle.by_lines.proofs.Accepts.{rules_said, accepted_push, text_push, phase_push, read_in_turn, refused_here, refused_said, fault_at}
use Rattle.by_lines.proofs.Drafted.{said, held_after, bus_said, bus_drafted}

-- A text that is read up to the rest: its lines are accepted, they are the text so far, and the draft holds them.
record Held (text : List ℕ) (n : ℕ) (p : Phase) (ls : List Line) (d : Draft) (rest : List ℕ) : Type 0 where
  number : n ≡ length ls + 2
  begun : 0 < length ls
  short : length text ≤ longest_text
  printed : text ≡ table_text ls ++ rest
  turn : p ≡ phase_after ls
  accepted : AllAccepted [] ls
  draft : DraftOf ls d

held : (text : List ℕ) (n : ℕ) (p : Phase) (t : Table) (rest : List ℕ) → ReadUpTo Begins Adds text n p t rest → Held text n p (lines_of t) t.draft rest
held text n p t rest (readers.bus_line bytes more s table m one r b) =
    let l = s.line in
    let turn = read_in_turn bytes [] phase.Bus s refl r in
    let whole : bytes ++ 10 ∷ rest ≡ line_text l ++ 10 ∷ rest = ap (λ x. x ++ 10 ∷ rest) r.its_turn.text in
    subst (λ ls. Held text 3 s.next ls t.draft rest) (sym b.2) (record {
      number = refl;
      begun = omega arith;
      short = m.short;
      printed = text_push text (bytes ++ 10 ∷ rest) rest [] l m.begins whole;
      turn = sym (phase_push [] l s.next r.its_turn.turn);
      accepted = (rules_said [] l turn r.within_range ∙ sym (bus_said l turn r.within_range) ∙ b.0, tt);
      draft = bus_drafted l t.draft b.1;
    })
held text n p t rest (readers.next_line k q old bytes more whole s new before parts one r a) =
    let h = held text k q old whole before in
    let ls = lines_of old in
    let l = s.line in
    let turn = read_in_turn bytes ls q s h.turn r in
    let free = sym (said ls old.draft l h.draft turn r.within_range) ∙ a.0 in
    subst (λ ks. Held text (k + 1) s.next ks t.draft rest) (sym a.2) (record {
      number = omega (arith, length-append ls (l ∷ []), h.number);
      begun = omega (arith, length-append ls (l ∷ []));
      short = h.short;
      printed = text_push text whole rest ls l h.printed (parts ∙ ap (λ x. x ++ 10 ∷ rest) r.its_turn.text);
      turn = sym (phase_push ls l s.next (ap (λ x. next_phase x (kind_of l)) (sym h.turn) ∙ r.its_turn.turn));
      accepted = accepted_push [] ls l h.accepted (rules_said ls l turn r.within_range ∙ free);
      draft = held_after ls old.draft t.draft l h.draft turn r.within_range free a.1;
    })

pub table_held : (text : List ℕ) (t : Table) → readers.TableOf Begins Adds text t → TableOf text (lines_of t) × DraftOf (lines_of t) t.draft
table_held text t r =
    let h = held text r.lines r.phase t [] r.read in
    (record { printed = h.printed ∙ append-nil (table_text (lines_of t)); short = h.short; begun = h.begun; accepted = h.accepted }, h.draft)

-- A fault of the line that is due after these, and one that the draft gives.
due : (text : List ℕ) (n : ℕ) (p : Phase) (ls : List Line) (d : Draft) (rest : List ℕ) → Held text n p ls d rest → (f : LineFault) → f.line ≡ n
    → NextFault ls rest f.reason → FaultOf text f.reason f.line
due text n p ls d rest h f at why = subst (FaultOf text f.reason) (sym (at ∙ h.number)) (at_line ls rest f.reason h.short h.printed h.accepted why)

-- The first fault of a text, and the same by its lines.
pub fault_told : (text : List ℕ) (e : TableFault) → FirstFault Begins Adds checks_of text e → TableFaultOf text e
fault_told text e readers.no_memory = tt
fault_told text e (readers.unmarked f u) = ⊎_elim
    (λ l. subst (λ n. FaultOf text f.reason n) (sym l.1) (subst (λ r. FaultOf text r 0) (sym l.0) (too_long l.2)))
    (λ w. subst (λ n. FaultOf text f.reason n) (sym w.1) (subst (λ r. FaultOf text r 1) (sym w.0) (unmarked w.2 w.3)))
    u
fault_told text e (readers.no_bus_line rest m one) = at_line [] rest Malformed m.short m.begins tt (unended one (inr refl))
fault_told text e (readers.bus_refused bytes rest f m one why) =
    subst (FaultOf text f.reason) (sym why.0) (at_line [] (bytes ++ 10 ∷ rest) f.reason m.short m.begins tt
    (refused_here bytes rest (bytes ++ 10 ∷ rest) [] phase.Bus 2 f refl refl one why))
fault_told text e (readers.bus_unchecked bytes rest s x m one r why) =
    fault_at text (bytes ++ 10 ∷ rest) [] m.short m.begins tt (bus_line_checks s.line) 2 refl e
    (λ y w. refused_said bytes rest (bytes ++ 10 ∷ rest) [] phase.Bus s y refl refl r
    (sym (bus_said s.line (read_in_turn bytes [] phase.Bus s refl r) r.within_range) ∙ w)) why
fault_told text e (readers.no_line_feed n p t whole up some one) =
    due text n p (lines_of t) t.draft whole (held text n p t whole up) (record { reason = Malformed; line = n }) refl (unended one (inl some))
fault_told text e (readers.line_refused n p t bytes rest whole f up parts one why) =
    let h = held text n p t whole up in
    due text n p (lines_of t) t.draft whole h f why.0 (refused_here bytes rest whole (lines_of t) p n f h.turn parts one why)
fault_told text e (readers.line_unchecked n p t bytes rest whole s x up parts one r why) =
    let h = held text n p t whole up in
    let turn = read_in_turn bytes (lines_of t) p s h.turn r in
    fault_at text whole (lines_of t) h.short h.printed h.accepted (noting_checks t.draft s.line) n h.number e
    (λ y w. refused_said bytes rest whole (lines_of t) p s y h.turn parts r (sym (said (lines_of t) t.draft s.line h.draft turn r.within_range) ∙ w)) why

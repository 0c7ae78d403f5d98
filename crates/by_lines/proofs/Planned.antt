-- The plan of lines that are accepted.
use Rattle.std.proofs.Common.{◌≡◌, is_some, List, [], sym, refl, ap, ◌∙◌, subst, ⊎_elim}
use Rattle.std.proofs.lemmas.Bool.{and_parts}
use Rattle.fields.specs.declared.refusal.MakingFault.{MakingFault}
use Rattle.fields.specs.declared.refusal.MakingFault.TheVariants as making
use Rattle.books.specs.Rows.{row_at}
use Rattle.books.specs.Periodic.{nominal_rows}
use Rattle.books.specs.Window.{span_rows}
use Rattle.plan.specs.Drafts.{entries_of}
use Rattle.plan.specs.Plans.{Planned as PlannedOver, NotPlanned}
use Rattle.plan.specs.Sheets.{SheetFault}
use Rattle.plan.specs.declared.plan.Plan.{Plan}
use Rattle.plan.specs.declared.plan.PlanRefused.{PlanRefused as RefusedPlan}
use Rattle.texts.specs.Plans.{BookOf, NotJoined}
use Rattle.texts.specs.declared.fault.TableFault.{TableFault}
use Rattle.texts.specs.declared.line.Line.{Line}
use Rattle.by_lines.specs.Tables.{AllAccepted}
use Rattle.by_lines.specs.Held.{lines_of}
use Rattle.by_lines.specs.Sheets.{fault_of_making}
use Rattle.by_lines.specs.Plans.{TableBook, table_book, book_state, book_of_lines, periodic_of, window_of, PlanRefused, Accepted, Planned, Unplanned}
use Rattle.by_lines.specs.declared.table.Table.{Table}
use Rattle.by_lines.proofs.Listed.{periodic_right, window_right, never_shared, book_is, never_unlisted}

-- Their book is never refused.
never_refused : (ls : List Line) → AllAccepted [] ls → (f : MakingFault) → NotJoined (periodic_of ls) (window_of ls) f → f ≡ making.Memory
never_refused ls all making.Memory why = refl
never_refused ls all (making.Refused e) why = absurd (⊎_elim
    (λ p. periodic_right ls all e p)
    (λ o. ⊎_elim
    (λ w. window_right ls all e w)
    (λ s.
    let n = e.concerns in
    let both = and_parts (is_some (row_at (nominal_rows s.0) n)) (is_some (row_at (span_rows s.1.0) n)) s.1.1.2.concerns.shared in
    never_shared ls all n (ap is_some (sym (s.1.1.0 n)) ∙ both.0) (ap is_some (sym (s.1.1.1 n)) ∙ both.1))
    o)
    why)

pub no_book_unplanned : (t : Table) (f : MakingFault) (e : TableFault) → NotJoined (periodic_of (lines_of t)) (window_of (lines_of t)) f
    → (Accepted t → e ≡ fault_of_making (lines_of t) f) → Unplanned t e
no_book_unplanned t f e why is a =
    subst (PlanRefused (lines_of t)) (sym (is a ∙ ap (fault_of_making (lines_of t)) (never_refused (lines_of t) a.accepted f why))) tt

-- The state of the book is that of the lines.
pub state_is : (ls : List Line) (b : TableBook) → BookOf (periodic_of ls) (window_of ls) b → book_state b ≡ book_of_lines ls
state_is ls b made = book_is ls b.left b.right made.periodic_rows made.window_rows

module _ (t : Table) (b : TableBook) (made : BookOf (periodic_of (lines_of t)) (window_of (lines_of t)) b) where
  pub planned_lines : (p : Plan TableBook) → PlannedOver table_book book_state t.draft b p → Planned t p
  planned_lines p planned a = record {
    bus = t.draft.bus;
    has_bus = a.held.bus;
    entries = entries_of t.draft;
    messages = a.held.entries;
    sheet = rw (state_is (lines_of t) b made) at planned.sheet;
  }

  late : (f : MakingFault) → SheetFault t.draft.bus table_book (book_of_lines (lines_of t)) (entries_of t.draft) f → Accepted t
      → PlanRefused (lines_of t) (fault_of_making (lines_of t) f)
  late making.Memory why a = tt
  late (making.Refused e) why a = ⊎_elim
      (λ u. absurd (never_unlisted (lines_of t) a.accepted (entries_of t.draft) a.held.entries e.concerns u.1))
      (λ l. (
        l.0,
        record { bus = t.draft.bus; has_bus = a.held.bus; entries = entries_of t.draft; messages = a.held.entries; number = e.concerns; late = l.1; at = refl },
      ))
      why.1

  pub unplanned_lines : (e : RefusedPlan TableBook) (d : TableFault) → NotPlanned table_book book_state t.draft b e
      → (Accepted t → d ≡ fault_of_making (lines_of t) e.fault) → Unplanned t d
  unplanned_lines e d not is a =
      subst (PlanRefused (lines_of t)) (sym (is a)) (late e.fault (rw (state_is (lines_of t) b made) at not.why) a)

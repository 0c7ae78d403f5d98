-- What a run over lines gives, in the words of lines.
use Rattle.std.proofs.Common.{ℕ, List, length, sym, ap, subst, inl, inr, ⊎_elim, arith}
use Rattle.plan.specs.Plans.{rows_of}
use Rattle.texts.specs.Readers.{TableOf}
use Rattle.texts.specs.Runs.{SheetOfRead, NoSheetOfRead, PrintedOfRead, TableWithoutPlan}
use Rattle.texts.specs.declared.fault.RunFault.{RunFault}
use Rattle.texts.specs.declared.fault.RunFault.TheVariants as run
use Rattle.texts.specs.declared.fault.TableFault.{TableFault}
use Rattle.texts.specs.declared.fault.TableFault.TheVariants as fault
use Rattle.by_lines.specs.Held.{lines_of, TableFaultOf, Begins, Adds, checks_of}
use Rattle.by_lines.specs.Plans.{Accepted, Planned, Unplanned, SheetPrinted, TableRefused, RunRefused, Printed}
use Rattle.by_lines.specs.declared.table.Table.{Table}
use Rattle.by_lines.proofs.Accepts.{lines_few}
use Rattle.by_lines.proofs.Readings.{table_held, fault_told}

accepted_of : (text : List ℕ) (t : Table) → TableOf Begins Adds text t → Accepted t
accepted_of text t r =
    let h = table_held text t r in
    record { accepted = h.0.accepted; held = h.1; few = omega (arith, ap length h.0.printed, h.0.short, lines_few (lines_of t)) }

pub sheet_printed : (text bytes : List ℕ) → SheetOfRead Begins Adds Planned text bytes → SheetPrinted text bytes
sheet_printed text bytes s = record {
  lines = lines_of s.table;
  read = (table_held text s.table s.read).0;
  rows = rows_of s.plan;
  sheet = s.planned (accepted_of text s.table s.read);
  printed = s.printed;
}

first : (text : List ℕ) (e : TableFault) → TableFaultOf text e → TableRefused text e
first text (fault.Refused f) why = inl why
first text fault.Memory why = tt

unplanned : (text : List ℕ) (e : TableFault) → TableWithoutPlan Begins Adds Unplanned text e → TableRefused text e
unplanned text (fault.Refused f) w =
    let why = w.unplanned (accepted_of text w.table w.read) in
    inr (record { lines = lines_of w.table; read = (table_held text w.table w.read).0; reason = why.0; late = why.1 })
unplanned text fault.Memory w = tt

pub run_refused : (text : List ℕ) (e : RunFault) → NoSheetOfRead Begins Adds checks_of Unplanned text e → RunRefused text e
run_refused text (run.Table e) why = ⊎_elim
    (λ memory. subst (TableRefused text) (sym memory) tt)
    (λ o. ⊎_elim (λ f. first text e (fault_told text e f)) (λ w. unplanned text e w) o)
    why

pub printed_lines : (text bytes : List ℕ) → PrintedOfRead Begins Adds checks_of Planned Unplanned text bytes → Printed text bytes
printed_lines text bytes p = ⊎_elim
    (λ s. inl (sheet_printed text bytes s))
    (λ f. inr (f.0, run_refused text (run.Table (fault.Refused f.0)) f.1, f.2))
    p

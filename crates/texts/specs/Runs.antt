-- From a text to its sheet, whatever is kept of its lines.
use Rattle.std.specs.Prelude.{◌≡◌, ℕ, ◌⊎◌, List}
use Rattle.fields.specs.Refusals.{Check}
use Rattle.books.specs.declared.joint.JointBook.{JointBook}
use Rattle.books.specs.Periodic.{PeriodicBook}
use Rattle.books.specs.Window.{WindowBook}
use Rattle.plan.specs.Plans.{rows_of}
use Rattle.plan.specs.declared.plan.Plan.{Plan}
use Rattle.texts.specs.Sheets.{text_of_sheet, text_of_fault}
use Rattle.texts.specs.Readers.{TableOf, FirstFault}
use Rattle.texts.specs.declared.fault.LineFault.{LineFault}
use Rattle.texts.specs.declared.fault.TableFault.{TableFault}
use Rattle.texts.specs.declared.fault.TableFault.TheVariants as fault
use Rattle.texts.specs.declared.fault.RunFault.{RunFault}
use Rattle.texts.specs.declared.fault.RunFault.TheVariants as run
use Rattle.texts.specs.declared.line.Line.{Line}

-- The books of a table: periodic messages on the left, those with windows on the right.
abbrev pub TableBook : Type 0
TableBook = JointBook PeriodicBook WindowBook

-- The sheet of a text: the rows of the plan of its table.
pub record SheetOfRead {T : Type 0} (Begins : Line → T → Type 0) (Adds : T → T → Line → ℕ → Type 0) (Planned : T → Plan TableBook → Type 0) (text bytes : List ℕ) : Type 0 where
  pub table : T
  pub plan : Plan TableBook
  pub read : TableOf Begins Adds text table
  pub planned : Planned table plan
  pub printed : bytes ≡ text_of_sheet (rows_of plan)

-- The text is read to a table that has no plan.
pub record TableWithoutPlan {T : Type 0} (Begins : Line → T → Type 0) (Adds : T → T → Line → ℕ → Type 0) (Unplanned : T → TableFault → Type 0) (text : List ℕ) (e : TableFault) : Type 0 where
  pub table : T
  pub read : TableOf Begins Adds text table
  pub unplanned : Unplanned table e

-- Why a text has no sheet: its first fault, or that its table has no plan. Of a want of memory nothing is said.
abbrev pub NoSheetOfRead : {T : Type 0} → (Line → T → Type 0) → (T → T → Line → ℕ → Type 0) → (T → Line → List Check) → (T → TableFault → Type 0) → List ℕ → RunFault → Type 0
NoSheetOfRead Begins Adds checks Unplanned text (run.Table e) =
    (e ≡ fault.Memory) ⊎ (FirstFault Begins Adds checks text e ⊎ TableWithoutPlan Begins Adds Unplanned text e)

-- What is printed of a text: its sheet, or only the line that tells its fault.
abbrev pub PrintedOfRead : {T : Type 0} → (Line → T → Type 0) → (T → T → Line → ℕ → Type 0) → (T → Line → List Check) → (T → Plan TableBook → Type 0) → (T → TableFault → Type 0)
    → List ℕ → List ℕ → Type 0
PrintedOfRead Begins Adds checks Planned Unplanned text bytes =
    SheetOfRead Begins Adds Planned text bytes
    ⊎ ((f : LineFault) × NoSheetOfRead Begins Adds checks Unplanned text (run.Table (fault.Refused f)) × (bytes ≡ text_of_fault f))

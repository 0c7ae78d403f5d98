-- From a table to its plan.
use Rattle.std.specs.Prelude.{◌≡◌, ℕ, ◌⊎◌, List, vec_items}
use Rattle.fields.specs.declared.refusal.MakingFault.{MakingFault}
use Rattle.fields.specs.declared.refusal.MakingFault.TheVariants as making
use Rattle.books.specs.Book.{Book}
use Rattle.books.specs.Rows.{row_at, row_book}
use Rattle.books.specs.Listing.{given, NotMade}
use Rattle.books.specs.Joint.{joined, sides, SharedRefusal}
use Rattle.books.specs.Periodic.{periodic, first_nominal, nominal_rows}
use Rattle.books.specs.Window.{windowed, first_span, span_rows}
use Rattle.books.specs.Periodic.{PeriodicBook}
use Rattle.books.specs.declared.periodic.PeriodicMessage.{PeriodicMessage}
use Rattle.books.specs.Window.{WindowBook}
use Rattle.books.specs.declared.window.WindowMessage.{WindowMessage}
use Rattle.plan.specs.Drafts.{entries_of}
use Rattle.plan.specs.Plans.{Planned}
use Rattle.plan.specs.Sheets.{SheetFault}
use Rattle.plan.specs.declared.plan.Plan.{Plan}
use Rattle.texts.specs.Sheets.{fault_of_making}
use Rattle.texts.specs.Tables.{BusRead, LineAdded, checks_of}
use Rattle.texts.specs.Runs.{TableBook, SheetOfRead, NoSheetOfRead, PrintedOfRead}
use Rattle.texts.specs.declared.fault.TableFault.{TableFault}
use Rattle.texts.specs.declared.fault.RunFault.{RunFault}
use Rattle.texts.specs.declared.table.Table.{Table}

-- The books of a table: periodic messages on the left, those with windows on the right.
abbrev pub table_book : Book
table_book = joined (row_book periodic) (row_book windowed)

abbrev pub book_state : TableBook → table_book.State
book_state b = sides nominal_rows span_rows b

-- The book lists just these messages, each with its figures, and is at its start.
pub record BookOf (ps : List PeriodicMessage) (ws : List WindowMessage) (b : TableBook) : Type 0 where
  pub periodic_rows : (n : ℕ) → row_at (book_state b).0 n ≡ given (λ m. m.number) first_nominal ps n
  pub window_rows : (n : ℕ) → row_at (book_state b).1 n ≡ given (λ m. m.number) first_span ws n

-- A message is in both lists.
abbrev pub SharedFault : MakingFault → Type 0
SharedFault (making.Refused e) =
    (l : PeriodicBook) × ((r : WindowBook) × SharedRefusal (row_book periodic) (row_book windowed) (nominal_rows l) (span_rows r) e)
SharedFault making.Memory = ⊥

-- Why there is no such book.
abbrev pub NoBook : List PeriodicMessage → List WindowMessage → MakingFault → Type 0
NoBook ps ws f = NotMade (λ m. m.number) first_nominal ps f ⊎ (NotMade (λ m. m.number) first_span ws f ⊎ SharedFault f)

-- A message is in both lists, as the books of these messages have it.
abbrev pub SharedBetween : List PeriodicMessage → List WindowMessage → MakingFault → Type 0
SharedBetween ps ws (making.Refused e) =
    (l : PeriodicBook) × ((r : WindowBook) × (((n : ℕ) → row_at (nominal_rows l) n ≡ given (λ m. m.number) first_nominal ps n)
    × ((n : ℕ) → row_at (span_rows r) n ≡ given (λ m. m.number) first_span ws n)
    × SharedRefusal (row_book periodic) (row_book windowed) (nominal_rows l) (span_rows r) e))
SharedBetween ps ws making.Memory = ⊥

-- Why there is no such book, with the books that share a message.
abbrev pub NotJoined : List PeriodicMessage → List WindowMessage → MakingFault → Type 0
NotJoined ps ws f = NotMade (λ m. m.number) first_nominal ps f ⊎ (NotMade (λ m. m.number) first_span ws f ⊎ SharedBetween ps ws f)

-- The plan of a table: its draft's messages, planned over the table's book.
pub record PlanOf (t : Table) (p : Plan TableBook) : Type 0 where
  pub book : TableBook
  pub lists : BookOf (vec_items t.periodic) (vec_items t.window) book
  pub planned : Planned table_book book_state t.draft book p

-- Why a table has no plan, at the line of the message that this concerns.
pub record NoPlan (t : Table) (e : TableFault) : Type 0 where
  pub why : MakingFault
  pub at_message : e ≡ fault_of_making (vec_items t.origins) why
  pub reason : NoBook (vec_items t.periodic) (vec_items t.window) why
      ⊎ ((b : TableBook) × BookOf (vec_items t.periodic) (vec_items t.window) b × SheetFault t.draft.bus table_book (book_state b) (entries_of t.draft) why)

-- The sheet of a text: the rows of the plan of its table.
abbrev pub SheetOf : List ℕ → List ℕ → Type 0
SheetOf = SheetOfRead BusRead LineAdded PlanOf

-- Why a text has no sheet: its first fault, or that its table has no plan. Of a want of memory nothing is said.
abbrev pub NoSheetOf : List ℕ → RunFault → Type 0
NoSheetOf = NoSheetOfRead BusRead LineAdded checks_of NoPlan

-- What is printed of a text: its sheet, or only the line that tells its fault.
abbrev pub Printed : List ℕ → List ℕ → Type 0
Printed = PrintedOfRead BusRead LineAdded checks_of PlanOf NoPlan

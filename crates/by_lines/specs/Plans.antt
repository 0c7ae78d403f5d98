-- From the lines of a table to its sheet, and from a text to what is printed.
use Rattle.std.specs.Prelude.{◌≡◌, ℕ, ◌+◌, ◌≤◌, ◌⊎◌, length, List, [], map, Option}
use Rattle.std.specs.List.{range_with_len, flat_map}
use Rattle.fields.specs.Limits.{highest}
use Rattle.fields.specs.declared.limits.Field.TheVariants.{Message}
use Rattle.fields.specs.declared.refusal.Reason.TheVariants.{NoDelay}
use Rattle.books.specs.Book.{Book}
use Rattle.books.specs.Rows.{row_book}
use Rattle.books.specs.Listing.{given}
use Rattle.books.specs.Joint.{joined as joint, sides}
use Rattle.books.specs.Periodic.{periodic, first_nominal, nominal_rows}
use Rattle.books.specs.Window.{windowed, first_span, span_rows}
use Rattle.books.specs.declared.joint.JointBook.{JointBook}
use Rattle.books.specs.Periodic.{PeriodicBook}
use Rattle.books.specs.declared.periodic.PeriodicMessage.{PeriodicMessage}
use Rattle.books.specs.Window.{WindowBook}
use Rattle.books.specs.declared.window.WindowMessage.{WindowMessage}
use Rattle.delay.specs.declared.bus.Bus.{Bus}
use Rattle.delay.specs.declared.entry.Entry.{Entry}
use Rattle.delay.specs.declared.entry.Row.{Row}
use Rattle.plan.specs.Plans.{rows_of}
use Rattle.plan.specs.Sheets.{Sheet, FirstLate}
use Rattle.plan.specs.declared.plan.Plan.{Plan}
use Rattle.by_lines.specs.Held.{HasBus, entry_told, in_order, lines_of, DraftOf}
use Rattle.by_lines.specs.Sheets.{line_of}
use Rattle.texts.specs.Lines.{periodic_of_line, window_of_line}
use Rattle.texts.specs.Sheets.{text_of_sheet, text_of_fault}
use Rattle.by_lines.specs.Tables.{TableOf, FaultOf, AllAccepted, longest_text}
use Rattle.by_lines.specs.declared.table.Table.{Table}
use Rattle.texts.specs.declared.fault.LineFault.{LineFault}
use Rattle.texts.specs.declared.fault.TableFault.{TableFault}
use Rattle.texts.specs.declared.fault.TableFault.TheVariants as fault
use Rattle.texts.specs.declared.fault.RunFault.{RunFault}
use Rattle.texts.specs.declared.fault.RunFault.TheVariants as run
use Rattle.texts.specs.declared.line.Line.{Line}

-- The messages of all P lines and of all W lines, in their order.
abbrev pub periodic_of : List Line → List PeriodicMessage
periodic_of ls = flat_map periodic_of_line ls

abbrev pub window_of : List Line → List WindowMessage
window_of ls = flat_map window_of_line ls

-- The books of tables: periodic messages on the left, those with windows on the right.
abbrev pub TableBook : Type 0
TableBook = JointBook PeriodicBook WindowBook

abbrev pub table_book : Book
table_book = joint (row_book periodic) (row_book windowed)

abbrev pub book_state : TableBook → table_book.State
book_state b = sides nominal_rows span_rows b

-- Rows by message number, up to the highest.
abbrev pub by_number : {X : Type 0} → (ℕ → Option X) → List (Option X)
by_number f = map f (range_with_len 0 (highest Message + 1))

-- The state of the book that lists just the messages of the lines, each with its figures, none released yet.
unfoldable pub book_of_lines : List Line → table_book.State
book_of_lines ls = (by_number (given (λ m. m.number) first_nominal (periodic_of ls)), by_number (given (λ m. m.number) first_span (window_of ls)))

-- The sheet of a table of these lines: over the bus of its bus line, its messages in order, and its book.
pub record SheetOf (ls : List Line) (rows : List Row) : Type 0 where
  pub bus : Bus
  pub has_bus : HasBus ls bus
  pub entries : List Entry
  pub messages : map entry_told entries ≡ in_order ls
  pub sheet : Sheet bus table_book (book_of_lines ls) entries rows

-- A table of these lines has no sheet: this is the line of the first message, in order, that has no delay within its deadline.
pub record LateAt (ls : List Line) (n : ℕ) : Type 0 where
  pub bus : Bus
  pub has_bus : HasBus ls bus
  pub entries : List Entry
  pub messages : map entry_told entries ≡ in_order ls
  pub number : ℕ
  pub late : FirstLate bus table_book (book_of_lines ls) entries number
  pub at : n ≡ line_of ls number

-- Why lines that are accepted have no plan. Of a want of memory nothing is said.
abbrev pub PlanRefused : List Line → TableFault → Type 0
PlanRefused ls (fault.Refused f) = (f.reason ≡ NoDelay) × LateAt ls f.line
PlanRefused ls fault.Memory = Unit {0}

-- The bytes are the sheet of the text.
pub record SheetPrinted (text bytes : List ℕ) : Type 0 where
  pub lines : List Line
  pub read : TableOf text lines
  pub rows : List Row
  pub sheet : SheetOf lines rows
  pub printed : bytes ≡ text_of_sheet rows

-- The text is a table without a sheet.
pub record TextLate (text : List ℕ) (f : LineFault) : Type 0 where
  pub lines : List Line
  pub read : TableOf text lines
  pub reason : f.reason ≡ NoDelay
  pub late : LateAt lines f.line

-- Why a text has no sheet: its first fault, or that its table has none. Of a want of memory nothing is said.
abbrev pub NoSheetOf : List ℕ → LineFault → Type 0
NoSheetOf text f = FaultOf text f.reason f.line ⊎ TextLate text f

abbrev pub TableRefused : List ℕ → TableFault → Type 0
TableRefused text (fault.Refused f) = NoSheetOf text f
TableRefused text fault.Memory = Unit {0}

abbrev pub RunRefused : List ℕ → RunFault → Type 0
RunRefused text (run.Table e) = TableRefused text e

-- What is printed of a text: its sheet, or only the line that tells its fault.
abbrev pub Printed : List ℕ → List ℕ → Type 0
Printed text bytes = SheetPrinted text bytes ⊎ ((f : LineFault) × NoSheetOf text f × (bytes ≡ text_of_fault f))

-- The lines of a table are accepted, its draft holds them, and they are no more than a text has.
pub record Accepted (t : Table) : Type 0 where
  pub accepted : AllAccepted [] (lines_of t)
  pub held : DraftOf (lines_of t) t.draft
  pub few : length (lines_of t) ≤ longest_text

-- What is made of such a table: the plan of its lines, or why they have none.
abbrev pub Planned : Table → Plan TableBook → Type 0
Planned t p = Accepted t → SheetOf (lines_of t) (rows_of p)

abbrev pub Unplanned : Table → TableFault → Type 0
Unplanned t e = Accepted t → PlanRefused (lines_of t) e

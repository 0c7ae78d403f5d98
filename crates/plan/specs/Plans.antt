-- What making a plan gives.
use Rattle.std.specs.Prelude.{◌≡◌, List, vec_items}
use Rattle.books.specs.Book.{Book}
use Rattle.delay.specs.declared.entry.Row.{Row}
use Rattle.plan.specs.Drafts.{entries_of}
use Rattle.plan.specs.Sheets.{Sheet, SheetFault}
use Rattle.plan.specs.declared.draft.Draft.{Draft}
use Rattle.plan.specs.declared.plan.Plan.{Plan}
use Rattle.plan.specs.declared.plan.PlanRefused.{PlanRefused}

-- The rows of a plan, by frame, then by priority.
abbrev pub rows_of : {B : Type 0} → Plan B → List Row
rows_of p = vec_items p.rows

-- The plan of a draft and a book: they are its bus and its book, and its rows are the sheet of the draft's messages.
pub record Planned {B : Type 0} (b : Book) (meaning : B → b.State) (d : Draft) (book : B) (p : Plan B) : Type 0 where
  pub same_bus : p.bus ≡ d.bus
  pub same_book : p.book ≡ book
  pub sheet : Sheet d.bus b (meaning book) (entries_of d) (rows_of p)

-- Draft and book come back as they were, with the reason why there is no sheet.
pub record NotPlanned {B : Type 0} (b : Book) (meaning : B → b.State) (d : Draft) (book : B) (e : PlanRefused B) : Type 0 where
  pub same_draft : e.draft ≡ d
  pub same_book : e.book ≡ book
  pub why : SheetFault d.bus b (meaning book) (entries_of d) e.fault

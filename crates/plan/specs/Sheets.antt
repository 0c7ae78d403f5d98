-- The sheet of a table: the least delay of every message, over all rows.
use Rattle.std.specs.Prelude.{◌≡◌, ℕ, ◌+◌, ◌<◌, ◌≤◌, true, false, ◌⊎◌, List, ◌∷◌, ◌++◌, map}
use Rattle.std.specs.List.{AllByRecursion}
use Rattle.fields.specs.declared.refusal.MakingFault.{MakingFault}
use Rattle.fields.specs.declared.refusal.MakingFault.TheVariants as making
use Rattle.fields.specs.declared.refusal.Refusal.{Refusal}
use Rattle.fields.specs.declared.refusal.Reason.TheVariants.{NotInBook, NoDelay}
use Rattle.fields.specs.declared.refusal.Place.TheVariants.{Plan}
use Rattle.books.specs.Book.{Book}
use Rattle.delay.specs.Delay.{Least, Meets}
use Rattle.delay.specs.declared.bus.Bus.{Bus}
use Rattle.delay.specs.declared.entry.Entry.{Entry}
use Rattle.delay.specs.declared.entry.Row.{Row}

-- One row: the least delay of its message, where all rows are as given, and its response within the deadline.
pub record RowOf (bus : Bus) (b : Book) (s : b.State) (rows : List Row) (r : Row) : Type 0 where
  pub delay : Least bus (b.count s) rows r.entry r.delay
  pub response : r.response ≡ b.jitter s r.entry.number + r.delay
  pub timely : r.response ≤ r.entry.deadline

-- The sheet: a row for each message of the table, in the table's order.
pub record Sheet (bus : Bus) (b : Book) (s : b.State) (entries : List Entry) (rows : List Row) : Type 0 where
  pub messages : map (λ r. r.entry) rows ≡ entries
  pub figures : AllByRecursion (RowOf bus b s rows) rows

-- The book lists the message.
abbrev pub Listed : (b : Book) → b.State → Entry → Type 0
Listed b s e = b.lists s e.number ≡ true

-- The first message of the table that the book does not list.
pub record FirstUnlisted (b : Book) (s : b.State) (entries : List Entry) (n : ℕ) : Type 0 where
  pub front : List Entry
  pub entry : Entry
  pub back : List Entry
  pub parts : entries ≡ front ++ entry ∷ back
  pub before : AllByRecursion (Listed b s) front
  pub here : b.lists s entry.number ≡ false
  pub concerns : n ≡ entry.number

-- The first message of the table that has no delay within its deadline, though the book lists them all: those before
-- it have their rows.
pub record FirstLate (bus : Bus) (b : Book) (s : b.State) (entries : List Entry) (n : ℕ) : Type 0 where
  pub listed : AllByRecursion (Listed b s) entries
  pub front : List Entry
  pub entry : Entry
  pub back : List Entry
  pub parts : entries ≡ front ++ entry ∷ back
  pub rows : List Row
  pub before : Sheet bus b s front rows
  pub here : (d : ℕ) → 1 ≤ d → Meets bus (b.count s) rows entry d → entry.deadline < b.jitter s entry.number + d
  pub concerns : n ≡ entry.number

-- Why a table has no sheet over the state of a book.
abbrev pub NoSheet : Bus → (b : Book) → b.State → List Entry → Refusal → Type 0
NoSheet bus b s entries e =
    (e.place ≡ Plan)
    × (((e.reason ≡ NotInBook) × FirstUnlisted b s entries e.concerns) ⊎ ((e.reason ≡ NoDelay) × FirstLate bus b s entries e.concerns))

-- The same, or that there was no memory.
abbrev pub SheetFault : Bus → (b : Book) → b.State → List Entry → MakingFault → Type 0
SheetFault bus b s entries (making.Refused e) = NoSheet bus b s entries e
SheetFault bus b s entries making.Memory = Unit {0}

-- What the sheet says of a message: its entry, its delay and its response.
pub record Said : Type 0 where
  pub entry : Entry
  pub delay : ℕ
  pub response : ℕ

abbrev pub figures_of : Row → Said
figures_of r = record { entry = r.entry; delay = r.delay; response = r.response }

-- A table has one sheet over the state of a book.
abbrev pub OneSheet : Bus → (b : Book) → b.State → List Entry → Type 0
OneSheet bus b s entries = (rows others : List Row) → Sheet bus b s entries rows → Sheet bus b s entries others → map figures_of rows ≡ map figures_of others

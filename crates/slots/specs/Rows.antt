-- What the rows of a plan say of a message and of a frame, and which rows a bench may stand on.
use Rattle.std.specs.Prelude.{◌≡◌, ℕ, ◌+◌, ◌≤◌, true, cond, ◌⊎◌, List, [], ◌∷◌, Some, None, Option, ◌==◌, nat_eq}
use Rattle.std.specs.List.{find}
use Rattle.books.specs.Book.{Book}
use Rattle.delay.specs.Delay.{total, Meets}
use Rattle.delay.specs.declared.bus.Bus.{Bus}
use Rattle.delay.specs.declared.entry.Row.{Row}

-- An element stands in a list.
abbrev pub In : {X : Type 0} → X → List X → Type 0
In x [] = ⊥
In x (y ∷ ys) = (x ≡ y) ⊎ In x ys

-- The row of a message, where the plan has it.
abbrev pub row_of : List Row → ℕ → Option Row
row_of rows m = find (λ r. nat_eq r.entry.number m) rows

-- The minislots that a message takes; those of an empty slot where the plan has no such message.
abbrev pub size_in : Option Row → ℕ
size_in None = 1
size_in (Some r) = r.entry.size

abbrev pub size_of : List Row → ℕ → ℕ
size_of rows m = size_in (row_of rows m)

-- The last minislot in which a frame may start; minislots count from 1, so a frame without messages never starts.
abbrev pub latest_in : Option Row → ℕ
latest_in None = 0
latest_in (Some r) = r.entry.latest

abbrev pub last_start_of : List Row → ℕ → ℕ
last_start_of rows f = latest_in (find (λ r. nat_eq r.entry.frame f) rows)

-- The places that a frame needs: for each of its messages, the releases that a stretch as long as the delay may hold.
unfoldable pub needs : (ℕ → ℕ → ℕ) → List Row → ℕ → ℕ
needs count rows f = total (λ r. cond (r.entry.frame == f) (count r.entry.number r.delay) 0) rows

-- The rows of a plan over the state of a book: sizes fit behind the last start, a frame belongs to one node, numbers
-- are used once and so are the priorities of a frame, the book lists every message, and every delay meets its definition.
pub record SoundTable (bus : Bus) (b : Book) (s : b.State) (rows : List Row) : Type 0 where
  pub fits : (i : Row) → In i rows → i.entry.latest + i.entry.size ≤ bus.minislots + 1
  pub one_node : (i j : Row) → In i rows → In j rows → i.entry.frame ≡ j.entry.frame → i.entry.latest ≡ j.entry.latest
  pub one_number : (i j : Row) → In i rows → In j rows → i.entry.number ≡ j.entry.number → i ≡ j
  pub one_priority : (i j : Row) → In i rows → In j rows → i.entry.frame ≡ j.entry.frame → i.entry.priority ≡ j.entry.priority → i ≡ j
  pub listed : (i : Row) → In i rows → b.lists s i.entry.number ≡ true
  pub covered : (i : Row) → In i rows → Meets bus (b.count s) rows i.entry i.delay

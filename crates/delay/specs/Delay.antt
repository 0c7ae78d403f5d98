-- The delay of a message: what can block it while it waits, and the least time that covers all of it.
use Rattle.std.specs.Prelude.{◌≡◌, ℕ, ◌+◌, ◌-◌, ◌*◌, ◌/◌, ◌<◌, ◌≤◌, Bool, true, false, cond, ◌&&◌, ◌⊎◌, List, [], ◌∷◌, Result, ◌==◌, nat_lt}
use Rattle.std.specs.Result as results
use Rattle.std.specs.List.{AllByRecursion}
use Rattle.fields.specs.declared.refusal.Refusal.{Refusal}
use Rattle.fields.specs.declared.refusal.Reason.TheVariants.{NotInBook, NoDelay}
use Rattle.fields.specs.declared.refusal.Place.TheVariants.{Plan}
use Rattle.books.specs.Book.{Book}
use Rattle.delay.specs.declared.bus.Bus.{Bus}
use Rattle.delay.specs.declared.entry.Entry.{Entry}
use Rattle.delay.specs.declared.entry.Row.{Row}

-- The sum of a figure over a list.
abbrev pub total : {X : Type 0} → (X → ℕ) → List X → ℕ
total f [] = 0
total f (x ∷ xs) = f x + total f xs

-- K: how many minislots of a cycle the frame may start in.
abbrev pub room : Entry → ℕ
room i = i.latest - i.frame + 1

-- The row's frame comes before the message's, or it is a more urgent message of the same frame.
abbrev pub lower : Entry → Row → Bool
lower i j = nat_lt j.entry.frame i.frame

abbrev pub more_urgent : Entry → Row → Bool
more_urgent i j = j.entry.frame == i.frame && nat_lt j.entry.priority i.priority

-- The minislots that one row of a lower frame can take from the message while it waits d. `count m len` is how many
-- releases of the message m a stretch of that length may hold. A sending takes its size less the one minislot of an
-- empty slot.
abbrev pub share_of_lower : Bus → (ℕ → ℕ → ℕ) → Entry → ℕ → Row → ℕ
share_of_lower bus count i d j =
    cond (lower i j) ((j.entry.size - 1) * count j.entry.number (d + j.delay + (i.frame - 1) * bus.minislot)) 0

-- The sendings of one row, where it is a more urgent message of the same frame.
abbrev pub share_of_urgent : (ℕ → ℕ → ℕ) → Entry → ℕ → Row → ℕ
share_of_urgent count i d h = cond (more_urgent i h) (count h.entry.number (d + h.delay)) 0

-- U: the minislots that all lower frames can take.
unfoldable pub lower_load : Bus → (ℕ → ℕ → ℕ) → List Row → Entry → ℕ → ℕ
lower_load bus count rows i d = total (share_of_lower bus count i d) rows

-- H: the sendings of all more urgent messages of the same frame.
unfoldable pub urgent_load : (ℕ → ℕ → ℕ) → List Row → Entry → ℕ → ℕ
urgent_load count rows i d = total (share_of_urgent count i d) rows

-- O: earlier releases of the message itself.
abbrev pub own_load : (ℕ → ℕ → ℕ) → Entry → ℕ → ℕ
own_load count i d = count i.number d - 1

-- B: the cycles that pass without a sending of this release.
abbrev pub blocked_cycles : Bus → (ℕ → ℕ → ℕ) → List Row → Entry → ℕ → ℕ
blocked_cycles bus count rows i d = lower_load bus count rows i d / room i + urgent_load count rows i d + own_load count i d

-- One more than the time that a release needs at most while it waits d: the blocked cycles and its own, then the
-- minislots up to the end of its transmission.
abbrev pub needed : Bus → (ℕ → ℕ → ℕ) → List Row → Entry → ℕ → ℕ
needed bus count rows i d = (blocked_cycles bus count rows i d + 1) * bus.cycle + (room i - 1 + i.size) * bus.minislot

-- A delay meets the definition where it covers what is needed.
abbrev pub Meets : Bus → (ℕ → ℕ → ℕ) → List Row → Entry → ℕ → Type 0
Meets bus count rows i d = needed bus count rows i d ≤ d + 1

-- The delay of the message: the least whole number of at least 1 that meets.
pub record Least (bus : Bus) (count : ℕ → ℕ → ℕ) (rows : List Row) (i : Entry) (d : ℕ) : Type 0 where
  pub positive : 1 ≤ d
  pub meets : Meets bus count rows i d
  pub least : (e : ℕ) → 1 ≤ e → Meets bus count rows i e → d ≤ e

-- The book lists the row's message.
abbrev pub ListedRow : (ℕ → Bool) → Row → Type 0
ListedRow lists j = lists j.entry.number ≡ true

-- Refused since the book does not list one of the messages.
abbrev pub Unlisted : (ℕ → Bool) → List Row → Entry → Refusal → Type 0
Unlisted lists rows i e =
    (e.reason ≡ NotInBook) × (e.place ≡ Plan) × (lists e.concerns ≡ false) × (lists i.number ≡ true → AllByRecursion (ListedRow lists) rows → ⊥)

-- Refused since no delay has a response within the deadline, though the book lists every message.
abbrev pub NoneWithin : Bus → (b : Book) → b.State → List Row → Entry → Refusal → Type 0
NoneWithin bus b s rows i e =
    (e.reason ≡ NoDelay) × (e.place ≡ Plan) × (e.concerns ≡ i.number) × (b.lists s i.number ≡ true) × AllByRecursion (ListedRow (b.lists s)) rows
    × ((d : ℕ) → 1 ≤ d → Meets bus (b.count s) rows i d → i.deadline < b.jitter s i.number + d)

-- What the search for a delay answers, over the state of a release book.
abbrev pub Searched : Bus → (b : Book) → b.State → List Row → Entry → Result ℕ Refusal → Type 0
Searched bus b s rows i r =
    results.MatchResult r
    (λ d. (b.lists s i.number ≡ true) × AllByRecursion (ListedRow (b.lists s)) rows × Least bus (b.count s) rows i d
    × (b.jitter s i.number + d ≤ i.deadline))
    (λ e. Unlisted (b.lists s) rows i e ⊎ NoneWithin bus b s rows i e)

-- What is needed never falls as the message waits longer, where the book lists every message.
abbrev pub NeverFalls : Bus → (b : Book) → b.State → List Row → Entry → Type 0
NeverFalls bus b s rows i =
    b.lists s i.number ≡ true → AllByRecursion (ListedRow (b.lists s)) rows → (d e : ℕ) → d ≤ e → needed bus (b.count s) rows i d ≤ needed bus (b.count s) rows i e

-- A message has one delay at most.
abbrev pub OneDelay : Bus → (ℕ → ℕ → ℕ) → List Row → Entry → Type 0
OneDelay bus count rows i = (d e : ℕ) → Least bus count rows i d → Least bus count rows i e → d ≡ e

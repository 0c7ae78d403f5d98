-- What holds of every run: no release is lost or late, a rested one is accepted, and there is always room for it.
use Rattle.std.specs.Prelude.{◌≡◌, ℕ, ◌+◌, ◌<◌, ◌≤◌, true, List, length, is_some, Some, None, Ok, Err, Option}
use Rattle.std.specs.List.{AllByRecursion}
use Rattle.fields.specs.Limits.{Admitted}
use Rattle.fields.specs.Refusals.{first_reason}
use Rattle.fields.specs.declared.limits.Field.TheVariants.{Time}
use Rattle.fields.specs.declared.refusal.Refusal.{Refusal}
use Rattle.ranked.specs.Ranks.{Ascending}
use Rattle.books.specs.Book.{Book, Fresh}
use Rattle.buffers.specs.declared.instance.Instance.{Instance}
use Rattle.delay.specs.declared.bus.Bus.{Bus}
use Rattle.delay.specs.declared.entry.Row.{Row}
use Rattle.slots.specs.Rows.{row_of, needs, SoundTable}
use Rattle.slots.specs.States.{State, clock, allowed}
use Rattle.slots.specs.Steps.{Step, by_priority, release_checks, cycles}
use Rattle.slots.specs.Runs.{Begins, Answered, Run, accepted, sent, accepted_of, sent_of, waiting_of, last_of}
use Rattle.slots.specs.declared.calls.Call.{Call}
use Rattle.slots.specs.declared.calls.Call.TheVariants as call
use Rattle.slots.specs.declared.calls.Answer.{Answer}
use Rattle.slots.specs.declared.calls.Answer.TheVariants.{Released, Ran, At}

-- The message is planned, and a time is not past a release of it by more than its delay.
pub record InTime (rows : List Row) (m release time : ℕ) : Type 0 where
  pub row : Row
  pub planned : row_of rows m ≡ Some row
  pub timely : time ≤ release + row.delay

-- No release came before, or the last one lies a rest or more back.
abbrev pub Rested : Option ℕ → ℕ → ℕ → Type 0
Rested None rest t = Unit {0}
Rested (Some u) rest t = u + rest ≤ t

-- The promise of a plan, over the answered calls of a run and the state that it reached.
pub record Guarantee (bus : Bus) (rows : List Row) (b : Book) (from s : State b) (xs : List Answered) : Type 0 where
  -- each accepted release was sent or waits, and just once
  pub each_once : (m t : ℕ) → accepted_of m t xs ≡ sent_of m t xs + waiting_of m t s.waiting
  -- nothing was sent late: every transmission ended within the delay of its message
  pub none_late : AllByRecursion (λ x. InTime rows x.message x.release x.finish) (sent xs)
  -- nothing that waits is overdue
  pub none_overdue : (f : ℕ) → AllByRecursion (λ w. InTime rows w.message w.release (clock bus s.position)) (s.waiting f)
  -- a rested release of a planned message, at a time that the clock allows, is accepted
  pub rested : (m t : ℕ) → is_some (row_of rows m) ≡ true → allowed bus s.position s.released s.started t ≡ true
      → Rested (last_of m (accepted xs)) (b.rest from.book m) t
      → (a : Answer) (s' : State b) → Step bus rows b s (call.Release m t) a s' → a ≡ Released (Ok tt)

-- What waits for a frame is a release of one of its messages, with the message's priority.
pub record OfFrame (rows : List Row) (f : ℕ) (w : Instance) : Type 0 where
  pub row : Row
  pub planned : row_of rows w.message ≡ Some row
  pub priority : w.priority ≡ row.entry.priority
  pub frame : row.entry.frame ≡ f

-- What every state keeps that a run reaches: its figures are in range, lists are in order, and there is room.
pub record InOrder (bus : Bus) (rows : List Row) (b : Book) (from s : State b) : Type 0 where
  pub first_slot : 1 ≤ s.position.slot
  pub slot : s.position.slot ≤ s.position.minislot
  pub minislot : s.position.minislot ≤ bus.minislots
  pub cycle : s.position.cycle ≤ cycles
  pub clock_range : Admitted Time (clock bus s.position)
  pub of_frame : (f : ℕ) → AllByRecursion (OfFrame rows f) (s.waiting f)
  pub ascending : (f : ℕ) → Ascending by_priority (s.waiting f)
  pub sound : b.Sound s.book
  pub listed : (m : ℕ) → is_some (row_of rows m) ≡ true → b.lists s.book m ≡ true
  -- no more wait for a frame than it needs places, and before a release is accepted there is a free one
  pub room : (f : ℕ) → length (s.waiting f) ≤ needs (b.count from.book) rows f
  pub free : (m t : ℕ) (i : Row) → row_of rows m ≡ Some i → first_reason (release_checks bus rows b s m t) ≡ None
      → length (s.waiting i.entry.frame) < needs (b.count from.book) rows i.entry.frame

-- A bench set up with a plan over a book in which every earliest time is 0.
pub record SetUp (bus : Bus) (rows : List Row) (b : Book) (s : State b) : Type 0 where
  pub begins : Begins b s
  pub sound : b.Sound s.book
  pub fresh : Fresh b s.book
  pub table : SoundTable bus b s.book rows

-- The guarantee holds of every run, whatever was released, refused, run and asked, in any order.
abbrev pub DelaysHold : Book → Type 0
DelaysHold b =
    (bus : Bus) (rows : List Row) (from : State b) → SetUp bus rows b from
    → (xs : List Answered) (s : State b) → Run bus rows b from xs s → Guarantee bus rows b from s xs × InOrder bus rows b from s

-- An answer that refuses.
abbrev pub Refuses : Answer → Type 0
Refuses (Released r) = (e : Refusal) × (r ≡ Err e)
Refuses (Ran r) = (e : Refusal) × (r ≡ Err e)
Refuses (At p) = ⊥

-- Every call has an answer and a state after it, in every state; it has no second one; and a refusal leaves the state.
pub record Determined (bus : Bus) (rows : List Row) (b : Book) (s : State b) (c : Call) : Type 0 where
  pub answer : Answer
  pub after : State b
  pub step : Step bus rows b s c answer after
  pub only : (a : Answer) (s' : State b) → Step bus rows b s c a s' → (a ≡ answer) × (s' ≡ after)
  pub refusal_leaves : Refuses answer → after ≡ s

abbrev pub OneAnswer : Book → Type 0
OneAnswer b = (bus : Bus) (rows : List Row) (s : State b) (c : Call) → Determined bus rows b s c

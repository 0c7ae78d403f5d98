-- What every run keeps, over the accepted releases, what was sent and the state reached.
use Rattle.std.proofs.Common.{◌≡◌, ℕ, ◌+◌, ◌*◌, ◌<◌, ◌≤◌, Bool, true, ◌⊎◌, List, [], ◌∷◌, Some, None, Option}
use Rattle.std.specs.List.{AllByRecursion}
use Rattle.books.specs.Book.{Book, Release, Accepted, tally}
use Rattle.buffers.specs.declared.instance.Instance.{Instance}
use Rattle.delay.specs.Delay.{room}
use Rattle.delay.specs.declared.bus.Bus.{Bus}
use Rattle.delay.specs.declared.entry.Row.{Row}
use Rattle.slots.specs.Rows.{In}
use Rattle.slots.specs.States.{State, clock_at, clock, not_before, later_than}
use Rattle.slots.specs.Steps.{cycles, onward}
use Rattle.slots.specs.Runs.{over_frames, last_frame, last_of}
use Rattle.slots.specs.Guarantees.{InTime}
use Rattle.slots.specs.declared.position.Position.{Position}
use Rattle.slots.specs.declared.calls.Sent.{Sent}
use Rattle.slots.proofs.Weights.{Sending, of_sending, load, filled}

abbrev pub of_instance : Instance → Release
of_instance w = record { message = w.message; time = w.release }

abbrev pub of_sent : Sent → Release
of_sent x = record { message = x.message; time = x.release }

-- The state after an accepted release, and after a slot that took n minislots, with what waits then.
abbrev pub with_release : (b : Book) → State b → ℕ → ℕ → (ℕ → List Instance) → State b
with_release b s m t waiting =
    record { position = s.position; released = Some t; started = s.started; book = b.after s.book m t; waiting = waiting }

abbrev pub with_slot : Bus → (b : Book) → State b → ℕ → (ℕ → List Instance) → State b
with_slot bus b s n waiting = record {
  position = onward bus s.position n;
  released = s.released;
  started = Some (clock bus s.position);
  book = s.book;
  waiting = waiting;
}

-- The slot of a frame in a cycle lies behind a position.
abbrev pub Passed : Position → ℕ → ℕ → Type 0
Passed p f k = (k < p.cycle) ⊎ ((k ≡ p.cycle) × (f < p.slot))

-- One stands before another in sending order: by priority, and of one priority by release.
abbrev pub Before : Instance → Instance → Type 0
Before x y = (x.priority ≤ y.priority) × (x.priority ≡ y.priority → x.release ≤ y.release)

abbrev pub Ordered : List Instance → Type 0
Ordered [] = Unit {0}
Ordered (x ∷ xs) = AllByRecursion (Before x) xs × Ordered xs

-- A sending that lies behind the state.
pub record Gone (bus : Bus) (rows : List Row) (b : Book) (s : State b) (x : Sending) : Type 0 where
  pub planned : In x.row rows
  pub starts : clock_at bus x.cycle x.row.entry.frame ≤ x.start
  pub released : x.release ≤ x.start
  pub finished : x.start + x.row.entry.size * bus.minislot ≤ x.release + x.row.delay
  pub past : x.start < clock bus s.position
  pub passed : Passed s.position x.row.entry.frame x.cycle
  pub ordered : (t : ℕ) → not_before s.released t ≡ true → x.release ≤ t
  pub later : (t : ℕ) → later_than s.started t ≡ true → x.start < t

-- A release that waits for a frame: those of its message that were sent came before it, all sendings began before its
-- time was over, and every cycle in which its slot has passed since was blocked.
pub record Waits (bus : Bus) (rows : List Row) (b : Book) (s : State b) (xs : List Sending) (f : ℕ) (w : Instance) : Type 0 where
  pub row : Row
  pub planned : In row rows
  pub number : w.message ≡ row.entry.number
  pub priority : w.priority ≡ row.entry.priority
  pub frame : row.entry.frame ≡ f
  pub arrived : w.release ≤ clock bus s.position
  pub ordered : (t : ℕ) → not_before s.released t ≡ true → w.release ≤ t
  pub after_own : (x : Sending) → In x xs → x.row.entry.number ≡ row.entry.number → x.release ≤ w.release
  pub early : (x : Sending) → In x xs → x.start < w.release + row.delay
  pub blocked : (k : ℕ) → Passed s.position row.entry.frame k → w.release ≤ clock_at bus k row.entry.frame
      → room row.entry ≤ load row k xs

-- The earliest next release of a message: 0 before the first, and a rest after the last at most.
abbrev pub Due : Option ℕ → ℕ → ℕ → Type 0
Due None rest e = e ≡ 0
Due (Some u) rest e = e ≤ u + rest

pub record Keeps (bus : Bus) (rows : List Row) (b : Book) (from : b.State) (released : List Release) (sent : List Sent) (s : State b) : Type 0 where
  pub sendings : List Sending
  pub gone : AllByRecursion (Gone bus rows b s) sendings
  pub waits : (f : ℕ) → AllByRecursion (Waits bus rows b s sendings f) (s.waiting f)
  pub ordered : (f : ℕ) → Ordered (s.waiting f)
  -- the position: slots shift by what was sent in this cycle
  pub first_slot : 1 ≤ s.position.slot
  pub segment : s.position.minislot ≤ bus.minislots
  pub cycle : s.position.cycle ≤ cycles
  pub shifted : s.position.minislot ≡ s.position.slot + filled s.position.cycle sendings
  -- a time after the last slot run lies behind every slot that was run, and every slot that was not was blocked
  pub passed : (i : Row) → In i rows → (k : ℕ) → Passed s.position i.entry.frame k → (t : ℕ) → later_than s.started t ≡ true
      → t ≤ clock_at bus k i.entry.frame → room i.entry ≤ load i k sendings
  pub started : (t : ℕ) → clock bus s.position ≤ t → later_than s.started t ≡ true
  -- the book
  pub history : Accepted b from released s.book
  pub sound : b.Sound s.book
  pub lists : (m : ℕ) → b.lists s.book m ≡ b.lists from m
  pub rests : (m : ℕ) → b.rest s.book m ≡ b.rest from m
  pub due : (m : ℕ) → b.lists from m ≡ true → Due (last_of m released) (b.rest from m) (b.earliest s.book m)
  -- each release once
  pub counted : (p : Release → Bool) → tally p released ≡ tally (λ x. p (of_sending x)) sendings
      + over_frames (λ f. tally (λ w. p (of_instance w)) (s.waiting f)) last_frame
  pub reports : (p : Release → Bool) → tally (λ x. p (of_sent x)) sent ≡ tally (λ x. p (of_sending x)) sendings
  pub timely : AllByRecursion (λ x. InTime rows x.message x.release x.finish) sent

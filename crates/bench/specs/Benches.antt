-- What a bench stands for, its past since it was set up, and what every call of it keeps.
use Rattle.std.specs.Prelude.{◌≡◌, ℕ, ◌≤◌, Bool, cond, List, ◌∷◌, map, None, vec_items, Option}
use Rattle.std.specs.List.{range_with_len}
use Rattle.books.specs.Book.{Book}
use Rattle.buffers.specs.Buffer.{Meaning, Elsewhere}
use Rattle.buffers.specs.declared.instance.Instance.{Instance}
use Rattle.delay.specs.declared.entry.Row.{Row}
use Rattle.slots.specs.Rows.{last_start_of, size_of, needs}
use Rattle.slots.specs.States.{State}
use Rattle.slots.specs.Steps.{Step, head, behind}
use Rattle.slots.specs.Runs.{Answered, Run}
use Rattle.slots.specs.Guarantees.{SetUp, Guarantee, InOrder}
use Rattle.slots.specs.declared.calls.Call.{Call}
use Rattle.slots.specs.declared.calls.Answer.{Answer}
use Rattle.bench.specs.declared.bench.Bench.{Bench}

-- What the values of a kind of book and of a kind of buffer mean, and which buffers are sound.
pub record Kinds (B S : Type 0) : Type 1 where
  pub book : Book
  pub meaning : B → book.State
  pub buffer : S → Meaning
  pub sound : S → Type 0

abbrev pub kinds : {B S : Type 0} (book : Book) → (B → book.State) → (S → Meaning) → (S → Type 0) → Kinds B S
kinds book meaning buffer sound = record { book = book; meaning = meaning; buffer = buffer; sound = sound }

-- The rows of a bench, and the state that it is in.
abbrev pub rows_in : {B S : Type 0} → Bench B S → List Row
rows_in x = vec_items x.rows

abbrev pub state_of : {B S : Type 0} (k : Kinds B S) → Bench B S → State k.book
state_of k x = record {
  position = x.position;
  released = x.released;
  started = x.started;
  book = k.meaning x.book;
  waiting = (k.buffer x.buffer).waiting;
}

-- The past of a bench: it was set up in a state, with a sound buffer that has the places needed, and these calls with
-- their answers, the newest first, have led it to where it stands.
pub record Course {B S : Type 0} (k : Kinds B S) (from : State k.book) (past : List Answered) (x : Bench B S) : Type 0 where
  pub set : SetUp x.bus (rows_in x) k.book from
  pub enough : (f : ℕ) → needs (k.book.count from.book) (rows_in x) f ≤ (k.buffer x.buffer).places f
  pub sound : k.sound x.buffer
  pub starts : vec_items x.starts ≡ map (last_start_of (rows_in x)) (range_with_len 0 2048)
  pub sizes : vec_items x.sizes ≡ map (size_of (rows_in x)) (range_with_len 0 129)
  pub run : Run x.bus (rows_in x) k.book from past (state_of k x)

-- What a call does to a bench with a past: its answer and the state after it are those of the slot rules, the call is
-- one more of the past, no frame gets or loses places, and the promise of the plan holds of all calls with this one.
pub record Promised {B S : Type 0} (k : Kinds B S) (from : State k.book) (past : List Answered) (x : Bench B S) (c : Call) (a : Answer)
    (y : Bench B S) : Type 0 where
  pub step : Step x.bus (rows_in x) k.book (state_of k x) c a (state_of k y)
  pub course : Course k from (record { call = c; answer = a } ∷ past) y
  pub places : (f : ℕ) → (k.buffer y.buffer).places f ≡ (k.buffer x.buffer).places f
  pub guarantee : Guarantee x.bus (rows_in x) k.book from (state_of k y) (record { call = c; answer = a } ∷ past)
  pub in_order : InOrder x.bus (rows_in x) k.book from (state_of k y)

-- What a call of a bench keeps: bus and rows always, and its promise whatever the past of the bench is.
pub record Kept {B S : Type 0} (k : Kinds B S) (x : Bench B S) (c : Call) (a : Answer) (y : Bench B S) : Type 0 where
  pub same_bus : y.bus ≡ x.bus
  pub same_rows : rows_in y ≡ rows_in x
  pub promised : (from : State k.book) (past : List Answered) → Course k from past x → Promised k from past x c a y

-- The first of what waits for a frame is taken, where the frame may start; else nothing is, and all goes on waiting.
pub record TakenIf (may : Bool) (m : Meaning) (f : ℕ) (r : Option Instance) (m' : Meaning) : Type 0 where
  pub first : r ≡ cond may (head (m.waiting f)) None
  pub frame : m'.waiting f ≡ cond may (behind (m.waiting f)) (m.waiting f)
  pub others : Elsewhere f m m'

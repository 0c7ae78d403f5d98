-- When a plan and a buffer become a bench, and what bench it is.
use Rattle.std.specs.Prelude.{◌≡◌, ℕ, ◌<◌, Bool, true, false, cond, ◌&&◌, List, [], length, None, ◌==◌, nat_lt}
use Rattle.std.specs.List.{AllByRecursion}
use Rattle.fields.specs.Limits.{Admitted}
use Rattle.fields.specs.declared.limits.Field.{Field}
use Rattle.fields.specs.declared.limits.Field.TheVariants.{Frame, Message}
use Rattle.fields.specs.declared.refusal.MakingFault.{MakingFault}
use Rattle.fields.specs.declared.refusal.MakingFault.TheVariants as making
use Rattle.fields.specs.declared.refusal.Place.TheVariants.{SettingUp}
use Rattle.fields.specs.declared.refusal.Reason.{Reason}
use Rattle.fields.specs.declared.refusal.Reason.TheVariants.{TooFewPlaces, NotFresh}
use Rattle.fields.specs.declared.refusal.Refusal.{Refusal}
use Rattle.books.specs.Book.{Book}
use Rattle.buffers.specs.Buffer.{Meaning}
use Rattle.delay.specs.declared.entry.Row.{Row}
use Rattle.plan.specs.Drafts.{entries_of}
use Rattle.plan.specs.Plans.{rows_of, Planned}
use Rattle.plan.specs.Sheets.{Listed}
use Rattle.plan.specs.declared.draft.Draft.{Draft}
use Rattle.plan.specs.declared.plan.Plan.{Plan}
use Rattle.slots.specs.Rows.{In, needs}
use Rattle.slots.specs.States.{State}
use Rattle.slots.specs.Runs.{Answered, Run}
use Rattle.slots.specs.Guarantees.{Guarantee, InOrder}
use Rattle.bench.specs.Benches.{Kinds, rows_in, state_of, Course}
use Rattle.bench.specs.declared.bench.Bench.{Bench}
use Rattle.bench.specs.declared.bench.BenchRefused.{BenchRefused}

-- No value of a field's range has a property, none below some value has it, and a value is the lowest one that has it.
abbrev pub NoneIn : Field → (ℕ → Bool) → Type 0
NoneIn f has = (n : ℕ) → Admitted f n → has n ≡ false

abbrev pub NoneBelow : Field → (ℕ → Bool) → ℕ → Type 0
NoneBelow f has n = (m : ℕ) → Admitted f m → m < n → has m ≡ false

pub record LowestIn (f : Field) (has : ℕ → Bool) (n : ℕ) : Type 0 where
  pub within : Admitted f n
  pub here : has n ≡ true
  pub below : NoneBelow f has n

-- The places that a row's message needs of a frame, where the book lists it.
abbrev pub needed_by : (b : Book) → b.State → ℕ → Row → ℕ
needed_by b s f r = cond (r.entry.frame == f) (cond (b.lists s r.entry.number) (b.count s r.entry.number r.delay) 0) 0

-- The frame has fewer places than its messages need.
abbrev pub too_few : (b : Book) → b.State → List Row → Meaning → ℕ → Bool
too_few b s rows m f = nat_lt (m.places f) (needs (b.count s) rows f)

-- Something waits for the frame.
abbrev pub waits : Meaning → ℕ → Bool
waits m f = nat_lt 0 (length (m.waiting f))

-- The message may not be released at once.
abbrev pub early : (b : Book) → b.State → ℕ → Bool
early b s n = b.lists s n && nat_lt 0 (b.earliest s n)

-- Rows, book and buffer make a bench: every frame has its places, nothing waits, and every message may be released at once.
pub record Ready (b : Book) (s : b.State) (rows : List Row) (m : Meaning) : Type 0 where
  pub places : NoneIn Frame (too_few b s rows m)
  pub empty : NoneIn Frame (waits m)
  pub fresh : NoneIn Message (early b s)

-- Why they do not, in the order of checking.
pub data Unready (b : Book) (s : b.State) (rows : List Row) (m : Meaning) : Reason → ℕ → Type 0 where
  few : {n : ℕ} → LowestIn Frame (too_few b s rows m) n → Unready b s rows m TooFewPlaces n
  waiting : {n : ℕ} → NoneIn Frame (too_few b s rows m) → LowestIn Frame (waits m) n → Unready b s rows m NotFresh n
  released : {n : ℕ} → NoneIn Frame (too_few b s rows m) → NoneIn Frame (waits m) → LowestIn Message (early b s) n → Unready b s rows m NotFresh n

-- The refusal that says so.
pub record RefusedAs (b : Book) (s : b.State) (rows : List Row) (m : Meaning) (e : Refusal) : Type 0 where
  pub place : e.place ≡ SettingUp
  pub why : Unready b s rows m e.reason e.concerns

-- The same, or that there was no memory.
abbrev pub FaultOf : (b : Book) → b.State → List Row → Meaning → MakingFault → Type 0
FaultOf b s rows m (making.Refused e) = RefusedAs b s rows m e
FaultOf b s rows m making.Memory = Unit {0}

-- The book lists every row's message.
abbrev pub AllListed : (b : Book) → b.State → List Row → Type 0
AllListed b s rows = (i : Row) → In i rows → b.lists s i.entry.number ≡ true

-- What is asked of a plan and a buffer: a draft became the plan, whose messages the book all lists, and the buffer is sound.
pub record Proper {B S : Type 0} (k : Kinds B S) (p : Plan B) (buffer : S) : Type 0 where
  pub draft : Draft
  pub book : B
  pub planned : Planned k.book k.meaning draft book p
  pub listed : AllByRecursion (Listed k.book (k.meaning book)) (entries_of draft)
  pub sound : k.sound buffer

-- What is true of a bench that was set up with a proper plan and buffer: all was ready, it begins its course, and the
-- promise of the plan holds of every run from here.
pub record Begun {B S : Type 0} (k : Kinds B S) (x : Bench B S) : Type 0 where
  pub ready : Ready k.book (k.meaning x.book) (rows_in x) (k.buffer x.buffer)
  pub course : Course k (state_of k x) [] x
  pub guarantee : (xs : List Answered) (s : State k.book) → Run x.bus (rows_in x) k.book (state_of k x) xs s
      → Guarantee x.bus (rows_in x) k.book (state_of k x) s xs × InOrder x.bus (rows_in x) k.book (state_of k x) s

-- The bench of a plan and a buffer, at the first slot.
pub record BenchOf {B S : Type 0} (k : Kinds B S) (p : Plan B) (buffer : S) (x : Bench B S) : Type 0 where
  pub bus : x.bus ≡ p.bus
  pub rows : rows_in x ≡ rows_of p
  pub book : x.book ≡ p.book
  pub same_buffer : x.buffer ≡ buffer
  pub position : x.position ≡ record { cycle = 0; minislot = 1; slot = 1 }
  pub no_release : x.released ≡ None
  pub no_run : x.started ≡ None
  pub begun : Proper k p buffer → Begun k x

-- Plan and buffer come back as they were, with the fault.
pub record NoBench {B S : Type 0} (k : Kinds B S) (p : Plan B) (buffer : S) (e : BenchRefused B S) : Type 0 where
  pub same_plan : e.plan ≡ p
  pub same_buffer : e.buffer ≡ buffer
  pub why : Proper k p buffer → FaultOf k.book (k.meaning p.book) (rows_of p) (k.buffer buffer) e.fault

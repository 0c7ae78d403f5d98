-- The slot rules: what each call answers, and the state after it.
use Rattle.std.specs.Prelude.{◌≡◌, ℕ, ◌+◌, ◌*◌, Bool, cond, not, List, [], ◌∷◌, is_some, Some, None, Ok, Err, Option, ◌==◌, ◌≢◌, nat_le, nat_lt}
use Rattle.fields.specs.Refusals.{Check, first_reason, RefusedFor}
use Rattle.fields.specs.declared.refusal.Refusal.{Refusal}
use Rattle.fields.specs.declared.refusal.Reason.TheVariants.{NotListed, TimeNotAllowed, TooEarly, CyclesOver}
use Rattle.fields.specs.declared.refusal.Place.TheVariants as place
use Rattle.ranked.specs.Ranks.{Placed}
use Rattle.books.specs.Book.{Book}
use Rattle.buffers.specs.declared.instance.Instance.{Instance}
use Rattle.delay.specs.declared.bus.Bus.{Bus}
use Rattle.delay.specs.declared.entry.Row.{Row}
use Rattle.slots.specs.Rows.{row_of, size_of, last_start_of}
use Rattle.slots.specs.States.{State, clock, allowed}
use Rattle.slots.specs.declared.position.Position.{Position}
use Rattle.slots.specs.declared.calls.Call.{Call}
use Rattle.slots.specs.declared.calls.Call.TheVariants as call
use Rattle.slots.specs.declared.calls.Sent.{Sent}
use Rattle.slots.specs.declared.calls.SlotReport.{SlotReport}
use Rattle.slots.specs.declared.calls.Answer.{Answer}
use Rattle.slots.specs.declared.calls.Answer.TheVariants.{Released, Ran, At}

-- Slots are run in the cycles below this one.
abbrev pub cycles : ℕ
cycles = 1000000

-- The order of sending within a frame: the first is not less urgent than the second.
abbrev pub by_priority : Instance → Instance → Bool
by_priority x y = nat_le x.priority y.priority

-- A release as it waits: one of the row's message at the time.
abbrev pub instance_of : Row → ℕ → Instance
instance_of i t = record { message = i.entry.number; priority = i.entry.priority; release = t }

-- The conditions that a release is refused for, in their order.
abbrev pub release_checks : Bus → List Row → (b : Book) → State b → ℕ → ℕ → List Check
release_checks bus rows b s m t =
    record { holds = not (is_some (row_of rows m)); reason = NotListed }
    ∷ record { holds = not (allowed bus s.position s.released s.started t); reason = TimeNotAllowed }
    ∷ record { holds = nat_lt t (b.earliest s.book m); reason = TooEarly } ∷ []

-- The condition that a slot run is refused for.
abbrev pub run_checks : Position → List Check
run_checks p = record { holds = (p.cycle == cycles); reason = CyclesOver } ∷ []

-- The state after an accepted release of the row's message: it waits for the frame, behind all that are as urgent.
pub record Taken (b : Book) (s : State b) (i : Row) (t : ℕ) (s' : State b) : Type 0 where
  pub position : s'.position ≡ s.position
  pub released : s'.released ≡ Some t
  pub started : s'.started ≡ s.started
  pub book : s'.book ≡ b.after s.book i.entry.number t
  pub placed : Placed by_priority (instance_of i t) (s.waiting i.entry.frame) (s'.waiting i.entry.frame)
  pub others : (f : ℕ) → (f ≢ i.entry.frame) → s'.waiting f ≡ s.waiting f

-- The first of a list, and what stands behind it.
abbrev pub head : List Instance → Option Instance
head [] = None
head (x ∷ xs) = Some x

abbrev pub behind : List Instance → List Instance
behind [] = []
behind (x ∷ xs) = xs

-- The frame of the slot may still start in this minislot.
abbrev pub may_start : List Row → Position → Bool
may_start rows p = nat_le p.minislot (last_start_of rows p.slot)

-- What the slot sends out of what waits for its frame, and what goes on waiting.
abbrev pub sends : List Row → Position → List Instance → Option Instance
sends rows p ws = cond (may_start rows p) (head ws) None

abbrev pub keeps : List Row → Position → List Instance → List Instance
keeps rows p ws = cond (may_start rows p) (behind ws) ws

-- The minislots that the slot takes: the size of what it sends, or the one of an empty slot.
abbrev pub used : List Row → Option Instance → ℕ
used rows None = 1
used rows (Some x) = size_of rows x.message

-- What the report says of the instance that is sent from a time on.
abbrev pub sent_from : Bus → List Row → ℕ → Option Instance → Option Sent
sent_from bus rows start None = None
sent_from bus rows start (Some x) =
    Some (record { message = x.message; release = x.release; finish = start + size_of rows x.message * bus.minislot })

-- The position after a slot that took so many minislots: the next slot, or the next cycle where the segment is over.
abbrev pub onward : Bus → Position → ℕ → Position
onward bus p n =
    cond (nat_lt bus.minislots (p.minislot + n)) (record { cycle = p.cycle + 1; minislot = 1; slot = 1 })
    (record { cycle = p.cycle; minislot = p.minislot + n; slot = p.slot + 1 })

-- A slot run, its report and the state after it.
pub record SlotRun (bus : Bus) (rows : List Row) (b : Book) (s : State b) (r : SlotReport) (s' : State b) : Type 0 where
  pub cycle : r.cycle ≡ s.position.cycle
  pub slot : r.slot ≡ s.position.slot
  pub start : r.start ≡ clock bus s.position
  pub sent : r.sent ≡ sent_from bus rows (clock bus s.position) (sends rows s.position (s.waiting s.position.slot))
  pub position : s'.position ≡ onward bus s.position (used rows (sends rows s.position (s.waiting s.position.slot)))
  pub released : s'.released ≡ s.released
  pub started : s'.started ≡ Some (clock bus s.position)
  pub book : s'.book ≡ s.book
  pub frame : s'.waiting s.position.slot ≡ keeps rows s.position (s.waiting s.position.slot)
  pub others : (f : ℕ) → (f ≢ s.position.slot) → s'.waiting f ≡ s.waiting f

-- One call: the state before it, the call, its answer and the state after it. What is refused leaves the state.
pub data Step (bus : Bus) (rows : List Row) (b : Book) (s : State b) : Call → Answer → State b → Type 0 where
  accepted : {m t : ℕ} {s' : State b} (i : Row) → row_of rows m ≡ Some i → first_reason (release_checks bus rows b s m t) ≡ None → Taken b s i t s'
      → Step bus rows b s (call.Release m t) (Released (Ok tt)) s'
  refused : {m t : ℕ} {e : Refusal} {s' : State b} → RefusedFor (release_checks bus rows b s m t) place.Bench m e → s' ≡ s
      → Step bus rows b s (call.Release m t) (Released (Err e)) s'
  ran : {r : SlotReport} {s' : State b} → first_reason (run_checks s.position) ≡ None → SlotRun bus rows b s r s'
      → Step bus rows b s call.SlotRun (Ran (Ok r)) s'
  over : {e : Refusal} {s' : State b} → RefusedFor (run_checks s.position) place.Bench s.position.cycle e → s' ≡ s
      → Step bus rows b s call.SlotRun (Ran (Err e)) s'
  told : {s' : State b} → s' ≡ s → Step bus rows b s call.Position (At (s.position.cycle, s.position.minislot)) s'

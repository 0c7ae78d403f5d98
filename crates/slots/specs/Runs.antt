-- Runs: the calls of a bench since it was set up, with their answers.
use Rattle.std.specs.Prelude.{◌≡◌, ℕ, zero, suc, ◌+◌, Bool, false, cond, ◌&&◌, List, [], ◌∷◌, ◌++◌, is_ok, Some, None, Ok, Err, Option, Result, ◌==◌}
use Rattle.fields.specs.Limits.{highest}
use Rattle.fields.specs.declared.limits.Field.TheVariants.{Frame}
use Rattle.fields.specs.declared.refusal.Refusal.{Refusal}
use Rattle.books.specs.Book.{Book, Release, tally}
use Rattle.buffers.specs.declared.instance.Instance.{Instance}
use Rattle.delay.specs.declared.bus.Bus.{Bus}
use Rattle.delay.specs.declared.entry.Row.{Row}
use Rattle.slots.specs.States.{State}
use Rattle.slots.specs.Steps.{Step}
use Rattle.slots.specs.declared.calls.Call.{Call}
use Rattle.slots.specs.declared.calls.Call.TheVariants as call
use Rattle.slots.specs.declared.calls.Sent.{Sent}
use Rattle.slots.specs.declared.calls.SlotReport.{SlotReport}
use Rattle.slots.specs.declared.calls.Answer.{Answer}
use Rattle.slots.specs.declared.calls.Answer.TheVariants.{Released, Ran, At}

-- A bench as it is set up: at the first slot, nothing waits, nothing was released or run.
pub record Begins (b : Book) (s : State b) : Type 0 where
  pub position : s.position ≡ record { cycle = 0; minislot = 1; slot = 1 }
  pub released : s.released ≡ None
  pub started : s.started ≡ None
  pub waiting : (f : ℕ) → s.waiting f ≡ []

-- A call with its answer.
pub record Answered : Type 0 where
  pub call : Call
  pub answer : Answer

-- A run from a state: its calls, the newest first, and the state that it reaches.
pub data Run (bus : Bus) (rows : List Row) (b : Book) (from : State b) : List Answered → State b → Type 0 where
  none : Run bus rows b from [] from
  one_more : {xs : List Answered} {s s' : State b} {c : Call} {a : Answer} → Run bus rows b from xs s → Step bus rows b s c a s'
      → Run bus rows b from (record { call = c; answer = a } ∷ xs) s'

-- The release that a call asks for; whether an answer grants one.
abbrev pub asked : Call → List Release
asked (call.Release m t) = record { message = m; time = t } ∷ []
asked call.SlotRun = []
asked call.Position = []

abbrev pub granted : Answer → Bool
granted (Released r) = is_ok r
granted (Ran r) = false
granted (At p) = false

-- The accepted releases of a run, the newest first: those answered without refusal.
abbrev pub accepted : List Answered → List Release
accepted [] = []
accepted (x ∷ xs) = cond (granted x.answer) (asked x.call) [] ++ accepted xs

-- What an answer reports as sent.
abbrev pub sent_in : Option Sent → List Sent
sent_in None = []
sent_in (Some x) = x ∷ []

abbrev pub sent_by : Result SlotReport Refusal → List Sent
sent_by (Ok r) = sent_in r.sent
sent_by (Err e) = []

abbrev pub reported : Answer → List Sent
reported (Released r) = []
reported (Ran r) = sent_by r
reported (At p) = []

-- What a run sent, the newest first: one for each answer of a slot run that gives a message.
abbrev pub sent : List Answered → List Sent
sent [] = []
sent (x ∷ xs) = reported x.answer ++ sent xs

-- A sum over the frames from 1 up to some frame, and the last frame that there is.
unfoldable pub over_frames : (ℕ → ℕ) → ℕ → ℕ
over_frames g zero = 0
over_frames g (suc n) = g (suc n) + over_frames g n

abbrev pub last_frame : ℕ
last_frame = highest Frame

-- How many of the message and release time were accepted, were sent, and wait.
abbrev pub accepted_of : ℕ → ℕ → List Answered → ℕ
accepted_of m t xs = tally (λ x. (x.message == m) && x.time == t) (accepted xs)

abbrev pub sent_of : ℕ → ℕ → List Answered → ℕ
sent_of m t xs = tally (λ x. (x.message == m) && x.release == t) (sent xs)

abbrev pub waiting_of : ℕ → ℕ → (ℕ → List Instance) → ℕ
waiting_of m t waiting = over_frames (λ f. tally (λ x. (x.message == m) && x.release == t) (waiting f)) last_frame

-- The time of the last release of a message.
abbrev pub last_of : ℕ → List Release → Option ℕ
last_of m [] = None
last_of m (x ∷ xs) = cond (x.message == m) (Some x.time) (last_of m xs)

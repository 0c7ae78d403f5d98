-- Lists of calls, carried out on a bench one after the other.
use Rattle.std.specs.Prelude.{◌≡◌, ℕ, List, [], ◌∷◌, length}
use Rattle.slots.specs.States.{State}
use Rattle.slots.specs.Runs.{Answered}
use Rattle.slots.specs.Guarantees.{Guarantee, InOrder}
use Rattle.slots.specs.declared.calls.Call.{Call}
use Rattle.slots.specs.declared.calls.Answer.{Answer}
use Rattle.bench.specs.Benches.{Kinds, rows_in, state_of, Course}
use Rattle.bench.specs.declared.bench.Bench.{Bench}

-- A past with more calls and their answers, the newest first.
abbrev pub followed : List Answered → List Call → List Answer → List Answered
followed past [] given = past
followed past (c ∷ cs) [] = past
followed past (c ∷ cs) (a ∷ given) = followed (record { call = c; answer = a } ∷ past) cs given

-- What calls do to a bench with a past: they and their answers are its past now, by the slot rules, no frame gets or
-- loses places, and the promise of the plan holds of all calls with these.
pub record AllPromised {B S : Type 0} (k : Kinds B S) (from : State k.book) (past : List Answered) (x : Bench B S) (cs : List Call)
    (given : List Answer) (y : Bench B S) : Type 0 where
  pub course : Course k from (followed past cs given) y
  pub places : (f : ℕ) → (k.buffer y.buffer).places f ≡ (k.buffer x.buffer).places f
  pub guarantee : Guarantee y.bus (rows_in y) k.book from (state_of k y) (followed past cs given)
  pub in_order : InOrder y.bus (rows_in y) k.book from (state_of k y)

-- What a list of calls keeps: every call has its answer, bus and rows stay, and the promise whatever the past is.
pub record AllKept {B S : Type 0} (k : Kinds B S) (x : Bench B S) (cs : List Call) (given : List Answer) (y : Bench B S) : Type 0 where
  pub one_each : length given ≡ length cs
  pub same_bus : y.bus ≡ x.bus
  pub same_rows : rows_in y ≡ rows_in x
  pub promised : (from : State k.book) (past : List Answered) → Course k from past x → AllPromised k from past x cs given y

-- Lists of puts and takes, carried out one after the other: what they answer, and where they lead.
use Rattle.std.specs.Prelude.{◌≡◌, ℕ, cond, ◌&&◌, List, [], ◌∷◌, ◌++◌, is_ok, Option, Result, ◌==◌}
use Rattle.std.specs.Option.{option_to_list}
use Rattle.fields.specs.declared.refusal.Refusal.{Refusal}
use Rattle.ranked.specs.Ranks.{Ascending}
use Rattle.buffers.specs.Buffer.{Meaning, Putting, Taking, upto, of_priority}
use Rattle.buffers.specs.declared.instance.Instance.{Instance}
use Rattle.buffers.specs.declared.runs.BufferCall.{BufferCall}
use Rattle.buffers.specs.declared.runs.BufferCall.TheVariants as call
use Rattle.buffers.specs.declared.runs.BufferAnswer.{BufferAnswer}
use Rattle.buffers.specs.declared.runs.BufferAnswer.TheVariants as answer

-- Every waiting list stands in the order of priority.
abbrev pub Ordered : Meaning → Type 0
Ordered m = (f : ℕ) → Ascending upto (m.waiting f)

-- Two meanings say the same of every frame.
pub record Same (m n : Meaning) : Type 0 where
  pub places : (f : ℕ) → m.places f ≡ n.places f
  pub waiting : (f : ℕ) → m.waiting f ≡ n.waiting f

-- One call, its answer, and what the buffer means after it.
pub data Step (m : Meaning) : BufferCall → BufferAnswer → Meaning → Type 0 where
  put : {f : ℕ} {x : Instance} {r : Result Unit Refusal} {m' : Meaning} → Putting m f x r m' → Step m (call.Put f x) (answer.Put r) m'
  take : {f : ℕ} {r : Option Instance} {m' : Meaning} → Taking m f r m' → Step m (call.Take f) (answer.Take r) m'

-- Calls carried out one after the other, their answers, and what the buffer means after them. Every waiting list stands in the order
-- of priority at the start, between any two calls, and at the end.
pub data Carried : Meaning → List BufferCall → List BufferAnswer → Meaning → Type 0 where
  none : {m : Meaning} → Ordered m → Carried m [] [] m
  one_more : {m m' m'' : Meaning} {c : BufferCall} {a : BufferAnswer} {cs : List BufferCall} {as' : List BufferAnswer}
      → Ordered m → Step m c a m' → Carried m' cs as' m'' → Carried m (c ∷ cs) (a ∷ as') m''

-- The calls could not have been answered otherwise, nor led elsewhere: whatever buffer means the same at the start gets these answers
-- from them, and means the same at the end.
abbrev pub Determined : Meaning → List BufferCall → List BufferAnswer → Meaning → Type 0
Determined m cs given m' = (n n' : Meaning) (bs : List BufferAnswer) → Same m n → Carried n cs bs n' → (bs ≡ given) × Same m' n'

-- The instance that a call brings to a frame: the one that it puts, if it is accepted.
abbrev pub brought_by : ℕ → BufferCall → BufferAnswer → List Instance
brought_by f (call.Put k x) (answer.Put r) = cond (is_ok r && k == f) (x ∷ []) []
brought_by f (call.Put k x) (answer.Take o) = []
brought_by f (call.Take k) a = []

-- The instance that a call takes from a frame, if it gets one.
abbrev pub taken_by : ℕ → BufferCall → BufferAnswer → List Instance
taken_by f (call.Put k x) a = []
taken_by f (call.Take k) (answer.Put r) = []
taken_by f (call.Take k) (answer.Take o) = cond (k == f) (option_to_list o) []

-- What calls bring to a frame, and what they take from it, in the order of the calls.
abbrev pub brought : ℕ → List BufferCall → List BufferAnswer → List Instance
brought f [] given = []
brought f (c ∷ cs) [] = []
brought f (c ∷ cs) (a ∷ given) = brought_by f c a ++ brought f cs given

abbrev pub taken : ℕ → List BufferCall → List BufferAnswer → List Instance
taken f [] given = []
taken f (c ∷ cs) [] = []
taken f (c ∷ cs) (a ∷ given) = taken_by f c a ++ taken f cs given

-- Nothing is lost, doubled or changed, and instances of one priority are taken as they came: for each frame and priority, what waited at
-- the start and then what was brought is, in this order, what was taken and then what still waits.
abbrev pub NothingLost : Meaning → List BufferCall → List BufferAnswer → Meaning → Type 0
NothingLost m cs given m' =
    (f p : ℕ) → of_priority p (m.waiting f) ++ of_priority p (brought f cs given) ≡ of_priority p (taken f cs given) ++ of_priority p (m'.waiting f)

-- All that is said of calls that were carried out.
pub record Ran (m : Meaning) (cs : List BufferCall) (given : List BufferAnswer) (m' : Meaning) : Type 0 where
  pub carried : Carried m cs given m'
  pub determined : Determined m cs given m'
  pub nothing_lost : NothingLost m cs given m'

-- The lines of a table: kinds, turns and ranges.
use Rattle.std.specs.Prelude.{◌≡◌, ℕ, suc, Bool, true, false, cond, ◌&&◌, ◌⊎◌, List, [], ◌∷◌, ◌++◌, Some, None, Option, ◌==◌, slice_index}
use Rattle.books.specs.declared.periodic.PeriodicMessage.{PeriodicMessage}
use Rattle.books.specs.declared.window.WindowMessage.{WindowMessage}
use Rattle.fields.specs.Limits.{admitted}
use Rattle.fields.specs.declared.limits.Field.{Field}
use Rattle.fields.specs.declared.limits.Field.TheVariants as field
use Rattle.fields.specs.declared.refusal.Reason.TheVariants.{Malformed, OutOfRange}
use Rattle.plan.specs.declared.draft.Message.{Message}
use Rattle.texts.specs.declared.fault.LineFault.{LineFault}
use Rattle.texts.specs.Forms.{printed}
use Rattle.texts.specs.declared.line.Kind.{Kind}
use Rattle.texts.specs.declared.line.Kind.TheVariants as kind
use Rattle.texts.specs.declared.line.Phase.{Phase}
use Rattle.texts.specs.declared.line.Phase.TheVariants as phase
use Rattle.texts.specs.declared.line.Step.{Step}
use Rattle.texts.specs.declared.line.Line.{Line}
use Rattle.texts.specs.declared.line.Line.TheVariants as line

-- The kind of a line, by its letter and how many numbers it has: B with 4, N with 2, P with 8, W with 8.
abbrev pub kind_by : ℕ → ℕ → Option Kind
kind_by letter count =
    cond (letter == 66 && count == 4) (Some kind.Bus)
    (cond (letter == 78 && count == 2) (Some kind.Node)
    (cond (letter == 80 && count == 8) (Some kind.Periodic)
    (cond (letter == 87 && count == 8) (Some kind.Window) None)))

-- The turn of the lines: the bus, then nodes, then messages.
abbrev pub next_phase : Phase → Kind → Option Phase
next_phase phase.Bus kind.Bus = Some phase.Nodes
next_phase phase.Bus kind.Node = None
next_phase phase.Bus kind.Periodic = None
next_phase phase.Bus kind.Window = None
next_phase phase.Nodes kind.Bus = None
next_phase phase.Nodes kind.Node = Some phase.Nodes
next_phase phase.Nodes kind.Periodic = Some phase.Messages
next_phase phase.Nodes kind.Window = Some phase.Messages
next_phase phase.Messages kind.Bus = None
next_phase phase.Messages kind.Node = None
next_phase phase.Messages kind.Periodic = Some phase.Messages
next_phase phase.Messages kind.Window = Some phase.Messages

-- The numbers that messages of both kinds begin with, and their fields.
abbrev pub values_of_message : Message → List ℕ
values_of_message m = m.number ∷ m.frame ∷ m.node ∷ m.priority ∷ m.size ∷ m.deadline ∷ []

abbrev pub message_fields : List Field
message_fields = field.Message ∷ field.Frame ∷ field.Node ∷ field.Priority ∷ field.Size ∷ field.Deadline ∷ []

-- The numbers of a line, in their order.
abbrev pub values_of : Line → List ℕ
values_of (line.Bus g s l q) = g ∷ s ∷ l ∷ q ∷ []
values_of (line.Node n a) = n ∷ a ∷ []
values_of (line.Periodic m t j) = values_of_message m ++ (t ∷ j ∷ [])
values_of (line.Window m n w) = values_of_message m ++ (n ∷ w ∷ [])

-- The kind of a line, and the fields of its numbers.
abbrev pub kind_of : Line → Kind
kind_of (line.Bus g s l q) = kind.Bus
kind_of (line.Node n a) = kind.Node
kind_of (line.Periodic m t j) = kind.Periodic
kind_of (line.Window m n w) = kind.Window

abbrev pub fields_of : Kind → List Field
fields_of kind.Bus = field.Cycle ∷ field.Offset ∷ field.Minislot ∷ field.Minislots ∷ []
fields_of kind.Node = field.Node ∷ field.LastStart ∷ []
fields_of kind.Periodic = message_fields ++ (field.Period ∷ field.Jitter ∷ [])
fields_of kind.Window = message_fields ++ (field.Releases ∷ field.Window ∷ [])

-- Values from a place on are each in the range of their field.
abbrev pub all_admitted : List Field → List ℕ → ℕ → Bool
all_admitted [] vs k = true
all_admitted (f ∷ fs) vs k = admitted f (slice_index vs k) && all_admitted fs vs (suc k)

-- The values that stand at as many places as there are fields.
abbrev pub firsts : {X : Type 0} → List X → List ℕ → ℕ → List ℕ
firsts [] vs k = []
firsts (f ∷ fs) vs k = slice_index vs k ∷ firsts fs vs (suc k)

-- The line of a kind with these values, all in range.
pub record Figures (k : Kind) (vs : List ℕ) (l : Line) : Type 0 where
  pub same_kind : kind_of l ≡ k
  pub same_values : values_of l ≡ firsts (fields_of k) vs 0
  pub within_range : all_admitted (fields_of k) vs 0 ≡ true

-- Some value is out of its range.
abbrev pub OutOf : Kind → List ℕ → Type 0
OutOf k vs = all_admitted (fields_of k) vs 0 ≡ false

-- The message of a P or a W line.
abbrev pub message_of_line : Line → List Message
message_of_line (line.Bus g s l q) = []
message_of_line (line.Node n a) = []
message_of_line (line.Periodic m t j) = m ∷ []
message_of_line (line.Window m n w) = m ∷ []

-- The message of a P line and of a W line, as a book lists it.
abbrev pub periodic_of_line : Line → List PeriodicMessage
periodic_of_line (line.Bus g s l q) = []
periodic_of_line (line.Node n a) = []
periodic_of_line (line.Periodic m t j) = record { number = m.number; period = t; jitter = j } ∷ []
periodic_of_line (line.Window m n w) = []

abbrev pub window_of_line : Line → List WindowMessage
window_of_line (line.Bus g s l q) = []
window_of_line (line.Node n a) = []
window_of_line (line.Periodic m t j) = []
window_of_line (line.Window m n w) = record { number = m.number; releases = n; window = w } ∷ []

-- The letter of a line, and its text without the line feed.
abbrev pub letter_of : Line → ℕ
letter_of (line.Bus g s l q) = 66
letter_of (line.Node n a) = 78
letter_of (line.Periodic m t j) = 80
letter_of (line.Window m n w) = 87

abbrev pub line_text : Line → List ℕ
line_text l = printed (letter_of l) (values_of l)

-- Every number of the line is in its range.
abbrev pub fits : Line → Bool
fits l = all_admitted (fields_of (kind_of l)) (values_of l) 0

-- The bytes are the text of the line, and it is in turn.
pub record InTurn (bytes : List ℕ) (p : Phase) (l : Line) (next : Phase) : Type 0 where
  pub text : bytes ≡ line_text l
  pub turn : next_phase p (kind_of l) ≡ Some next

-- What is read of the bytes: a line in turn, with its numbers in range.
pub record LineRead (bytes : List ℕ) (p : Phase) (s : Step) : Type 0 where
  pub its_turn : InTurn bytes p s.line s.next
  pub within_range : fits s.line ≡ true

-- The bytes are the text of no line, of whatever numbers, that is in turn.
abbrev pub IsMalformedHere : List ℕ → Phase → Type 0
IsMalformedHere bytes p = (l : Line) (next : Phase) → InTurn bytes p l next → ⊥

-- The bytes are the text of a line in turn, with a number out of its range.
pub record IsOutOfRange (bytes : List ℕ) (p : Phase) : Type 0 where
  pub line : Line
  pub next : Phase
  pub its_turn : InTurn bytes p line next
  pub out : fits line ≡ false

-- Why the bytes are refused, at the line of that number: malformed or out of turn, or out of range.
abbrev pub LineRefused : List ℕ → Phase → ℕ → LineFault → Type 0
LineRefused bytes p n e = (e.line ≡ n) × (((e.reason ≡ Malformed) × IsMalformedHere bytes p) ⊎ ((e.reason ≡ OutOfRange) × IsOutOfRange bytes p))

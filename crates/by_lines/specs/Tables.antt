-- A table text: its mark, then its lines, each accepted after those before it; and the first fault of a text.
use Rattle.std.specs.Prelude.{◌≡◌, ℕ, ◌+◌, ◌-◌, ◌*◌, ◌<◌, ◌≤◌, Bool, false, cond, not, ◌&&◌, ◌⊎◌, List, [], ◌∷◌, ◌++◌, length, is_some, Some, None, Option, ◌==◌, ◌≢◌, nat_lt, slice_index}
use Rattle.std.specs.Option.{unwrap_or}
use Rattle.fields.specs.Refusals.{Check, first_reason}
use Rattle.fields.specs.declared.refusal.Reason.{Reason}
use Rattle.fields.specs.declared.refusal.Reason.TheVariants.{TextTooLong, WrongFirstLine, Malformed, OutOfRange, NumberUsed, NodeUnknown, SegmentTooLong, FrameOfAnotherNode, PriorityUsed, SizeTooLong, FrameAfterLastStart}
use Rattle.plan.specs.Entries.{some}
use Rattle.plan.specs.declared.draft.Message.{Message}
use Rattle.texts.specs.Lines.{kind_of, next_phase, fits, line_text}
use Rattle.texts.specs.declared.line.Line.{Line}
use Rattle.texts.specs.declared.line.Line.TheVariants as line
use Rattle.texts.specs.declared.line.Phase.{Phase}
use Rattle.texts.specs.declared.line.Phase.TheVariants as phase

-- The first line of a table: FDT 0001, with its line feed.
abbrev pub mark : List ℕ
mark = 70 ∷ 68 ∷ 84 ∷ 32 ∷ 48 ∷ 48 ∷ 48 ∷ 49 ∷ 10 ∷ []

-- The most bytes that a text may have.
abbrev pub longest_text : ℕ
longest_text = 16384

-- Lines one after the other, each with its line feed.
abbrev pub lines_text : List Line → List ℕ
lines_text [] = []
lines_text (l ∷ ls) = line_text l ++ 10 ∷ lines_text ls

-- The text of a table of these lines.
abbrev pub table_text : List Line → List ℕ
table_text ls = mark ++ lines_text ls

-- The messages of the lines, in their order.
abbrev pub messages_of : List Line → List Message
messages_of [] = []
messages_of (line.Bus g s l q ∷ ls) = messages_of ls
messages_of (line.Node n a ∷ ls) = messages_of ls
messages_of (line.Periodic m t j ∷ ls) = m ∷ messages_of ls
messages_of (line.Window m n w ∷ ls) = m ∷ messages_of ls

-- A: the last start of a node, where one of the lines gives it.
abbrev pub start_of : List Line → ℕ → Option ℕ
start_of [] n = None
start_of (line.Bus g s l q ∷ ls) n = start_of ls n
start_of (line.Node k a ∷ ls) n = cond (k == n) (Some a) (start_of ls n)
start_of (line.Periodic m t j ∷ ls) n = start_of ls n
start_of (line.Window m k w ∷ ls) n = start_of ls n

-- Q: the minislots of the bus line, which comes first.
abbrev pub minislots_of : List Line → ℕ
minislots_of [] = 0
minislots_of (line.Bus g s l q ∷ ls) = q
minislots_of (line.Node n a ∷ ls) = 0
minislots_of (line.Periodic m t j ∷ ls) = 0
minislots_of (line.Window m n w ∷ ls) = 0

-- What comes after these lines: first the bus line, then nodes until the first message, then messages.
abbrev pub phase_of : List Message → Phase
phase_of [] = phase.Nodes
phase_of (m ∷ ms) = phase.Messages

abbrev pub phase_after : List Line → Phase
phase_after [] = phase.Bus
phase_after (l ∷ ls) = phase_of (messages_of (l ∷ ls))

-- The line is in turn after these lines.
abbrev pub in_turn : List Line → Line → Bool
in_turn before l = is_some (next_phase (phase_after before) (kind_of l))

-- An earlier message has the number; has the frame, at another node; has the frame and the priority.
abbrev pub same_number : Message → Message → Bool
same_number m o = o.number == m.number

abbrev pub other_node : Message → Message → Bool
other_node m o = o.frame == m.frame && not (o.node == m.node)

abbrev pub same_priority : Message → Message → Bool
same_priority m o = o.frame == m.frame && o.priority == m.priority

-- The conditions that refuse a message after these lines, in the order of checking.
abbrev pub message_rules : List Line → Message → List Check
message_rules before m =
    record { holds = some (same_number m) (messages_of before); reason = NumberUsed }
    ∷ record { holds = not (is_some (start_of before m.node)); reason = NodeUnknown }
    ∷ record { holds = some (other_node m) (messages_of before); reason = FrameOfAnotherNode }
    ∷ record { holds = some (same_priority m) (messages_of before); reason = PriorityUsed }
    ∷ record { holds = nat_lt (minislots_of before) (unwrap_or (start_of before m.node) 0 + m.size - 1); reason = SizeTooLong }
    ∷ record { holds = nat_lt (unwrap_or (start_of before m.node) 0) m.frame; reason = FrameAfterLastStart } ∷ []

-- The conditions that refuse what a line says, after these lines.
abbrev pub table_rules : List Line → Line → List Check
table_rules before (line.Bus g s l q) = record { holds = nat_lt g (s + q * l); reason = SegmentTooLong } ∷ []
table_rules before (line.Node n a) = record { holds = is_some (start_of before n); reason = NumberUsed } ∷ []
table_rules before (line.Periodic m t j) = message_rules before m
table_rules before (line.Window m n w) = message_rules before m

-- All conditions that refuse a line after these lines: its turn, its ranges, and then what it says.
abbrev pub line_rules : List Line → Line → List Check
line_rules before l =
    record { holds = not (in_turn before l); reason = Malformed } ∷ record { holds = not (fits l); reason = OutOfRange } ∷ table_rules before l

-- Every one of the lines is accepted after all those before it.
abbrev pub AllAccepted : List Line → List Line → Type 0
AllAccepted before [] = Unit {0}
AllAccepted before (l ∷ ls) = (first_reason (line_rules before l) ≡ None) × AllAccepted (before ++ l ∷ []) ls

-- The text is the printed form of a table of these lines, all of them accepted. The bus line is among them.
pub record TableOf (text : List ℕ) (ls : List Line) : Type 0 where
  pub printed : text ≡ table_text ls
  pub short : length text ≤ longest_text
  pub begun : 0 < length ls
  pub accepted : AllAccepted [] ls

-- The bytes hold no line feed.
abbrev pub OneLine : List ℕ → Type 0
OneLine bs = (k : ℕ) → k < length bs → slice_index bs k ≢ 10

-- A line is due after these lines: something of the text is left, or the bus line has not come.
abbrev pub Due : List Line → List ℕ → Type 0
Due before rest = (0 < length rest) ⊎ (before ≡ [])

-- Why the text that is left after these lines does not begin with a line that is accepted after them.
pub data NextFault (before : List Line) (rest : List ℕ) : Reason → Type 0 where
  -- no line feed ends the line that is due
  unended : OneLine rest → Due before rest → NextFault before rest Malformed
  -- its first line is the printed form of no line that is in turn
  unformed : (bytes more : List ℕ) → rest ≡ bytes ++ 10 ∷ more → OneLine bytes → ((l : Line) → bytes ≡ line_text l → in_turn before l ≡ false)
      → NextFault before rest Malformed
  -- its first line is the printed form of a line that is refused
  refused : (l : Line) (more : List ℕ) (r : Reason) → rest ≡ line_text l ++ 10 ∷ more → first_reason (line_rules before l) ≡ Some r → NextFault before rest r

-- The first fault of a text: its reason, and the number of its line. The mark is line 1.
pub data FaultOf (text : List ℕ) : Reason → ℕ → Type 0 where
  too_long : longest_text < length text → FaultOf text TextTooLong 0
  unmarked : length text ≤ longest_text → ((rest : List ℕ) → text ≢ mark ++ rest) → FaultOf text WrongFirstLine 1
  at_line : (before : List Line) (rest : List ℕ) (r : Reason) → length text ≤ longest_text → text ≡ table_text before ++ rest → AllAccepted [] before
      → NextFault before rest r → FaultOf text r (length before + 2)

-- Reading a table text line by line, whatever is kept of its lines.
use Rattle.std.specs.Prelude.{◌≡◌, ℕ, ◌+◌, ◌<◌, ◌≤◌, true, ◌⊎◌, List, [], ◌∷◌, ◌++◌, length, Some, ◌≢◌, slice_index}
use Rattle.fields.specs.Refusals.{Check, first_reason}
use Rattle.fields.specs.declared.refusal.Reason.TheVariants.{TextTooLong, WrongFirstLine, Malformed}
use Rattle.plan.specs.Drafts.{bus_checks, Begun, node_checks, NodeAdded, message_checks, MessageAdded}
use Rattle.plan.specs.declared.draft.Draft.{Draft}
use Rattle.texts.specs.Lines.{LineRead, LineRefused}
use Rattle.texts.specs.declared.fault.LineFault.{LineFault}
use Rattle.texts.specs.declared.fault.TableFault.{TableFault}
use Rattle.texts.specs.declared.fault.TableFault.TheVariants as fault
use Rattle.texts.specs.declared.line.Line.{Line}
use Rattle.texts.specs.declared.line.Line.TheVariants as line
use Rattle.texts.specs.declared.line.Phase.{Phase}
use Rattle.texts.specs.declared.line.Phase.TheVariants as phase
use Rattle.texts.specs.declared.line.Step.{Step}

-- The first line of a table: FDT 0001, with its line feed.
abbrev pub mark : List ℕ
mark = 70 ∷ 68 ∷ 84 ∷ 32 ∷ 48 ∷ 48 ∷ 48 ∷ 49 ∷ 10 ∷ []

-- The most bytes that a text may have.
abbrev pub longest_text : ℕ
longest_text = 16384

-- The text is not too long and begins with its mark; this is the rest.
pub record Marked (text rest : List ℕ) : Type 0 where
  pub begins : text ≡ mark ++ rest
  pub short : length text ≤ longest_text

-- The text is too long, at line 0; or it does not begin with its mark, at line 1.
abbrev pub Unmarked : List ℕ → LineFault → Type 0
Unmarked text e =
    ((e.reason ≡ TextTooLong) × (e.line ≡ 0) × (longest_text < length text))
    ⊎ ((e.reason ≡ WrongFirstLine) × (e.line ≡ 1) × (length text ≤ longest_text) × ((rest : List ℕ) → text ≢ mark ++ rest))

-- Refused at the line for the first of these checks that holds, or no memory was left.
abbrev pub RefusedAt : List Check → ℕ → TableFault → Type 0
RefusedAt cs n (fault.Refused f) = (f.line ≡ n) × (first_reason cs ≡ Some f.reason)
RefusedAt cs n fault.Memory = Unit {0}

abbrev pub bus_line_checks : Line → List Check
bus_line_checks (line.Bus g s l q) = bus_checks g s l q
bus_line_checks (line.Node n a) = record { holds = true; reason = Malformed } ∷ []
bus_line_checks (line.Periodic m p j) = record { holds = true; reason = Malformed } ∷ []
bus_line_checks (line.Window m n w) = record { holds = true; reason = Malformed } ∷ []

-- A draft of the bus line alone.
abbrev pub BusDrafted : Line → Draft → Type 0
BusDrafted (line.Bus g s l q) d = Begun d g s l q
BusDrafted (line.Node n a) d = ⊥
BusDrafted (line.Periodic m p j) d = ⊥
BusDrafted (line.Window m n w) d = ⊥

-- The checks of a line: those of the draft's call that it makes. A bus line comes once.
abbrev pub noting_checks : Draft → Line → List Check
noting_checks d (line.Bus g s l q) = record { holds = true; reason = Malformed } ∷ []
noting_checks d (line.Node n a) = node_checks d n a
noting_checks d (line.Periodic m p j) = message_checks d m
noting_checks d (line.Window m n w) = message_checks d m

-- The draft with what one line more says.
abbrev pub Noted : Draft → Draft → Line → Type 0
Noted old new (line.Bus g s l q) = ⊥
Noted old new (line.Node k a) = NodeAdded old new k a
Noted old new (line.Periodic m p j) = MessageAdded old new m
Noted old new (line.Window m k w) = MessageAdded old new m

-- The bytes hold no line feed.
abbrev pub OneLine : List ℕ → Type 0
OneLine bs = (k : ℕ) → k < length bs → slice_index bs k ≢ 10

-- What is read of a text up to the line of a number: the phase that it comes to, the table so far, and the rest.
pub data ReadUpTo {T : Type 0} (Begins : Line → T → Type 0) (Adds : T → T → Line → ℕ → Type 0) (text : List ℕ) : ℕ → Phase → T → List ℕ → Type 0 where
  bus_line : (bytes rest : List ℕ) (s : Step) (t : T) → Marked text (bytes ++ 10 ∷ rest) → OneLine bytes → LineRead bytes phase.Bus s
      → Begins s.line t → ReadUpTo Begins Adds text 3 s.next t rest
  next_line : (n : ℕ) (p : Phase) (t : T) (bytes rest whole : List ℕ) (s : Step) (t' : T) → ReadUpTo Begins Adds text n p t whole
      → whole ≡ bytes ++ 10 ∷ rest → OneLine bytes → LineRead bytes p s → Adds t t' s.line n → ReadUpTo Begins Adds text (n + 1) s.next t' rest

-- The table of a text: all of it is read.
pub record TableOf {T : Type 0} (Begins : Line → T → Type 0) (Adds : T → T → Line → ℕ → Type 0) (text : List ℕ) (t : T) : Type 0 where
  pub lines : ℕ
  pub phase : Phase
  pub read : ReadUpTo Begins Adds text lines phase t []

-- The first fault of a text, in the order of reading: its length and its mark, the bus line, then line by line the line
-- feed, what the line says, and the draft's checks.
pub data FirstFault {T : Type 0} (Begins : Line → T → Type 0) (Adds : T → T → Line → ℕ → Type 0) (checks : T → Line → List Check) (text : List ℕ) : TableFault → Type 0 where
  no_memory : FirstFault Begins Adds checks text fault.Memory
  unmarked : (f : LineFault) → Unmarked text f → FirstFault Begins Adds checks text (fault.Refused f)
  no_bus_line : (rest : List ℕ) → Marked text rest → OneLine rest → FirstFault Begins Adds checks text (fault.Refused (record { reason = Malformed; line = 2 }))
  bus_refused : (bytes rest : List ℕ) (f : LineFault) → Marked text (bytes ++ 10 ∷ rest) → OneLine bytes → LineRefused bytes phase.Bus 2 f
      → FirstFault Begins Adds checks text (fault.Refused f)
  bus_unchecked : (bytes rest : List ℕ) (s : Step) (e : TableFault) → Marked text (bytes ++ 10 ∷ rest) → OneLine bytes → LineRead bytes phase.Bus s
      → RefusedAt (bus_line_checks s.line) 2 e → FirstFault Begins Adds checks text e
  no_line_feed : (n : ℕ) (p : Phase) (t : T) (whole : List ℕ) → ReadUpTo Begins Adds text n p t whole → 0 < length whole → OneLine whole
      → FirstFault Begins Adds checks text (fault.Refused (record { reason = Malformed; line = n }))
  line_refused : (n : ℕ) (p : Phase) (t : T) (bytes rest whole : List ℕ) (f : LineFault) → ReadUpTo Begins Adds text n p t whole
      → whole ≡ bytes ++ 10 ∷ rest → OneLine bytes → LineRefused bytes p n f → FirstFault Begins Adds checks text (fault.Refused f)
  line_unchecked : (n : ℕ) (p : Phase) (t : T) (bytes rest whole : List ℕ) (s : Step) (e : TableFault) → ReadUpTo Begins Adds text n p t whole
      → whole ≡ bytes ++ 10 ∷ rest → OneLine bytes → LineRead bytes p s → RefusedAt (checks t s.line) n e → FirstFault Begins Adds checks text e

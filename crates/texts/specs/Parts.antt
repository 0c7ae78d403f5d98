-- Where the lines of a text begin.
use Rattle.std.specs.Prelude.{◌≡◌, ℕ, ◌+◌, ◌<◌, ◌⊎◌, List, [], ◌∷◌, ◌++◌, length, drop}
use Rattle.texts.specs.Readers.{OneLine}
use Rattle.texts.specs.declared.fault.TableFault.TheVariants as fault
use Rattle.texts.specs.declared.fault.RunFault.{RunFault}
use Rattle.texts.specs.declared.fault.RunFault.TheVariants as run

-- The line of a number begins at a place: line 1 at the start, each other after a line feed. A line past the end begins
-- at the end.
pub data Starts (text : List ℕ) : ℕ → ℕ → Type 0 where
  first : Starts text 1 0
  next : (n s : ℕ) (line rest : List ℕ) → Starts text n s → drop s text ≡ line ++ 10 ∷ rest → OneLine line → Starts text (n + 1) (s + (length line + 1))
  last : (n s : ℕ) → Starts text n s → OneLine (drop s text) → Starts text (n + 1) (length text)

-- The line that begins at a place: the bytes up to the next line feed, or to the end.
pub record LineAt (text : List ℕ) (start : ℕ) (bytes : List ℕ) : Type 0 where
  pub rest : List ℕ
  pub parts : drop start text ≡ bytes ++ rest
  pub one_line : OneLine bytes
  pub ends : (rest ≡ []) ⊎ ((more : List ℕ) × (rest ≡ 10 ∷ more))

-- The part of the text that is the line of a number; line 0 is the empty part at the start.
pub record PartOf (text : List ℕ) (line start : ℕ) (bytes : List ℕ) : Type 0 where
  pub none : line ≡ 0 → (start ≡ 0) × (bytes ≡ [])
  pub some : 0 < line → Starts text line start × LineAt text start bytes

-- A want of memory is no fault of a line.
abbrev pub fault_memory : RunFault
fault_memory = run.Table fault.Memory

-- The part of the table text that is a fault's line.
abbrev pub FaultyPart : List ℕ → RunFault → ℕ → ℕ → List ℕ → Type 0
FaultyPart text (run.Table (fault.Refused f)) line start bytes = (line ≡ f.line) × PartOf text f.line start bytes
FaultyPart text (run.Table fault.Memory) line start bytes = ⊥

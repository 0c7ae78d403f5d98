-- A table text and its faults.
use Rattle.std.specs.Prelude.{◌≡◌, ℕ, List, [], ◌∷◌, ◌++◌, vec_items}
use Rattle.fields.specs.Refusals.{Check}
use Rattle.plan.specs.Drafts.{Begun, NodeAdded, MessageAdded}
use Rattle.plan.specs.declared.draft.Message.{Message}
use Rattle.texts.specs.declared.fault.TableFault.{TableFault}
use Rattle.texts.specs.Readers as readers
use Rattle.texts.specs.declared.line.Line.{Line}
use Rattle.texts.specs.declared.line.Line.TheVariants as line
use Rattle.texts.specs.declared.line.Phase.{Phase}
use Rattle.texts.specs.declared.table.Table.{Table}

-- The checks of a line: those of the draft's call that it makes. A bus line comes once.
abbrev pub checks_of : Table → Line → List Check
checks_of t l = readers.noting_checks t.draft l

-- The table with one message more, of the line.
pub record MessageRead (old new : Table) (m : Message) (n : ℕ) : Type 0 where
  pub draft : MessageAdded old.draft new.draft m
  pub origins : vec_items new.origins ≡ vec_items old.origins ++ record { message = m.number; line = n } ∷ []

-- The table with one line more: what the line says, and nothing else.
abbrev pub LineAdded : Table → Table → Line → ℕ → Type 0
LineAdded old new (line.Bus g s l q) n = ⊥
LineAdded old new (line.Node k a) n =
    NodeAdded old.draft new.draft k a × (vec_items new.periodic ≡ vec_items old.periodic) × (vec_items new.window ≡ vec_items old.window)
    × (vec_items new.origins ≡ vec_items old.origins)
LineAdded old new (line.Periodic m p j) n =
    MessageRead old new m n × (vec_items new.periodic ≡ vec_items old.periodic ++ record { number = m.number; period = p; jitter = j } ∷ [])
    × (vec_items new.window ≡ vec_items old.window)
LineAdded old new (line.Window m k w) n =
    MessageRead old new m n × (vec_items new.periodic ≡ vec_items old.periodic)
    × (vec_items new.window ≡ vec_items old.window ++ record { number = m.number; releases = k; window = w } ∷ [])

-- A table of the bus line alone.
abbrev pub BusRead : Line → Table → Type 0
BusRead (line.Bus g s l q) t = Begun t.draft g s l q × (vec_items t.periodic ≡ []) × (vec_items t.window ≡ []) × (vec_items t.origins ≡ [])
BusRead (line.Node n a) t = ⊥
BusRead (line.Periodic m p j) t = ⊥
BusRead (line.Window m n w) t = ⊥

-- What is read of a text up to the line of a number: the phase that it comes to, the table so far, and the rest.
abbrev pub ReadUpTo : List ℕ → ℕ → Phase → Table → List ℕ → Type 0
ReadUpTo = readers.ReadUpTo BusRead LineAdded

-- The table of a text: all of it is read.
abbrev pub TableOf : List ℕ → Table → Type 0
TableOf = readers.TableOf BusRead LineAdded

-- The first fault of a text, in the order of reading.
abbrev pub FirstFault : List ℕ → TableFault → Type 0
FirstFault = readers.FirstFault BusRead LineAdded checks_of

-- The line of a table that gives a message.
use Rattle.std.specs.Prelude.{ℕ, ◌+◌, Bool, false, cond, List, [], ◌∷◌, ◌==◌}
use Rattle.fields.specs.declared.refusal.MakingFault.{MakingFault}
use Rattle.fields.specs.declared.refusal.MakingFault.TheVariants as making
use Rattle.texts.specs.declared.fault.TableFault.{TableFault}
use Rattle.texts.specs.declared.fault.TableFault.TheVariants as fault
use Rattle.texts.specs.declared.line.Line.{Line}
use Rattle.texts.specs.declared.line.Line.TheVariants as line

-- The line gives the message of that number.
abbrev pub gives : ℕ → Line → Bool
gives m (line.Bus g s l q) = false
gives m (line.Node n a) = false
gives m (line.Periodic o t j) = o.number == m
gives m (line.Window o n w) = o.number == m

-- The number of the line that gives a message, where the lines are numbered from some number on; 0 where none gives it.
abbrev pub line_from : ℕ → List Line → ℕ → ℕ
line_from n [] m = 0
line_from n (l ∷ ls) m = cond (gives m l) n (line_from (n + 1) ls m)

-- The same of the lines of a table. The mark is line 1.
abbrev pub line_of : List Line → ℕ → ℕ
line_of ls m = line_from 2 ls m

-- Why a plan was not made, at the line of the message that this concerns.
abbrev pub fault_of_making : List Line → MakingFault → TableFault
fault_of_making ls (making.Refused e) = fault.Refused (record { reason = e.reason; line = line_of ls e.concerns })
fault_of_making ls making.Memory = fault.Memory

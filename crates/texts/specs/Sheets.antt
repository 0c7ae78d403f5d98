-- The text of a sheet, and of a fault.
use Rattle.std.specs.Prelude.{ℕ, cond, List, [], ◌∷◌, ◌++◌, ◌==◌}
use Rattle.std.specs.List.{flat_map}
use Rattle.fields.specs.Refusals.{number_of}
use Rattle.delay.specs.declared.entry.Row.{Row}
use Rattle.texts.specs.Forms.{decimal, fields}
use Rattle.fields.specs.declared.refusal.Refusal.{Refusal}
use Rattle.fields.specs.declared.refusal.MakingFault.{MakingFault}
use Rattle.fields.specs.declared.refusal.MakingFault.TheVariants as making
use Rattle.texts.specs.declared.fault.LineFault.{LineFault}
use Rattle.texts.specs.declared.fault.TableFault.{TableFault}
use Rattle.texts.specs.declared.fault.TableFault.TheVariants as fault
use Rattle.texts.specs.declared.table.Origin.{Origin}

-- The first line of a sheet: FDS 0001, with its line feed.
abbrev pub sheet_mark : List ℕ
sheet_mark = 70 ∷ 68 ∷ 83 ∷ 32 ∷ 48 ∷ 48 ∷ 48 ∷ 49 ∷ 10 ∷ []

-- A line of the sheet: number, frame, delay, response.
abbrev pub text_of_row : Row → List ℕ
text_of_row r = decimal r.entry.number ++ fields (r.entry.frame ∷ r.delay ∷ r.response ∷ []) (10 ∷ [])

-- The whole sheet.
abbrev pub text_of_sheet : List Row → List ℕ
text_of_sheet rows = sheet_mark ++ flat_map text_of_row rows

-- What is printed of a fault: E, its number and its line.
abbrev pub text_of_fault : LineFault → List ℕ
text_of_fault f = 69 ∷ fields (number_of f.reason ∷ f.line ∷ []) (10 ∷ [])

-- The line of a message; 0 where no line has it.
abbrev pub line_in : List Origin → ℕ → ℕ
line_in [] m = 0
line_in (o ∷ os) m = cond (o.message == m) o.line (line_in os m)

-- A refusal that concerns a message, at that message's line.
abbrev pub fault_at_message : List Origin → Refusal → TableFault
fault_at_message os e = fault.Refused (record { reason = e.reason; line = line_in os e.concerns })

abbrev pub fault_of_making : List Origin → MakingFault → TableFault
fault_of_making os (making.Refused e) = fault_at_message os e
fault_of_making os making.Memory = fault.Memory

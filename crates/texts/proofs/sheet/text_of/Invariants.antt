use Rattle.std.proofs.Common.{◌≡◌, ◌≤◌, length, take, string_bytes}
use Rattle.texts.specs.Sheets.{text_of_sheet}
use Rattle.texts.proofs.sheet.text_of.Given as goal

abbrev pub invariant-loop-row : goal.invariant-loop-row
invariant-loop-row l = (l.row-index ≤ length l.rows) × (string_bytes l.text ≡ text_of_sheet (take l.row-index l.rows))

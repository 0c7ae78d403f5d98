use Rattle.std.proofs.Common.{◌≡◌, ◌≤◌, length, take, string_bytes}
use Rattle.by_lines.specs.Tables.{table_text}
use Rattle.answers.proofs.print.print_table.Given as goal

abbrev pub invariant-loop-line : goal.invariant-loop-line
invariant-loop-line l = (l.line-index ≤ length l.line-items) × (string_bytes l.text ≡ table_text (take l.line-index l.line-items))

use Rattle.std.proofs.Common.{◌≡◌, ◌≤◌, [], ◌++◌, length, take, string_bytes}
use Rattle.texts.specs.Forms.{fields}
use Rattle.answers.proofs.print.printed_line.Given as goal

abbrev pub invariant-loop-value : goal.invariant-loop-value
invariant-loop-value l = (l.value-index ≤ length l.values) × (string_bytes l.text ≡ l.letter ++ fields (take l.value-index l.values) [])

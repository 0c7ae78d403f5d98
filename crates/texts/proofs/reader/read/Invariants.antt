use Rattle.std.proofs.Common.{◌+◌, ◌≤◌, length}
use Rattle.texts.specs.Readers.{ReadUpTo}
use Rattle.texts.proofs.reader.read.Given as goal

abbrev pub invariant-loop-number : goal.invariant-loop-number
invariant-loop-number g l =
    (l.number + length l.rest ≤ 16387) × ReadUpTo g.T.TableText.begins g.T.TableText.adds l.text l.number l.phase l.table l.rest

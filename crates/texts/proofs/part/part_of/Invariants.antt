use Rattle.texts.proofs.Starting.{RestFrom}
use Rattle.texts.proofs.part.part_of.Given as goal

abbrev pub invariant-loop-number : goal.invariant-loop-number
invariant-loop-number l = RestFrom l.text l.number l.rest

use Rattle.std.proofs.Common.{refl}
use Rattle.slots.proofs.Holds.{delays_hold}
use Rattle.slots.proofs.Determines.{one_answer}
use Rattle.slots.proofs.rules.first_position.Goals as goal

pub returns : goal.returns
returns g c = record {
  begins = refl;
  delays = delays_hold g.B.ReleaseBook.book g.met.B.ReleaseBook.lawful;
  answers = one_answer g.B.ReleaseBook.book;
}

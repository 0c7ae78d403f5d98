use Rattle.std.proofs.Common.{refl}
use Rattle.worked.proofs.Worked.{worked}
use Rattle.worked.proofs.sheet_cases.Goals as goal

pub returns : goal.returns
returns c = record { count = refl; answered = worked }

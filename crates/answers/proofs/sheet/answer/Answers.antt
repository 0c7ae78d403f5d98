use Rattle.answers.proofs.OneAnswer.{made_only}
use Rattle.answers.proofs.Order.{ordered}
use Rattle.answers.proofs.sheet.answer.Goals as goal

pub returns : goal.returns
returns c = record { only = made_only c.args.text.now c.sheet.result c.sheet.ensures; order = ordered }

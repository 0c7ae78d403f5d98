use Rattle.std.proofs.Common.{rules}
use Rattle.texts.proofs.Decimal.{written}
use Rattle.answers.proofs.print.field_text.Goals as goal

pub returns : goal.returns
returns c = search (rules, written)

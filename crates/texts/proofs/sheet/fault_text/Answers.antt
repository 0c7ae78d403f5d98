use Rattle.std.proofs.Common.{rules}
use Rattle.texts.proofs.Decimal.{written}
use Rattle.texts.proofs.sheet.fault_text.Goals as goal

pub returns : goal.returns
returns c = search (rules, written)

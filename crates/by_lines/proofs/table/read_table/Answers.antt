use Rattle.std.proofs.lemmas.Result.{MatchResult-weaker}
use Rattle.by_lines.proofs.Readings.{table_held, fault_told}
use Rattle.by_lines.proofs.table.read_table.Goals as goal

pub returns : goal.returns
returns c = MatchResult-weaker c.read.result c.read.ensures (table_held c.args.text.now) (fault_told c.args.text.now)

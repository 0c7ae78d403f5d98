use Rattle.std.proofs.Common.{rules}
use Rattle.slots.specs.Rows.{last_start_of, size_of}
use Rattle.bench.proofs.set_up.tables_of.Goals as goal

pub returns : goal.returns
returns c = record {
  starts = c.in_ok-starts.ensures (last_start_of c.args.rows.now) (λ n m called. search rules);
  sizes = c.in_ok-sizes.ensures (size_of c.args.rows.now) (λ n m called. search rules);
}

use Rattle.fields.proofs.Table.{agrees}
use Rattle.fields.proofs.limits.limits_of.Goals as goal

pub returns : goal.returns
returns c = let a = agrees c.args.field (record { low = 0; high = 0 }) in rw c.place.ensures (record { low = a.0; high = a.1 })

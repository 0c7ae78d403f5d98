use Rattle.std.proofs.Common.{rules, arith}
use Rattle.std.proofs.lemmas.Iterator.{YieldsList-from_range, YieldsList-from_map, items_from_collect}
use Rattle.bench.proofs.set_up.table.Goals as goal

pub returns : goal.returns
returns g c = λ h says.
    items_from_collect c.collect.result c.collect.ensures.ran
    (YieldsList-from_map _ h (YieldsList-from_range 0 _ _ c.map.ensures.source (omega arith)) c.map.ensures.closure
    (λ x r q k. search (rules, says)))

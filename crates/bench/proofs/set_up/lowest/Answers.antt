use Rattle.std.proofs.Common.{◌∙◌, ℕ, Bool, true, false, rules}
use Rattle.fields.specs.Limits.{lowest, highest}
use Rattle.std.proofs.lemmas.Iterator.{YieldsList-from_map, first_from_find}
use Rattle.std.proofs.lemmas.Iterator.Consumers.{YieldsList-at}
use Rattle.bench.proofs.Searches.{range_left, lowest_in}
use Rattle.bench.proofs.set_up.lowest.Goals as goal

pub returns : goal.returns
returns g c =
    let P = λ (m : ℕ) (b : Bool). goal.F-post g c.args.meets m b in
    let chain = YieldsList-at c.map.ensures.source (range_left c.new.result) in
    lowest_in P (lowest c.args.field) (highest c.args.field) c.new.result (c.new.ensures.start ∙ c.limits_of-limits.ensures.low)
    (c.new.ensures.end ∙ c.limits_of-limits.ensures.high) c.new.ensures.exhausted c.find.result
    (first_from_find _ _ c.find.result (λ m. P m true) (λ m. P m false) c.find.ensures.ran
    (YieldsList-from_map _ (λ m. m) chain c.map.ensures.closure (λ x r q k. search rules))
    (λ x q k. search rules) (λ x q k. search rules))

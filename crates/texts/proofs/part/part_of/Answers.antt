use Rattle.std.proofs.Common.{◌≡◌, [], MatchOption, refl, rules}
use Rattle.texts.specs.Parts.{first}
use Rattle.texts.proofs.Starting.{rest_after}
use Rattle.texts.proofs.part.part_of.Goals as goal

pub loop-number-init : goal.loop-number-init
loop-number-init c = ([], refl, first)

pub loop-number-preserved : goal.loop-number-preserved
loop-number-preserved c =
    let read : MatchOption c.first_line.result (c.map_or-rest.result.now ≡ []) (λ r. c.map_or-rest.result.now ≡ r.rest.now) = search rules in
    let cut = c.first_line.ensures in
    rest_after (λ r. r.line.now) (λ r. r.rest.now) c.args.text.now c.loop-number.rest.now c.map_or-rest.result.now c.loop-number.number
    c.first_line.result read cut.whole cut.first cut.none c.loop-number.invariant

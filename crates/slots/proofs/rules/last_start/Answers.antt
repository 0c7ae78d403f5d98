use Rattle.std.proofs.Common.{◌≡◌, eqb, rules, tests}
use Rattle.std.specs.Option as options
use Rattle.std.specs.Option.{option_map}
use Rattle.std.specs.List.{find}
use Rattle.std.proofs.lemmas.Iterator.{YieldsList-from_slice}
use Rattle.std.proofs.lemmas.Iterator.Search.{find_from_yields_List}
use Rattle.slots.proofs.Lookups.{latest_found}
use Rattle.slots.proofs.rules.last_start.Goals as goal

pub returns : goal.returns
returns c =
    let read : options.MatchOption c.find.result (c.map_or.result ≡ 0) (λ r. c.map_or.result ≡ r.now.entry.latest) = search rules in
    let found : option_map (λ r. r.now) c.find.result ≡ find (λ r. eqb r.entry.frame c.args.frame) c.args.rows.now =
    find_from_yields_List (λ r. eqb r.entry.frame c.args.frame) _ _ _ c.find.ensures.ran (YieldsList-from_slice c.args.rows.now cc)
    (λ x b q k. search (rules, tests)) in
    rw (← found) (latest_found c.find.result c.map_or.result read)

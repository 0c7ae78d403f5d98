use Rattle.std.proofs.Common.{◌∙◌, rules, tests}
use Rattle.std.proofs.lemmas.Iterator.{YieldsList-from_slice, YieldsList-from_map}
use Rattle.std.proofs.lemmas.Iterator.Consumers.{YieldsList-at, sum_by_from_yields_List}
use Rattle.bench.specs.SetUps.{needed_by}
use Rattle.bench.proofs.Needs.{all_needed}
use Rattle.bench.proofs.set_up.needs_of.Goals as goal

pub returns : goal.returns
returns g c =
    let b = g.B.ReleaseBook.book in
    let s = g.B.ReleaseBook.meaning c.args.book.now in
    let sums = sum_by_from_yields_List (needed_by b s c.args.frame) c.args.rows.now c.map.result c.sum.result c.sum.ensures.ran
    (YieldsList-from_map _ (needed_by b s c.args.frame) (YieldsList-at c.map.ensures.source (YieldsList-from_slice c.args.rows.now c.iter.ensures.rest))
    c.map.ensures.closure (λ x r q k. search (rules, tests))) in
    λ listed. sums ∙ all_needed b s c.args.rows.now c.args.frame listed

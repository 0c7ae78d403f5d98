use Rattle.std.proofs.Common.{◌≡◌, Some, None, rules}
use borrow.Author.Tests.{tests}
use Rattle.std.specs.Option as options
use Rattle.std.proofs.lemmas.Iterator.{YieldsList-from_slice}
use Rattle.std.proofs.lemmas.Iterator.Consumers.{YieldsList-at, YieldsList-from_enumerate, YieldsList-from_filter}
use Rattle.buffers.proofs.Leading.{waits_for, finds_next}
use Rattle.buffers.proofs.pool.held.next_for.Goals as goal

pub returns : goal.returns
returns c =
    let f = c.args.frame in
    let hs = c.args.held.now in
    let mapped : options.MatchOption c.min_by_key.result (c.map.result ≡ None) (λ x. c.map.result ≡ Some x.0) = search rules in
    finds_next c.min_by_key.result c.min_by_key.ensures.ran (λ p. (p.0, p.1.now)) f hs
    (YieldsList-from_filter _ (waits_for f)
    (YieldsList-at c.filter.ensures.source (YieldsList-from_enumerate (YieldsList-at c.enumerate.ensures.source (YieldsList-from_slice hs cc)) (cc)))
    c.filter.ensures.closure (λ x r q k. search (rules, tests)))
    (λ x k q s. search (rules, tests)) c.map.result mapped

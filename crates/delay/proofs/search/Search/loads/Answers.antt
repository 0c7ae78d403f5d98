use Rattle.std.proofs.Common.{ap, ◌∙◌, arith, take_all}
use Rattle.delay.specs.Delay.{total, lower_load, urgent_load, share_of_lower, share_of_urgent}
use Rattle.delay.proofs.Sums.{total_step}
use Rattle.delay.proofs.search.Search.loads.Goals as goal

pub loop-row-preserved : goal.loop-row-preserved
loop-row-preserved g c =
    let rows = c.args.self.now.rows.now in
    let count = g.B.ReleaseBook.book.count (g.B.ReleaseBook.meaning c.args.self.now.releases.now) in (
      omega arith,
      total_step (share_of_lower c.args.self.now.bus.now count c.args.self.now.message.now c.args.d.time) rows c.loop-row.row-index c.row-item.result
          c.loop-row.lower c.from-lower.result c.lower_share.result c.loop-row-test.true c.row-item.is c.loop-row.invariant.1
          c.from-lower.ensures c.lower_share.ensures.value,
      total_step (share_of_urgent count c.args.self.now.message.now c.args.d.time) rows c.loop-row.row-index c.row-item.result
          c.loop-row.urgent c.from-urgent.result c.urgent_share.result c.loop-row-test.true c.row-item.is c.loop-row.invariant.2
          c.from-urgent.ensures c.urgent_share.ensures.value,
      omega arith,
      omega arith,
    )

pub returns : goal.returns
unfolding lower_load urgent_load
returns g c =
    let count = g.B.ReleaseBook.book.count (g.B.ReleaseBook.meaning c.args.self.now.releases.now) in
    let all = take_all c.loop-row.row-index c.args.self.now.rows.now c.loop-row-test.false in
    record {
      lower = c.loop-row.invariant.1 ∙ ap (total (share_of_lower c.args.self.now.bus.now count c.args.self.now.message.now c.args.d.time)) all;
      urgent = c.loop-row.invariant.2 ∙ ap (total (share_of_urgent count c.args.self.now.message.now c.args.d.time)) all;
      bound = (omega arith, omega arith);
    }

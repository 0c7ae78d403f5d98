use Rattle.std.proofs.Common.{arith}
use Rattle.delay.proofs.Grows.{climbs_on}
use Rattle.delay.proofs.search.Search.climb.Goals as goal

pub returns-then-needed-from : goal.returns-then-needed-from
returns-then-needed-from g c =
    let self = c.args.self.now in
    let past = climbs_on g.B.ReleaseBook.book g.met.B.ReleaseBook.lawful (g.B.ReleaseBook.meaning self.releases.now)
    (g.met.B.ReleaseBook.sound self.releases.now) self.bus.now self.rows.now self.message.now self.own self.listed
    c.rounds.waits c.need-needed.result c.need-needed.ensures.value c.rounds.invariant.2 in
    λ e p m. omega (arith, past e p m)

pub rounds-preserved : goal.rounds-preserved
rounds-preserved g c =
    let self = c.args.self.now in (
      omega arith,
      omega arith,
      climbs_on g.B.ReleaseBook.book g.met.B.ReleaseBook.lawful (g.B.ReleaseBook.meaning self.releases.now)
          (g.met.B.ReleaseBook.sound self.releases.now) self.bus.now self.rows.now self.message.now self.own self.listed
          c.rounds.waits c.need-needed.result c.need-needed.ensures.value c.rounds.invariant.2,
    )

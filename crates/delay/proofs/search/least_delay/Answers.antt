use Rattle.delay.proofs.Grows.{never_falls}
use Rattle.delay.proofs.search.least_delay.Goals as goal

pub returns-clause-rises : goal.returns-clause-rises
returns-clause-rises g c =
    let s = g.B.ReleaseBook.meaning c.args.releases.now in
    never_falls g.B.ReleaseBook.book g.met.B.ReleaseBook.lawful s (g.met.B.ReleaseBook.sound c.args.releases.now) c.args.bus.now c.args.rows.now c.args.message.now

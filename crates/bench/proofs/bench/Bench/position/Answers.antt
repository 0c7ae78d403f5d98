use Rattle.std.proofs.Common.{refl}
use Rattle.bench.specs.Benches.{kinds}
use Rattle.bench.proofs.Calls.{told}
use Rattle.bench.proofs.bench.Bench.position.Goals as goal

pub returns : goal.returns
returns g c =
    let k = kinds g.B.ReleaseBook.book g.B.ReleaseBook.meaning g.S.SendBuffer.meaning g.S.SendBuffer.sound in
    record {
      same_bus = refl;
      same_rows = refl;
      promised = λ from past course. told k g.met.B.ReleaseBook.lawful from past
          c.args.self.now course;
    }

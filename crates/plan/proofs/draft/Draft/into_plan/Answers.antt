use Rattle.std.proofs.Common.{vec_items}
use Rattle.plan.proofs.Only.{one_sheet}
use Rattle.plan.proofs.Room.{ascending_from}
use Rattle.plan.proofs.draft.Draft.into_plan.Goals as goal

pub returns : goal.returns
returns g c =
    let d = c.args.self in record {
      planned = c.planned.ensures.planned;
      listed = c.planned.ensures.listed;
      only = one_sheet d.bus g.B.ReleaseBook.book (g.B.ReleaseBook.meaning c.args.book) (vec_items d.entries)
          (ascending_from (vec_items d.entries) d.order);
    }

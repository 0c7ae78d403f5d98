use Rattle.std.proofs.Common.{ltb, is_some, vec_items, arith}
use Rattle.fields.specs.Limits.{admitted}
use Rattle.fields.specs.declared.limits.Field.TheVariants.{Message, Time}
use Rattle.books.specs.Rows.{figure, row_at, rows_for}
use Rattle.books.proofs.Checks.{release_passes}
use Rattle.books.proofs.Places.{row_written, row_due}
use Rattle.books.proofs.rows.RowBookReleaseBook.release.Goals as goal

pub returns : goal.returns
returns g c =
    let row = g.R.MessageRow in
    let m = c.args.message in
    let t = c.args.time in
    let vs = vec_items c.args.self.now.places in
    let rows = rows_for row.figures vs in
    let found = c.in_ok-row.ensures in
    let due = row_due row.kind.earliest rows m t _ found.1 (omega arith) in
    let passes = release_passes (admitted Message m) (admitted Time t) (is_some (row_at rows m)) (ltb t (figure row.kind.earliest rows m))
    found.0 c.if-not-admits.ensures.test due in
    ((passes, tt), rw c.from.ensures (row_written row.kind row.figures vs m t c.in_ok-row.row c.released.result found.1 c.released.ensures))

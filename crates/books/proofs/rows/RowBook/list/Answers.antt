use Rattle.std.proofs.Common.{◌<◌, length, is_some, vec_items, ◌∙◌, arith}
use Rattle.std.specs.Option.{option_map}
use Rattle.fields.specs.Limits.{admitted}
use Rattle.fields.specs.declared.limits.Field.TheVariants.{Message}
use Rattle.books.specs.Rows.{row_at, rows_for}
use Rattle.books.proofs.Checks.{listing_passes}
use Rattle.books.proofs.Places.{row_set, none_there}
use Rattle.books.specs.Places.{same_there}
use Rattle.books.proofs.rows.RowBook.list.Goals as goal

pub returns : goal.returns
returns g c =
    let f = g.R.MessageRow.figures in
    let m = c.args.message in
    let row = c.args.row in
    let vs = vec_items c.args.self.now.places in
    let l : m < length vs = omega (arith, c.if-not-admits.ensures.within.0) in
    let free = none_there f (row_at (rows_for f vs) m) c.row.result c.row.ensures c.if-is_some.ensures in
    let passes = listing_passes (admitted Message m) (is_some (option_map f row)) (is_some (row_at (rows_for f vs) m))
    (rw c.into.ensures at c.if-not-admits.ensures.test) (same_there f row ∙ c.if-is_none.ensures) free in
    ((passes, tt), rw c.from.ensures (row_set f vs m row l))

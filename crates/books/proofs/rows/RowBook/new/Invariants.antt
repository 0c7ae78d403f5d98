use Rattle.std.proofs.Common.{vec_items}
use Rattle.books.specs.Rows.{rows_for}
use Rattle.books.proofs.Listing.{Listed}
use Rattle.books.proofs.rows.RowBook.new.Given as goal

abbrev pub invariant-loop-message : goal.invariant-loop-message
invariant-loop-message g l =
    let row = g.R.MessageRow in
    Listed row.number row.begins l.messages l.message-index (rows_for row.figures (vec_items l.book.places))

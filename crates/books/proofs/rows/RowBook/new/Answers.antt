use Rattle.std.proofs.lemmas.Result.{err_from_is_err_and}
use Rattle.books.proofs.Listing.{listed_none, listed_more, listed_wrong, listed_all, fresh_at_first}
use Rattle.books.proofs.rows.RowBook.new.Goals as goal

pub loop-message-init : goal.loop-message-init
loop-message-init g c = listed_none _ _ _ _ c.in_ok-book.ensures

pub loop-message-preserved : goal.loop-message-preserved
loop-message-preserved g c =
    let item = c.message-item.is in
    listed_more _ _ _ _ c.message-item.result _ _ _ c.loop-message.invariant c.loop-message-test.true
    (rw item at c.first.ensures) _ (rw (c.number_of.ensures, item) at c.in_ok-list.ensures)

pub returns-in_err-list : goal.returns-in_err-list
returns-in_err-list g c =
    let p = err_from_is_err_and c.from_residual-in_err-list.result c.from_residual-in_err-list.ensures.1 in
    let item = c.message-item.is in
    let wrong = listed_wrong _ _ _ _ c.message-item.result _ _ _ c.loop-message.invariant c.loop-message-test.true
    (rw item at c.first.ensures) _ (rw (c.number_of.ensures, item) at c.in_err-list.ensures) in
    rw (p.1, p.2) (record { making = wrong; fresh = tt })

pub returns : goal.returns
returns g c =
    let row = g.R.MessageRow in
    let all = listed_all _ _ _ _ _ c.loop-message.invariant c.loop-message-test.false in
    record { making = all; fresh = fresh_at_first _ row.kind row.begins g.met.R.MessageRow.at_once _ _ all.1 }

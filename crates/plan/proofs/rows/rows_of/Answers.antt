use Rattle.std.proofs.Common.{vec_items, arith, take_all}
use Rattle.std.proofs.lemmas.Result.{err_from_is_err_and}
use Rattle.delay.proofs.Sums.{all_read}
use Rattle.plan.specs.Sheets.{Listed}
use Rattle.plan.proofs.Lists.{split_read}
use Rattle.plan.proofs.Room.{ascending_from}
use Rattle.plan.proofs.Sheets.{sheet_next, no_row}
use Rattle.plan.proofs.rows.rows_of.Goals as goal

pub returns-in_err-row : goal.returns-in_err-row
returns-in_err-row g c =
    let p = err_from_is_err_and c.from_residual-in_err-row.result c.from_residual-in_err-row.ensures.1 in
    let s = g.B.ReleaseBook.meaning c.args.releases.now in
    let xs = c.args.entries.now in
    let i = c.loop-e.e-index in
    let x = c.e-item.result in
    let listed = all_read (Listed g.B.ReleaseBook.book s) xs i x c.loop-e-test.true c.e-item.is c.requires.listed in
    rw (p.1, p.2) (no_row c.args.bus.now g.B.ReleaseBook.book s xs (vec_items c.loop-e.rows) i x c.in_err-row.field-0.0 c.requires.listed listed
    (split_read xs i x c.loop-e-test.true c.e-item.is) c.loop-e.invariant.3
    (rw c.as_slice.ensures.value at c.in_err-row.ensures))

pub loop-e-preserved : goal.loop-e-preserved
loop-e-preserved g c =
    let s = g.B.ReleaseBook.meaning c.args.releases.now in
    let xs = c.args.entries.now in
    let row = c.in_ok-row.ensures in (
      omega arith,
      omega (arith, c.push_reserved.ensures.len),
      omega (arith, c.push_reserved.ensures.capacity),
      rw c.push_reserved.ensures.items
          (sheet_next c.args.bus.now g.B.ReleaseBook.book s xs (vec_items c.loop-e.rows) c.loop-e.e-index c.e-item.result c.in_ok-row.row
          (ascending_from xs c.requires.order) c.loop-e-test.true c.e-item.is c.loop-e.invariant.3 row.0 (rw c.as_slice.ensures.value at row.1)),
    )

pub returns : goal.returns
returns g c = rw (take_all c.loop-e.e-index c.args.entries.now c.loop-e-test.false) at c.loop-e.invariant.3

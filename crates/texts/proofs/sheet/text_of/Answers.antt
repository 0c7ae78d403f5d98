use Rattle.std.proofs.Common.{string_bytes, ap, ◌∙◌, arith, take_all}
use Rattle.texts.specs.Sheets.{text_of_sheet}
use Rattle.texts.proofs.Fields.{sheet_step}
use Rattle.texts.proofs.sheet.text_of.Goals as goal

pub loop-row-preserved : goal.loop-row-preserved
loop-row-preserved c = (
  omega arith,
  c.in_ok-push_str.ensures.bytes
      ∙ sheet_step c.args.rows.now c.loop-row.row-index c.row-item.result (string_bytes c.loop-row.text) c.as_str.result.now
      c.loop-row-test.true c.row-item.is c.loop-row.invariant.1 (c.as_str.ensures.value ∙ c.in_ok-line.ensures),
)

pub returns : goal.returns
returns c = c.loop-row.invariant.1 ∙ ap text_of_sheet (take_all c.loop-row.row-index c.args.rows.now c.loop-row-test.false)

use Rattle.std.proofs.Common.{ap, ◌∙◌, inr}
use Rattle.std.proofs.lemmas.Result.{err_from_is_err_and}
use Rattle.texts.specs.Sheets.{text_of_sheet}
use Rattle.texts.proofs.sheet.run_of.Goals as goal

pub returns-in_err-plan : goal.returns-in_err-plan
returns-in_err-plan g c =
    let p = err_from_is_err_and c.from_residual-in_err-plan.result c.from_residual-in_err-plan.ensures.1 in
    rw (p.1, p.2) (inr (inr (record {
      table = c.in_ok-table.table;
      read = c.in_ok-table.ensures;
      unplanned = c.in_err-plan.ensures;
    })))

pub returns : goal.returns
returns g c = record {
  table = c.in_ok-table.table;
  plan = c.in_ok-plan.plan;
  read = c.in_ok-table.ensures;
  planned = c.in_ok-plan.ensures;
  printed = c.in_ok-text_of.ensures ∙ ap text_of_sheet c.sheet.ensures;
}

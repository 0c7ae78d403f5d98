use Rattle.std.proofs.Common.{string_bytes}
use Rattle.std.proofs.lemmas.Result.{IfOk-weaker}
use Rattle.by_lines.proofs.Runs.{printed_lines}
use Rattle.by_lines.proofs.sheet.sheet.Goals as goal

pub returns : goal.returns
returns c =
    let text = c.args.text.now in
    IfOk-weaker c.sheet_of.result _ _ (λ s printed. printed_lines text (string_bytes s) printed) c.sheet_of.ensures

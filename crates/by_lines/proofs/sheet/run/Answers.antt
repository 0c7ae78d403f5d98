use Rattle.std.proofs.Common.{string_bytes}
use Rattle.std.proofs.lemmas.Result.{MatchResult-weaker}
use Rattle.by_lines.proofs.Runs.{sheet_printed, run_refused}
use Rattle.by_lines.proofs.sheet.run.Goals as goal

pub returns : goal.returns
returns c =
    let text = c.args.text.now in
    MatchResult-weaker c.run_of.result c.run_of.ensures (λ s printed. sheet_printed text (string_bytes s) printed) (λ e why. run_refused text e why)

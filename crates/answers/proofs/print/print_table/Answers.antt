use Rattle.std.proofs.Common.{◌≡◌, string_bytes, sym, ap, ◌∙◌, arith, take_all}
use Rattle.by_lines.specs.Held.{lines_of}
use Rattle.by_lines.specs.Tables.{table_text}
use Rattle.texts.specs.declared.line.Line.TheVariants as line
use Rattle.answers.proofs.Distinct.{same_tables}
use Rattle.answers.proofs.Printing.{print_step}
use Rattle.answers.proofs.print.print_table.Goals as goal

pub loop-line-preserved : goal.loop-line-preserved
loop-line-preserved c = (
  omega arith,
  c.in_ok-push_str.ensures.bytes
      ∙ print_step c.as_slice-line-items.result.now c.loop-line.line-index (line.Bus 0 0 0 0) (string_bytes c.loop-line.text) c.as_str.result.now
      c.loop-line-test.true c.loop-line.invariant.1 (c.as_str.ensures.value ∙ c.in_ok-next.ensures),
)

pub returns : goal.returns
returns c =
    let all : string_bytes c.loop-line.text ≡ table_text (lines_of c.args.table.now) =
    c.loop-line.invariant.1 ∙ ap table_text (take_all c.loop-line.line-index c.as_slice-line-items.result.now c.loop-line-test.false ∙ c.as_slice-line-items.ensures.value) in
    record { printed = all; only = λ ks e. same_tables ks (lines_of c.args.table.now) (sym e ∙ all) }

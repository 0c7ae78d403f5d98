use Rattle.std.proofs.Common.{[], ◌∷◌, ◌++◌, string_bytes, ap, ◌∙◌, arith, take_all}
use Rattle.texts.specs.Forms.{fields}
use Rattle.answers.proofs.Printing.{fields_step, fields_end}
use Rattle.answers.proofs.print.printed_line.Goals as goal

pub loop-value-preserved : goal.loop-value-preserved
loop-value-preserved c = (
  omega arith,
  c.in_ok-push_str.ensures.bytes
      ∙ fields_step c.args.letter.now c.args.values.now c.loop-value.value-index (string_bytes c.loop-value.text) c.as_str.result.now
      c.loop-value-test.true c.loop-value.invariant.1 (c.as_str.ensures.value ∙ c.in_ok-field.ensures),
)

pub returns : goal.returns
returns c =
    c.in_ok-push_str-2.ensures.bytes
    ∙ ap (λ t. t ++ 10 ∷ []) (c.loop-value.invariant.1 ∙ ap (λ ns. c.args.letter.now ++ fields ns []) (take_all c.loop-value.value-index c.args.values.now c.loop-value-test.false))
    ∙ fields_end c.args.letter.now c.args.values.now

use Rattle.std.proofs.Common.{arith}
use Rattle.std.proofs.lemmas.Int.Digits.{digits_value_more}
use Rattle.texts.proofs.Decimal.{digit_at}
use Rattle.texts.proofs.digits.value_of.Goals as goal

pub loop-digit-preserved : goal.loop-digit-preserved
loop-digit-preserved c =
    let ds = c.args.digits.now in
    let i = c.loop-digit.digit-index in
    let v = digit_at ds c.requires i c.loop-digit-test.true in
    (omega arith, omega (arith, digits_value_more 10 ds i c.loop-digit-test.true))

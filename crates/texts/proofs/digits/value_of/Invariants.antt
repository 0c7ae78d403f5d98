use Rattle.std.proofs.Common.{◌≡◌, ◌≤◌, length, take}
use Rattle.std.specs.Str.Parse.{digits_value}
use Rattle.texts.specs.Forms.{cut}
use Rattle.texts.proofs.digits.value_of.Given as goal

abbrev pub invariant-loop-digit : goal.invariant-loop-digit
invariant-loop-digit l = (l.digit-index ≤ length l.digits) × (l.value ≡ cut (digits_value 10 (take l.digit-index l.digits)))

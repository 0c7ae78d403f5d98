use Rattle.std.proofs.Common.{◌≡◌, ◌<◌, true, false, ◌++◌, length, get_or, sym, ap, ◌∙◌, subst, arith}
use Rattle.std.specs.Char.{is_ascii_digit}
use Rattle.std.specs.List.{AllByRecursion}
use Rattle.std.specs.Str.Parse.{digits_value}
use Rattle.std.proofs.lemmas.Bool.{eqb-true, eqb-false}
use Rattle.std.proofs.lemmas.List.{nil_from_length, get_or_past}
use Rattle.std.proofs.lemmas.List.Sums.{prefix_len-le-length}
use Rattle.texts.specs.Forms.{Ends}
use Rattle.texts.proofs.Decimal.{spelled_all, ahead_all, ends_after, none_without_digit, none_after_idle, first_above}
use Rattle.texts.proofs.digits.first_number.Goals as goal
use Rattle.texts.proofs.digits.first_number.Goals.{in_default, in-len2-up+else-first-eq48, else-first-eq48-via-then-first-eq48+else-is_ascii_digit, else-first-eq48-via-else-first-eq48}

pub split_at-requires : goal.split_at-requires
split_at-requires c = rw c.digits_ahead.ensures (prefix_len-le-length is_ascii_digit c.args.bytes.now)

pub value_of-requires : goal.value_of-requires
value_of-requires c = rw (c.split_at.ensures.front, c.digits_ahead.ensures) (ahead_all c.args.bytes.now)

pub returns-then-is_ascii_digit : goal.returns-then-is_ascii_digit
returns-then-is_ascii_digit c =
    none_after_idle c.args.bytes.now c.if-first-eq48.true (sym c.is_ascii_digit.ensures.value ∙ c.if-is_ascii_digit.true)

pub returns-then-is_empty : goal.returns-then-is_empty
returns-then-is_empty c =
    let bytes = c.args.bytes.now in
    let rest = c.split_at.result.1.now in
    let none = nil_from_length c.split_at.result.0.now (eqb-true (length c.split_at.result.0.now) 0 (sym c.is_empty.ensures ∙ c.if-is_empty.true)) in
    let same : rest ≡ bytes = sym (c.split_at.ensures.by_index.0 ∙ ap (λ l. l ++ rest) none) in
    let stop : Ends rest = rw (c.split_at.ensures.back, c.digits_ahead.ensures) (ends_after bytes) in
    none_without_digit bytes (subst Ends same stop)

pub returns : goal.returns
returns c =
    let bytes = c.args.bytes.now in
    let ds = c.split_at.result.0.now in
    let all : AllByRecursion (λ b. is_ascii_digit b ≡ true) ds = rw (c.split_at.ensures.front, c.digits_ahead.ensures) (ahead_all bytes) in
    let some : 0 < length ds = omega (arith, eqb-false (length ds) 0 (sym c.is_empty.ensures ∙ c.if-is_empty.false)) in
    let never : get_or bytes 0 0 ≡ 48 → is_ascii_digit (get_or bytes 1 0) ≡ false = λ z. elim c.if-bytes-lt2.branch [
      | in_default w ↦ ap is_ascii_digit (get_or_past bytes 1 0 (omega arith))
      | in-len2-up+else-first-eq48 w ↦ elim w.else-first-eq48.branch [
        | else-first-eq48-via-then-first-eq48+else-is_ascii_digit v ↦ sym v.is_ascii_digit.ensures.value ∙ v.if-is_ascii_digit.false
        | else-first-eq48-via-else-first-eq48 v ↦ absurd (v.if-first-eq48.false z)
      ]
    ] in
    let big = first_above bytes ds c.split_at.result.1.now c.split_at.ensures.by_index.0 all never in
    record {
      spelled = record {
        number = digits_value 10 ds;
        digits = c.split_at.ensures.by_index.0 ∙ ap (λ l. l ++ c.split_at.result.1.now) (sym (spelled_all ds all big some));
        cut = c.value_of.ensures;
      };
      ends = rw (c.split_at.ensures.back, c.digits_ahead.ensures) (ends_after bytes);
      shorter = omega arith;
    }

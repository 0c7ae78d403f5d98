use Rattle.std.proofs.Common.{◌≡◌, ◌<◌, ◌∷◌, length, take, subst, ◌∙◌, ⊎_elim, arith, length-set}
use Rattle.std.proofs.lemmas.List.{take_more_set, length-take-le}
use Rattle.texts.specs.Forms.{FormSoFar}
use Rattle.texts.proofs.Unique.{no_blank, no_room, no_number}
use Rattle.texts.proofs.Fields.{form_step}
use Rattle.texts.proofs.form.form_of.Goals as goal
use Rattle.texts.proofs.form.form_of.Goals.{In-Some}

-- The line up to the next byte.
so_far : (c : In-Some) → FormSoFar c.args.line.now c.in_ok-letter.letter.now (take c.loop-blank.count c.loop-blank.values) (c.in-Some.blank.now ∷ c.in-Some.digits.now)
so_far c =
    subst (λ r. FormSoFar c.args.line.now c.in_ok-letter.letter.now (take c.loop-blank.count c.loop-blank.values) r) c.in-Some.ensures.cases.0
    c.loop-blank.invariant.2

pub returns-then-blank-ne32-clause-form : goal.returns-then-blank-ne32-clause-form
returns-then-blank-ne32-clause-form c =
    let vs = take c.loop-blank.count c.loop-blank.values in
    let f = so_far (goal.at.returns-then-blank-ne32-clause-form c).In-Some in
    ⊎_elim
    (λ other. no_blank c.args.line.now c.in_ok-letter.letter.now vs c.in-Some.blank.now c.in-Some.digits.now f other)
    (λ full. no_room c.args.line.now c.in_ok-letter.letter.now vs c.in-Some.blank.now c.in-Some.digits.now f
    (length-take-le c.loop-blank.count c.loop-blank.values (omega arith) ∙ full.1))
    c.then-blank-ne32.either

pub returns-in_err-number-clause-form : goal.returns-in_err-number-clause-form
returns-in_err-number-clause-form c =
    rw c.from_residual-in_err-number.ensures
    (no_number c.args.line.now c.in_ok-letter.letter.now (take c.loop-blank.count c.loop-blank.values) c.in-Some.blank.now c.in-Some.digits.now
    (so_far (goal.at.returns-in_err-number-clause-form c).In-Some) c.in_err-number.ensures)

pub loop-blank-preserved : goal.loop-blank-preserved
loop-blank-preserved c =
    let vs = c.loop-blank.values in
    let n = c.loop-blank.count in (
      omega arith,
      length-set vs n c.in_ok-number.number.value ∙ c.loop-blank.invariant.1,
      rw (take_more_set vs n c.in_ok-number.number.value (omega arith))
          (form_step c.args.line.now c.in_ok-letter.letter.now (take n vs) c.in-Some.digits.now c.in_ok-number.number.rest.now
          c.in_ok-number.number.value (subst (λ b. FormSoFar c.args.line.now c.in_ok-letter.letter.now (take n vs) (b ∷ c.in-Some.digits.now)) c.if-blank-ne32.false (so_far (goal.at.loop-blank-preserved c).In-Some)) c.in_ok-number.ensures),
    )

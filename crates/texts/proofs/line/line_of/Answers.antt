use Rattle.std.proofs.Common.{◌≡◌, ◌≤◌, length, take, Some, None, Err, sym, refl, ap, ◌∙◌, inl, inr, arith, rules}
use Rattle.std.proofs.lemmas.List.{length-take-le}
use Rattle.fields.specs.declared.refusal.Reason.TheVariants.{Malformed, OutOfRange}
use Rattle.texts.specs.Forms.{FormOf, NoForm}
use Rattle.texts.specs.Lines.{letter_of, values_of, next_phase, kind_by, Figures, OutOf}
use Rattle.texts.proofs.OfForms.{few_values, none_some, kind_says, same_kind, form_read, form_out}
use Rattle.texts.proofs.line.line_of.Goals as goal

pub returns-in_err-form : goal.returns-in_err-form
returns-in_err-form c =
    let gives : c.from_residual.result ≡ Err (record { reason = Malformed; line = c.args.number }) = search rules in
    let no : NoForm c.args.bytes.now = search rules in
    rw gives (refl, inl (refl, λ l next t. no (letter_of l) (values_of l) (few_values l) t.text))

pub returns-in_err-kind : goal.returns-in_err-kind
returns-in_err-kind c =
    let form = c.in_ok-form.form in
    let vs = take form.count form.values in
    let of_form : FormOf c.args.bytes.now form.letter vs = search rules in
    let few : form.count ≤ 8 = search rules in
    let size : length vs ≡ form.count = length-take-le form.count form.values (omega arith) in
    let gives : c.from_residual-in_err-kind.result ≡ Err (record { reason = Malformed; line = c.args.number }) = search rules in
    let no : kind_by form.letter form.count ≡ None = search rules in
    rw gives (
      refl,
      inl (refl, λ l next t. none_some (sym no ∙ ap (kind_by form.letter) (sym size) ∙ same_kind c.args.bytes.now form.letter vs of_form l t.text)),
    )

pub returns-in_err-line : goal.returns-in_err-line
returns-in_err-line c =
    let form = c.in_ok-form.form in
    let vs = take form.count form.values in
    let of_form : FormOf c.args.bytes.now form.letter vs = search rules in
    let few : form.count ≤ 8 = search rules in
    let size : length vs ≡ form.count = length-take-le form.count form.values (omega arith) in
    let known : kind_by form.letter form.count ≡ Some c.in_ok-kind.kind = search rules in
    let said = ap (kind_by form.letter) size ∙ known in
    let turn : next_phase c.args.phase c.in_ok-kind.kind ≡ Some c.in_ok-next.next = search rules in
    let told = c.figures_of.ensures (kind_says c.in_ok-kind.kind form.letter (length vs) said).1 in
    let out : OutOf c.in_ok-kind.kind vs = search rules in
    let gives : c.from_residual-in_err-line.result ≡ Err (record { reason = OutOfRange; line = c.args.number }) = search rules in
    let o = form_out c.args.bytes.now form.letter vs of_form c.in_ok-kind.kind said out in
    rw gives (
      refl,
      inr (
        refl,
        record { line = o.line; next = c.in_ok-next.next; its_turn = record { text = o.text; turn = rw o.of_kind turn }; out = o.out },
      ),
    )

pub returns : goal.returns
returns c =
    let form = c.in_ok-form.form in
    let vs = take form.count form.values in
    let of_form : FormOf c.args.bytes.now form.letter vs = search rules in
    let few : form.count ≤ 8 = search rules in
    let size : length vs ≡ form.count = length-take-le form.count form.values (omega arith) in
    let known : kind_by form.letter form.count ≡ Some c.in_ok-kind.kind = search rules in
    let said = ap (kind_by form.letter) size ∙ known in
    let turn : next_phase c.args.phase c.in_ok-kind.kind ≡ Some c.in_ok-next.next = search rules in
    let told = c.figures_of.ensures (kind_says c.in_ok-kind.kind form.letter (length vs) said).1 in
    let fig : Figures c.in_ok-kind.kind vs c.in_ok-line.line = search rules in
    let r = form_read c.args.bytes.now form.letter vs of_form c.in_ok-kind.kind said c.in_ok-line.line fig in
    record {
      its_turn = record { text = r.0; turn = ap (next_phase c.args.phase) fig.same_kind ∙ turn };
      within_range = r.1;
    }

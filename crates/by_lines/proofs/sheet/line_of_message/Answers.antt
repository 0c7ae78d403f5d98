use Rattle.std.proofs.Common.{◌≡◌, ◌+◌, ◌<◌, Some, None, sym, ap, ◌∙◌, arith, rules}
use Rattle.std.specs.List.{position}
use Rattle.std.specs.Option.{option_map_or, unwrap_or}
use Rattle.std.specs.Result.{result_ok}
use Rattle.std.proofs.lemmas.Result.{Ok-from_Ok_iff}
use Rattle.std.proofs.lemmas.List.Quantifiers.{position-Some}
use Rattle.texts.specs.declared.line.Line.TheVariants as line
use Rattle.by_lines.specs.Sheets.{gives}
use Rattle.by_lines.proofs.Numbers.{line_of_is}
use Rattle.by_lines.proofs.sheet.line_of_message.Goals as goal

pub returns-in_err-place : goal.returns-in_err-place
returns-in_err-place c few =
    let none : position (gives c.args.message) c.args.lines.now ≡ None = search rules in
    rw c.from_residual.ensures (sym (line_of_is c.args.lines.now c.args.message ∙ ap (λ o. option_map_or (λ i. i + 2) o 0) none))

pub returns : goal.returns
returns c few =
    let ls = c.args.lines.now in
    let m = c.args.message in
    let i = c.in_ok-place.place in
    let there : position (gives m) ls ≡ Some i = search rules in
    let inside = position-Some (gives m) ls i (line.Bus 0 0 0 0) there in
    let sum : c.saturating_add.result ≡ i + 2 = omega arith in
    let fits = Ok-from_Ok_iff c.try_from.result (c.saturating_add.result < 4294967296) c.saturating_add.result c.try_from.ensures (omega arith) in
    let number : c.ok.result ≡ Some (i + 2) = c.ok.ensures.value ∙ ap result_ok fits ∙ ap (λ n. Some n) sum in
    ap (λ o. unwrap_or o 0) number ∙ sym (line_of_is ls m ∙ ap (λ o. option_map_or (λ i. i + 2) o 0) there)

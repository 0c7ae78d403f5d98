use Rattle.std.proofs.Common.{◌≡◌, sym, ap, ◌∙◌, rules}
use Rattle.std.specs.Option.{option_copied, option_map_or}
use Rattle.texts.specs.declared.fault.TableFault.TheVariants.{Refused}
use Rattle.texts.proofs.Fields.{line_in_is}
use Rattle.texts.proofs.sheet.at_message.Goals as goal

pub returns : goal.returns
returns c =
    let e = c.args.refusal in
    let found : c.map_or.result ≡ option_map_or (λ o. o.line) (option_copied c.origin_of.result) 0 = search rules in
    let line = found ∙ ap (λ o. option_map_or (λ o. o.line) o 0) c.origin_of.ensures ∙ sym (line_in_is c.args.origins.now e.concerns) in
    ap (λ n. Refused (record { reason = e.reason; line = n })) line

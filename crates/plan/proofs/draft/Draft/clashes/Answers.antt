use Rattle.std.proofs.Common.{◌||◌, ap, ◌∙◌}
use Rattle.plan.specs.Entries.{some, numbered}
use Rattle.plan.specs.Drafts.{entries_of, of_another_node, as_urgent}
use Rattle.plan.proofs.Lists.{some_or}
use Rattle.plan.proofs.draft.Draft.clashes.Goals as goal

pub returns : goal.returns
returns c =
    let m = c.args.message.now in
    let es = entries_of c.args.self.now in
    c.has_clash.ensures ∙ some_or (numbered m.number) (λ e. of_another_node m e || as_urgent m e) es
    ∙ ap (λ b. some (numbered m.number) es || b) (some_or (of_another_node m) (as_urgent m) es)

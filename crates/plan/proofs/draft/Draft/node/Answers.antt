use Rattle.std.proofs.Common.{◌≡◌, length, is_some, Some, None, vec_items, sym, ap, ◌∙◌, arith, rules}
use Rattle.std.proofs.lemmas.List.{get_or_read_under}
use Rattle.plan.specs.Entries.{is_start_in_range}
use Rattle.plan.proofs.Lists.{every_set}
use Rattle.plan.proofs.Room.{starts_kept}
use Rattle.plan.proofs.draft.Draft.node.Goals as goal

pub invariant_of-self : goal.invariant_of-self
invariant_of-self c =
    let d = c.args.self.now in
    let all : 65 ≡ length (vec_items d.nodes) = omega (arith, d.nodes.ok.0, d.all_nodes) in
    let read = get_or_read_under (vec_items d.nodes) c.from-at.result 65 c.index.result.now None c.index.ensures (search rules) all in
    let new = sym (ap is_some read) ∙ sym c.if-is_some.ensures in
    record {
      all_nodes = d.all_nodes;
      starts = every_set is_start_in_range d.nodes.items c.from-at.result (Some c.args.latest) d.starts (search rules);
      room = d.room;
      numbers = d.numbers;
      order = d.order;
      one_node = d.one_node;
      one_priority = d.one_priority;
      sizes = d.sizes;
      latest = starts_kept (vec_items d.nodes) c.from-at.result c.args.latest (vec_items d.entries) new d.latest;
    }

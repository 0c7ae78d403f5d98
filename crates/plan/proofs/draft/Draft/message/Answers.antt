use Rattle.std.proofs.Common.{refl, vec_items, vec_len, vec_capacity, sym, ◌∙◌, arith}
use Rattle.std.proofs.lemmas.Bool.{ltb-false}
use Rattle.plan.specs.Entries.{numbered, nodes_clash, priorities_clash, ends_within, starts_as_node}
use Rattle.plan.proofs.Room.{apart_clear, has_room, kept_clear, kept_every, numbers_both, nodes_both, priorities_both, free_number, free_frame, free_priority, ends_within_segment, starts_as_its_node, ascending_from, ascends_from}
use Rattle.plan.proofs.Passing.{passed_on}
use Rattle.plan.proofs.draft.Draft.message.Goals as goal

pub invariant_of-self : goal.invariant_of-self
invariant_of-self c =
    let d = c.args.self.now in
    let m = c.args.message in
    let e = c.in_ok-entry.entry in
    let told = passed_on _ _ _ c.entry_of.result c.map_err.result e c.entry_of.ensures c.map_err.ensures.cases c.in_ok-entry.was in
    let ok = told.0 in
    let is = told.1 in
    let old = vec_items d.entries in
    let new = vec_items c.insert.new.list in
    let put = c.insert.ensures.placed in
    let order = c.insert.ensures.ascending (ascending_from old d.order) in
    record {
      all_nodes = d.all_nodes;
      starts = d.starts;
      room = omega arith;
      numbers = apart_clear new ∙ kept_clear (λ x. numbered x.number) numbers_both e old new c.insert.result put (sym (apart_clear old) ∙ d.numbers) (free_number d m e ok is.number);
      order = ascends_from new order;
      one_node = kept_clear nodes_clash nodes_both e old new c.insert.result put d.one_node (free_frame d m e ok is);
      one_priority = kept_clear priorities_clash priorities_both e old new c.insert.result put d.one_priority (free_priority d m e ok is);
      sizes = kept_every (ends_within d.bus.minislots) e old new c.insert.result put d.sizes (ends_within_segment d m e ok is);
      latest = kept_every (starts_as_node (vec_items d.nodes)) e old new c.insert.result put d.latest (starts_as_its_node d m e is);
    }

pub unreachable-requires : goal.unreachable-requires
unreachable-requires c =
    let d = c.args.self.now in
    let e = c.in_ok-entry.entry in
    let told = passed_on _ _ _ c.entry_of.result c.map_err.result e c.entry_of.ensures c.map_err.ensures.cases c.in_ok-entry.was in
    let free = free_number d c.args.message e told.0 told.1.number in
    omega (
      arith,
      has_room e (vec_items d.entries) d.numbers free,
      ltb-false (vec_len d.entries) (vec_capacity d.entries) (sym c.in_default.ensures.room),
      d.room,
      d.entries.ok.0,
    )

pub returns-clause-verdict : goal.returns-clause-verdict
returns-clause-verdict c =
    let told = passed_on _ _ _ c.entry_of.result c.map_err.result c.in_ok-entry.entry c.entry_of.ensures c.map_err.ensures.cases c.in_ok-entry.was in
    (told.0, record { bus = refl; nodes = refl; entry = c.in_ok-entry.entry; describes = told.1; placed = c.in-Ok.ensures.placed })

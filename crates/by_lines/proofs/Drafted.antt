-- The draft of a table's lines, line by line.
use Rattle.std.proofs.Common.{◌≡◌, ℕ, zero, suc, ◌+◌, ◌-◌, ◌*◌, ◌<◌, ◌≤◌, Bool, true, false, cond, not, ◌&&◌, eqb, ltb, leb, List, [], ◌∷◌, ◌++◌, map, length, get_or, set, replicate, is_some, Some, None, vec_items, Option, unwrap_or, sym, refl, ap, ◌∙◌, ⊎_elim, arith}
use mathlib.Core.Path.{fun_ext}
use Rattle.std.proofs.lemmas.List.{map_push, get_or-set_same, get_or-set_other}
use Rattle.std.proofs.lemmas.Bool.{and_parts, leb-true, cases_eq, eq-eqb, ne_eqb, both_ways}
use Rattle.fields.specs.Limits.{admitted}
use Rattle.fields.specs.Refusals.{first_reason}
use Rattle.fields.specs.declared.limits.Field.TheVariants as field
use Rattle.fields.specs.declared.refusal.Reason.{Reason}
use Rattle.fields.specs.declared.refusal.Reason.TheVariants.{OutOfRange, NumberUsed, NodeUnknown, SegmentTooLong, FrameOfAnotherNode, PriorityUsed, SizeTooLong, FrameAfterLastStart}
use Rattle.delay.specs.Order.{by_frame}
use Rattle.delay.specs.declared.bus.Bus.{Bus}
use Rattle.delay.specs.declared.entry.Entry.{Entry}
use Rattle.plan.specs.Entries.{some, numbered}
use Rattle.plan.specs.Drafts.{Begun, bus_checks, node_checks, NodeAdded, message_checks, MessageAdded, Describes, in_range, latest_start_of, entries_of, of_another_node, as_urgent}
use Rattle.plan.specs.declared.draft.Draft.{Draft}
use Rattle.plan.specs.declared.draft.Message.{Message}
use Rattle.texts.specs.Lines.{kind_of, next_phase, fits}
use Rattle.texts.specs.Readers.{bus_line_checks, BusDrafted, noting_checks, Noted}
use Rattle.by_lines.specs.Held.{Told, told_of, told_up_to, put_in, put_all, in_order, entry_told, HasBus, DraftOf}
use Rattle.by_lines.specs.Tables.{messages_of, start_of, minislots_of, phase_of, in_turn, same_number, other_node, same_priority, message_rules, table_rules}
use Rattle.texts.specs.declared.line.Line.{Line}
use Rattle.texts.specs.declared.line.Line.TheVariants as line
use Rattle.by_lines.proofs.Accepts.{messages_more, start_more, or_else}
use Rattle.by_lines.proofs.Orders.{some_put_all, some_map, put_all_push, placed_put, map_put_in}

and_mono : (a x y : Bool) → (x ≡ true → y ≡ true) → (a && x) ≡ true → (a && y) ≡ true
and_mono true x y f h = f h
and_mono false x y f h = h

and_front : (x y : Bool) → (x && y) ≡ true → x ≡ true
and_front x y h = (and_parts x y h).0

-- A message's figures are in range where all of its line are.
module _ (m : Message) (r : Bool) where
  in_range_front : (admitted field.Message m.number && (admitted field.Frame m.frame && (admitted field.Node m.node && (admitted field.Priority m.priority
      && (admitted field.Size m.size && (admitted field.Deadline m.deadline && r)))))) ≡ true → in_range m ≡ true
  in_range_front =
      and_mono (admitted field.Message m.number) _ _ (and_mono (admitted field.Frame m.frame) _ _ (and_mono (admitted field.Node m.node) _ _
      (and_mono (admitted field.Priority m.priority) _ _ (and_mono (admitted field.Size m.size) _ _ (and_front (admitted field.Deadline m.deadline) r)))))

pub in_range_periodic : (m : Message) (t j : ℕ) → fits (line.Periodic m t j) ≡ true → in_range m ≡ true
in_range_periodic m t j h = in_range_front m (admitted field.Period t && (admitted field.Jitter j && true)) h

pub in_range_window : (m : Message) (n w : ℕ) → fits (line.Window m n w) ≡ true → in_range m ≡ true
in_range_window m n w h = in_range_front m (admitted field.Releases n && (admitted field.Window w && true)) h

-- The checks of a message in range, by what they look at.
abbrev reason_by : Message → Bool → Option ℕ → Bool → Bool → ℕ → Option Reason
reason_by m number start frame priority minislots = first_reason (
    record { holds = number; reason = NumberUsed } ∷ record { holds = not (is_some start); reason = NodeUnknown }
    ∷ record { holds = frame; reason = FrameOfAnotherNode } ∷ record { holds = priority; reason = PriorityUsed }
    ∷ record { holds = ltb minislots (unwrap_or start 0 + m.size - 1); reason = SizeTooLong }
    ∷ record { holds = ltb (unwrap_or start 0) m.frame; reason = FrameAfterLastStart } ∷ [])

module _ (ls : List Line) (d : Draft) (held : DraftOf ls d) where
  -- The draft's messages are those of the lines.
  some_held : (p : Message → Bool) → some (λ e. p (entry_told e).message) (entries_of d) ≡ some p (messages_of ls)
  some_held p =
      sym (some_map (λ t. p t.message) entry_told (entries_of d)) ∙ ap (some (λ t. p t.message)) held.entries
      ∙ some_put_all told_up_to (λ t. p t.message) [] (told_of ls) ∙ some_map (λ t. p t.message) (λ m. record { message = m; latest = unwrap_or (start_of ls m.node) 0 }) (messages_of ls)

  pub node_same : (n a : ℕ) → fits (line.Node n a) ≡ true → first_reason (node_checks d n a) ≡ first_reason (table_rules ls (line.Node n a))
  node_same n a f =
      let p = and_mono (admitted field.Node n) (admitted field.LastStart a && true) (admitted field.LastStart a) (and_front (admitted field.LastStart a) true) f in
      ap (λ b. cond (not b) (Some OutOfRange) (first_reason (record { holds = is_some (latest_start_of d n); reason = NumberUsed } ∷ []))) p
      ∙ ap (λ o. first_reason (record { holds = is_some o; reason = NumberUsed } ∷ [])) (held.nodes n)

  pub message_same : (m : Message) → in_range m ≡ true → d.bus.minislots ≡ minislots_of ls → first_reason (message_checks d m) ≡ first_reason (message_rules ls m)
  message_same m r q =
      let number = some_held (same_number m) in
      let frame = some_held (other_node m) in
      let priority = some_held (same_priority m) in
      let start = held.nodes m.node in
      ap (λ b. cond (not b) (Some OutOfRange) (reason_by m (some (numbered m.number) (entries_of d)) (latest_start_of d m.node) (some (of_another_node m) (entries_of d)) (some (as_urgent m) (entries_of d)) d.bus.minislots)) r
      ∙ ap (λ b. reason_by m b (latest_start_of d m.node) (some (of_another_node m) (entries_of d)) (some (as_urgent m) (entries_of d)) d.bus.minislots) number
      ∙ ap (λ o. reason_by m (some (same_number m) (messages_of ls)) o (some (of_another_node m) (entries_of d)) (some (as_urgent m) (entries_of d)) d.bus.minislots) start
      ∙ ap (λ b. reason_by m (some (same_number m) (messages_of ls)) (start_of ls m.node) b (some (as_urgent m) (entries_of d)) d.bus.minislots) frame
      ∙ ap (λ b. reason_by m (some (same_number m) (messages_of ls)) (start_of ls m.node) (some (other_node m) (messages_of ls)) b d.bus.minislots) priority
      ∙ ap (reason_by m (some (same_number m) (messages_of ls)) (start_of ls m.node) (some (other_node m) (messages_of ls)) (some (same_priority m) (messages_of ls))) q

pub bus_minislots : (ls : List Line) (b : Bus) → HasBus ls b → b.minislots ≡ minislots_of ls
bus_minislots [] b h = absurd h
bus_minislots (line.Bus g s l q ∷ ls) b h = h.minislots
bus_minislots (line.Node n a ∷ ls) b h = absurd h
bus_minislots (line.Periodic m t j ∷ ls) b h = absurd h
bus_minislots (line.Window m n w ∷ ls) b h = absurd h

bus_more : (ls ks : List Line) (b : Bus) → HasBus ls b → HasBus (ls ++ ks) b
bus_more [] ks b h = absurd h
bus_more (line.Bus g s l q ∷ ls) ks b h = h
bus_more (line.Node n a ∷ ls) ks b h = absurd h
bus_more (line.Periodic m t j ∷ ls) ks b h = absurd h
bus_more (line.Window m n w ∷ ls) ks b h = absurd h

-- A node comes before any message.
no_messages : (ms : List Message) (n a : ℕ) → is_some (next_phase (phase_of ms) (kind_of (line.Node n a))) ≡ true → ms ≡ []
no_messages [] n a h = refl
no_messages (m ∷ ms) n a h = absurd (both_ways false refl h)

node_turn : (ls : List Line) (n a : ℕ) → in_turn ls (line.Node n a) ≡ true → messages_of ls ≡ []
node_turn [] n a h = refl
node_turn (l ∷ ls) n a h = no_messages (messages_of (l ∷ ls)) n a h

none_of : (o : Option ℕ) → first_reason (record { holds = is_some o; reason = NumberUsed } ∷ []) ≡ None → o ≡ None
none_of None h = refl
none_of (Some x) h = let z : ◌≡◌ {A = ℕ} 0 1 = cc in absurd (omega arith)

else_none : (o : Option ℕ) → or_else o None ≡ o
else_none None = refl
else_none (Some x) = refl

-- The draft with one node more holds one N line more.
pub node_held : (ls : List Line) (old new : Draft) (n a : ℕ) → DraftOf ls old → fits (line.Node n a) ≡ true → in_turn ls (line.Node n a) ≡ true
    → first_reason (table_rules ls (line.Node n a)) ≡ None → NodeAdded old new n a → DraftOf (ls ++ line.Node n a ∷ []) new
node_held ls old new n a held f turn free added =
    let within_range = and_parts (admitted field.Node n) (admitted field.LastStart a && true) f in
    let bounds = and_parts (leb 1 n) (leb n 64) within_range.0 in
    let high : n ≤ 64 = leb-true n 64 bounds.1 in
    let inside : n < length (vec_items old.nodes) = omega (arith, old.nodes.ok.0) in
    let nothing = node_turn ls n a turn in
    let none : start_of ls n ≡ None = none_of (start_of ls n) free in
    let told_none : (ks : List Line) → messages_of ks ≡ [] → in_order ks ≡ [] = λ ks e. ap (λ ms. put_all told_up_to [] (map (λ m. record { message = m; latest = unwrap_or (start_of ks m.node) 0 }) ms)) e in
    record {
      bus = rw added.bus (bus_more ls (line.Node n a ∷ []) old.bus held.bus);
      nodes = λ k. ⊎_elim
          (λ same. ap (λ xs. get_or xs k None) added.nodes ∙ ap (λ j. get_or (set (vec_items old.nodes) n (Some a)) j None) same
          ∙ get_or-set_same (vec_items old.nodes) n (Some a) None inside
          ∙ sym (start_more ls (line.Node n a ∷ []) k ∙ ap (λ o. or_else o (cond (eqb n k) (Some a) None)) (ap (start_of ls) same ∙ none)
          ∙ ap (λ b. cond b (Some a) None) (eq-eqb n k (sym same))))
          (λ other. ap (λ xs. get_or xs k None) added.nodes ∙ get_or-set_other (vec_items old.nodes) n k (Some a) None other
          ∙ held.nodes k ∙ sym (start_more ls (line.Node n a ∷ []) k ∙ ap (λ b. or_else (start_of ls k) (cond b (Some a) None)) (ne_eqb n k (λ e. other (sym e)))
          ∙ else_none (start_of ls k)))
          (cases_eq k n);
      entries = ap (map entry_told) added.entries ∙ held.entries ∙ told_none ls nothing
          ∙ sym (told_none (ls ++ line.Node n a ∷ []) (messages_more ls (line.Node n a ∷ []) ∙ ap (λ ms. ms ++ []) nothing));
    }

-- What a draft's new entry says.
told_entry : (m : Message) (start : Option ℕ) (e : Entry) → Describes m start e → entry_told e ≡ record { message = m; latest = unwrap_or start 0 }
told_entry m start e h = λ i. record {
  message = record { number = h.number i; frame = h.frame i; node = h.node i; priority = h.priority i; size = h.size i; deadline = h.deadline i };
  latest = ap (λ o. unwrap_or o 0) (sym h.latest) i;
}

-- A line that gives a message, and no node.
pub record Gives (l : Line) (m : Message) : Type 0 where
  pub message : messages_of (l ∷ []) ≡ m ∷ []
  pub no_node : (n : ℕ) → start_of (l ∷ []) n ≡ None

pub gives_periodic : (m : Message) (t j : ℕ) → Gives (line.Periodic m t j) m
gives_periodic m t j = record { message = refl; no_node = λ n. refl }

pub gives_window : (m : Message) (n w : ℕ) → Gives (line.Window m n w) m
gives_window m n w = record { message = refl; no_node = λ k. refl }

-- The draft with one message more holds its line more.
pub message_held : (ls : List Line) (old new : Draft) (l : Line) (m : Message) → DraftOf ls old → Gives l m → MessageAdded old new m → DraftOf (ls ++ l ∷ []) new
message_held ls old new l m held gives added =
    let starts : (n : ℕ) → start_of (ls ++ l ∷ []) n ≡ start_of ls n = λ n. start_more ls (l ∷ []) n ∙ ap (or_else (start_of ls n)) (gives.no_node n) ∙ else_none (start_of ls n) in
    let told : Told = record { message = m; latest = unwrap_or (start_of ls m.node) 0 } in
    let toldOf-push : told_of (ls ++ l ∷ []) ≡ told_of ls ++ told ∷ [] =
    ap (λ (s : ℕ → Option ℕ). map (λ o. record { message = o; latest = unwrap_or (s o.node) 0 }) (messages_of (ls ++ l ∷ []))) (fun_ext starts)
    ∙ ap (map (λ o. record { message = o; latest = unwrap_or (start_of ls o.node) 0 })) (messages_more ls (l ∷ []) ∙ ap (λ ms. messages_of ls ++ ms) gives.message)
    ∙ map_push (λ o. record { message = o; latest = unwrap_or (start_of ls o.node) 0 }) (messages_of ls) m in
    let entry-told : entry_told added.entry ≡ told = told_entry m (latest_start_of old m.node) added.entry added.describes ∙ ap (λ o. record { message = m; latest = unwrap_or o 0 }) (held.nodes m.node) in
    record {
      bus = rw added.bus (bus_more ls (l ∷ []) old.bus held.bus);
      nodes = λ k. ap (λ xs. get_or xs k None) added.nodes ∙ held.nodes k ∙ sym (starts k);
      entries = ap (map entry_told) (placed_put by_frame added.entry (entries_of old) (entries_of new) added.placed)
          ∙ map_put_in entry_told told_up_to added.entry (entries_of old)
          ∙ ap (λ x. put_in told_up_to x (map entry_told (entries_of old))) entry-told
          ∙ ap (put_in told_up_to told) held.entries
          ∙ sym (ap (put_all told_up_to []) toldOf-push ∙ put_all_push told_up_to [] (told_of ls) told);
    }

get_d_none : (k n : ℕ) → get_or (replicate {A = Option ℕ} k None) n None ≡ None
get_d_none zero n = refl
get_d_none (suc k) zero = refl
get_d_none (suc k) (suc n) = get_d_none k n

-- A new draft holds the bus line.
pub bus_held : (d : Draft) (g s l q : ℕ) → Begun d g s l q → DraftOf (line.Bus g s l q ∷ []) d
bus_held d g s l q b = record {
  bus = b.bus;
  nodes = λ n. ap (λ xs. get_or xs n None) b.nodes ∙ get_d_none 65 n;
  entries = ap (map entry_told) b.entries;
}

pub bus_same : (g s l q : ℕ) → fits (line.Bus g s l q) ≡ true → first_reason (bus_checks g s l q) ≡ first_reason (table_rules [] (line.Bus g s l q))
bus_same g s l q f =
    let p = and_mono (admitted field.Cycle g) _ _ (and_mono (admitted field.Offset s) _ _ (and_mono (admitted field.Minislot l) _ _ (and_front (admitted field.Minislots q) true))) f in
    ap (λ b. cond (not b) (Some OutOfRange) (first_reason (record { holds = ltb g (s + q * l); reason = SegmentTooLong } ∷ []))) p

-- A bus line is in turn before all others only.
no_bus : (ms : List Message) (g s l q : ℕ) → is_some (next_phase (phase_of ms) (kind_of (line.Bus g s l q))) ≡ true → ⊥
no_bus [] g s l q h = both_ways false refl h
no_bus (m ∷ ms) g s l q h = both_ways false refl h

bus_turn : (ls : List Line) (b : Bus) (g s l q : ℕ) → HasBus ls b → in_turn ls (line.Bus g s l q) ≡ true → ⊥
bus_turn [] b g s l q h turn = h
bus_turn (k ∷ ks) b g s l q h turn = no_bus (messages_of (k ∷ ks)) g s l q turn

-- What the draft checks of a line is what the rules say of it.
pub said : (ls : List Line) (d : Draft) (l : Line) → DraftOf ls d → in_turn ls l ≡ true → fits l ≡ true
    → first_reason (noting_checks d l) ≡ first_reason (table_rules ls l)
said ls d (line.Bus g s l q) held turn f = absurd (bus_turn ls d.bus g s l q held.bus turn)
said ls d (line.Node n a) held turn f = node_same ls d held n a f
said ls d (line.Periodic m t j) held turn f = message_same ls d held m (in_range_periodic m t j f) (bus_minislots ls d.bus held.bus)
said ls d (line.Window m n w) held turn f = message_same ls d held m (in_range_window m n w f) (bus_minislots ls d.bus held.bus)

-- The draft with what a line more says holds one line more.
pub held_after : (ls : List Line) (old new : Draft) (l : Line) → DraftOf ls old → in_turn ls l ≡ true → fits l ≡ true
    → first_reason (table_rules ls l) ≡ None → Noted old new l → DraftOf (ls ++ l ∷ []) new
held_after ls old new (line.Bus g s l q) held turn f free noted = absurd noted
held_after ls old new (line.Node n a) held turn f free noted = node_held ls old new n a held f turn free noted
held_after ls old new (line.Periodic m t j) held turn f free noted = message_held ls old new (line.Periodic m t j) m held (gives_periodic m t j) noted
held_after ls old new (line.Window m n w) held turn f free noted = message_held ls old new (line.Window m n w) m held (gives_window m n w) noted

-- The same of the bus line, which comes first.
pub bus_said : (l : Line) → in_turn [] l ≡ true → fits l ≡ true → first_reason (bus_line_checks l) ≡ first_reason (table_rules [] l)
bus_said (line.Bus g s l q) turn f = bus_same g s l q f
bus_said (line.Node n a) turn f = absurd (both_ways false refl turn)
bus_said (line.Periodic m t j) turn f = absurd (both_ways false refl turn)
bus_said (line.Window m n w) turn f = absurd (both_ways false refl turn)

pub bus_drafted : (l : Line) (d : Draft) → BusDrafted l d → DraftOf (l ∷ []) d
bus_drafted (line.Bus g s l q) d b = bus_held d g s l q b
bus_drafted (line.Node n a) d b = absurd b
bus_drafted (line.Periodic m t j) d b = absurd b
bus_drafted (line.Window m n w) d b = absurd b

-- What the calls of a draft are checked for, and what the draft holds after them.
use Rattle.std.specs.Prelude.{◌≡◌, ℕ, ◌+◌, ◌-◌, ◌*◌, Bool, not, ◌&&◌, List, [], ◌∷◌, replicate, is_some, Some, None, vec_items, Option, ◌==◌, nat_lt, slice_index_or, slice_set, ◌||◌}
use Rattle.std.specs.Option.{unwrap_or}
use Rattle.fields.specs.Limits.{admitted, Admitted}
use Rattle.fields.specs.Refusals.{Check}
use Rattle.fields.specs.declared.limits.Field.TheVariants.{Cycle, Offset, Minislot, Minislots, Node, LastStart, Size, Message, Frame, Priority, Deadline}
use Rattle.fields.specs.declared.refusal.Reason.TheVariants.{OutOfRange, NumberUsed, NodeUnknown, SegmentTooLong, FrameOfAnotherNode, PriorityUsed, SizeTooLong, FrameAfterLastStart}
use Rattle.ranked.specs.Ranks.{Placed}
use Rattle.delay.specs.Order.{by_frame}
use Rattle.delay.specs.declared.bus.Bus.{Bus}
use Rattle.delay.specs.declared.entry.Entry.{Entry}
use Rattle.plan.specs.Entries.{some, numbered}
use Rattle.plan.specs.declared.draft.Draft.{Draft}
use Rattle.plan.specs.declared.draft.Message.{Message as Given}

-- The last start of a node, where the draft has that node.
abbrev pub latest_start_of : Draft → ℕ → Option ℕ
latest_start_of d n = slice_index_or (vec_items d.nodes) n None

-- The messages of the draft, by frame, then by priority.
abbrev pub entries_of : Draft → List Entry
entries_of d = vec_items d.entries

-- The checks of the bus figures: a range, and that the segment ends within the cycle.
abbrev pub bus_checks : ℕ → ℕ → ℕ → ℕ → List Check
bus_checks g s l q =
    record { holds = not (admitted Cycle g && (admitted Offset s && (admitted Minislot l && admitted Minislots q))); reason = OutOfRange }
    ∷ record { holds = nat_lt g (s + q * l); reason = SegmentTooLong } ∷ []

-- The bus has just these figures.
pub record IsBus (b : Bus) (g s l q : ℕ) : Type 0 where
  pub cycle : b.cycle ≡ g
  pub offset : b.offset ≡ s
  pub minislot : b.minislot ≡ l
  pub minislots : b.minislots ≡ q

-- A draft with a bus and nothing else.
pub record Begun (d : Draft) (g s l q : ℕ) : Type 0 where
  pub bus : IsBus d.bus g s l q
  pub nodes : vec_items d.nodes ≡ replicate 65 None
  pub entries : entries_of d ≡ []

-- The checks of a node.
abbrev pub node_checks : Draft → ℕ → ℕ → List Check
node_checks d n a =
    record { holds = not (admitted Node n && admitted LastStart a); reason = OutOfRange }
    ∷ record { holds = is_some (latest_start_of d n); reason = NumberUsed } ∷ []

-- The draft with one node more.
pub record NodeAdded (old new : Draft) (n a : ℕ) : Type 0 where
  pub bus : new.bus ≡ old.bus
  pub nodes : vec_items new.nodes ≡ slice_set (vec_items old.nodes) n (Some a)
  pub entries : entries_of new ≡ entries_of old

-- Every figure of the message is in its range.
abbrev pub in_range : Given → Bool
in_range m =
    admitted Message m.number && (admitted Frame m.frame && (admitted Node m.node && (admitted Priority m.priority
    && (admitted Size m.size && admitted Deadline m.deadline))))

pub record InRange (m : Given) : Type 0 where
  pub number : Admitted Message m.number
  pub frame : Admitted Frame m.frame
  pub node : Admitted Node m.node
  pub priority : Admitted Priority m.priority
  pub size : Admitted Size m.size
  pub deadline : Admitted Deadline m.deadline

-- An entry of the message's frame that belongs to another node; one that has the message's frame and priority.
abbrev pub of_another_node : Given → Entry → Bool
of_another_node m e = e.frame == m.frame && not (e.node == m.node)

abbrev pub as_urgent : Given → Entry → Bool
as_urgent m e = e.frame == m.frame && e.priority == m.priority

-- The entry has the message's number, or its frame at another node or with its priority.
abbrev pub clashing : Given → Entry → Bool
clashing m e = numbered m.number e || (of_another_node m e || as_urgent m e)

-- The checks of a message. Its last start is that of its node.
abbrev pub message_checks : Draft → Given → List Check
message_checks d m =
    record { holds = not (in_range m); reason = OutOfRange }
    ∷ record { holds = some (numbered m.number) (entries_of d); reason = NumberUsed }
    ∷ record { holds = not (is_some (latest_start_of d m.node)); reason = NodeUnknown }
    ∷ record { holds = some (of_another_node m) (entries_of d); reason = FrameOfAnotherNode }
    ∷ record { holds = some (as_urgent m) (entries_of d); reason = PriorityUsed }
    ∷ record { holds = nat_lt d.bus.minislots (unwrap_or (latest_start_of d m.node) 0 + m.size - 1); reason = SizeTooLong }
    ∷ record { holds = nat_lt (unwrap_or (latest_start_of d m.node) 0) m.frame; reason = FrameAfterLastStart } ∷ []

-- The entry is the message as given, with the last start of its node.
pub record Describes (m : Given) (start : Option ℕ) (e : Entry) : Type 0 where
  pub number : e.number ≡ m.number
  pub frame : e.frame ≡ m.frame
  pub node : e.node ≡ m.node
  pub priority : e.priority ≡ m.priority
  pub size : e.size ≡ m.size
  pub deadline : e.deadline ≡ m.deadline
  pub latest : start ≡ Some e.latest

-- The draft with one message more, at its place by frame and priority.
pub record MessageAdded (old new : Draft) (m : Given) : Type 0 where
  pub bus : new.bus ≡ old.bus
  pub nodes : vec_items new.nodes ≡ vec_items old.nodes
  pub entry : Entry
  pub describes : Describes m (latest_start_of old m.node) entry
  pub placed : Placed by_frame entry (entries_of old) (entries_of new)

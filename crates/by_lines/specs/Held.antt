-- What a read table holds: its lines, and the draft that they make.
use Rattle.std.specs.Prelude.{◌≡◌, ℕ, Bool, cond, ◌&&◌, ◌||◌, List, [], ◌∷◌, ◌++◌, map, None, vec_items, ◌==◌, nat_le, nat_lt}
use Rattle.std.specs.Option.{unwrap_or}
use Rattle.fields.specs.Refusals.{Check, first_reason}
use Rattle.delay.specs.declared.bus.Bus.{Bus}
use Rattle.delay.specs.declared.entry.Entry.{Entry}
use Rattle.plan.specs.Drafts.{IsBus, latest_start_of, entries_of}
use Rattle.plan.specs.declared.draft.Draft.{Draft}
use Rattle.plan.specs.declared.draft.Message.{Message}
use Rattle.by_lines.specs.Tables.{messages_of, start_of, FaultOf}
use Rattle.texts.specs.Readers.{bus_line_checks, BusDrafted, noting_checks, Noted}
use Rattle.texts.specs.declared.fault.TableFault.{TableFault}
use Rattle.texts.specs.declared.fault.TableFault.TheVariants as fault
use Rattle.texts.specs.declared.line.Line.{Line}
use Rattle.texts.specs.declared.line.Line.TheVariants as line
use Rattle.by_lines.specs.declared.table.Table.{Table}

-- A message of a table, with the last start of its node.
pub record Told : Type 0 where
  pub message : Message
  pub latest : ℕ

-- The messages of the lines, in their order.
abbrev pub told_of : List Line → List Told
told_of ls = map (λ m. record { message = m; latest = unwrap_or (start_of ls m.node) 0 }) (messages_of ls)

-- By frame, then by priority.
abbrev pub told_up_to : Told → Told → Bool
told_up_to x y =
    nat_lt x.message.frame y.message.frame
    || (x.message.frame == y.message.frame && nat_le x.message.priority y.message.priority)

-- A list in order with one element more: behind all that come up to it, before the rest.
abbrev pub put_in : {X : Type 0} → (X → X → Bool) → X → List X → List X
put_in upto x [] = x ∷ []
put_in upto x (y ∷ ys) = cond (upto y x) (y ∷ put_in upto x ys) (x ∷ y ∷ ys)

-- Elements put in one after the other.
abbrev pub put_all : {X : Type 0} → (X → X → Bool) → List X → List X → List X
put_all upto done [] = done
put_all upto done (x ∷ xs) = put_all upto (put_in upto x done) xs

-- The messages of the lines, by frame, then by priority.
abbrev pub in_order : List Line → List Told
in_order ls = put_all told_up_to [] (told_of ls)

-- What an entry of a draft says.
abbrev pub entry_told : Entry → Told
entry_told e = record {
  message = record { number = e.number; frame = e.frame; node = e.node; priority = e.priority; size = e.size; deadline = e.deadline };
  latest = e.latest;
}

-- The bus has the figures of the bus line, which comes first.
abbrev pub HasBus : List Line → Bus → Type 0
HasBus [] bus = ⊥
HasBus (line.Bus g s l q ∷ ls) bus = IsBus bus g s l q
HasBus (line.Node n a ∷ ls) bus = ⊥
HasBus (line.Periodic m t j ∷ ls) bus = ⊥
HasBus (line.Window m n w ∷ ls) bus = ⊥

-- The draft holds what the lines say.
pub record DraftOf (ls : List Line) (d : Draft) : Type 0 where
  pub bus : HasBus ls d.bus
  pub nodes : (n : ℕ) → latest_start_of d n ≡ start_of ls n
  pub entries : map entry_told (entries_of d) ≡ in_order ls

-- The first fault of a text, or no memory was left.
abbrev pub TableFaultOf : List ℕ → TableFault → Type 0
TableFaultOf text (fault.Refused f) = FaultOf text f.reason f.line
TableFaultOf text fault.Memory = Unit {0}

-- The lines of a read table.
abbrev pub lines_of : Table → List Line
lines_of t = vec_items t.lines

-- A table of the bus line, and one with one line more: the draft passed its checks, and the line is kept.
abbrev pub Begins : Line → Table → Type 0
Begins l t = (first_reason (bus_line_checks l) ≡ None) × BusDrafted l t.draft × (lines_of t ≡ l ∷ [])

abbrev pub Adds : Table → Table → Line → ℕ → Type 0
Adds old new l n = (first_reason (noting_checks old.draft l) ≡ None) × Noted old.draft new.draft l × (lines_of new ≡ lines_of old ++ l ∷ [])

-- What a line more is checked for: what its draft is asked.
abbrev pub checks_of : Table → Line → List Check
checks_of t l = noting_checks t.draft l

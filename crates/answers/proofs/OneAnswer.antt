-- A text has one answer only.
use Rattle.std.proofs.Common.{◌≡◌, ℕ, ◌+◌, ◌*◌, ◌≤◌, true, List, [], ◌∷◌, ◌++◌, map, IfOk, Ok, Err, string_bytes, Result, String, sym, refl, ap, ◌∙◌, subst, ap₂, inl, inr, arith}
use mathlib.Core.HLevel.{×_prop, is_prop→PathP}
use native.Mathlib.Bridge.{le_prop}
use Rattle.std.specs.declared.alloc.Global.{Global}
use Rattle.std.specs.List.{flat_map, AllByRecursion}
use Rattle.fields.specs.Limits.{Admitted}
use Rattle.fields.specs.Refusals.{number_of}
use Rattle.fields.specs.declared.limits.Field.{Field}
use Rattle.fields.specs.declared.limits.Field.TheVariants as field
use Rattle.ranked.specs.Ranks.{Ascending}
use Rattle.delay.specs.Order.{by_frame}
use Rattle.delay.specs.declared.bus.Bus.{Bus}
use Rattle.delay.specs.declared.entry.Entry.{Entry}
use Rattle.delay.specs.declared.entry.Row.{Row}
use Rattle.plan.specs.Drafts.{IsBus}
use Rattle.plan.specs.Sheets.{Sheet, FirstLate, figures_of}
use Rattle.plan.proofs.Only.{one_sheet, one_late, late_excludes}
use Rattle.texts.specs.Forms.{decimal, fields}
use Rattle.by_lines.specs.Held.{told_up_to, entry_told, in_order, HasBus}
use Rattle.by_lines.specs.Plans.{table_book, book_of_lines, SheetOf, LateAt, SheetPrinted, NoSheetOf, Printed}
use Rattle.by_lines.specs.Sheets.{line_of}
use Rattle.texts.specs.Sheets.{sheet_mark, text_of_row, text_of_sheet, text_of_fault}
use Rattle.texts.specs.declared.fault.LineFault.{LineFault}
use Rattle.texts.specs.declared.line.Line.{Line}
use Rattle.texts.specs.declared.line.Line.TheVariants as line
use Rattle.answers.specs.Answers.{OnlyAnswer}
use Rattle.answers.proofs.Order.{ordered}
use Rattle.answers.proofs.OneReading.{one_table, table_without_fault, one_fault}

admitted_prop : (f : Field) (v : ℕ) → IsProp (Admitted f v)
admitted_prop f v = ×_prop le_prop le_prop

-- Entries with the same figures are equal: their ranges are facts about the figures.
same_entry : (x y : Entry) → entry_told x ≡ entry_told y → x ≡ y
same_entry x y e = λ i. record {
  number = (e i).message.number;
  frame = (e i).message.frame;
  node = (e i).message.node;
  priority = (e i).message.priority;
  size = (e i).message.size;
  deadline = (e i).message.deadline;
  latest = (e i).latest;
  number_in = is_prop→PathP (λ j. Admitted field.Message (e j).message.number) (λ j. admitted_prop field.Message (e j).message.number) x.number_in y.number_in i;
  frame_in = is_prop→PathP (λ j. Admitted field.Frame (e j).message.frame) (λ j. admitted_prop field.Frame (e j).message.frame) x.frame_in y.frame_in i;
  node_in = is_prop→PathP (λ j. Admitted field.Node (e j).message.node) (λ j. admitted_prop field.Node (e j).message.node) x.node_in y.node_in i;
  priority_in = is_prop→PathP (λ j. Admitted field.Priority (e j).message.priority) (λ j. admitted_prop field.Priority (e j).message.priority) x.priority_in y.priority_in i;
  size_in = is_prop→PathP (λ j. Admitted field.Size (e j).message.size) (λ j. admitted_prop field.Size (e j).message.size) x.size_in y.size_in i;
  deadline_in = is_prop→PathP (λ j. Admitted field.Deadline (e j).message.deadline) (λ j. admitted_prop field.Deadline (e j).message.deadline) x.deadline_in y.deadline_in i;
  latest_in = is_prop→PathP (λ j. Admitted field.LastStart (e j).latest) (λ j. admitted_prop field.LastStart (e j).latest) x.latest_in y.latest_in i;
  starts = is_prop→PathP (λ j. (e j).message.frame ≤ (e j).latest) (λ j. le_prop) x.starts y.starts i;
}

same_entries : (xs ys : List Entry) → map entry_told xs ≡ map entry_told ys → xs ≡ ys
same_entries [] [] e = refl
same_entries [] (y ∷ ys) e = let z : ◌≡◌ {A = ℕ} 0 1 = cc in absurd (omega arith)
same_entries (x ∷ xs) [] e = let z : ◌≡◌ {A = ℕ} 0 1 = cc in absurd (omega arith)
same_entries (x ∷ xs) (y ∷ ys) e =
    let one : entry_told x ≡ entry_told y = cc in
    let rest : map entry_told xs ≡ map entry_told ys = cc in
    ap₂ (λ a b. a ∷ b) (same_entry x y one) (same_entries xs ys rest)

-- So are buses.
bus_from : (x y : Bus) (g s l q : ℕ) → IsBus x g s l q → IsBus y g s l q → x ≡ y
bus_from x y g s l q h k =
    let eg = h.cycle ∙ sym k.cycle in
    let es = h.offset ∙ sym k.offset in
    let el = h.minislot ∙ sym k.minislot in
    let eq = h.minislots ∙ sym k.minislots in
    λ i. record {
      cycle = eg i;
      offset = es i;
      minislot = el i;
      minislots = eq i;
      cycle_in = is_prop→PathP (λ j. Admitted field.Cycle (eg j)) (λ j. admitted_prop field.Cycle (eg j)) x.cycle_in y.cycle_in i;
      offset_in = is_prop→PathP (λ j. Admitted field.Offset (es j)) (λ j. admitted_prop field.Offset (es j)) x.offset_in y.offset_in i;
      minislot_in = is_prop→PathP (λ j. Admitted field.Minislot (el j)) (λ j. admitted_prop field.Minislot (el j)) x.minislot_in y.minislot_in i;
      minislots_in = is_prop→PathP (λ j. Admitted field.Minislots (eq j)) (λ j. admitted_prop field.Minislots (eq j)) x.minislots_in y.minislots_in i;
      segment = is_prop→PathP (λ j. es j + eq j * el j ≤ eg j) (λ j. le_prop) x.segment y.segment i;
    }

same_bus : (ls : List Line) (x y : Bus) → HasBus ls x → HasBus ls y → x ≡ y
same_bus [] x y h k = absurd h
same_bus (line.Bus g s l q ∷ ls) x y h k = bus_from x y g s l q h k
same_bus (line.Node n a ∷ ls) x y h k = absurd h
same_bus (line.Periodic m t j ∷ ls) x y h k = absurd h
same_bus (line.Window m n w ∷ ls) x y h k = absurd h

all_unmap : {X Y : Type 0} (f : X → Y) (P : Y → Type 0) (xs : List X) → AllByRecursion P (map f xs) → AllByRecursion (λ x. P (f x)) xs
all_unmap f P [] all = tt
all_unmap f P (x ∷ xs) all = (all.0, all_unmap f P xs all.1)

ascends_unmap : (xs : List Entry) → Ascending told_up_to (map entry_told xs) → Ascending by_frame xs
ascends_unmap [] asc = tt
ascends_unmap (x ∷ xs) asc = (all_unmap entry_told (λ y. told_up_to (entry_told x) y ≡ true) xs asc.0, ascends_unmap xs asc.1)

ascending : (ls : List Line) (entries : List Entry) → map entry_told entries ≡ in_order ls → Ascending by_frame entries
ascending ls entries e = ascends_unmap entries (rw e (ordered ls).ascends)

rows_printed : (xs ys : List Row) → map figures_of xs ≡ map figures_of ys → flat_map text_of_row xs ≡ flat_map text_of_row ys
rows_printed [] [] e = refl
rows_printed [] (y ∷ ys) e = let z : ◌≡◌ {A = ℕ} 0 1 = cc in absurd (omega arith)
rows_printed (x ∷ xs) [] e = let z : ◌≡◌ {A = ℕ} 0 1 = cc in absurd (omega arith)
rows_printed (x ∷ xs) (y ∷ ys) e =
    let one : figures_of x ≡ figures_of y = cc in
    let rest : map figures_of xs ≡ map figures_of ys = cc in
    ap₂ (λ a b. a ++ b) (ap (λ f. decimal f.entry.number ++ fields (f.entry.frame ∷ f.delay ∷ f.response ∷ []) (10 ∷ [])) one) (rows_printed xs ys rest)

-- The sheet of some lines is printed in one way.
one_sheet_text : (ls : List Line) (xs ys : List Row) → SheetOf ls xs → SheetOf ls ys → text_of_sheet xs ≡ text_of_sheet ys
one_sheet_text ls xs ys p q =
    let bus = same_bus ls q.bus p.bus q.has_bus p.has_bus in
    let entries = same_entries q.entries p.entries (q.messages ∙ sym p.messages) in
    let moved : Sheet p.bus table_book (book_of_lines ls) p.entries ys =
    subst (λ b. Sheet b table_book (book_of_lines ls) p.entries ys) bus (subst (λ es. Sheet q.bus table_book (book_of_lines ls) es ys) entries q.sheet) in
    ap (λ r. sheet_mark ++ r) (rows_printed xs ys (one_sheet p.bus table_book (book_of_lines ls) p.entries (ascending ls p.entries p.messages) xs ys p.sheet moved))

move_late : (ls : List Line) (b c : Bus) (es fs : List Entry) (n : ℕ) → b ≡ c → es ≡ fs → FirstLate b table_book (book_of_lines ls) es n → FirstLate c table_book (book_of_lines ls) fs n
move_late ls b c es fs n e f l = subst (λ x. FirstLate x table_book (book_of_lines ls) fs n) e (subst (λ xs. FirstLate b table_book (book_of_lines ls) xs n) f l)

never_both : (ls : List Line) (rows : List Row) (n : ℕ) → SheetOf ls rows → LateAt ls n → ⊥
never_both ls rows n p q =
    let l = move_late ls q.bus p.bus q.entries p.entries q.number (same_bus ls q.bus p.bus q.has_bus p.has_bus)
    (same_entries q.entries p.entries (q.messages ∙ sym p.messages)) q.late in
    late_excludes p.bus table_book (book_of_lines ls) l.front l.entry l.back l.rows rows l.before
    (rw l.parts at (ascending ls p.entries p.messages)) (subst (λ es. Sheet p.bus table_book (book_of_lines ls) es rows) l.parts p.sheet) l.here

one_late_line : (ls : List Line) (m n : ℕ) → LateAt ls m → LateAt ls n → m ≡ n
one_late_line ls m n p q =
    let l = move_late ls q.bus p.bus q.entries p.entries q.number (same_bus ls q.bus p.bus q.has_bus p.has_bus)
    (same_entries q.entries p.entries (q.messages ∙ sym p.messages)) q.late in
    p.at ∙ ap (line_of ls) (one_late p.bus table_book (book_of_lines ls) p.entries p.number q.number (ascending ls p.entries p.messages) p.late l) ∙ sym q.at

same_fault : (f g : LineFault) → f.reason ≡ g.reason → f.line ≡ g.line → text_of_fault f ≡ text_of_fault g
same_fault f g r l = ap₂ (λ x n. 69 ∷ fields (number_of x ∷ n ∷ []) (10 ∷ [])) r l

one_refusal : (text : List ℕ) (f g : LineFault) → NoSheetOf text f → NoSheetOf text g → text_of_fault f ≡ text_of_fault g
one_refusal text f g (inl p) (inl q) = let e = one_fault p q in same_fault f g e.0 e.1
one_refusal text f g (inl p) (inr q) = absurd (table_without_fault text q.lines q.read p)
one_refusal text f g (inr p) (inl q) = absurd (table_without_fault text p.lines p.read q)
one_refusal text f g (inr p) (inr q) =
    let same = one_table text q.lines p.lines q.read p.read in
    same_fault f g (p.reason ∙ sym q.reason) (one_late_line p.lines f.line g.line p.late (subst (λ ls. LateAt ls g.line) same q.late))

sheet_or_refusal : (text bytes : List ℕ) (f : LineFault) → SheetPrinted text bytes → NoSheetOf text f → ⊥
sheet_or_refusal text bytes f p (inl q) = table_without_fault text p.lines p.read q
sheet_or_refusal text bytes f p (inr q) =
    never_both p.lines p.rows f.line p.sheet (subst (λ ls. LateAt ls f.line) (one_table text q.lines p.lines q.read p.read) q.late)

-- A text has one answer only.
pub one_answer : (text a b : List ℕ) → Printed text a → Printed text b → a ≡ b
one_answer text a b (inl p) (inl q) =
    p.printed ∙ one_sheet_text p.lines p.rows q.rows p.sheet
    (subst (λ ls. SheetOf ls q.rows) (one_table text q.lines p.lines q.read p.read) q.sheet) ∙ sym q.printed
one_answer text a b (inl p) (inr q) = absurd (sheet_or_refusal text a q.0 p q.1)
one_answer text a b (inr p) (inl q) = absurd (sheet_or_refusal text b p.0 q p.1)
one_answer text a b (inr p) (inr q) = p.2 ∙ one_refusal text p.0 q.0 p.1 q.1 ∙ sym q.2

pub made_only : {E : Type 0} (text : List ℕ) (r : Result (String Global) E) → IfOk r (λ s. Printed text (string_bytes s)) → IfOk r (λ s. OnlyAnswer text (string_bytes s))
made_only text (Ok s) p = record { printed = p; only = λ other q. one_answer text other (string_bytes s) q p }
made_only text (Err e) p = tt

-- The answer to a text, found by computing: from its lines and the delays of its sheet, or the line at which it is refused.
use Rattle.std.proofs.Common.{◌≡◌, ℕ, ◌+◌, ◌-◌, ◌*◌, ◌<◌, ◌≤◌, Bool, true, ltb, List, [], ◌∷◌, ◌++◌, map, length, sym, refl, ap, ◌∙◌, subst, ap₂, ⊎_elim, append_assoc, arith}
use Rattle.std.specs.List.{range_with_len}
use Rattle.std.proofs.lemmas.List.{append-nil}
use Rattle.std.proofs.lemmas.Bool.{ltb-true, cases_lt}
use Rattle.fields.specs.Refusals.{first_reason}
use Rattle.fields.specs.declared.limits.Field.TheVariants as field
use Rattle.books.specs.Book.{Book}
use Rattle.delay.specs.Delay.{needed, Meets, Least}
use Rattle.delay.specs.Order.{by_frame}
use Rattle.delay.specs.declared.bus.Bus.{Bus}
use Rattle.delay.specs.declared.entry.Entry.{Entry}
use Rattle.delay.specs.declared.entry.Row.{Row}
use Rattle.plan.specs.Entries.{every}
use Rattle.plan.specs.Sheets.{RowOf, Sheet}
use Rattle.plan.proofs.Sheets.{sheet_push}
use Rattle.by_lines.specs.Held.{Told, entry_told, HasBus}
use Rattle.by_lines.specs.Tables.{longest_text, table_text, line_rules, AllAccepted, TableOf}
use Rattle.texts.specs.declared.line.Line.{Line}
use Rattle.texts.specs.declared.line.Line.TheVariants as line
use Rattle.worked.proofs.Finds.{Found, found, nothing, and_then, when_true, at_most, in_range, same_bytes, is_none, all_true, at_each}

abbrev pub accepted : (before ls : List Line) → Found (AllAccepted before ls)
accepted before [] = found tt
accepted before (l ∷ ls) = and_then (is_none (first_reason (line_rules before l))) (λ h. and_then (accepted (before ++ l ∷ []) ls) (λ t. found (h, t)))

abbrev pub table_of : (text : List ℕ) (ls : List Line) → Found (TableOf text ls)
table_of text ls =
    and_then (same_bytes text (table_text ls)) (λ p. and_then (at_most (length text) longest_text) (λ s. and_then (at_most 1 (length ls)) (λ b. and_then (accepted [] ls) (λ a.
    found (record { printed = p; short = s; begun = b; accepted = a })))))

abbrev pub bus_of : (ls : List Line) → Found ((b : Bus) × HasBus ls b)
bus_of [] = nothing
bus_of (line.Bus g s l q ∷ ls) =
    and_then (in_range field.Cycle g) (λ c. and_then (in_range field.Offset s) (λ o. and_then (in_range field.Minislot l) (λ m. and_then (in_range field.Minislots q) (λ n.
    and_then (at_most (s + q * l) g) (λ e. found (
      record { cycle = g; offset = s; minislot = l; minislots = q; cycle_in = c; offset_in = o; minislot_in = m; minislots_in = n; segment = e },
      record { cycle = refl; offset = refl; minislot = refl; minislots = refl },
    ))))))
bus_of (line.Node n a ∷ ls) = nothing
bus_of (line.Periodic m t j ∷ ls) = nothing
bus_of (line.Window m n w ∷ ls) = nothing

abbrev pub entry_of : (t : Told) → Found ((e : Entry) × (entry_told e ≡ t))
entry_of t =
    and_then (in_range field.Message t.message.number) (λ n. and_then (in_range field.Frame t.message.frame) (λ f. and_then (in_range field.Node t.message.node) (λ k.
    and_then (in_range field.Priority t.message.priority) (λ p. and_then (in_range field.Size t.message.size) (λ c. and_then (in_range field.Deadline t.message.deadline) (λ d.
    and_then (in_range field.LastStart t.latest) (λ a. and_then (at_most t.message.frame t.latest) (λ s. found (
      record {
        number = t.message.number;
        frame = t.message.frame;
        node = t.message.node;
        priority = t.message.priority;
        size = t.message.size;
        deadline = t.message.deadline;
        latest = t.latest;
        number_in = n;
        frame_in = f;
        node_in = k;
        priority_in = p;
        size_in = c;
        deadline_in = d;
        latest_in = a;
        starts = s;
      },
      refl,
    )))))))))

abbrev pub entries_of : (ts : List Told) → Found ((es : List Entry) × (map entry_told es ≡ ts))
entries_of [] = found ([], refl)
entries_of (t ∷ ts) = and_then (entry_of t) (λ e. and_then (entries_of ts) (λ es. found (e.0 ∷ es.0, ap₂ (λ a b. a ∷ b) e.1 es.1)))

module _ (bus : Bus) (b : Book) (s : b.State) where
  -- No delay below this one meets the definition.
  abbrev pub none_below : List Row → Entry → ℕ → Bool
  none_below rows i d = every (λ e. ltb (e + 1) (needed bus (b.count s) rows i e)) (range_with_len 1 (d - 1))

  pub least_from : (rows : List Row) (i : Entry) (d : ℕ) → 1 ≤ d → Meets bus (b.count s) rows i d → none_below rows i d ≡ true → Least bus (b.count s) rows i d
  least_from rows i d p m none = record {
    positive = p;
    meets = m;
    least = λ e q n. ⊎_elim
        (λ below. absurd (omega (arith, ltb-true (e + 1) (needed bus (b.count s) rows i e) (at_each (λ x. ltb (x + 1) (needed bus (b.count s) rows i x)) 1 (d - 1) none e q (omega arith)))))
        (λ l. l) (cases_lt e d);
  }

  abbrev pub row_of : (rows : List Row) (i : Entry) (d : ℕ) → Found ((r : Row) × (r.entry ≡ i) × RowOf bus b s rows r)
  row_of rows i d =
      and_then (at_most 1 d) (λ p. and_then (at_most (needed bus (b.count s) rows i d) (d + 1)) (λ m. and_then (when_true (none_below rows i d) (least_from rows i d p m)) (λ l.
      and_then (at_most (b.jitter s i.number + d) i.deadline) (λ t. found (
        record {
          entry = i;
          delay = d;
          response = b.jitter s i.number + d;
          whole = row_whole (b.jitter s i.number) d;
          timely = row_timely (b.jitter s i.number + d) i t;
        },
        refl,
        record { delay = l; response = refl; timely = t },
      )))))
    where
      row_whole : (j d : ℕ) → d ≤ j + d
      row_whole j d = omega arith

      row_timely : (r : ℕ) (i : Entry) → r ≤ i.deadline → r ≤ 4000000
      row_timely r i t = omega (arith, i.deadline_in.1)

  -- The sheet goes on from some rows, with a delay for each message to come.
  abbrev pub goes_on : (front : List Entry) (rows : List Row) → Sheet bus b s front rows → (todo : List Entry) (ds : List ℕ)
      → Found ((all : List Row) × Sheet bus b s (front ++ todo) all)
  goes_on front rows sheet [] ds = found (rows, subst (λ es. Sheet bus b s es rows) (sym (append-nil front)) sheet)
  goes_on front rows sheet (i ∷ todo) [] = nothing
  goes_on front rows sheet (i ∷ todo) (d ∷ ds) =
      and_then (row_of rows i d) (λ r. and_then (all_true (λ q. by_frame q.entry r.0.entry) rows) (λ o.
      and_then (goes_on (front ++ r.0.entry ∷ []) (rows ++ r.0 ∷ []) (sheet_push bus b s front rows r.0 sheet r.2 o) todo ds) (λ all.
      found (all.0, subst (λ es. Sheet bus b s es all.0) (append_assoc front (r.0.entry ∷ []) todo ∙ ap (λ e. front ++ e ∷ todo) r.1) all.1))))

  -- No delay at all is within the deadline.
  pub late_from : (rows : List Row) (i : Entry) → none_below rows i (i.deadline - b.jitter s i.number + 1) ≡ true
      → (d : ℕ) → 1 ≤ d → Meets bus (b.count s) rows i d → i.deadline < b.jitter s i.number + d
  late_from rows i none d p m =
      ⊎_elim (λ l. l)
      (λ within. absurd (omega (
        arith,
        ltb-true (d + 1) (needed bus (b.count s) rows i d)
            (at_each (λ x. ltb (x + 1) (needed bus (b.count s) rows i x)) 1 (i.deadline - b.jitter s i.number + 1 - 1) none d p (omega arith)),
      )))
      (cases_lt i.deadline (b.jitter s i.number + d))

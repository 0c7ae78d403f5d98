-- The worked cases, by their lines and delays: that these lead to the answers is computed.
use Rattle.std.proofs.Common.{◌≡◌, ℕ, zero, suc, ◌+◌, ◌-◌, Bool, true, false, ◌&&◌, List, [], ◌∷◌, ◌++◌, length, drop, Some, None, Option, refl, ap, inl, inr}
use Rattle.std.specs.List.{AllByRecursion}
use Rattle.std.proofs.lemmas.Bool.{and_parts, both_ways}
use Rattle.fields.specs.Refusals.{first_reason}
use Rattle.fields.specs.declared.refusal.Reason.{Reason}
use Rattle.fields.specs.declared.refusal.Reason.TheVariants.{NoDelay}
use Rattle.delay.specs.Delay.{lower_load, urgent_load}
use Rattle.delay.specs.declared.entry.Entry.{Entry}
use Rattle.texts.specs.Forms.{decimal}
use Rattle.by_lines.specs.Held.{in_order}
use Rattle.texts.specs.Lines.{line_text}
use Rattle.by_lines.specs.Plans.{table_book, book_of_lines, Printed}
use Rattle.by_lines.specs.Sheets.{line_of}
use Rattle.texts.specs.Sheets.{text_of_sheet, text_of_fault}
use Rattle.by_lines.specs.Tables.{longest_text, table_text, line_rules, refused, at_line}
use Rattle.texts.specs.declared.line.Line.{Line}
use Rattle.texts.specs.declared.line.Line.TheVariants as line
use Rattle.answers.proofs.OneAnswer.{one_answer}
use Rattle.worked.specs.Cases.{bytes_of, SheetCase, cases_of_sheets, Answered, AllAnswered}
use Rattle.worked.proofs.Finds.{Found, found, nothing, is_found, the_found, and_then, when_true, at_most, same_bytes, all_true}
use Rattle.worked.proofs.Sheets.{accepted, table_of, bus_of, entries_of, goes_on, none_below, late_from}

-- How a case comes to its answer: a sheet, by the lines of the table and the delays of its messages in order; a message without a
-- delay, by the lines and the delays of the messages before it; or a line that is refused, by those before it and itself.
data Course : Type 0 where
  to_sheet : List Line → List ℕ → Course
  to_late : List Line → List ℕ → Course
  to_line : List Line → Line → Course

record Split (es : List Entry) : Type 0 where
  front : List Entry
  entry : Entry
  back : List Entry
  parts : es ≡ front ++ entry ∷ back

abbrev split_at : (n : ℕ) (es : List Entry) → Found (Split es)
split_at n [] = nothing
split_at zero (e ∷ es) = found (record { front = []; entry = e; back = es; parts = refl })
split_at (suc n) (e ∷ es) =
    and_then (split_at n es) (λ s. found (record { front = e ∷ s.front; entry = s.entry; back = s.back; parts = ap (λ l. e ∷ l) s.parts }))

abbrev reason_of : (o : Option Reason) → Found ((r : Reason) × (o ≡ Some r))
reason_of None = nothing
reason_of (Some r) = found (r, refl)

abbrev answer : (text prints : List ℕ) → Course → Found (Printed text prints)
answer text prints (to_sheet ls ds) =
    and_then (table_of text ls) (λ t. and_then (bus_of ls) (λ bus. and_then (entries_of (in_order ls)) (λ es.
    and_then (goes_on bus.0 table_book (book_of_lines ls) [] [] (record { messages = refl; figures = tt }) es.0 ds) (λ rows.
    and_then (same_bytes prints (text_of_sheet rows.0)) (λ p. found (inl (record {
      lines = ls;
      read = t;
      rows = rows.0;
      sheet = record { bus = bus.0; has_bus = bus.1; entries = es.0; messages = es.1; sheet = rows.1 };
      printed = p;
    })))))))
answer text prints (to_late ls ds) =
    and_then (table_of text ls) (λ t. and_then (bus_of ls) (λ bus. and_then (entries_of (in_order ls)) (λ es. and_then (split_at (length ds) es.0) (λ s.
    and_then (goes_on bus.0 table_book (book_of_lines ls) [] [] (record { messages = refl; figures = tt }) s.front ds) (λ rows.
    and_then (when_true (none_below bus.0 table_book (book_of_lines ls) rows.0 s.entry (s.entry.deadline - table_book.jitter (book_of_lines ls) s.entry.number + 1))
    (late_from bus.0 table_book (book_of_lines ls) rows.0 s.entry)) (λ late.
    and_then (all_true (λ e. table_book.lists (book_of_lines ls) e.number) es.0) (λ listed.
    and_then (same_bytes prints (text_of_fault (record { reason = NoDelay; line = line_of ls s.entry.number }))) (λ p.
    found (inr (
      record { reason = NoDelay; line = line_of ls s.entry.number },
      inr (record {
        lines = ls;
        read = t;
        reason = refl;
        late = record {
          bus = bus.0;
          has_bus = bus.1;
          entries = es.0;
          messages = es.1;
          number = s.entry.number;
          late = record {
            listed = listed;
            front = s.front;
            entry = s.entry;
            back = s.back;
            parts = s.parts;
            rows = rows.0;
            before = rows.1;
            here = late;
            concerns = refl;
          };
          at = refl;
        };
      }),
      p,
    ))))))))))
answer text prints (to_line before l) =
    and_then (at_most (length text) longest_text) (λ short. and_then (accepted [] before) (λ all. and_then (reason_of (first_reason (line_rules before l))) (λ r.
    and_then (same_bytes text (table_text before ++ (line_text l ++ 10 ∷ drop (length (table_text before) + length (line_text l) + 1) text))) (λ t.
    and_then (same_bytes prints (text_of_fault (record { reason = r.0; line = length before + 2 }))) (λ p.
    found (inr (
      record { reason = r.0; line = length before + 2 },
      inl (at_line before (line_text l ++ 10 ∷ drop (length (table_text before) + length (line_text l) + 1) text) r.0
          short t all (refused l (drop (length (table_text before) + length (line_text l) + 1) text) r.0 refl r.1)),
      p,
    )))))))

-- Every case comes to its answer on its course.
abbrev passes : List SheetCase → List Course → Bool
passes [] ks = true
passes (c ∷ cs) [] = false
passes (c ∷ cs) (k ∷ ks) = is_found (answer (bytes_of c.table) (bytes_of c.prints) k) && passes cs ks

all_answered : (cs : List SheetCase) (ks : List Course) → passes cs ks ≡ true → AllByRecursion Answered cs
all_answered [] ks h = tt
all_answered (c ∷ cs) [] h = absurd (both_ways false refl h)
all_answered (c ∷ cs) (k ∷ ks) h =
    let parts = and_parts (is_found (answer (bytes_of c.table) (bytes_of c.prints) k)) (passes cs ks) h in
    let printed = the_found (answer (bytes_of c.table) (bytes_of c.prints) k) parts.0 in
    (record { printed = printed; only = λ other q. one_answer (bytes_of c.table) other (bytes_of c.prints) q printed }, all_answered cs ks parts.1)

-- The lines of the cluster, by what is varied in it.
abbrev head : ℕ → ℕ → List Line
head offset start =
    line.Bus 100 offset 2 25 ∷ line.Node 1 20 ∷ line.Node 2 18 ∷ line.Node 3 start
    ∷ line.Periodic (record { number = 1; frame = 1; node = 1; priority = 1; size = 5; deadline = 400 }) 400 0 ∷ []

abbrev second : ℕ → Line
second size = line.Periodic (record { number = 2; frame = 2; node = 2; priority = 1; size = size; deadline = 600 }) 600 20

abbrev cluster : ℕ → ℕ → ℕ → List Line
cluster offset start deadline =
    head offset start ++ (second 8 ∷ line.Window (record { number = 3; frame = 2; node = 2; priority = 2; size = 3; deadline = 700 }) 2 500
    ∷ line.Periodic (record { number = 4; frame = 5; node = 3; priority = 1; size = 2; deadline = deadline }) 300 50 ∷ [])

abbrev courses : List Course
courses =
    to_sheet (cluster 40 20 300) (147 ∷ 147 ∷ 337 ∷ 133 ∷ [])
    ∷ to_sheet (cluster 40 19 300) (147 ∷ 147 ∷ 337 ∷ 231 ∷ [])
    ∷ to_sheet (cluster 40 19 281) (147 ∷ 147 ∷ 337 ∷ 231 ∷ [])
    ∷ to_late (cluster 40 19 280) (147 ∷ 147 ∷ 337 ∷ [])
    ∷ to_line (head 40 20) (second 9)
    ∷ to_sheet (cluster 50 20 300) (147 ∷ 147 ∷ 337 ∷ 133 ∷ [])
    ∷ to_line [] (line.Bus 100 51 2 25) ∷ []

pub worked : AllAnswered
unfolding decimal lower_load urgent_load book_of_lines
worked = all_answered cases_of_sheets courses refl

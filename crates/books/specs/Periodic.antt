-- The periodic book: the nominal times of a message's releases lie at least a period apart, and each release comes at
-- its nominal time or up to the jitter before it.
use Rattle.std.specs.Prelude.{ℕ, ◌+◌, ◌-◌, ◌≤◌, max, cond, ◌&&◌, List, Some, None, vec_items, Option, ◌==◌}
use Rattle.fields.specs.Limits.{Admitted, admitted}
use Rattle.fields.specs.declared.limits.Field.TheVariants.{Period, Jitter, Time}
use Rattle.books.specs.Rows.{Kind, rounded_up, rows_for}
use Rattle.books.specs.declared.periodic.PeriodicMessage.{PeriodicMessage}
use Rattle.books.specs.declared.periodic.row.PeriodicRow.{PeriodicRow}
use Rattle.books.specs.declared.rows.RowBook.{RowBook}

-- What is kept for a message: its period and jitter, the time of the last release, and the least nominal time of the next.
pub record Nominal : Type 0 where
  pub period : ℕ
  pub jitter : ℕ
  pub last : ℕ
  pub next : ℕ

-- The figures are in range, and the next release is due no later than a period after the last.
pub record SoundNominal (x : Nominal) : Type 0 where
  pub period : Admitted Period x.period
  pub jitter : Admitted Jitter x.jitter
  pub last : Admitted Time x.last
  pub next : x.next ≤ x.last + x.jitter + x.period

-- A release may come the jitter before its nominal time, and not before the last. Its nominal time is the least there
-- is, or its own time where that is later, and the next nominal time lies a period after it.
abbrev pub periodic : Kind
periodic = record {
  Row = Nominal;
  Sound = SoundNominal;
  earliest = λ x. max x.last (x.next - x.jitter);
  rest = λ x. x.period;
  jitter = λ x. x.jitter;
  count = λ x len. cond (len == 0) 0 (rounded_up (len + x.jitter) x.period);
  after = λ x t. record { period = x.period; jitter = x.jitter; last = t; next = max x.next t + x.period };
}

-- The row that a message begins with, where its period and its jitter are in range.
abbrev pub first_nominal : PeriodicMessage → Option Nominal
first_nominal m =
    cond (admitted Period m.period && admitted Jitter m.jitter)
    (Some (record { period = m.period; jitter = m.jitter; last = 0; next = 0 })) None

-- The row that a kept value stands for.
abbrev pub nominal_of : PeriodicRow → Nominal
nominal_of x = record { period = x.period; jitter = x.jitter; last = x.last; next = x.next }

abbrev pub PeriodicBook : Type 0
PeriodicBook = RowBook PeriodicRow

-- The rows of a book, by message number.
abbrev pub nominal_rows : PeriodicBook → List (Option Nominal)
nominal_rows b = rows_for nominal_of (vec_items b.places)

-- The window book: of a message, no window holds more than so many releases.
use Rattle.std.specs.Prelude.{ℕ, ◌+◌, ◌-◌, ◌*◌, ◌≤◌, max, cond, ◌&&◌, List, ◌∷◌, take, replicate, Some, None, vec_items, Option, slice_index}
use Rattle.fields.specs.Limits.{Admitted, admitted}
use Rattle.fields.specs.declared.limits.Field.TheVariants.{Releases, Window, Time}
use Rattle.books.specs.Rows.{Kind, rounded_up, rows_for}
use Rattle.books.specs.declared.window.WindowMessage.{WindowMessage}
use Rattle.books.specs.declared.window.row.WindowRow.{WindowRow}
use Rattle.books.specs.declared.rows.RowBook.{RowBook}

-- What is kept for a message: how many releases a window holds, its length, the time of the last release, and when the
-- windows end that the last sixteen releases began, newest first, with 0 where there was none.
pub record Span : Type 0 where
  pub releases : ℕ
  pub window : ℕ
  pub last : ℕ
  pub ends : List ℕ

-- The figures are in range, and no window ends later than that of the last release.
pub record SoundSpan (x : Span) : Type 0 where
  pub releases : Admitted Releases x.releases
  pub window : Admitted Window x.window
  pub last : Admitted Time x.last
  pub ends : (k : ℕ) → slice_index x.ends k ≤ x.last + x.window

-- With n releases to a window, a release may come when the window is over that the n-th last release began, and not
-- before the last release.
abbrev pub windowed : Kind
windowed = record {
  Row = Span;
  Sound = SoundSpan;
  earliest = λ x. max x.last (slice_index x.ends (x.releases - 1));
  rest = λ x. x.window;
  jitter = λ x. 0;
  count = λ x len. x.releases * rounded_up len x.window;
  after = λ x t. record { releases = x.releases; window = x.window; last = t; ends = (t + x.window) ∷ take 15 x.ends };
}

-- The row that a message begins with, where its figures are in range.
abbrev pub first_span : WindowMessage → Option Span
first_span m =
    cond (admitted Releases m.releases && admitted Window m.window)
    (Some (record { releases = m.releases; window = m.window; last = 0; ends = replicate 16 0 })) None

-- The row that a kept value stands for.
abbrev pub span_of : WindowRow → Span
span_of x = record { releases = x.releases; window = x.window; last = x.last; ends = x.ends }

abbrev pub WindowBook : Type 0
WindowBook = RowBook WindowRow

-- The rows of a book, by message number.
abbrev pub span_rows : WindowBook → List (Option Span)
span_rows b = rows_for span_of (vec_items b.places)

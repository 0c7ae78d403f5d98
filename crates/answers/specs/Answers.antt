-- Laws of texts: a text has one answer, a table one text, and a table's messages stand in one order.
use Rattle.std.specs.Prelude.{◌≡◌, ℕ, Bool, List}
use Rattle.ranked.specs.Ranks.{Ascending}
use Rattle.books.specs.Book.{tally}
use Rattle.by_lines.specs.Held.{Told, told_of, told_up_to, in_order}
use Rattle.by_lines.specs.Plans.{Printed}
use Rattle.by_lines.specs.Tables.{table_text}
use Rattle.texts.specs.declared.line.Line.{Line}

-- The bytes are what is printed of the text, and nothing else can be.
pub record OnlyAnswer (text bytes : List ℕ) : Type 0 where
  pub printed : Printed text bytes
  pub only : (other : List ℕ) → Printed text other → other ≡ bytes

-- The bytes are the text of a table of these lines, and of no others.
pub record OnlyTable (ls : List Line) (bytes : List ℕ) : Type 0 where
  pub printed : bytes ≡ table_text ls
  pub only : (ks : List Line) → bytes ≡ table_text ks → ks ≡ ls

-- The messages in order are those of the lines, each as often, and they ascend by frame, then by priority.
pub record InOrderOf (ls : List Line) : Type 0 where
  pub ascends : Ascending told_up_to (in_order ls)
  pub same : (test : Told → Bool) → tally test (in_order ls) ≡ tally test (told_of ls)

abbrev pub Ordered : Type 0
Ordered = (ls : List Line) → InOrderOf ls

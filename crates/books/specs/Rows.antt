-- Books that keep a row for each message that they list: what a row is, the laws that rows keep, and what such a book is.
use Rattle.std.specs.Prelude.{◌≡◌, ℕ, ◌+◌, ◌*◌, ◌/◌, ◌%◌, ◌<◌, ◌≤◌, min, Bool, true, ◌&&◌, List, [], ◌∷◌, map, is_some, Some, None, Option, Result, nat_le, nat_lt, slice_index_or, slice_set}
use Rattle.std.specs.Option.{option_map, unwrap_or}
use Rattle.fields.specs.Limits.{Admitted}
use Rattle.fields.specs.Refusals.{Verdict}
use Rattle.fields.specs.declared.refusal.Refusal.{Refusal}
use Rattle.fields.specs.declared.refusal.Place.TheVariants as place
use Rattle.fields.specs.declared.limits.Field.TheVariants.{Message, Time}
use Rattle.books.specs.Book.{Book, question_checks, tally, largest}

-- What a kind of book keeps for one message, what each row says of it, and the row after an accepted release at a time.
-- A sound row is one that a book can hold.
pub record Kind : Type 1 where
  pub Row : Type 0
  pub Sound : Row → Type 0
  pub earliest : Row → ℕ
  pub rest : Row → ℕ
  pub jitter : Row → ℕ
  pub count : Row → ℕ → ℕ
  pub after : Row → ℕ → Row

-- Times of releases of one message accepted one after the other, the newest first, and the row after them.
pub data Taken (k : Kind) (first : k.Row) : List ℕ → k.Row → Type 0 where
  none : Taken k first [] first
  one_more : {ts : List ℕ} {x : k.Row} {t : ℕ} → Taken k first ts x → Admitted Time t → k.earliest x ≤ t
      → Taken k first (t ∷ ts) (k.after x t)

-- The quotient, rounded up.
abbrev pub rounded_up : ℕ → ℕ → ℕ
rounded_up n by = n / by + min 1 (n % by)

-- The time lies in the half-open stretch that begins at a time and has a length.
abbrev pub inside : ℕ → ℕ → ℕ → Bool
inside from len t = nat_le from t && nat_lt t (from + len)

-- The laws of rows.
pub record RowLaws (k : Kind) : Type 0 where
  pub next : (x : k.Row) (t : ℕ) → k.Sound x → Admitted Time t → k.earliest x ≤ t
      → (t ≤ k.earliest (k.after x t)) × (k.earliest (k.after x t) ≤ t + k.rest x)
  pub stays_sound : (x : k.Row) (t : ℕ) → k.Sound x → Admitted Time t → k.earliest x ≤ t → k.Sound (k.after x t)
  pub same_rest : (x : k.Row) (t : ℕ) → k.rest (k.after x t) ≡ k.rest x
  pub same_jitter : (x : k.Row) (t : ℕ) → k.jitter (k.after x t) ≡ k.jitter x
  pub same_count : (x : k.Row) (t len : ℕ) → k.count (k.after x t) len ≡ k.count x len
  pub count_none : (x : k.Row) → k.Sound x → k.count x 0 ≡ 0
  pub count_some : (x : k.Row) (len : ℕ) → k.Sound x → 0 < len → 1 ≤ k.count x len
  pub count_grows : (x : k.Row) (len more : ℕ) → k.Sound x → len ≤ more → k.count x len ≤ k.count x more
  pub count_bound : (x : k.Row) (len : ℕ) → k.Sound x → k.count x len ≤ 16 * (len + largest)
  pub rest_bound : (x : k.Row) → k.Sound x → k.rest x ≤ largest
  pub jitter_bound : (x : k.Row) → k.Sound x → k.jitter x ≤ largest
  -- no stretch holds more of the accepted releases than the count of its length
  pub counted : (first x : k.Row) (ts : List ℕ) → k.Sound first → Taken k first ts x
      → (from len : ℕ) → tally (inside from len) ts ≤ k.count first len

-- The rows that kept values stand for, place by place.
abbrev pub rows_for : {V X : Type 0} → (V → X) → List (Option V) → List (Option X)
rows_for f = map (option_map f)

-- The row of a message, where one is kept.
abbrev pub row_at : {X : Type 0} → List (Option X) → ℕ → Option X
row_at rows m = slice_index_or rows m None

-- A figure of a message: that of its row.
abbrev pub figure : {X : Type 0} → (X → ℕ) → List (Option X) → ℕ → ℕ
figure f rows m = unwrap_or (option_map f (row_at rows m)) 0

-- Rows that a book can hold: those of messages in range, each sound.
pub record SoundRows (k : Kind) (rows : List (Option k.Row)) : Type 0 where
  pub in_range : (m : ℕ) → is_some (row_at rows m) ≡ true → Admitted Message m
  pub row_sound : (m : ℕ) (x : k.Row) → row_at rows m ≡ Some x → k.Sound x

-- The book that keeps a row for each message that it lists, by message number.
abbrev pub row_book : Kind → Book
row_book k = record {
  State = List (Option k.Row);
  Sound = SoundRows k;
  lists = λ rows m. is_some (row_at rows m);
  earliest = figure k.earliest;
  rest = figure k.rest;
  jitter = figure k.jitter;
  count = λ rows m len. figure (λ x. k.count x len) rows m;
  after = λ rows m t. slice_set rows m (option_map (λ x. k.after x t) (row_at rows m));
}

-- The answer to a question that hands out the value kept for a message, where values stand for rows by a function.
abbrev pub Found : {V : Type 0} (k : Kind) → (V → k.Row) → List (Option V) → ℕ → Result V Refusal → Type 0
Found k f vs m r = Verdict (question_checks (row_book k) (rows_for f vs) m) place.Book m (λ v. row_at (rows_for f vs) m ≡ Some (f v)) r

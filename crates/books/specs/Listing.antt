-- How a book is made of a list of messages: which of them may be listed, and the rows that it then begins with.
use Rattle.std.specs.Prelude.{◌≡◌, ℕ, ◌<◌, Bool, false, cond, not, ◌&&◌, ◌||◌, List, [], ◌∷◌, length, take, is_some, Some, None, Option, Result, ◌==◌, slice_index_or}
use Rattle.std.specs.Result as results
use Rattle.fields.specs.Limits.{admitted}
use Rattle.fields.specs.Refusals.{Check, first_reason, Verdict}
use Rattle.fields.specs.declared.limits.Field.TheVariants.{Message}
use Rattle.fields.specs.declared.refusal.MakingFault.{MakingFault}
use Rattle.fields.specs.declared.refusal.MakingFault.TheVariants as fault
use Rattle.fields.specs.declared.refusal.Place.TheVariants as place
use Rattle.fields.specs.declared.refusal.Reason.{Reason}
use Rattle.fields.specs.declared.refusal.Reason.TheVariants.{OutOfRange, NumberUsed}
use Rattle.fields.specs.declared.refusal.Refusal.{Refusal}
use Rattle.books.specs.Rows.{row_at}

-- The checks of a message that is to be listed: number and figures in range, and a number that is not used.
abbrev pub listing_checks : {X : Type 0} → ℕ → Option X → Bool → List Check
listing_checks n row isUsed =
    record { holds = not (admitted Message n && is_some row); reason = OutOfRange } ∷ record { holds = isUsed; reason = NumberUsed } ∷ []

-- What listing a message with a row answers, and the rows after it.
abbrev pub RowListed : {X : Type 0} → List (Option X) → ℕ → Option X → Result Unit Refusal → List (Option X) → Type 0
RowListed rows n row r rows' =
    Verdict (listing_checks n row (is_some (row_at rows n))) place.Book n (λ _. Unit {0}) r
    × ((k : ℕ) → row_at rows' k ≡ cond (results.is_ok r && n == k) row (row_at rows k))

-- A number is that of some of the messages.
abbrev pub used : {M : Type 0} → (M → ℕ) → List M → ℕ → Bool
used number [] n = false
used number (e ∷ es) n = number e == n || used number es n

-- The messages that a book is made of, by the number of each and the row that it begins with: none where a figure is out of range.
module _ {M X : Type 0} (number : M → ℕ) (begins : M → Option X) where
  -- The row that the messages give for a number.
  abbrev pub given : List M → ℕ → Option X
  given [] n = None
  given (e ∷ es) n = cond (number e == n) (begins e) (given es n)

  -- Why the message at a place is wrong, if it is: its range, and then whether a message before it has its number.
  abbrev pub wrong_at : List M → ℕ → M → Option Reason
  wrong_at es i e = first_reason (listing_checks (number e) (begins e) (used number (take i es) (number e)))

  -- The messages before a place are right.
  abbrev pub RightBelow : List M → ℕ → Type 0
  RightBelow es i = (k : ℕ) (d : M) → k < i → wrong_at es k (slice_index_or es k d) ≡ None

  -- A refusal names the first wrong message, and says why it is wrong.
  pub record FirstWrong (es : List M) (r : Refusal) : Type 0 where
    pub at : ℕ
    pub in_list : at < length es
    pub before : RightBelow es at
    pub reason : (d : M) → wrong_at es at (slice_index_or es at d) ≡ Some r.reason
    pub place : r.place ≡ place.Book
    pub concerns : (d : M) → r.concerns ≡ number (slice_index_or es at d)

  -- Why no book was made of the messages. Of a want of memory nothing is said.
  abbrev pub NotMade : List M → MakingFault → Type 0
  NotMade es (fault.Refused r) = FirstWrong es r
  NotMade es fault.Memory = Unit {0}

  -- What making a book of the messages answers: where none is wrong, a book with just their rows.
  abbrev pub Making : {B : Type 0} → (B → List (Option X)) → List M → Result B MakingFault → Type 0
  Making rows_of es r = results.MatchResult r (λ b. RightBelow es (length es) × ((n : ℕ) → row_at (rows_of b) n ≡ given es n)) (NotMade es)

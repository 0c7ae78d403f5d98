-- What a release book is: states, what each says of every message, and the laws that they keep.
use Rattle.std.specs.Prelude.{◌≡◌, ℕ, ◌+◌, ◌*◌, ◌<◌, ◌≤◌, Bool, true, cond, not, ◌&&◌, List, [], ◌∷◌, is_ok, Result, ◌==◌, ◌≢◌, nat_le, nat_lt}
use Rattle.fields.specs.Limits.{Admitted, admitted}
use Rattle.fields.specs.Refusals.{Check, Verdict}
use Rattle.fields.specs.declared.refusal.Refusal.{Refusal}
use Rattle.fields.specs.declared.refusal.Reason.TheVariants.{OutOfRange, NotListed, TooEarly}
use Rattle.fields.specs.declared.refusal.Place.TheVariants as place
use Rattle.fields.specs.declared.limits.Field.TheVariants.{Message, Time}

-- The states of a kind of book, and what each says: the messages listed; of each its earliest next release, its rest,
-- its jitter and its count for every length; and the state after an accepted release of a message at a time.
-- A sound state is one that a book can be in.
pub record Book : Type 1 where
  pub State : Type 0
  pub Sound : State → Type 0
  pub lists : State → ℕ → Bool
  pub earliest : State → ℕ → ℕ
  pub rest : State → ℕ → ℕ
  pub jitter : State → ℕ → ℕ
  pub count : State → ℕ → ℕ → ℕ
  pub after : State → ℕ → ℕ → State

-- One release of one message.
pub record Release : Type 0 where
  pub message : ℕ
  pub time : ℕ

-- The book in this state accepts a release of the message at the time.
pub record Accepts (b : Book) (s : b.State) (m t : ℕ) : Type 0 where
  pub listed : b.lists s m ≡ true
  pub in_range : Admitted Time t
  pub due : b.earliest s m ≤ t

-- Releases accepted one after the other, the newest first, and the state after them.
pub data Accepted (b : Book) (first : b.State) : List Release → b.State → Type 0 where
  none : Accepted b first [] first
  one_more : {rs : List Release} {s : b.State} {m t : ℕ} → Accepted b first rs s → Accepts b s m t
      → Accepted b first (record { message = m; time = t } ∷ rs) (b.after s m t)

-- Every message may be released at once.
abbrev pub Fresh : (b : Book) → b.State → Type 0
Fresh b s = (m : ℕ) → b.lists s m ≡ true → b.earliest s m ≡ 0

-- How many elements pass a test.
abbrev pub tally : {X : Type 0} → (X → Bool) → List X → ℕ
tally p [] = 0
tally p (x ∷ xs) = cond (p x) 1 0 + tally p xs

-- The release is one of the message, in the half-open stretch that begins at a time and has a length.
abbrev pub within : ℕ → ℕ → ℕ → Release → Bool
within m from len r = r.message == m && (nat_le from r.time && nat_lt r.time (from + len))

-- The longest stretch that a book answers a count for, and the most that a rest or a jitter comes to.
abbrev pub longest : ℕ
longest = 16000000

abbrev pub largest : ℕ
largest = 4000000

-- The laws of release books.
pub record Lawful (b : Book) : Type 0 where
  -- only numbers in range are listed
  pub listed : (s : b.State) (m : ℕ) → b.Sound s → b.lists s m ≡ true → Admitted Message m
  -- an accepted release moves E to its own time at least, and past its rest at most
  pub next : (s : b.State) (m t : ℕ) → b.Sound s → Accepts b s m t
      → (t ≤ b.earliest (b.after s m t) m) × (b.earliest (b.after s m t) m ≤ t + b.rest s m)
  pub stays_sound : (s : b.State) (m t : ℕ) → b.Sound s → Accepts b s m t → b.Sound (b.after s m t)
  -- what a release does not touch
  pub same_lists : (s : b.State) (m t k : ℕ) → b.Sound s → Accepts b s m t → b.lists (b.after s m t) k ≡ b.lists s k
  pub same_rest : (s : b.State) (m t k : ℕ) → b.Sound s → Accepts b s m t → b.rest (b.after s m t) k ≡ b.rest s k
  pub same_jitter : (s : b.State) (m t k : ℕ) → b.Sound s → Accepts b s m t → b.jitter (b.after s m t) k ≡ b.jitter s k
  pub same_count : (s : b.State) (m t k len : ℕ) → b.Sound s → Accepts b s m t → b.count (b.after s m t) k len ≡ b.count s k len
  pub others : (s : b.State) (m t k : ℕ) → b.Sound s → Accepts b s m t → (k ≢ m) → b.earliest (b.after s m t) k ≡ b.earliest s k
  -- counts
  pub count_none : (s : b.State) (m : ℕ) → b.Sound s → b.lists s m ≡ true → b.count s m 0 ≡ 0
  pub count_some : (s : b.State) (m len : ℕ) → b.Sound s → b.lists s m ≡ true → 0 < len → 1 ≤ b.count s m len
  pub count_grows : (s : b.State) (m len more : ℕ) → b.Sound s → b.lists s m ≡ true → len ≤ more → b.count s m len ≤ b.count s m more
  pub count_bound : (s : b.State) (m len : ℕ) → b.Sound s → b.lists s m ≡ true → b.count s m len ≤ 16 * (len + largest)
  pub rest_bound : (s : b.State) (m : ℕ) → b.Sound s → b.lists s m ≡ true → b.rest s m ≤ largest
  pub jitter_bound : (s : b.State) (m : ℕ) → b.Sound s → b.lists s m ≡ true → b.jitter s m ≤ largest
  -- of the releases of one message accepted since a state with its E at 0, whatever that of the others is, no stretch
  -- holds more than the count of its length
  pub counted : (first s : b.State) (rs : List Release) → b.Sound first → Accepted b first rs s
      → (m from len : ℕ) → b.lists first m ≡ true → b.earliest first m ≡ 0 → tally (within m from len) rs ≤ b.count first m len

-- The checks of a release, of a question about a message, and of one about a count, in their order.
abbrev pub release_checks : (b : Book) → b.State → ℕ → ℕ → List Check
release_checks b s m t =
    record { holds = not (admitted Message m && admitted Time t); reason = OutOfRange }
    ∷ record { holds = not (b.lists s m); reason = NotListed }
    ∷ record { holds = nat_lt t (b.earliest s m); reason = TooEarly } ∷ []

abbrev pub question_checks : (b : Book) → b.State → ℕ → List Check
question_checks b s m =
    record { holds = not (admitted Message m); reason = OutOfRange } ∷ record { holds = not (b.lists s m); reason = NotListed } ∷ []

abbrev pub count_checks : (b : Book) → b.State → ℕ → ℕ → List Check
count_checks b s m len = record { holds = nat_lt longest len; reason = OutOfRange } ∷ question_checks b s m

-- The answer to a release, and the state after it.
abbrev pub Released : (b : Book) → b.State → ℕ → ℕ → Result Unit Refusal → b.State → Type 0
Released b s m t r s' =
    Verdict (release_checks b s m t) place.Book m (λ _. Unit {0}) r × (s' ≡ cond (is_ok r) (b.after s m t) s)

-- The answer to a question about a message: the figure, where the book lists it.
abbrev pub Listed : (b : Book) → b.State → ℕ → ℕ → Result ℕ Refusal → Type 0
Listed b s m v r = Verdict (question_checks b s m) place.Book m (λ x. x ≡ v) r

-- The answer to a question about a count.
abbrev pub Counted : (b : Book) → b.State → ℕ → ℕ → Result ℕ Refusal → Type 0
Counted b s m len r = Verdict (count_checks b s m len) place.Book m (λ x. x ≡ b.count s m len) r

-- What a send buffer means, and what each call does to that meaning.
use Rattle.std.specs.Prelude.{◌≡◌, ℕ, Bool, not, ◌&&◌, List, [], ◌∷◌, length, IfErr, filter, Option, Result, ◌==◌, ◌≢◌, nat_eq, nat_le}
use Rattle.std.specs.Option as options
use Rattle.fields.specs.Limits.{admitted}
use Rattle.fields.specs.Refusals.{Check, Verdict}
use Rattle.fields.specs.declared.limits.Field.TheVariants.{Frame, Message, Priority, Time}
use Rattle.fields.specs.declared.refusal.Place.TheVariants as place
use Rattle.fields.specs.declared.refusal.Reason.TheVariants.{OutOfRange, PlacesFull}
use Rattle.fields.specs.declared.refusal.Refusal.{Refusal}
use Rattle.ranked.specs.Ranks.{Placed}
use Rattle.buffers.specs.declared.instance.Instance.{Instance}

-- What a buffer means: for each frame its places, and what waits for it, in sending order.
pub record Meaning : Type 0 where
  pub places : ℕ → ℕ
  pub waiting : ℕ → List Instance

-- The first is sent no later than the second, if both wait for one frame: its priority number is not greater.
abbrev pub upto : Instance → Instance → Bool
upto x y = nat_le x.priority y.priority

-- The instances of a priority number, as they stand in the list.
abbrev pub of_priority : ℕ → List Instance → List Instance
of_priority p = filter (λ x. nat_eq x.priority p)

-- The values of an instance are in range.
abbrev pub sendable : Instance → Bool
sendable x = admitted Message x.message && (admitted Priority x.priority && admitted Time x.release)

-- The checks of a put, in their order: every value in range, and a place that is free.
abbrev pub put_checks : Meaning → ℕ → Instance → List Check
put_checks m f x =
    record { holds = not (admitted Frame f && sendable x); reason = OutOfRange }
    ∷ record { holds = (length (m.waiting f) == m.places f); reason = PlacesFull } ∷ []

-- All places, and what waits for every frame but one, are as they were.
pub record Elsewhere (f : ℕ) (m m' : Meaning) : Type 0 where
  pub places : (k : ℕ) → m'.places k ≡ m.places k
  pub waiting : (k : ℕ) → (k ≢ f) → m'.waiting k ≡ m.waiting k

-- What a put of an instance for a frame answers, and what the buffer means after it: the instance stands behind all of equal or
-- smaller priority number and before the rest, or it is refused and what waits stays.
pub record Putting (m : Meaning) (f : ℕ) (x : Instance) (r : Result Unit Refusal) (m' : Meaning) : Type 0 where
  pub verdict : Verdict (put_checks m f x) place.Buffer f (λ _. Placed upto x (m.waiting f) (m'.waiting f)) r
  pub stays : IfErr r (λ _. m'.waiting f ≡ m.waiting f)
  pub others : Elsewhere f m m'

-- What a take from a frame answers, and what the buffer means after it: the first waiting instance, and the rest stay.
pub record Taking (m : Meaning) (f : ℕ) (r : Option Instance) (m' : Meaning) : Type 0 where
  pub first : options.MatchOption r ((m.waiting f ≡ []) × (m'.waiting f ≡ [])) (λ x. m.waiting f ≡ x ∷ m'.waiting f)
  pub others : Elsewhere f m m'

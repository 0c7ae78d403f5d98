-- The pool: instances as they came, each with its frame. What waits for a frame is read out in the order of priority, with those
-- of equal priority as they came.
use Rattle.std.specs.Prelude.{◌≡◌, ℕ, zero, suc, ◌+◌, ◌<◌, ◌≤◌, true, List, [], ◌∷◌, ◌++◌, map, length, filter, Option, ◌≢◌, nat_eq, slice_index, slice_index_or}
use Rattle.std.specs.Option as options
use Rattle.std.specs.List.{AllByRecursion}
use Rattle.fields.specs.Limits.{highest}
use Rattle.fields.specs.declared.limits.Field.TheVariants.{Priority}
use Rattle.buffers.specs.Buffer.{Meaning, of_priority, sendable}
use Rattle.buffers.specs.declared.instance.Instance.{Instance}
use Rattle.buffers.specs.declared.pool.frame_places.FramePlaces.{FramePlaces}
use Rattle.buffers.specs.declared.pool.held.Held.{Held}

-- The places of each frame and those that are free, by frame number.
abbrev pub all_places : List FramePlaces → List ℕ
all_places = map (λ p. p.all)

abbrev pub free_places : List FramePlaces → List ℕ
free_places = map (λ p. p.free)

-- What came for a frame, in the order of arrival.
abbrev pub arrivals : ℕ → List Held → List Instance
arrivals f hs = map (λ h. h.instance) (filter (λ h. nat_eq h.frame f) hs)

-- The instances of priority 1, then those of priority 2, and so on up to a number, each as they stand in the list.
unfoldable pub up_to_priority : ℕ → List Instance → List Instance
up_to_priority zero xs = []
up_to_priority (suc p) xs = up_to_priority p xs ++ of_priority (suc p) xs

-- What waits for a frame, in sending order.
abbrev pub pooled : List Held → ℕ → List Instance
pooled hs f = up_to_priority (highest Priority) (arrivals f hs)

-- What a pool with these places and held instances means.
abbrev pub pool_meaning : List ℕ → List Held → Meaning
pool_meaning places hs = record { places = λ f. slice_index places f; waiting = pooled hs }

-- The instance at a place is the one to be sent next for a frame: more urgent than all that came before it for the frame, and no
-- less urgent than all that came after it.
pub record Next (f : ℕ) (hs : List Held) (at : ℕ) : Type 0 where
  pub front : List Held
  pub chosen : Held
  pub back : List Held
  pub parts : hs ≡ front ++ chosen ∷ back
  pub there : length front ≡ at
  pub frame : chosen.frame ≡ f
  pub before : AllByRecursion (λ h. h.frame ≡ f → chosen.instance.priority < h.instance.priority) front
  pub after : AllByRecursion (λ h. h.frame ≡ f → chosen.instance.priority ≤ h.instance.priority) back

-- Where the instance stands that is to be sent next for a frame, if any waits for it.
abbrev pub FindsNext : ℕ → List Held → Option ℕ → Type 0
FindsNext f hs r = options.MatchOption r (AllByRecursion (λ h. h.frame ≢ f) hs) (Next f hs)

-- By frame, the places are those that are free and those in which an instance waits. Only values in range wait, and frame 0 has
-- no places.
pub record SoundPool (places free : List ℕ) (hs : List Held) : Type 0 where
  pub counted : (f : ℕ) → slice_index free f + length (pooled hs f) ≡ slice_index places f
  pub in_range : AllByRecursion (λ h. sendable h.instance ≡ true) hs
  pub spare : slice_index_or places 0 0 ≡ 0

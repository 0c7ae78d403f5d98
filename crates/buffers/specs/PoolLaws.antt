-- What the laws of a pool follow from: its waiting instances are in range and in order, and a frame out of range has no places.
use Rattle.std.specs.Prelude.{◌≡◌, ℕ, zero, suc, ◌+◌, ◌≤◌, true, List, [], ◌∷◌, ◌++◌, length, filter, ◌==◌, nat_eq, slice_index}
use Rattle.std.proofs.Common.{⊎_elim, arith}
use Rattle.std.specs.List.{AllByRecursion}
use Rattle.std.proofs.ByRecursion.{All-append, all_kept_by, All-weaker, kept_by_passes}
use Rattle.std.proofs.lemmas.List.{get_or_past, length-map}
use Rattle.std.proofs.lemmas.Bool.{cases_eq, cases_lt, cond-true, cond-false, eqb-true, eq-eqb, ne_eqb, le-leb}
use Rattle.fields.specs.Limits.{Admitted, highest}
use Rattle.fields.specs.declared.limits.Field.TheVariants.{Frame, Priority}
use Rattle.ranked.specs.Ranks.{Ascending}
use Rattle.buffers.specs.Buffer.{upto, of_priority, sendable}
use Rattle.buffers.specs.Pooled.{all_places, free_places, arrivals, up_to_priority, pooled, SoundPool}
use Rattle.buffers.specs.declared.instance.Instance.{Instance}
use Rattle.buffers.specs.declared.pool.frame_places.FramePlaces.{FramePlaces}
use Rattle.buffers.specs.declared.pool.held.Held.{Held}

-- what holds of all that are held for the frame
pub all_arrivals : (P : Instance → Type 0) (f : ℕ) (hs : List Held) → AllByRecursion (λ h. h.frame ≡ f → P h.instance) hs → AllByRecursion P (arrivals f hs)
all_arrivals P f [] all = tt
all_arrivals P f (h ∷ hs) all = ⊎_elim
    (λ own. rw (cond-true (h.frame == f) (h ∷ filter (λ x. nat_eq x.frame f) hs) (filter (λ x. nat_eq x.frame f) hs) (eq-eqb h.frame f own))
    (all.0 own, all_arrivals P f hs all.1))
    (λ other. rw (cond-false (h.frame == f) (h ∷ filter (λ x. nat_eq x.frame f) hs) (filter (λ x. nat_eq x.frame f) hs) (ne_eqb h.frame f other))
    (all_arrivals P f hs all.1))
    (cases_eq h.frame f)

-- what is read out keeps what holds of each element
pub all_read : (P : Instance → Type 0) (n : ℕ) (xs : List Instance) → AllByRecursion P xs → AllByRecursion P (up_to_priority n xs)
unfolding up_to_priority
all_read P zero xs all = tt
all_read P (suc n) xs all = All-append P (up_to_priority n xs) (of_priority (suc n) xs) (all_read P n xs all) (all_kept_by (λ x. nat_eq x.priority (suc n)) P xs all)

pub pool_in_range : (hs : List Held) (f : ℕ) → AllByRecursion (λ h. sendable h.instance ≡ true) hs → AllByRecursion (λ x. sendable x ≡ true) (pooled hs f)
pool_in_range hs f all =
    all_read (λ x. sendable x ≡ true) (highest Priority) (arrivals f hs)
    (all_arrivals (λ x. sendable x ≡ true) f hs (All-weaker (λ h. sendable h.instance ≡ true) (λ h. h.frame ≡ f → sendable h.instance ≡ true) (λ h e _. e) hs all))

-- no priority above n is read out
pub read_upto : (n : ℕ) (xs : List Instance) → AllByRecursion (λ x. x.priority ≤ n) (up_to_priority n xs)
unfolding up_to_priority
read_upto zero xs = tt
read_upto (suc n) xs = All-append (λ x. x.priority ≤ suc n) (up_to_priority n xs) (of_priority (suc n) xs)
    (All-weaker (λ x. x.priority ≤ n) (λ x. x.priority ≤ suc n) (λ x l. omega arith) (up_to_priority n xs) (read_upto n xs))
    (All-weaker (λ x. (x.priority == suc n) ≡ true) (λ x. x.priority ≤ suc n) (λ x e. let same = eqb-true x.priority (suc n) e in omega arith)
    (of_priority (suc n) xs) (kept_by_passes (λ x. nat_eq x.priority (suc n)) xs))

-- elements of one priority ascend, and so they do behind those of smaller ones
equal_ascends : (p : ℕ) (ys : List Instance) → AllByRecursion (λ y. y.priority ≡ p) ys → Ascending upto ys
equal_ascends p [] all = tt
equal_ascends p (y ∷ ys) all = (
  All-weaker (λ z. z.priority ≡ p) (λ z. upto y z ≡ true) (λ z e. le-leb y.priority z.priority (omega (arith, all.0))) ys all.1,
  equal_ascends p ys all.1,
)

class_ascends : (p : ℕ) (xs ys : List Instance) → Ascending upto xs → AllByRecursion (λ x. x.priority ≤ p) xs → AllByRecursion (λ y. y.priority ≡ suc p) ys → Ascending upto (xs ++ ys)
class_ascends p [] ys asc low same = equal_ascends (suc p) ys same
class_ascends p (x ∷ xs) ys asc low same = (
  All-append (λ y. upto x y ≡ true) xs ys asc.0
      (All-weaker (λ y. y.priority ≡ suc p) (λ y. upto x y ≡ true) (λ y e. le-leb x.priority y.priority (omega (arith, low.0))) ys same),
  class_ascends p xs ys asc.1 low.1 same,
)

pub read_ascends : (n : ℕ) (xs : List Instance) → Ascending upto (up_to_priority n xs)
unfolding up_to_priority
read_ascends zero xs = tt
read_ascends (suc n) xs = class_ascends n (up_to_priority n xs) (of_priority (suc n) xs) (read_ascends n xs) (read_upto n xs)
    (All-weaker (λ y. (y.priority == suc n) ≡ true) (λ y. y.priority ≡ suc n) (λ y e. eqb-true y.priority (suc n) e)
    (of_priority (suc n) xs) (kept_by_passes (λ y. nat_eq y.priority (suc n)) xs))

-- a frame out of range has no places
pub none_outside : (fs : List FramePlaces) (hs : List Held) (f : ℕ) → length fs ≡ highest Frame + 1 → SoundPool (all_places fs) (free_places fs) hs
    → (Admitted Frame f → ⊥) → slice_index (all_places fs) f ≡ 0
none_outside fs hs zero size sound out = sound.spare
none_outside fs hs (suc f) size sound out =
    get_or_past (all_places fs) (suc f) 0
    (⊎_elim (λ l. absurd (out (omega arith, omega (arith, length-map fs (λ p. p.all))))) (λ past. past) (cases_lt (suc f) (length (all_places fs))))

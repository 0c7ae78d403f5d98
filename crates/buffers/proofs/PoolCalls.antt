-- What a pool means before and after each call.
use Rattle.std.specs.Prelude.{◌≡◌, ℕ, ◌+◌, ◌-◌, ◌<◌, ◌≤◌, true, ◌&&◌, List, [], ◌∷◌, ◌++◌, map, length, get_or, sum, Some, Ok, filter, ◌==◌, ◌≢◌, nat_eq, slice_index, slice_index_or, slice_set, refl, zero, suc, Err}
use Rattle.std.proofs.Common.{sym, ap, subst, ◌∙◌, inr, ⊎_elim, arith}
use Rattle.std.specs.List.{remove, AllByRecursion}
use Rattle.std.proofs.lemmas.List.Elements.{filter-append}
use Rattle.std.proofs.ByRecursion.{All-append, All-push}
use Rattle.std.proofs.lemmas.List.{append-nil, get_or-map, get_or_at, get_or_past, get_or-set_same, get_or-set_other, length-map, map-append, map-set, length-append, nil_from_length}
use Rattle.std.proofs.lemmas.List.Sums.{get_or-le-sum_by, sum_by-set}
use Rattle.std.proofs.Math.Seq.{map-set_same}
use Rattle.std.proofs.lemmas.Bool.{and_parts, cases_lt, cases_eq, cond-true, cond-false, eq-eqb, leb-true, ne_eqb}
use Rattle.fields.specs.Limits.{admitted, highest, Admitted}
use Rattle.fields.specs.declared.limits.Field.TheVariants.{Frame, Priority}
use Rattle.fields.specs.declared.refusal.Place.TheVariants as place
use Rattle.fields.specs.declared.refusal.Reason.TheVariants.{PlacesFull}
use Rattle.ranked.specs.Ranks.{Placed}
use Rattle.buffers.specs.Buffer.{Elsewhere, Putting, Taking, upto, sendable}
use Rattle.buffers.specs.Places.{most_places, places_given, Fits, New}
use Rattle.buffers.specs.Pooled.{all_places, free_places, arrivals, up_to_priority, pooled, pool_meaning, Next, SoundPool}
use Rattle.buffers.specs.declared.instance.Instance.{Instance}
use Rattle.buffers.specs.declared.pool.frame_places.FramePlaces.{FramePlaces}
use Rattle.buffers.specs.declared.pool.held.Held.{Held}
use Rattle.buffers.proofs.Calls.{put_done, put_full}
use Rattle.buffers.specs.PoolLaws.{all_arrivals}
use Rattle.buffers.proofs.QueueTable.{read_here}
use Rattle.buffers.proofs.Classes.{first_read, none_read, placed_last}
use Rattle.buffers.proofs.Handing.{none_given, fits_sum, table_sum}
use Rattle.buffers.proofs.Placing.{all_parts, placed_length}

arrivals_append : (f : ℕ) (xs ys : List Held) → arrivals f (xs ++ ys) ≡ arrivals f xs ++ arrivals f ys
arrivals_append f xs ys =
    ap (map (λ h. h.instance)) (filter-append (λ h. nat_eq h.frame f) xs ys)
    ∙ map-append (λ h. h.instance) (filter (λ h. nat_eq h.frame f) xs) (filter (λ h. nat_eq h.frame f) ys)

-- one that waits for the frame, and one that waits for another
own_arrival : (f : ℕ) (xs : List Held) (h : Held) (ys : List Held) → h.frame ≡ f → arrivals f (xs ++ h ∷ ys) ≡ arrivals f xs ++ h.instance ∷ arrivals f ys
own_arrival f xs h ys own =
    arrivals_append f xs (h ∷ ys)
    ∙ ap (λ l. arrivals f xs ++ map (λ x. x.instance) l) (cond-true (h.frame == f) _ _ (eq-eqb h.frame f own))

other_arrival : (f : ℕ) (xs : List Held) (h : Held) (ys : List Held) → (h.frame ≢ f) → arrivals f (xs ++ h ∷ ys) ≡ arrivals f (xs ++ ys)
other_arrival f xs h ys other =
    arrivals_append f xs (h ∷ ys)
    ∙ ap (λ l. arrivals f xs ++ map (λ x. x.instance) l) (cond-false (h.frame == f) _ _ (ne_eqb h.frame f other))
    ∙ sym (arrivals_append f xs ys)

pub nothing_held : (f : ℕ) (hs : List Held) → AllByRecursion (λ h. h.frame ≢ f) hs → pooled hs f ≡ []
nothing_held f hs all = rw (none_arrives hs all) (none_read (highest Priority))
  where
    none_arrives : (xs : List Held) → AllByRecursion (λ h. h.frame ≢ f) xs → arrivals f xs ≡ []
    none_arrives [] all = refl
    none_arrives (h ∷ xs) all = other_arrival f [] h xs all.0 ∙ none_arrives xs all.1

-- the priority of a sendable instance
priority_in_range : (x : Instance) → sendable x ≡ true → (1 ≤ x.priority) × (x.priority ≤ highest Priority)
priority_in_range x e =
    let p = and_parts _ _ (and_parts _ _ (and_parts _ _ e).1).0 in (leb-true 1 x.priority p.0, leb-true x.priority (highest Priority) p.1)

-- a frame out of range has no places, and nothing waits for it
pub pool_outside : (places free : List ℕ) (hs : List Held) (f : ℕ) → length places ≡ highest Frame + 1 → SoundPool places free hs → (Admitted Frame f → ⊥)
    → (slice_index places f ≡ 0) × (pooled hs f ≡ [])
pool_outside places free hs f size sound out =
    let none : get_or places f 0 ≡ 0 = no_places f out in
    (none, nil_from_length (pooled hs f) (let all = sound.counted f in omega arith))
  where
    no_places : (k : ℕ) → (Admitted Frame k → ⊥) → slice_index places k ≡ 0
    no_places zero out = sound.spare
    no_places (suc k) out = get_or_past places (suc k) 0 (⊎_elim (λ l. absurd (out (omega arith, omega arith))) (λ past. past) (cases_lt (suc k) (length places)))

-- the count after a change at one frame, from what now waits for each
counted_after : (places free : List ℕ) (f n : ℕ) (old new : ℕ → ℕ) → f < length free → ((k : ℕ) → slice_index free k + old k ≡ slice_index places k)
    → n + new f ≡ slice_index places f → ((k : ℕ) → (k ≢ f) → new k ≡ old k) → (k : ℕ) → slice_index (slice_set free f n) k + new k ≡ slice_index places k
counted_after places free f n old new l before there same k = ⊎_elim
    (λ e. subst (λ j. slice_index (slice_set free f n) j + new j ≡ slice_index places j) (sym e) (ap (λ a. a + new f) (get_or-set_same free f n 0 l) ∙ there))
    (λ ne. rw (get_or-set_other free f k n 0 ne, same k ne) (before k))
    (cases_eq k f)

-- the next one is held
pub next_held : (f : ℕ) (hs : List Held) (at : ℕ) → Next f hs at → at < length hs
next_held f hs at n = omega (arith, ap length n.parts ∙ length-append n.front (n.chosen ∷ n.back))

removed_at : (front : List Held) (h : Held) (back : List Held) → remove (front ++ h ∷ back) (length front) ≡ front ++ back
removed_at [] h back = refl
removed_at (x ∷ front) h back = ap (λ l. x ∷ l) (removed_at front h back)

-- what waits for the frame of the next one, before and after it is taken out
first_pooled : (f : ℕ) (front : List Held) (h : Held) (back : List Held) → h.frame ≡ f → sendable h.instance ≡ true
    → AllByRecursion (λ x. x.frame ≡ f → h.instance.priority < x.instance.priority) front
    → AllByRecursion (λ x. x.frame ≡ f → h.instance.priority ≤ x.instance.priority) back
    → pooled (front ++ h ∷ back) f ≡ h.instance ∷ pooled (front ++ back) f
first_pooled f front h back own ok before after =
    let p = priority_in_range h.instance ok in
    rw (own_arrival f front h back own, arrivals_append f front back)
    (first_read (highest Priority) h.instance (arrivals f front) (arrivals f back) p.0 p.1
    (all_arrivals (λ x. h.instance.priority < x.priority) f front before) (all_arrivals (λ x. h.instance.priority ≤ x.priority) f back after))

module _ (places free : List ℕ) (hs : List Held) (f : ℕ) (sound : SoundPool places free hs) (l : f < length free) where
  -- an instance is put, and takes a free place
  module _ (x : Instance) (range : true ≡ (admitted Frame f && sendable x)) where
    abbrev held : Held
    held = record { frame = f; instance = x }

    here : Placed upto x (pooled hs f) (pooled (hs ++ held ∷ []) f)
    here =
        let ok = priority_in_range x (and_parts (admitted Frame f) (sendable x) (sym range)).1 in
        rw (own_arrival f hs held [] refl) (placed_last (highest Priority) x (arrivals f hs) ok.0 ok.1)

    elsewhere : Elsewhere f (pool_meaning places hs) (pool_meaning places (hs ++ held ∷ []))
    elsewhere = record {
      places = λ k. refl;
      waiting = λ k ne. ap (up_to_priority (highest Priority)) (other_arrival k hs held [] (λ e. ne (sym e)) ∙ ap (arrivals k) (append-nil hs));
    }

    put_last : (n : ℕ) → n ≡ slice_index free f → 0 < n → Putting (pool_meaning places hs) f x (Ok tt) (pool_meaning places (hs ++ held ∷ []))
        × SoundPool places (slice_set free f (n - 1)) (hs ++ held ∷ [])
    put_last n read some =
        let before = sound.counted f in
        let longer = placed_length upto x _ _ here in (
          put_done (pool_meaning places hs) (pool_meaning places (hs ++ held ∷ [])) f x range elsewhere (omega arith) here,
          record {
            counted = counted_after places free f (n - 1) (λ k. length (pooled hs k)) (λ k. length (pooled (hs ++ held ∷ []) k)) l sound.counted
                (omega arith) (λ k ne. ap length (elsewhere.waiting k ne));
            in_range = All-push (λ h. sendable h.instance ≡ true) hs held sound.in_range (and_parts (admitted Frame f) (sendable x) (sym range)).1;
            spare = sound.spare;
          },
        )

    pub pool_put : (hs' : List Held) → hs' ≡ hs ++ held ∷ [] → (n : ℕ) → n ≡ slice_index free f → 0 < n
        → Putting (pool_meaning places hs) f x (Ok tt) (pool_meaning places hs') × SoundPool places (slice_set free f (n - 1)) hs'
    pool_put hs' pushed n read some = rw pushed (put_last n read some)

    -- no place is free
    pub pool_full : (n : ℕ) → n ≡ slice_index free f → n ≡ 0 → Putting (pool_meaning places hs) f x (Err (record { reason = PlacesFull; place = place.Buffer; concerns = f })) (pool_meaning places hs)
    pool_full n read none =
        let before = sound.counted f in
        put_full (pool_meaning places hs) (pool_meaning places hs) f x range (record { places = λ k. refl; waiting = λ k ne. refl }) (omega arith) refl

-- the next one is taken, and its place is free again
module _ (places free : List ℕ) (f : ℕ) (l : f < length free) (front : List Held) (h : Held) (back : List Held) where
  taken_out : SoundPool places free (front ++ h ∷ back) → h.frame ≡ f
      → AllByRecursion (λ x. x.frame ≡ f → h.instance.priority < x.instance.priority) front
      → AllByRecursion (λ x. x.frame ≡ f → h.instance.priority ≤ x.instance.priority) back
      → (n : ℕ) → n ≡ slice_index free f
      → Taking (pool_meaning places (front ++ h ∷ back)) f (Some h.instance) (pool_meaning places (front ++ back)) × SoundPool places (slice_set free f (n + 1)) (front ++ back)
  taken_out sound own before after n read =
      let parts = all_parts (λ x. sendable x.instance ≡ true) front (h ∷ back) sound.in_range in
      let first = first_pooled f front h back own parts.1.0 before after in
      let count = sound.counted f in
      let shorter = ap length first in
      let same = λ (k : ℕ) (ne : k ≡ f → ⊥). ap (up_to_priority (highest Priority)) (sym (other_arrival k front h back (λ e. ne (sym e ∙ own)))) in (
        record { first = first; others = record { places = λ k. refl; waiting = same } },
        record {
          counted = counted_after places free f (n + 1) (λ k. length (pooled (front ++ h ∷ back) k)) (λ k. length (pooled (front ++ back) k)) l sound.counted
              (omega arith) (λ k ne. ap length (same k ne));
          in_range = All-append (λ x. sendable x.instance ≡ true) front back parts.0 parts.1.1;
          spare = sound.spare;
        },
      )

pub pool_taken : (places free : List ℕ) (hs hs' : List Held) (f : ℕ) → f < length free → SoundPool places free hs → (at : ℕ) (h : Held) → Next f hs at
    → h ≡ slice_index_or hs at h → hs' ≡ remove hs at → (n : ℕ) → n ≡ slice_index free f
    → Taking (pool_meaning places hs) f (Some h.instance) (pool_meaning places hs') × SoundPool places (slice_set free f (n + 1)) hs'
pool_taken places free hs hs' f l sound at h next read out n count =
    let chosen : h ≡ next.chosen = read ∙ ap (λ xs. get_or xs at h) next.parts ∙ get_or_at next.front next.chosen next.back h at next.there in
    let rest : hs' ≡ next.front ++ next.back =
    out ∙ ap (λ xs. remove xs at) next.parts ∙ ap (remove (next.front ++ next.chosen ∷ next.back)) (sym next.there) ∙ removed_at next.front next.chosen next.back in
    rw (chosen, rest, next.parts)
    (taken_out places free f l next.front next.chosen next.back (rw next.parts at sound) next.frame next.before next.after n count)

-- the places p of the frame f become q
module _ (fs : List FramePlaces) (f : ℕ) (p q : FramePlaces) (l : f < length fs) (read : p ≡ slice_index_or fs f p) where
  within : f < length (free_places fs)
  within = simp length-map l

  free_here : p.free ≡ slice_index (free_places fs) f
  free_here = sym (read_here (λ x. x.free) 0 fs f p l read)

  all_set : q.all ≡ p.all → all_places (slice_set fs f q) ≡ all_places fs
  all_set same = map-set_same (λ x. x.all) fs f q p (same ∙ ap (λ (x : FramePlaces). x.all) read)

  pub free_few : p.free ≤ sum (free_places fs)
  free_few = omega (arith, free_here, get_or-le-sum_by (λ x. x) (free_places fs) f 0 within)

  pub sum_set : sum (free_places (slice_set fs f q)) + p.free ≡ sum (free_places fs) + q.free
  sum_set = rw (map-set (λ (x : FramePlaces). x.free) fs f q) (omega (arith, free_here, sum_by-set (λ x. x) (free_places fs) f q.free 0 within))

  module _ (hs : List Held) (sound : SoundPool (all_places fs) (free_places fs) hs) (same : q.all ≡ p.all) where
    pub frame_put : (x : Instance) → true ≡ (admitted Frame f && sendable x) → (hs' : List Held) → hs' ≡ hs ++ record { frame = f; instance = x } ∷ []
        → 0 < p.free → q.free ≡ p.free - 1
        → Putting (pool_meaning (all_places fs) hs) f x (Ok tt) (pool_meaning (all_places (slice_set fs f q)) hs')
        × SoundPool (all_places (slice_set fs f q)) (free_places (slice_set fs f q)) hs'
    frame_put x range hs' pushed some less =
        rw (all_set same, map-set (λ (x : FramePlaces). x.free) fs f q, less)
        (pool_put (all_places fs) (free_places fs) hs f sound within x range hs' pushed p.free free_here some)

    pub frame_taken : (hs' : List Held) (at : ℕ) (h : Held) → Next f hs at → h ≡ slice_index_or hs at h → hs' ≡ remove hs at → q.free ≡ p.free + 1
        → Taking (pool_meaning (all_places fs) hs) f (Some h.instance) (pool_meaning (all_places (slice_set fs f q)) hs')
        × SoundPool (all_places (slice_set fs f q)) (free_places (slice_set fs f q)) hs'
    frame_taken hs' at h next here out more =
        rw (all_set same, map-set (λ (x : FramePlaces). x.free) fs f q, more)
        (pool_taken (all_places fs) (free_places fs) hs hs' f within sound at h next here out p.free free_here)

-- a pool that was just made
module _ (given : List ℕ) (fs : List FramePlaces) (size : length fs ≡ highest Frame + 1) (fits : Fits given (length given))
    (each : (f : ℕ) (d : FramePlaces) → f < highest Frame + 1 → slice_index_or fs f d ≡ record { all = places_given given f; free = places_given given f }) where
  -- each number of a frame is what is given
  in_table : (g : FramePlaces → ℕ) → ((n : ℕ) → g (record { all = n; free = n }) ≡ n) → (f : ℕ) → f < highest Frame + 1
      → slice_index (map g fs) f ≡ places_given given f
  in_table g is f l =
      let none : FramePlaces = record { all = 0; free = 0 } in
      get_or-map g fs f none 0 (omega arith) ∙ ap g (each f none l) ∙ is (places_given given f)

  everywhere : (g : FramePlaces → ℕ) → ((n : ℕ) → g (record { all = n; free = n }) ≡ n) → (f : ℕ) → slice_index (map g fs) f ≡ places_given given f
  everywhere g is f = ⊎_elim (in_table g is f)
      (λ out. get_or_past (map g fs) f 0 (omega (arith, length-map fs g)) ∙ none_given given f (inr (let frame = fits.frame in omega arith)))
      (cases_lt f (highest Frame + 1))

  pub free_sum : sum (free_places fs) ≤ most_places
  free_sum = omega (arith, fits_sum given fits, table_sum given (free_places fs) (λ f l. everywhere (λ p. p.free) (λ n. refl) f))

  pub pool_new : (hs : List Held) → hs ≡ [] → New given (pool_meaning (all_places fs) hs) × SoundPool (all_places fs) (free_places fs) hs
  pool_new hs none =
      let nothing : (f : ℕ) → pooled hs f ≡ [] = λ f. rw none (none_read (highest Priority)) in
      let places = everywhere (λ p. p.all) (λ n. refl) in
      let free = everywhere (λ p. p.free) (λ n. refl) in (
        record { fits = fits; places = places; nothing = nothing },
        record {
          counted = λ f. omega (arith, places f, free f, ap length (nothing f));
          in_range = rw none tt;
          spare = places 0;
        },
      )

-- Queues by frame number: those of a new buffer, and one of them changed.
use Rattle.std.specs.Prelude.{◌≡◌, ℕ, ◌+◌, ◌<◌, true, false, cond, ◌&&◌, List, [], ◌∷◌, map, length, get_or, Some, None, Ok, Err, vec_items, Option, Result, is_ok, ◌==◌, nat_lt, slice_index_or, slice_set, refl, ◌≤◌, ◌++◌, ◌≢◌}
use Rattle.std.proofs.Common.{sym, ap, ◌∙◌, inr, ⊎_elim, arith}
use Rattle.std.specs.Option as options
use Rattle.std.specs.Result as results
use Rattle.std.specs.List.{AllByRecursion}
use Rattle.std.proofs.lemmas.List.{get_or-map, get_or_past, get_or-set_same, get_or-set_other, length-map, map-set, nil_from_length, get_or_append_left, get_or_push, length_push, map_push}
use Rattle.std.proofs.lemmas.Bool.{cases_lt, ltb-true, ltb-false, and_parts, eqb-true, eqb-false, eq-eqb, ne_eqb, cond-true, cond-false, cond_both}
use Rattle.fields.specs.Limits.{admitted, highest, Admitted}
use Rattle.fields.specs.declared.limits.Field.TheVariants.{Frame}
use Rattle.fields.specs.declared.refusal.Place.TheVariants as place
use Rattle.fields.specs.declared.refusal.Reason.TheVariants.{PlacesFull}
use Rattle.fields.specs.declared.refusal.Refusal.{Refusal}
use Rattle.ranked.specs.Ranks.{Ascending, Placed}
use Rattle.buffers.specs.Buffer.{Elsewhere, Putting, Taking, upto, sendable}
use Rattle.buffers.specs.Places.{places_given, Fits, New}
use Rattle.buffers.specs.Queues.{places_in, waiting_in, meaning_of, SoundQueues}
use Rattle.buffers.specs.declared.instance.Instance.{Instance}
use Rattle.buffers.specs.declared.ranked_buffer.queue.FrameQueue.{FrameQueue}
use Rattle.buffers.proofs.Calls.{put_done, put_full}
use Rattle.buffers.proofs.Handing.{none_given}
use Rattle.buffers.proofs.Placing.{placed_all}
use Rattle.buffers.specs.QueueLaws.{queues_room, none_outside}

past_push : {X : Type 0} (xs : List X) (x d : X) (f : ℕ) → length xs ≤ f → (length xs ≢ f) → slice_index_or (xs ++ x ∷ []) f d ≡ slice_index_or xs f d
past_push xs x d f past ne = get_or_past (xs ++ x ∷ []) f d (omega (arith, length_push xs x)) ∙ sym (get_or_past xs f d past)

-- one more at the end, seen by a function
read_push : {Q X : Type 0} (g : Q → X) (d : X) (qs : List Q) (q : Q) (f : ℕ)
    → slice_index_or (map g (qs ++ q ∷ [])) f d ≡ cond (length qs == f) (g q) (slice_index_or (map g qs) f d)
read_push g d qs q f =
    let size : length (map g qs) ≡ length qs = length-map qs g in
    ap (λ xs. get_or xs f d) (map_push g qs q)
    ∙ cond_both (length qs == f) (g q) (slice_index_or (map g qs) f d) (λ x. slice_index_or (map g qs ++ g q ∷ []) f d ≡ x)
    (λ e. get_or_push (map g qs) (g q) d f (size ∙ eqb-true (length qs) f e))
    (λ e. ⊎_elim
    (λ l. get_or_append_left (map g qs) (g q ∷ []) d f l)
    (λ past. past_push (map g qs) (g q) d f past (λ same. eqb-false (length qs) f e (sym size ∙ same)))
    (cases_lt f (length (map g qs))))

-- one changed, seen by a function
pub read_set : {Q X : Type 0} (g : Q → X) (d : X) (qs : List Q) (i : ℕ) (q : Q) → i < length qs
    → (f : ℕ) → slice_index_or (map g (slice_set qs i q)) f d ≡ cond (i == f) (g q) (slice_index_or (map g qs) f d)
read_set g d qs i q l f =
    let within : i < length (map g qs) = simp length-map l in
    ap (λ xs. get_or xs f d) (map-set g qs i q)
    ∙ cond_both (i == f) (g q) (slice_index_or (map g qs) f d) (λ x. slice_index_or (slice_set (map g qs) i (g q)) f d ≡ x)
    (λ e. rw (← eqb-true i f e) (get_or-set_same (map g qs) i (g q) d within))
    (λ e. get_or-set_other (map g qs) i f (g q) d (λ same. eqb-false i f e (sym same)))

-- empty queues for the frames, with their places
pub record Begun (given : List ℕ) (qs : List FrameQueue) : Type 0 where
  pub places : (f : ℕ) → f < length qs → places_in qs f ≡ places_given given f
  pub nothing : (f : ℕ) → waiting_in qs f ≡ []

pub begun : (given : List ℕ) (qs : List FrameQueue)
    → ((k : ℕ) (d : FrameQueue) → k < length qs → ((get_or qs k d).places ≡ places_given given k) × (vec_items (get_or qs k d).list ≡ []))
    → Begun given qs
begun given [] each = record { places = λ f l. absurd (omega arith); nothing = λ f. refl }
begun given (q ∷ qs) each = record {
  places = λ f l. get_or-map (λ x. x.places) (q ∷ qs) f q 0 l ∙ (each f q l).0;
  nothing = λ f. ⊎_elim (λ l. get_or-map (λ x. vec_items x.list) (q ∷ qs) f q [] l ∙ (each f q l).1)
      (λ past. get_or_past (map (λ x. vec_items x.list) (q ∷ qs)) f [] (omega (arith, length-map (q ∷ qs) (λ x. vec_items x.list))))
      (cases_lt f (length (q ∷ qs)));
}

-- one more queue at the end
pub begun_more : (given : List ℕ) (qs : List FrameQueue) (q : FrameQueue) → Begun given qs → q.places ≡ places_given given (length qs)
    → vec_items q.list ≡ [] → Begun given (qs ++ q ∷ [])
begun_more given qs q b here none = record {
  places = λ f l. read_push (λ x. x.places) 0 qs q f
      ∙ cond_both (length qs == f) q.places (places_in qs f) (λ n. n ≡ places_given given f)
      (λ e. here ∙ ap (places_given given) (eqb-true (length qs) f e))
      (λ e. let ne = eqb-false (length qs) f e in let size = length_push qs q in b.places f (omega arith));
  nothing = λ f. read_push (λ x. vec_items x.list) [] qs q f
      ∙ cond_both (length qs == f) (vec_items q.list) (waiting_in qs f) (λ xs. xs ≡ []) (λ _. none) (λ _. b.nothing f);
}

-- nothing waits for a frame out of range
pub nothing_outside : (qs : List FrameQueue) (f : ℕ) → length qs ≡ highest Frame + 1 → SoundQueues qs → (Admitted Frame f → ⊥) → waiting_in qs f ≡ []
nothing_outside qs f size sound out =
    let none = none_outside qs f size sound out in let room = queues_room qs f in nil_from_length (waiting_in qs f) (omega arith)

-- an element that was read
pub read_here : {Q X : Type 0} (g : Q → X) (d : X) (qs : List Q) (f : ℕ) (q : Q) → f < length qs → q ≡ slice_index_or qs f q → slice_index_or (map g qs) f d ≡ g q
read_here g d qs f q l e = get_or-map g qs f q d l ∙ ap g (sym e)

-- the queue q of the frame f becomes q', with as many places
module _ (qs : List FrameQueue) (f : ℕ) (q q' : FrameQueue) (l : f < length qs) (e : q ≡ slice_index_or qs f q) (same : q'.places ≡ q.places) where
  there : waiting_in (slice_set qs f q') f ≡ vec_items q'.list
  there = read_set (λ x. vec_items x.list) [] qs f q' l f ∙ cond-true (f == f) _ _ (eq-eqb f f refl)

  elsewhere : Elsewhere f (meaning_of qs) (meaning_of (slice_set qs f q'))
  elsewhere = record {
    places = λ k. read_set (λ x. x.places) 0 qs f q' l k
        ∙ cond_both (f == k) q'.places (places_in qs k) (λ n. n ≡ places_in qs k)
        (λ here. same ∙ sym (read_here (λ x. x.places) 0 qs f q l e) ∙ ap (places_in qs) (eqb-true f k here)) (λ _. refl);
    waiting = λ k ne. read_set (λ x. vec_items x.list) [] qs f q' l k ∙ cond-false (f == k) _ _ (ne_eqb f k (λ here. ne (sym here)));
  }

  before : waiting_in qs f ≡ vec_items q.list
  before = read_here (λ x. vec_items x.list) [] qs f q l e

  stays_sound : SoundQueues qs → Ascending upto (vec_items q'.list) → AllByRecursion (λ x. sendable x ≡ true) (vec_items q'.list) → SoundQueues (slice_set qs f q')
  stays_sound sound ordered in_range = record {
    ordered = λ k. rw (read_set (λ x. vec_items x.list) [] qs f q' l k)
        (cond_both (f == k) (vec_items q'.list) (waiting_in qs k) (Ascending upto) (λ _. ordered) (λ _. sound.ordered k));
    in_range = λ k. rw (read_set (λ x. vec_items x.list) [] qs f q' l k)
        (cond_both (f == k) (vec_items q'.list) (waiting_in qs k) (AllByRecursion (λ x. sendable x ≡ true)) (λ _. in_range) (λ _. sound.in_range k));
    spare = elsewhere.places 0 ∙ sound.spare;
  }

  -- a put, by what the queue answered
  module _ (x : Instance) (range : true ≡ (admitted Frame f && sendable x)) (sound : SoundQueues qs)
      (ordered : Ascending upto (vec_items q.list) → Ascending upto (vec_items q'.list)) where
    pub queue_put : true ≡ nat_lt (length (vec_items q.list)) q.places → Placed upto x (vec_items q.list) (vec_items q'.list)
        → Putting (meaning_of qs) f x (Ok tt) (meaning_of (slice_set qs f q')) × SoundQueues (slice_set qs f q')
    queue_put free placed =
        let places = read_here (λ y. y.places) 0 qs f q l e in
        let some : length (waiting_in qs f) < places_in qs f = rw (before, places) (ltb-true _ _ (sym free)) in (
          put_done (meaning_of qs) (meaning_of (slice_set qs f q')) f x range elsewhere some (rw (before, there) placed),
          stays_sound sound (ordered (rw before at (sound.ordered f)))
              (placed_all (λ y. sendable y ≡ true) upto x _ _ placed (and_parts _ _ (sym range)).1 (rw before at (sound.in_range f))),
        )

    pub queue_full : false ≡ nat_lt (length (vec_items q.list)) q.places → vec_items q'.list ≡ vec_items q.list
        → Putting (meaning_of qs) f x (Err (record { reason = PlacesFull; place = place.Buffer; concerns = f })) (meaning_of (slice_set qs f q')) × SoundQueues (slice_set qs f q')
    queue_full full kept =
        let places = read_here (λ y. y.places) 0 qs f q l e in
        let over = ltb-false _ _ (sym full) in
        let none : places_in qs f ≡ length (waiting_in qs f) = rw (before, places) (omega arith) in (
          put_full (meaning_of qs) (meaning_of (slice_set qs f q')) f x range elsewhere none (there ∙ kept ∙ sym before),
          stays_sound sound (ordered (rw before at (sound.ordered f))) (rw (kept, ← before) (sound.in_range f)),
        )

    pub queue_answered : (r : Result Unit Instance) (r' : Result Unit Refusal) → is_ok r ≡ nat_lt (length (vec_items q.list)) q.places
        → results.MatchResult r (λ _. Placed upto x (vec_items q.list) (vec_items q'.list)) (λ _. vec_items q'.list ≡ vec_items q.list)
        → results.MatchResult r (λ _. r' ≡ Ok tt) (λ _. r' ≡ Err (record { reason = PlacesFull; place = place.Buffer; concerns = f }))
        → Putting (meaning_of qs) f x r' (meaning_of (slice_set qs f q')) × SoundQueues (slice_set qs f q')
    queue_answered (Ok u) r' free placed is = rw is (queue_put free placed)
    queue_answered (Err y) r' free placed is = rw is (queue_full free placed)

  -- a take, by what the queue answered
  pub queue_taken : (r : Option Instance) → SoundQueues qs
      → options.MatchOption r ((vec_items q.list ≡ []) × (vec_items q'.list ≡ [])) (λ x. vec_items q.list ≡ x ∷ vec_items q'.list)
      → Taking (meaning_of qs) f r (meaning_of (slice_set qs f q')) × SoundQueues (slice_set qs f q')
  queue_taken None sound first = (
    record { first = rw (before, there) first; others = elsewhere },
    stays_sound sound (rw first.1 tt) (rw first.1 tt),
  )
  queue_taken (Some x) sound first = (
    record { first = rw (before, there) first; others = elsewhere },
    stays_sound sound (rw (before, first) at (sound.ordered f)).1 (rw (before, first) at (sound.in_range f)).1,
  )

-- the queues of a new buffer
pub queues_new : (given : List ℕ) (qs : List FrameQueue) → length qs ≡ highest Frame + 1 → Fits given (length given) → Begun given qs
    → New given (meaning_of qs) × SoundQueues qs
queues_new given qs size fits begun = (
  record {
    fits = fits;
    places = λ f. ⊎_elim (λ l. begun.places f (omega arith))
        (λ past. get_or_past (map (λ q. q.places) qs) f 0 (omega (arith, length-map qs (λ q. q.places)))
        ∙ none_given given f (inr (let frame = fits.frame in omega arith))) (cases_lt f (highest Frame + 1));
    nothing = begun.nothing;
  },
  record { ordered = λ f. rw (begun.nothing f) tt; in_range = λ f. rw (begun.nothing f) tt; spare = begun.places 0 (omega arith) },
)

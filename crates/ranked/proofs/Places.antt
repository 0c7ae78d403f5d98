-- An element put at the first place where a greater rank stands.
use Rattle.std.proofs.Common.{◌≡◌, ℕ, ◌<◌, ◌≤◌, Bool, true, false, List, [], ◌∷◌, ◌++◌, length, get_or, take, drop, sym, refl, ap, ◌∙◌, ⊎_elim, add-zero, arith}
use Rattle.std.specs.List.{AllByRecursion, insert}
use Rattle.std.proofs.lemmas.List.{take-append-drop, length-drop, length-take-le, get_or-take, get_or-drop}
use Rattle.std.proofs.ByRecursion.{All-from_get_or, All-weaker}
use Rattle.std.proofs.lemmas.Bool.{cases_Bool, both_ways}
use Rattle.ranked.specs.Ranks.{Ascending, Placed}

all_put : {X : Type 0} (P : X → Type 0) (x : X) (front back : List X) → P x → AllByRecursion P (front ++ back) → AllByRecursion P (front ++ x ∷ back)
all_put P x [] back p all = (p, all)
all_put P x (f ∷ fs) back p all = (all.0, all_put P x fs back p all.1)

ascending_put : {X : Type 0} (upto : X → X → Bool) (x : X) (front back : List X) → AllByRecursion (λ y. upto y x ≡ true) front
    → AllByRecursion (λ y. upto x y ≡ true) back → Ascending upto (front ++ back) → Ascending upto (front ++ x ∷ back)
ascending_put upto x [] back behind after asc = (after, asc)
ascending_put upto x (f ∷ fs) back behind after asc =
    (all_put (λ y. upto f y ≡ true) x fs back behind.0 asc.0, ascending_put upto x fs back behind.1 after asc.1)

ascending_back : {X : Type 0} (upto : X → X → Bool) (front back : List X) → Ascending upto (front ++ back) → Ascending upto back
ascending_back upto [] back asc = asc
ascending_back upto (f ∷ fs) back asc = ascending_back upto fs back asc.1

all_above : {X : Type 0} (upto : X → X → Bool) → ((x y z : X) → upto x y ≡ true → upto y z ≡ true → upto x z ≡ true)
    → (x : X) (back : List X) → ((y : X) (ys : List X) → back ≡ y ∷ ys → upto y x ≡ false) → Ascending upto back
    → AllByRecursion (λ y. upto y x ≡ false) back
all_above upto trans x [] stops asc = tt
all_above upto trans x (y ∷ ys) stops asc =
    let above : upto y x ≡ false = stops y ys refl in (
      above,
      All-weaker (λ z. upto y z ≡ true) (λ z. upto z x ≡ false)
          (λ z yz. ⊎_elim (λ zx. absurd (both_ways (upto y x) above (trans y z x yz zx))) (λ f. f) (cases_Bool (upto z x))) ys asc.0,
    )

head_of_drop : {X : Type 0} (xs : List X) (i : ℕ) (y : X) (ys : List X) → drop i xs ≡ y ∷ ys → (i < length xs) × (get_or xs i y ≡ y)
head_of_drop xs i y ys e =
    let at = get_or-drop i xs 0 y in
    (omega (arith, length-drop i xs, ap length e), ap (λ k. get_or xs k y) (sym (add-zero i)) ∙ (sym at ∙ ap (λ l. get_or l 0 y) e))

pub put_at : {X : Type 0} (upto : X → X → Bool) → ((x y z : X) → upto x y ≡ true → upto y z ≡ true → upto x z ≡ true)
    → (x : X) (xs : List X) (i : ℕ) → i ≤ length xs → ((k : ℕ) (d : X) → k < i → upto (get_or xs k d) x ≡ true)
    → ((d : X) → i < length xs → upto (get_or xs i d) x ≡ false) → Placed upto x xs (insert xs i x)
put_at upto trans x xs i within before stop =
    let stops : (y : _) (ys : List _) → drop i xs ≡ y ∷ ys → upto y x ≡ false = λ y ys e. let h = head_of_drop xs i y ys e in rw h.1 at (stop y h.0) in
    record {
      front = take i xs;
      back = drop i xs;
      parts = sym (take-append-drop i xs);
      put = refl;
      behind = All-from_get_or (λ y. upto y x ≡ true) (take i xs) x
          (λ k h. let l : k < i = omega (arith, length-take-le i xs within) in rw get_or-take (before k x l));
      stops = stops;
      before = λ asc. all_above upto trans x (drop i xs) stops
          (ascending_back upto (take i xs) (drop i xs) (rw (take-append-drop i xs) asc));
    }

pub stays_ascending : {X : Type 0} (upto : X → X → Bool) → ((x y : X) → upto x y ≡ false → upto y x ≡ true)
    → (x : X) (old new : List X) → Placed upto x old new → Ascending upto old → Ascending upto new
stays_ascending upto total x old new p asc =
    rw p.put (ascending_put upto x p.front p.back p.behind
    (All-weaker (λ y. upto y x ≡ false) (λ y. upto x y ≡ true) (λ y f. total y x f) p.back (p.before asc))
    (rw p.parts at asc))

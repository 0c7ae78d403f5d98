-- The first least of a list, as `min_by_key` picks it, and the place that it has among the held ones.
use Rattle.std.proofs.Common.{◌≡◌, ℕ, ◌+◌, ◌<◌, ◌≤◌, Bool, eqb, List, [], ◌∷◌, ◌++◌, map, length, Some, None, Option, sym, refl, ap, subst, ◌∙◌, ⊎_elim, arith, filter}
use Rattle.std.specs.Option as options
use Rattle.std.specs.List.{AllByRecursion, FoldsTo, enumerate_from}
use Rattle.std.specs.Fn.{CalledAt}
use Rattle.std.specs.Iterator.{Drains, KeyTurn, PicksMinByKey}
use Rattle.std.specs.declared.cmp.Ordering.{Ordering}
use Rattle.std.specs.declared.cmp.Ordering.TheVariants.{Less, Equal, Greater}
use Rattle.std.specs.Ordering.{nat_cmp, min_by_ordering}
use Rattle.std.specs.Cmp.{ranks}
use Rattle.std.proofs.lemmas.Iterator.{YieldsList, items_from_drains}
use Rattle.std.proofs.lemmas.List.{length-append}
use Rattle.std.proofs.lemmas.Bool.{cases_eq, cond-true, cond-false, eq-eqb, ne_eqb}
use denote.Ref.{Bor}
use denote.Param.Members.{Mut}
use Rattle.buffers.specs.Pooled.{Next, FindsNext}
use Rattle.buffers.specs.declared.pool.held.Held.{Held}

-- the first of the least in a list, by a key
record FirstLeast {X : Type 0} (key : X → ℕ) (xs : List X) (y : X) : Type 0 where
  front : List X
  back : List X
  parts : xs ≡ front ++ y ∷ back
  before : AllByRecursion (λ x. key y < key x) front
  after : AllByRecursion (λ x. key y ≤ key x) back

-- one that is no less than the first stays behind
keeps : {X : Type 0} (key : X → ℕ) (x z y : X) (zs : List X) → key x ≤ key z → FirstLeast key (x ∷ zs) y → FirstLeast key (x ∷ z ∷ zs) y
keeps {X = X} key x z y zs l h = by_front h.front h.parts h.before
  where
    by_front : (front : List X) → x ∷ zs ≡ front ++ y ∷ h.back → AllByRecursion (λ w. key y < key w) front → FirstLeast key (x ∷ z ∷ zs) y
    by_front [] e all =
        let here : x ≡ y = cc in
        let rest : zs ≡ h.back = cc in
        record { front = []; back = z ∷ h.back; parts = rw (here, rest); before = tt; after = (omega (arith, ap key here, l), h.after) }
    by_front (w ∷ ws) e all =
        let here : x ≡ w = cc in
        let rest : zs ≡ ws ++ y ∷ h.back = cc in
        record {
          front = x ∷ z ∷ ws;
          back = h.back;
          parts = rw rest;
          before = (omega (arith, ap key here, all.0), (omega (arith, ap key here, all.0, l), all.1));
          after = h.after;
        }

-- one that is less takes the lead
leads : {X : Type 0} (key : X → ℕ) (x z y : X) (zs : List X) → key z < key x → FirstLeast key (z ∷ zs) y → FirstLeast key (x ∷ z ∷ zs) y
leads {X = X} key x z y zs l h = record {
  front = x ∷ h.front;
  back = h.back;
  parts = ap (λ ws. x ∷ ws) h.parts;
  before = (less h.front h.parts h.before, h.before);
  after = h.after;
}
  where
    less : (front : List X) → z ∷ zs ≡ front ++ y ∷ h.back → AllByRecursion (λ w. key y < key w) front → key y < key x
    less [] e all = let here : z ≡ y = cc in omega (arith, ap key here, l)
    less (w ∷ ws) e all = let here : z ≡ w = cc in omega (arith, ap key here, l, all.0)

-- what the picking of the lesser key does
turn : {X : Type 0} (key : X → ℕ) (x z y : X) (zs : List X) (o : Ordering) → nat_cmp (key x) (key z) ≡ o
    → FirstLeast key (min_by_ordering o x z ∷ zs) y → FirstLeast key (x ∷ z ∷ zs) y
turn key x z y zs Less e h = keeps key x z y zs (let l : key x < key z = rw e at (ranks (key x) (key z)) in omega arith) h
turn key x z y zs Equal e h = keeps key x z y zs (let l : key x ≡ key z = rw e at (ranks (key x) (key z)) in omega arith) h
turn key x z y zs Greater e h = leads key x z y zs (rw e at (ranks (key x) (key z))) h

picked_key : {X : Type 0} (key : X → ℕ) (o : Ordering) (x z : X) (a b : ℕ) → a ≡ key x → b ≡ key z → min_by_ordering o a b ≡ key (min_by_ordering o x z)
picked_key key Less x z a b p q = p
picked_key key Equal x z a b p q = p
picked_key key Greater x z a b p q = q

picked_view : {A B : Type 0} (v : A → B) (o : Ordering) (x z : A) → v (min_by_ordering o x z) ≡ min_by_ordering o (v x) (v z)
picked_view v Less x z = refl
picked_view v Equal x z = refl
picked_view v Greater x z = refl

-- the items as `v` reads them, and a closure that gives the key of each
module _ {A B F : Type 0} (g : Mut F (Bor A × Unit {0}) ℕ) (f : F) (v : A → B) (key : B → ℕ)
    (calls : (x : A) (k : ℕ) (q : F) → CalledAt g f x k q → (q ≡ f) × (k ≡ key (v x))) where
  least : (s : (F × ℕ) × A) (xs : List A) (q : F × ℕ) (y : A) → s.0.0 ≡ f → s.0.1 ≡ key (v s.1)
      → FoldsTo {P = (F × ℕ) × A} (KeyTurn min_by_ordering min_by_ordering g nat_cmp) s xs (q, y) → FirstLeast key (v s.1 ∷ map v xs) (v y)
  least s [] q y same k c =
      let here : s.1 ≡ y = ap (λ (t : (F × ℕ) × A). t.1) c in
      record { front = []; back = []; parts = ap (λ x. v x ∷ []) here; before = tt; after = tt }
  least s (z ∷ zs) q y same k c =
      let t = c.1 in
      let said = calls z t.0 c.0.0.0 (rw same at t.2) in
      let rest = least c.0 zs q y said.0
      (t.4 ∙ picked_key (λ x. key (v x)) t.1 s.1 z s.0.1 t.0 k said.1 ∙ ap (λ x. key (v x)) (sym t.5)) c.2 in
      turn key (v s.1) (v z) (v y) (map v zs) t.1 (rw (k, said.1) at t.3) (rw (t.5, picked_view v t.1 s.1 z) at rest)

-- the places of the held ones for a frame, from a place on
abbrev pub waits_for : ℕ → ℕ × Held → Bool
waits_for f p = eqb p.1.frame f

-- what holds of each that is kept holds of each held for the frame
kept_all : (P : Held → Type 0) (f n : ℕ) (hs : List Held) → AllByRecursion (λ p. P p.1) (filter (waits_for f) (enumerate_from n hs))
    → AllByRecursion (λ h. h.frame ≡ f → P h) hs
kept_all P f n [] all = tt
kept_all P f n (h ∷ hs) all = ⊎_elim
    (λ own.
    let both = rw (cond-true (eqb h.frame f) _ _ (eq-eqb h.frame f own)) at all in
    (λ _. both.0, kept_all P f (n + 1) hs both.1))
    (λ other.
    let rest = rw (cond-false (eqb h.frame f) _ _ (ne_eqb h.frame f other)) at all in
    (λ own. absurd (other own), kept_all P f (n + 1) hs rest))
    (cases_eq h.frame f)

later : (f : ℕ) (x : Held) (xs : List Held) (at : ℕ) (k : Next f xs at) → (x.frame ≡ f → k.chosen.instance.priority < x.instance.priority) → Next f (x ∷ xs) (at + 1)
later f x xs at k behind = record {
  front = x ∷ k.front;
  chosen = k.chosen;
  back = k.back;
  parts = ap (λ l. x ∷ l) k.parts;
  there = omega (arith, k.there);
  frame = k.frame;
  before = (behind, k.before);
  after = k.after;
}

-- the place of the first least of those for the frame, counted from n on
placed : (f n : ℕ) (hs : List Held) (front back : List (ℕ × Held)) (i : ℕ) (h : Held)
    → filter (waits_for f) (enumerate_from n hs) ≡ front ++ (i, h) ∷ back
    → AllByRecursion (λ p. h.instance.priority < p.1.instance.priority) front → AllByRecursion (λ p. h.instance.priority ≤ p.1.instance.priority) back
    → (at : ℕ) × (n + at ≡ i) × ((k : Next f hs at) × (k.chosen ≡ h))
unfolding later
placed f n [] front back i h e before after = absurd (omega (arith, ap length e, length-append front ((i, h) ∷ back)))
placed f n (x ∷ xs) front back i h e before after = ⊎_elim
    (λ own. chosen (λ ws. placed f (n + 1) xs ws back i h) front own (rw (cond-true (eqb x.frame f) _ _ (eq-eqb x.frame f own)) at e) before)
    (λ other.
    let rest = placed f (n + 1) xs front back i h (rw (cond-false (eqb x.frame f) _ _ (ne_eqb x.frame f other)) at e) before after in
    (rest.0 + 1, omega (arith, rest.1), (later f x xs rest.0 rest.2.0 (λ own. absurd (other own)), rest.2.1)))
    (cases_eq x.frame f)
  where
    chosen : ((ws : List (ℕ × Held)) → filter (waits_for f) (enumerate_from (n + 1) xs) ≡ ws ++ (i, h) ∷ back
        → AllByRecursion (λ p. h.instance.priority < p.1.instance.priority) ws → AllByRecursion (λ p. h.instance.priority ≤ p.1.instance.priority) back
        → (at : ℕ) × (n + 1 + at ≡ i) × ((k : Next f xs at) × (k.chosen ≡ h)))
        → (ws : List (ℕ × Held)) → x.frame ≡ f → (n, x) ∷ filter (waits_for f) (enumerate_from (n + 1) xs) ≡ ws ++ (i, h) ∷ back
        → AllByRecursion (λ p. h.instance.priority < p.1.instance.priority) ws
        → (at : ℕ) × (n + at ≡ i) × ((k : Next f (x ∷ xs) at) × (k.chosen ≡ h))
    chosen beyond [] own e all =
        let pair : ◌≡◌ {A = ℕ × Held} (n, x) (i, h) = cc in
        let rest : filter (waits_for f) (enumerate_from (n + 1) xs) ≡ back = cc in
        let here : x ≡ h = ap (λ (p : ℕ × Held). p.1) pair in
        let place : n ≡ i = ap (λ (p : ℕ × Held). p.0) pair in (
          0,
          omega (arith, place),
          (
            record {
              front = [];
              chosen = x;
              back = xs;
              parts = refl;
              there = refl;
              frame = own;
              before = tt;
              after = kept_all (λ y. x.instance.priority ≤ y.instance.priority) f (n + 1) xs (rw (rest, here) after);
            },
            here,
          ),
        )
    chosen beyond (w ∷ ws) own e all =
        let pair : ◌≡◌ {A = ℕ × Held} (n, x) w = cc in
        let here : x ≡ w.1 = ap (λ (p : ℕ × Held). p.1) pair in
        let rest : filter (waits_for f) (enumerate_from (n + 1) xs) ≡ ws ++ (i, h) ∷ back = cc in
        let found = beyond ws rest all.1 after in
        let less : found.2.0.chosen.instance.priority < x.instance.priority = rw (found.2.1, here) all.0 in
        (found.0 + 1, omega (arith, found.1), (later f x xs found.0 found.2.0 (λ _. less), found.2.1))

-- all the items that a chain gives
all_items : {S A B : Type 0} {steps : S → Option A → S → Type 0} {v : A → B} {s : S} {all : List B} (xs : List A) → Drains steps s xs → YieldsList steps v s all
    → map v xs ≡ all
all_items {steps = steps} {v = v} {s = s} xs d chain = items_from_drains {steps = steps} {v = v} {s = s} xs (d.1.0, d.1.1, λ _. (d.0, d.1.2)) chain

-- the least of those that are held for the frame, where there is one
pub finds_next : {S A F : Type 0} {steps : S → Option A → S → Type 0} {g : Mut F (Bor A × Unit {0}) ℕ} {s : S} {f : F} (r : Option A) → PicksMinByKey steps g nat_cmp s f r
    → (v : A → ℕ × Held) (frame : ℕ) (hs : List Held) → YieldsList steps v s (filter (waits_for frame) (enumerate_from 0 hs))
    → ((x : A) (k : ℕ) (q : F) → CalledAt g f x k q → (q ≡ f) × (k ≡ (v x).1.instance.priority))
    → (o : Option ℕ) → options.MatchOption r (o ≡ None) (λ x. o ≡ Some (v x).0) → FindsNext frame hs o
finds_next {steps = steps} {s = s} None picks v frame hs chain calls o e =
    let none = all_items {steps = steps} {v = v} {s = s} [] picks chain in
    rw e (kept_all (λ _. ⊥) frame 0 hs (rw (← none) tt))
finds_next {steps = steps} {g = g} {s = s} {f = f} (Some y) picks v frame hs chain calls o e =
    let all = all_items {steps = steps} {v = v} {s = s} (picks.0 ∷ picks.1) picks.5 chain in
    let first = calls picks.0 picks.2 picks.3 picks.6 in
    let lead = least g f v (λ p. p.1.instance.priority) calls ((picks.3, picks.2), picks.0) picks.1 picks.4 y first.0 first.1 picks.7 in
    let found = placed frame 0 hs lead.front lead.back (v y).0 (v y).1 (sym all ∙ lead.parts) lead.before lead.after in
    let there : found.0 ≡ (v y).0 = omega (arith, found.1) in
    rw e (subst (Next frame hs) there found.2.0)

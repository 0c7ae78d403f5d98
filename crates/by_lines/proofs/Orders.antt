-- Lists that are put in order one element after the other.
use Rattle.std.proofs.Common.{◌≡◌, Bool, true, false, cond, ◌||◌, List, [], ◌∷◌, ◌++◌, map, sym, refl, ap, ◌∙◌}
use Rattle.std.specs.List.{AllByRecursion}
use Rattle.std.proofs.lemmas.Bool.{cond-true, cond-false}
use Rattle.ranked.specs.Ranks.{Placed}
use Rattle.plan.specs.Entries.{some}
use Rattle.by_lines.specs.Held.{put_in, put_all}

pub or_swap : (a b c : Bool) → (a || (b || c)) ≡ (b || (a || c))
or_swap true true c = refl
or_swap true false c = refl
or_swap false b c = refl

pub or_assoc : (a b c : Bool) → ((a || b) || c) ≡ (a || (b || c))
or_assoc true b c = refl
or_assoc false b c = refl

or_end : (a : Bool) → (a || false) ≡ a
or_end true = refl
or_end false = refl

or_past : (a d r : Bool) → ((a || d) || r) ≡ (d || (a || r))
or_past true true r = refl
or_past true false r = refl
or_past false d r = refl

some_put_in : {X : Type 0} (upto : X → X → Bool) (p : X → Bool) (x : X) (ys : List X) → some p (put_in upto x ys) ≡ (p x || some p ys)
some_put_in upto p x [] = refl
some_put_in upto p x (y ∷ ys) = go (upto y x) (some_put_in upto p x ys)
  where
    go : (b : Bool) → some p (put_in upto x ys) ≡ (p x || some p ys) → some p (cond b (y ∷ put_in upto x ys) (x ∷ y ∷ ys)) ≡ (p x || (p y || some p ys))
    go true e = ap (λ r. p y || r) e ∙ or_swap (p y) (p x) (some p ys)
    go false e = refl

-- Order does not change whether some element passes a test.
pub some_put_all : {X : Type 0} (upto : X → X → Bool) (p : X → Bool) (done xs : List X) → some p (put_all upto done xs) ≡ (some p done || some p xs)
some_put_all upto p done [] = sym (or_end (some p done))
some_put_all upto p done (x ∷ xs) =
    some_put_all upto p (put_in upto x done) xs ∙ ap (λ b. b || some p xs) (some_put_in upto p x done) ∙ or_past (p x) (some p done) (some p xs)

pub some_map : {X Y : Type 0} (p : Y → Bool) (f : X → Y) (xs : List X) → some p (map f xs) ≡ some (λ x. p (f x)) xs
some_map p f [] = refl
some_map p f (x ∷ xs) = ap (λ b. p (f x) || b) (some_map p f xs)

pub all_put_in : {X : Type 0} (P : X → Type 0) (upto : X → X → Bool) (x : X) (ys : List X) → P x → AllByRecursion P ys → AllByRecursion P (put_in upto x ys)
all_put_in P upto x [] p all = (p, tt)
all_put_in P upto x (y ∷ ys) p all = go (upto y x) (all_put_in P upto x ys p all.1)
  where
    go : (b : Bool) → AllByRecursion P (put_in upto x ys) → AllByRecursion P (cond b (y ∷ put_in upto x ys) (x ∷ y ∷ ys))
    go true rest = (all.0, rest)
    go false rest = (p, all)

-- Nor what all elements have in common.
pub all_put_all : {X : Type 0} (P : X → Type 0) (upto : X → X → Bool) (done xs : List X) → AllByRecursion P done → AllByRecursion P xs → AllByRecursion P (put_all upto done xs)
all_put_all P upto done [] d all = d
all_put_all P upto done (x ∷ xs) d all = all_put_all P upto (put_in upto x done) xs (all_put_in P upto x done all.0 d) all.1

pub put_all_push : {X : Type 0} (upto : X → X → Bool) (done xs : List X) (x : X) → put_all upto done (xs ++ x ∷ []) ≡ put_in upto x (put_all upto done xs)
put_all_push upto done [] x = refl
put_all_push upto done (y ∷ ys) x = put_all_push upto (put_in upto y done) ys x

-- An element is put in where the ranked list places it.
put_parts : {X : Type 0} (upto : X → X → Bool) (x : X) (front back : List X) → AllByRecursion (λ y. upto y x ≡ true) front
    → ((y : X) (ys : List X) → back ≡ y ∷ ys → upto y x ≡ false) → put_in upto x (front ++ back) ≡ front ++ x ∷ back
put_parts upto x [] [] behind stops = refl
put_parts upto x [] (y ∷ ys) behind stops = cond-false (upto y x) (y ∷ put_in upto x ys) (x ∷ y ∷ ys) (stops y ys refl)
put_parts upto x (f ∷ fs) back behind stops =
    cond-true (upto f x) (f ∷ put_in upto x (fs ++ back)) (x ∷ f ∷ (fs ++ back)) behind.0 ∙ ap (λ l. f ∷ l) (put_parts upto x fs back behind.1 stops)

pub placed_put : {X : Type 0} (upto : X → X → Bool) (x : X) (old new : List X) → Placed upto x old new → new ≡ put_in upto x old
placed_put upto x old new p = p.put ∙ sym (put_parts upto x p.front p.back p.behind p.stops) ∙ ap (put_in upto x) (sym p.parts)

-- A view that keeps the order keeps the place.
pub map_put_in : {X Y : Type 0} (f : X → Y) (upto : Y → Y → Bool) (x : X) (ys : List X)
    → map f (put_in (λ a b. upto (f a) (f b)) x ys) ≡ put_in upto (f x) (map f ys)
map_put_in f upto x [] = refl
map_put_in f upto x (y ∷ ys) = go (upto (f y) (f x)) (map_put_in f upto x ys)
  where
    go : (b : Bool) → map f (put_in (λ a b. upto (f a) (f b)) x ys) ≡ put_in upto (f x) (map f ys)
        → map f (cond b (y ∷ put_in (λ a b. upto (f a) (f b)) x ys) (x ∷ y ∷ ys)) ≡ cond b (f y ∷ put_in upto (f x) (map f ys)) (f x ∷ f y ∷ map f ys)
    go true e = ap (λ l. f y ∷ l) e
    go false e = refl

-- Sums and tallies over lists, and what stands in a list.
use Rattle.std.proofs.Common.{◌≡◌, ℕ, zero, suc, ◌+◌, ◌*◌, ◌<◌, ◌≤◌, Bool, true, false, cond, List, [], ◌∷◌, ◌++◌, Some, Option, sym, refl, ap, subst, inl, inr, ⊎_elim, arith}
use Rattle.std.specs.List.{AllByRecursion, find}
use Rattle.std.proofs.lemmas.Bool.{cases_eq, cases_Bool}
use Rattle.books.specs.Book.{tally}
use Rattle.delay.specs.Delay.{total}
use Rattle.slots.specs.Rows.{In}
use Rattle.slots.specs.Runs.{over_frames}

-- what holds of all holds of each, and the other way round
pub all_in : {X : Type 0} (P : X → Type 0) (xs : List X) (x : X) → AllByRecursion P xs → In x xs → P x
all_in P [] x all m = absurd m
all_in P (y ∷ ys) x all (inl e) = subst P (sym e) all.0
all_in P (y ∷ ys) x all (inr m) = all_in P ys x all.1 m

pub all_each : {X : Type 0} (P : X → Type 0) (xs : List X) → ((x : X) → In x xs → P x) → AllByRecursion P xs
all_each P [] h = tt
all_each P (x ∷ xs) h = (h x (inl refl), all_each P xs (λ y m. h y (inr m)))

-- one put in between
pub all_put : {X : Type 0} (P : X → Type 0) (x : X) (front back : List X) → P x → AllByRecursion P (front ++ back) → AllByRecursion P (front ++ x ∷ back)
all_put P x [] back p all = (p, all)
all_put P x (f ∷ fs) back p all = (all.0, all_put P x fs back p all.1)

pub all_front : {X : Type 0} (P : X → Type 0) (front back : List X) → AllByRecursion P (front ++ back) → AllByRecursion P front
all_front P [] back all = tt
all_front P (f ∷ fs) back all = (all.0, all_front P fs back all.1)

pub tally_put : {X : Type 0} (p : X → Bool) (x : X) (front back : List X) → tally p (front ++ x ∷ back) ≡ tally p (front ++ back) + cond (p x) 1 0
tally_put p x [] back = omega arith
tally_put p x (f ∷ fs) back = omega (arith, tally_put p x fs back)

pub tally_in : {X : Type 0} (p : X → Bool) (xs : List X) (x : X) → In x xs → p x ≡ true → 1 ≤ tally p xs
tally_in p [] x m e = absurd m
tally_in p (y ∷ ys) x (inl s) e = let here : p y ≡ true = subst (λ z. p z ≡ true) s e in rw here (omega arith)
tally_in p (y ∷ ys) x (inr m) e = omega (arith, tally_in p ys x m e)

-- sums
pub total_in : {X : Type 0} (f : X → ℕ) (xs : List X) (x : X) → In x xs → f x ≤ total f xs
total_in f [] x m = absurd m
total_in f (y ∷ ys) x (inl e) = omega (arith, ap f e)
total_in f (y ∷ ys) x (inr m) = omega (arith, total_in f ys x m)

pub total_mono : {X : Type 0} (f g : X → ℕ) (xs : List X) → ((x : X) → In x xs → f x ≤ g x) → total f xs ≤ total g xs
total_mono f g [] h = omega arith
total_mono f g (x ∷ xs) h = omega (arith, h x (inl refl), total_mono f g xs (λ y m. h y (inr m)))

pub total_all : {X : Type 0} (P : X → Type 0) (f g : X → ℕ) (xs : List X) → AllByRecursion P xs → ((x : X) → P x → f x ≤ g x) → total f xs ≤ total g xs
total_all P f g [] all h = omega arith
total_all P f g (x ∷ xs) all h = omega (arith, h x all.0, total_all P f g xs all.1 h)

pub total_add : {X : Type 0} (f g : X → ℕ) (xs : List X) → total (λ x. f x + g x) xs ≡ total f xs + total g xs
total_add f g [] = omega arith
total_add f g (x ∷ xs) = omega (arith, total_add f g xs)

pub total_scale : {X : Type 0} (k : ℕ) (f : X → ℕ) (xs : List X) → total (λ x. k * f x) xs ≡ k * total f xs
total_scale k f [] = omega arith
total_scale k f (x ∷ xs) = omega (arith, total_scale k f xs)

-- sums over frames
pub frames_same : (g h : ℕ → ℕ) (n : ℕ) → ((f : ℕ) → f ≤ n → g f ≡ h f) → over_frames g n ≡ over_frames h n
unfolding over_frames
frames_same g h zero e = refl
frames_same g h (suc n) e = omega (arith, e (suc n) (omega arith), frames_same g h n (λ f l. e f (omega arith)))

pub frames_one : (g h : ℕ → ℕ) (f n : ℕ) → 1 ≤ f → f ≤ n → ((k : ℕ) → (k ≡ f → ⊥) → g k ≡ h k) → over_frames g n + h f ≡ over_frames h n + g f
unfolding over_frames
frames_one g h f zero a c e = absurd (omega arith)
frames_one g h f (suc n) a c e =
    ⊎_elim
    (λ (is : f ≡ suc n). omega (arith, ap g is, ap h is, frames_same g h n (λ k l. e k (λ q. omega arith))))
    (λ (not : f ≡ suc n → ⊥). omega (
      arith,
      e (suc n) (λ q. not (sym q)),
      frames_one g h f n a
          (let l : f < suc n = omega (arith, not) in omega arith) e,
    ))
    (cases_eq f (suc n))

pub frames_in : (g : ℕ → ℕ) (f n : ℕ) → 1 ≤ f → f ≤ n → g f ≤ over_frames g n
unfolding over_frames
frames_in g f zero a c = absurd (omega arith)
frames_in g f (suc n) a c =
    ⊎_elim (λ (is : f ≡ suc n). omega (arith, ap g is))
    (λ (not : f ≡ suc n → ⊥). omega (arith, frames_in g f n a (omega (arith, not)))) (cases_eq f (suc n))

pub frames_none : (g : ℕ → ℕ) (n : ℕ) → ((f : ℕ) → g f ≡ 0) → over_frames g n ≡ 0
unfolding over_frames
frames_none g zero e = refl
frames_none g (suc n) e = omega (arith, e (suc n), frames_none g n e)

-- the first that passes a test passes it, and stands in the list
pub first_in : {X : Type 0} (p : X → Bool) (xs : List X) (x : X) → find p xs ≡ Some x → In x xs × (p x ≡ true)
first_in p [] x e = let z : ◌≡◌ {A = ℕ} 0 1 = cc in absurd (omega arith)
first_in {X} p (y ∷ ys) x e =
    ⊎_elim
    (λ (q : p y ≡ true).
    let here : ◌≡◌ {A = Option X} (Some y) (Some x) = rw q at e in
    let same : y ≡ x = cc in
    (inl (sym same), subst (λ z. p z ≡ true) same q))
    (λ (q : p y ≡ false).
    let rest : find p ys ≡ Some x = rw q at e in
    let h = first_in p ys x rest in (inr h.0, h.1))
    (cases_Bool (p y))

-- where one passes, there is a first
pub first_found : {X : Type 0} (p : X → Bool) (xs : List X) (x : X) → In x xs → p x ≡ true → (y : X) × (find p xs ≡ Some y)
first_found p [] x m q = absurd m
first_found p (z ∷ zs) x (inl s) q = (z, let here : p z ≡ true = subst (λ v. p v ≡ true) s q in rw here)
first_found p (z ∷ zs) x (inr m) q =
    let h = first_found p zs x m q in
    ⊎_elim (λ (e : p z ≡ true). (z, rw e)) (λ (e : p z ≡ false). (h.0, rw e h.1)) (cases_Bool (p z))

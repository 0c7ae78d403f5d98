-- Lists in the order of a rank. `upto x y` says that the rank of x is not above that of y.
use Rattle.std.specs.Prelude.{◌≡◌, Bool, true, false, List, [], ◌∷◌, ◌++◌}
use Rattle.std.specs.List.{AllByRecursion}

-- No element ranks above one that stands after it.
abbrev pub Ascending : {X : Type 0} → (X → X → Bool) → List X → Type 0
Ascending upto [] = Unit {0}
Ascending upto (x ∷ xs) = AllByRecursion (λ y. upto x y ≡ true) xs × Ascending upto xs

-- The new list is the old one with x put in: behind a front in which nothing ranks above x, before a back that begins
-- with an element above x. In an ascending list all of that back ranks above x.
pub record Placed {X : Type 0} (upto : X → X → Bool) (x : X) (old new : List X) : Type 0 where
  pub front : List X
  pub back : List X
  pub parts : old ≡ front ++ back
  pub put : new ≡ front ++ x ∷ back
  pub behind : AllByRecursion (λ y. upto y x ≡ true) front
  pub stops : (y : X) (ys : List X) → back ≡ y ∷ ys → upto y x ≡ false
  pub before : Ascending upto old → AllByRecursion (λ y. upto y x ≡ false) back

-- What follows for a list in which an instance was placed.
use Rattle.std.specs.Prelude.{◌≡◌, ◌+◌, ◌≤◌, Bool, List, [], ◌∷◌, ◌++◌, length, Ok, Err, Result}
use Rattle.std.proofs.Common.{ap, ◌∙◌, arith}
use Rattle.std.specs.Result as results
use Rattle.std.specs.List.{AllByRecursion}
use Rattle.std.proofs.ByRecursion.{All-append}
use Rattle.std.proofs.lemmas.List.{length-append}
use Rattle.ranked.specs.Ranks.{Placed}

-- one more
pub placed_length : {X : Type 0} (upto : X → X → Bool) (x : X) (old new : List X) → Placed upto x old new → length new ≡ length old + 1
placed_length upto x old new p =
    let before = ap length p.parts ∙ length-append p.front p.back in
    let after = ap length p.put ∙ length-append p.front (x ∷ p.back) in
    omega arith

-- at most one more, whatever was answered
pub put_length : {X : Type 0} (upto : X → X → Bool) (x : X) (old new : List X) (r : Result Unit X)
    → results.MatchResult r (λ _. Placed upto x old new) (λ y. (y ≡ x) × (new ≡ old)) → length new ≤ length old + 1
put_length upto x old new (Ok done) p = omega (arith, placed_length upto x old new p)
put_length upto x old new (Err e) p = omega (arith, ap length p.1)

pub all_parts : {X : Type 0} (P : X → Type 0) (xs ys : List X) → AllByRecursion P (xs ++ ys) → AllByRecursion P xs × AllByRecursion P ys
all_parts P [] ys all = (tt, all)
all_parts P (x ∷ xs) ys all = let rest = all_parts P xs ys all.1 in ((all.0, rest.0), rest.1)

-- what holds of each element and of the new one
pub placed_all : {X : Type 0} (P : X → Type 0) (upto : X → X → Bool) (x : X) (old new : List X) → Placed upto x old new → P x → AllByRecursion P old → AllByRecursion P new
placed_all P upto x old new p here all =
    let parts = all_parts P p.front p.back (rw p.parts at all) in
    rw p.put (All-append P p.front (x ∷ p.back) parts.0 (here, parts.1))

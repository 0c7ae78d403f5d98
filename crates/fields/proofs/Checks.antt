-- What follows for the single checks from how a call was answered.
use Rattle.std.proofs.Common.{◌≡◌, ℕ, Bool, true, false, cond, List, [], ◌∷◌, Some, None, Option, refl, arith}
use Rattle.std.specs.List.{AllByRecursion}
use Rattle.fields.specs.Refusals.{Check, first_reason}

passed : {X : Type 0} (b : Bool) (x : X) (o : Option X) → cond b (Some x) o ≡ None → (b ≡ false) × (o ≡ None)
passed true x o e = let z : ◌≡◌ {A = ℕ} 0 1 = cc in absurd (omega arith)
passed false x o e = (refl, e)

-- A call that was not refused passed every check.
pub all_passed : (cs : List Check) → first_reason cs ≡ None → AllByRecursion (λ c. c.holds ≡ false) cs
all_passed [] e = tt
all_passed (c ∷ cs) e = let p = passed c.holds c.reason (first_reason cs) e in (p.0, all_passed cs p.1)

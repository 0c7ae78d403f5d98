-- What a call promised of the value that came through a change of its error.
use Rattle.std.proofs.Common.{◌≡◌, ℕ, Ok, Err, Result, subst, arith}
use Rattle.std.specs.Result.{MatchResult, IsErrAnd}

no_error : {T F : Type 0} (P : F → Type 0) (s : Result T F) (x : T) → IsErrAnd s P → s ≡ Ok x → ⊥
no_error P (Ok y) x bad is = bad
no_error P (Err e) x bad is = let z : ◌≡◌ {A = ℕ} 0 1 = cc in absurd (omega arith)

pub passed_on : {T E F : Type 0} (P : T → Type 0) (Q : E → Type 0) (R : E → F → Type 0) (r : Result T E) (s : Result T F) (x : T) → MatchResult r P Q
    → MatchResult r (λ y. s ≡ Ok y) (λ e. IsErrAnd s (R e)) → s ≡ Ok x → P x
passed_on P Q R (Ok y) s x p e is = let same : y ≡ x = cc in subst P same p
passed_on P Q R (Err e) s x q bad is = absurd (no_error (R e) s x bad is)

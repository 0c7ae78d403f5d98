-- What `map_err` leaves of a contract by cases, where what the closure answers is known by a relation.
use Rattle.std.proofs.Common.{◌≡◌, Ok, Err, Result, MatchResult, IsErrAnd, sym, subst}

pub map_err_relates : {T E D : Type 0} {P : T → Type 0} {Q : E → Type 0} (P' : T → Type 0) (Q' : D → Type 0) (post : E → D → Type 0) (r : Result T E) (s : Result T D)
    → MatchResult r (λ x. s ≡ Ok x) (λ e. IsErrAnd s (post e)) → MatchResult r P Q → ((x : T) → P x → P' x) → ((e : E) (d : D) → Q e → post e d → Q' d) → MatchResult s P' Q'
map_err_relates P' Q' post (Ok x) s said m ok err = subst (λ v. MatchResult v P' Q') (sym said) (ok x m)
map_err_relates P' Q' post (Err e) (Ok y) said m ok err = absurd said
map_err_relates P' Q' post (Err e) (Err d) said m ok err = err e d m said

-- The same where it is known by a function.
pub map_err_gives : {T E D : Type 0} {P : T → Type 0} {Q : E → Type 0} (P' : T → Type 0) (Q' : D → Type 0) (h : E → D) (r : Result T E) (s : Result T D)
    → MatchResult r (λ x. s ≡ Ok x) (λ e. IsErrAnd s (λ d. d ≡ h e)) → MatchResult r P Q → ((x : T) → P x → P' x) → ((e : E) → Q e → Q' (h e)) → MatchResult s P' Q'
map_err_gives P' Q' h r s said m ok err = map_err_relates P' Q' (λ e d. d ≡ h e) r s said m ok (λ e d q is. subst Q' (sym is) (err e q))

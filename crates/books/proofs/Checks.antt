-- How the checks of a release go on from those of a question, and how those of a listing pass.
use Rattle.std.proofs.Common.{◌≡◌, Bool, true, false, not, ◌&&◌, [], ◌∷◌, None}
use Rattle.fields.specs.Refusals.{first_reason}
use Rattle.fields.specs.declared.refusal.Reason.TheVariants.{OutOfRange, NumberUsed, NotListed, TooEarly}

-- a question about the message passes, the time is in range, and the release is not too early
pub release_passes : (number time listed early : Bool)
    → first_reason (record { holds = not number; reason = OutOfRange } ∷ record { holds = not listed; reason = NotListed } ∷ []) ≡ None
    → true ≡ time → early ≡ false
    → first_reason (record { holds = not (number && time); reason = OutOfRange } ∷ record { holds = not listed; reason = NotListed } ∷ record { holds = early; reason = TooEarly } ∷ []) ≡ None
release_passes true time listed early asked t e = rw (← t, e) asked
release_passes false time listed early asked t e = asked

-- number and figures are in range, and the number is not used
pub listing_passes : (number figures isUsed : Bool) → true ≡ number → figures ≡ true → isUsed ≡ false
    → first_reason (record { holds = not (number && figures); reason = OutOfRange } ∷ record { holds = isUsed; reason = NumberUsed } ∷ []) ≡ None
listing_passes number figures isUsed n f u = rw (← n, f, u)

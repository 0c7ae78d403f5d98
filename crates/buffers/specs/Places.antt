-- How places are handed over when a buffer is made: a number for each frame, from frame 1 on.
use Rattle.std.specs.Prelude.{◌≡◌, ℕ, ◌<◌, ◌≤◌, List, [], ◌∷◌, length, take, sum, Result, slice_index}
use Rattle.std.specs.Result as results
use Rattle.fields.specs.Limits.{highest}
use Rattle.fields.specs.declared.limits.Field.TheVariants.{Frame}
use Rattle.fields.specs.declared.refusal.MakingFault.{MakingFault}
use Rattle.fields.specs.declared.refusal.MakingFault.TheVariants as fault
use Rattle.fields.specs.declared.refusal.Place.TheVariants as place
use Rattle.fields.specs.declared.refusal.Reason.TheVariants.{OutOfRange}
use Rattle.fields.specs.declared.refusal.Refusal.{Refusal}
use Rattle.buffers.specs.Buffer.{Meaning}

-- The most places that a buffer has in all.
abbrev pub most_places : ℕ
most_places = 256

-- The places of a frame. A frame past the end of the list has none, and nor has frame 0.
abbrev pub places_given : List ℕ → ℕ → ℕ
places_given given f = slice_index (0 ∷ given) f

-- The frames up to this one are in range, and have no more places together than a buffer may have.
pub record Fits (given : List ℕ) (f : ℕ) : Type 0 where
  pub frame : f ≤ highest Frame
  pub total : sum (take f given) ≤ most_places

-- A refusal names the lowest frame of the list up to which the places do not fit.
pub record FirstUnfit (given : List ℕ) (e : Refusal) : Type 0 where
  pub reason : e.reason ≡ OutOfRange
  pub place : e.place ≡ place.Buffer
  pub named : e.concerns ≤ length given
  pub unfit : Fits given e.concerns → ⊥
  pub before : (k : ℕ) → k < e.concerns → Fits given k

-- Why no buffer was made with these places. Of a want of memory nothing is said.
abbrev pub NotMade : List ℕ → MakingFault → Type 0
NotMade given (fault.Refused e) = FirstUnfit given e
NotMade given fault.Memory = Unit {0}

-- A new buffer has just these places, and nothing waits.
pub record New (given : List ℕ) (m : Meaning) : Type 0 where
  pub fits : Fits given (length given)
  pub places : (f : ℕ) → m.places f ≡ places_given given f
  pub nothing : (f : ℕ) → m.waiting f ≡ []

-- What making a buffer with these places answers: where they fit, a new buffer, and a sound one.
abbrev pub Making : {B : Type 0} → (B → Meaning) → (B → Type 0) → List ℕ → Result B MakingFault → Type 0
Making meaning sound given r = results.MatchResult r (λ b. New given (meaning b) × sound b) (NotMade given)

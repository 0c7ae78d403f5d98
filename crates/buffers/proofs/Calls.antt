-- How a put is answered, by whether its values are in range and a place is free.
use Rattle.std.specs.Prelude.{◌≡◌, ℕ, ◌<◌, ◌≤◌, true, ◌&&◌, length, Ok, Err, refl}
use Rattle.std.proofs.Common.{sym, arith}
use Rattle.std.proofs.lemmas.Bool.{eq-eqb, ne_eqb, and_parts, leb-true}
use Rattle.fields.specs.Limits.{admitted, highest}
use Rattle.fields.specs.declared.limits.Field.TheVariants.{Frame}
use Rattle.fields.specs.declared.refusal.Place.TheVariants as place
use Rattle.fields.specs.declared.refusal.Reason.TheVariants.{PlacesFull}
use Rattle.ranked.specs.Ranks.{Placed}
use Rattle.buffers.specs.Buffer.{Meaning, Elsewhere, Putting, upto, sendable}
use Rattle.buffers.specs.declared.instance.Instance.{Instance}

module _ (m m' : Meaning) (f : ℕ) (x : Instance) (range : true ≡ (admitted Frame f && sendable x)) (others : Elsewhere f m m') where
  pub put_done : length (m.waiting f) < m.places f → Placed upto x (m.waiting f) (m'.waiting f) → Putting m f x (Ok tt) m'
  put_done free placed =
      let some = ne_eqb (length (m.waiting f)) (m.places f) (λ e. omega arith) in
      record { verdict = (rw (← range, some), placed); stays = tt; others = others }

  pub put_full : m.places f ≡ length (m.waiting f) → m'.waiting f ≡ m.waiting f
      → Putting m f x (Err (record { reason = PlacesFull; place = place.Buffer; concerns = f })) m'
  put_full full same =
      let none = eq-eqb (length (m.waiting f)) (m.places f) (omega arith) in
      record { verdict = (rw (← range, none), refl, refl); stays = same; others = others }

-- the frame of a put that passed the first check
pub frame_in_range : (f : ℕ) (x : Instance) → true ≡ (admitted Frame f && sendable x) → f ≤ highest Frame
frame_in_range f x range = leb-true f (highest Frame) (and_parts _ _ (and_parts (admitted Frame f) (sendable x) (sym range)).0).1

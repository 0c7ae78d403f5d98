-- What the laws of queues by frame number follow from: no more wait than there are places, and a frame out of range has none.
use Rattle.std.specs.Prelude.{◌≡◌, ℕ, zero, suc, ◌+◌, ◌≤◌, List, [], ◌∷◌, map, length}
use Rattle.std.proofs.Common.{⊎_elim, arith}
use Rattle.std.proofs.lemmas.List.{get_or_past, length-map}
use Rattle.std.proofs.lemmas.Bool.{cases_lt}
use Rattle.fields.specs.Limits.{Admitted, highest}
use Rattle.fields.specs.declared.limits.Field.TheVariants.{Frame}
use Rattle.buffers.specs.Queues.{places_in, waiting_in, SoundQueues}
use Rattle.buffers.specs.declared.ranked_buffer.queue.FrameQueue.{FrameQueue}

-- no more wait than there are places
pub queues_room : (qs : List FrameQueue) (f : ℕ) → length (waiting_in qs f) ≤ places_in qs f
queues_room [] f = omega arith
queues_room (q ∷ qs) zero = omega arith
queues_room (q ∷ qs) (suc f) = queues_room qs f

-- a frame out of range has no places
pub none_outside : (qs : List FrameQueue) (f : ℕ) → length qs ≡ highest Frame + 1 → SoundQueues qs → (Admitted Frame f → ⊥) → places_in qs f ≡ 0
none_outside qs zero size sound out = sound.spare
none_outside qs (suc f) size sound out =
    get_or_past (map (λ q. q.places) qs) (suc f) 0 (⊎_elim
    (λ l. absurd (out (omega arith, omega (arith, length-map qs (λ q. q.places))))) (λ past. past) (cases_lt (suc f) (length (map (λ q. q.places) qs))))

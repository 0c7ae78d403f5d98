use Rattle.std.proofs.Common.{◌+◌, ◌<◌, length, vec_items, sym, subst, refl, arith}
use Rattle.std.proofs.lemmas.List.{length-map}
use Rattle.std.proofs.lemmas.Bool.{false≢true}
use Rattle.fields.specs.Limits.{Admitted}
use Rattle.fields.specs.declared.limits.Field.TheVariants.{Frame}
use Rattle.buffers.specs.Pooled.{all_places, free_places, SoundPool}
use Rattle.buffers.proofs.PoolCalls.{nothing_held, pool_outside, free_few, sum_set, frame_taken}
use Rattle.buffers.proofs.pool.PoolSendBuffer.take.Goals as goal

pub returns-then-not-admits : goal.returns-then-not-admits
returns-then-not-admits c =
    let fs = vec_items c.args.self.now.frames in
    let out : Admitted Frame c.args.frame → ⊥ = λ inside. false≢true (c.if-not-admits.ensures.within.1 (subst (Admitted Frame) (sym c.from.ensures) inside)) in
    let none = λ (sound : SoundPool (all_places fs) (free_places fs) (vec_items c.args.self.now.held)).
    (pool_outside (all_places fs) (free_places fs) (vec_items c.args.self.now.held) c.args.frame (omega (arith, length-map fs (λ p. p.all))) sound out).1 in
    record {
      effect = λ sound. record { first = (none sound, none sound); others = record { places = λ k. refl; waiting = λ k ne. refl } };
      sound = λ sound. sound;
    }

pub returns-in_err-at : goal.returns-in_err-at
returns-in_err-at c =
    let none = nothing_held c.args.frame (vec_items c.args.self.now.held) (rw c.as_slice.ensures.value at c.in_err-at.ensures) in
    rw c.from_residual.ensures (record {
      effect = λ sound. record { first = (none, none); others = record { places = λ k. refl; waiting = λ k ne. refl } };
      sound = λ sound. sound;
    })

pub overflow_add-places : goal.overflow_add-places
overflow_add-places c =
    let fs = vec_items c.args.self.now.frames in
    let p = c.in_ok-places.places.now in
    let l : c.from-2.result < length fs = omega (arith, c.in_ok-places.ensures.variant.0 refl) in
    omega (arith, free_few fs c.from-2.result p p l c.in_ok-places.ensures.value)

pub invariant_of-self-2 : goal.invariant_of-self-2
invariant_of-self-2 c =
    let fs = vec_items c.args.self.now.frames in
    let p = c.in_ok-places.places.now in
    let l : c.from-2.result < length fs = omega (arith, c.in_ok-places.ensures.variant.0 refl) in
    let more = sum_set fs c.from-2.result p (record { all = p.all; free = p.free + 1 }) l c.in_ok-places.ensures.value in
    record { counted = omega arith; few = omega arith; reserved = omega arith }

pub returns : goal.returns
returns c =
    let fs = vec_items c.args.self.now.frames in
    let hs = vec_items c.args.self.now.held in
    let p = c.in_ok-places.places.now in
    let i = c.from-2.result in
    let l : i < length fs = omega (arith, c.in_ok-places.ensures.variant.0 refl) in
    let next = rw c.as_slice.ensures.value at c.in_ok-at.ensures in
    let all = λ (sound : SoundPool (all_places fs) (free_places fs) hs).
    frame_taken fs i p (record { all = p.all; free = p.free + 1 }) l c.in_ok-places.ensures.value hs sound refl
    (vec_items c.remove.new.self) c.in_ok-at.at c.remove.result (rw (← c.from-2.ensures) at next) c.remove.ensures.value c.remove.ensures.items refl in
    rw (← c.from-2.ensures) (record { effect = λ sound. (all sound).0; sound = λ sound. (all sound).1 })

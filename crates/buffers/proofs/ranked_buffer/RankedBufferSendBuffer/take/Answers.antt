use Rattle.std.proofs.Common.{◌<◌, length, vec_items, refl, sym, subst, arith}
use Rattle.std.proofs.lemmas.Bool.{false≢true}
use Rattle.fields.specs.Limits.{Admitted}
use Rattle.fields.specs.declared.limits.Field.TheVariants.{Frame}
use Rattle.buffers.specs.Queues.{SoundQueues}
use Rattle.buffers.proofs.QueueTable.{nothing_outside, queue_taken}
use Rattle.buffers.proofs.ranked_buffer.RankedBufferSendBuffer.take.Goals as goal

pub returns-then-not-admits : goal.returns-then-not-admits
returns-then-not-admits c =
    let qs = vec_items c.args.self.now.queues in
    let out : Admitted Frame c.args.frame → ⊥ = λ inside. false≢true (c.if-not-admits.ensures.within.1 (subst (Admitted Frame) (sym c.from.ensures) inside)) in
    let none = λ (sound : SoundQueues qs). nothing_outside qs c.args.frame (omega arith) sound out in
    record {
      effect = λ sound. record { first = (none sound, none sound); others = record { places = λ k. refl; waiting = λ k ne. refl } };
      sound = λ sound. sound;
    }

pub returns : goal.returns
returns c =
    let qs = vec_items c.args.self.now.queues in
    let l : c.from-2.result < length qs = omega (arith, c.if-not-admits.ensures.within.1) in
    let all = λ (sound : SoundQueues qs).
    queue_taken _ _ _ c.take.new.self l c.index_mut.ensures.value c.take.ensures.places c.take.result sound c.take.ensures.first in
    rw (← c.from-2.ensures) (record { effect = λ sound. (all sound).0; sound = λ sound. (all sound).1 })

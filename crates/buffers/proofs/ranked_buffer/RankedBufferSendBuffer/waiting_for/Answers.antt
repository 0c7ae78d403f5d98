use Rattle.std.proofs.Common.{◌<◌, [], length, vec_items, sym, ap, ◌∙◌, subst, arith}
use Rattle.std.proofs.lemmas.Bool.{false≢true}
use Rattle.fields.specs.Limits.{Admitted}
use Rattle.fields.specs.declared.limits.Field.TheVariants.{Frame}
use Rattle.buffers.proofs.QueueTable.{nothing_outside, read_here}
use Rattle.buffers.proofs.ranked_buffer.RankedBufferSendBuffer.waiting_for.Goals as goal

pub returns-then-not-admits : goal.returns-then-not-admits
returns-then-not-admits c =
    let out : Admitted Frame c.args.frame → ⊥ = λ inside. false≢true (c.if-not-admits.ensures.within.1 (subst (Admitted Frame) (sym c.from.ensures) inside)) in
    λ sound. sym (ap length (nothing_outside (vec_items c.args.self.now.queues) c.args.frame (omega arith) sound out))

pub returns : goal.returns
returns c =
    let l : c.from-2.result < length (vec_items c.args.self.now.queues) = omega (arith, c.if-not-admits.ensures.within.1) in
    rw (← c.from-2.ensures) (λ sound. c.waiting.ensures ∙ sym (ap length (read_here (λ q. vec_items q.list) [] _ _ _ l c.index.ensures)))

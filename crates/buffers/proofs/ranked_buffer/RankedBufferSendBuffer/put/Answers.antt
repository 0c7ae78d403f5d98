use Rattle.std.proofs.Common.{◌≡◌, ◌<◌, length, vec_items, Ok, Err, arith, rules}
use Rattle.std.specs.Result as results
use Rattle.fields.specs.declared.refusal.Place.TheVariants as place
use Rattle.fields.specs.declared.refusal.Reason.TheVariants.{PlacesFull}
use Rattle.buffers.specs.Queues.{SoundQueues}
use Rattle.buffers.proofs.Calls.{frame_in_range}
use Rattle.buffers.proofs.QueueTable.{queue_answered}
use Rattle.buffers.proofs.ranked_buffer.RankedBufferSendBuffer.put.Goals as goal

pub returns : goal.returns
returns c =
    let qs = vec_items c.args.self.now.queues in
    let i = c.from-3.result in
    let done = c.put.ensures in
    let range = c.if-not-in_range.ensures in
    let l : i < length qs = omega (arith, frame_in_range c.args.frame c.args.instance range) in
    let mapped : results.MatchResult c.put.result (λ _. c.map_err.result ≡ Ok tt)
    (λ _. c.map_err.result ≡ Err (record { reason = PlacesFull; place = place.Buffer; concerns = i })) = search rules in
    let all = λ (sound : SoundQueues qs).
    queue_answered qs i c.index_mut.result.now c.put.new.self l c.index_mut.ensures.value done.places c.args.instance (rw (← c.from-3.ensures) at range)
    sound done.ordered c.put.result c.map_err.result done.free done.placed mapped in
    rw (← c.from-3.ensures) (record { effect = λ sound. (all sound).0; sound = λ sound. (all sound).1 })

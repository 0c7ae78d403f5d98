use Rattle.std.proofs.Common.{◌-◌, ◌<◌, length, vec_items, refl, arith}
use Rattle.buffers.specs.Pooled.{all_places, free_places, SoundPool}
use Rattle.buffers.proofs.Calls.{frame_in_range}
use Rattle.buffers.proofs.PoolCalls.{free_few, sum_set, frame_put}
use Rattle.buffers.proofs.pool.PoolSendBuffer.put.Goals as goal

pub push_reserved-requires : goal.push_reserved-requires
push_reserved-requires c =
    let fs = vec_items c.args.self.now.frames in
    let p = c.index_mut-places.result.now in
    let l : c.from-2.result < length fs = omega (arith, frame_in_range c.args.frame c.args.instance c.if-not-in_range.ensures) in
    omega (arith, free_few fs c.from-2.result p p l c.index_mut-places.ensures.value)

pub invariant_of-self : goal.invariant_of-self
invariant_of-self c =
    let fs = vec_items c.args.self.now.frames in
    let p = c.index_mut-places.result.now in
    let l : c.from-2.result < length fs = omega (arith, frame_in_range c.args.frame c.args.instance c.if-not-in_range.ensures) in
    let same = sum_set fs c.from-2.result p p l c.index_mut-places.ensures.value in
    record { counted = omega arith; few = omega arith; reserved = omega arith }

pub invariant_of-self-2 : goal.invariant_of-self-2
invariant_of-self-2 c =
    let fs = vec_items c.args.self.now.frames in
    let p = c.index_mut-places.result.now in
    let l : c.from-2.result < length fs = omega (arith, frame_in_range c.args.frame c.args.instance c.if-not-in_range.ensures) in
    let less = sum_set fs c.from-2.result p (record { all = p.all; free = p.free - 1 }) l c.index_mut-places.ensures.value in
    record { counted = omega arith; few = omega arith; reserved = omega arith }

pub returns : goal.returns
returns c =
    let fs = vec_items c.args.self.now.frames in
    let hs = vec_items c.args.self.now.held in
    let p = c.index_mut-places.result.now in
    let i = c.from-2.result in
    let l : i < length fs = omega (arith, frame_in_range c.args.frame c.args.instance c.if-not-in_range.ensures) in
    let some : 0 < p.free = omega arith in
    let all = λ (sound : SoundPool (all_places fs) (free_places fs) hs).
    frame_put fs i p (record { all = p.all; free = p.free - 1 }) l c.index_mut-places.ensures.value hs sound refl
    c.args.instance (rw (← c.from-2.ensures) at c.if-not-in_range.ensures) (vec_items c.push_reserved.new.self)
    (rw (← c.from-2.ensures) at c.push_reserved.ensures.items) some refl in
    rw (← c.from-2.ensures) (record { effect = λ sound. (all sound).0; sound = λ sound. (all sound).1 })

use Rattle.std.proofs.Common.{vec_items, arith}
use Rattle.buffers.proofs.PoolCalls.{free_sum, pool_new}
use Rattle.buffers.proofs.pool.Pool.new.Goals as goal

pub invariant_of-result : goal.invariant_of-result
invariant_of-result c =
    let made = c.in_ok-frames.ensures in
    let held = c.in_ok-held.ensures in
    let few = free_sum c.args.places.now (vec_items c.in_ok-frames.frames) (omega arith) c.in_ok-fit.ensures made.each in
    record { counted = omega arith; few = omega (arith, held.len, few); reserved = omega (arith, held.capacity) }

pub returns : goal.returns
returns c =
    pool_new c.args.places.now (vec_items c.in_ok-frames.frames) (omega arith) c.in_ok-fit.ensures c.in_ok-frames.ensures.each
    (vec_items c.in_ok-held.held) c.in_ok-held.ensures.items

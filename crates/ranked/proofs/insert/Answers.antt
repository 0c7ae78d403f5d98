use Rattle.std.proofs.Common.{◌≡◌, true, is_ok, vec_items, rules}
use Rattle.ranked.specs.Ranks.{Placed}
use Rattle.ranked.proofs.Places.{put_at, stays_ascending}
use Rattle.ranked.proofs.insert.Goals as goal

put_in : (g : _) (c : goal.After-map_err g) → Placed g.T.Rank.upto c.args.x (vec_items c.args.list.now) (vec_items c.insert.new.self)
put_in g c =
    let laws = g.met.T.Rank in
    let at = c.place_for-at.ensures in
    let items = c.as_slice.ensures.value in
    let stored : is_ok c.insert.result ≡ true = search rules in
    rw (c.insert.ensures.items, stored)
    (put_at g.T.Rank.upto laws.transitive c.args.x (vec_items c.args.list.now) c.place_for-at.result
    (rw items at at.within) (rw items at at.before) (rw items at at.stop))

pub returns-clause-placed : goal.returns-clause-placed
returns-clause-placed g c = let put = put_in g c in search rules

pub returns-clause-ascending : goal.returns-clause-ascending
returns-clause-ascending g c =
    let laws = g.met.T.Rank in
    stays_ascending g.T.Rank.upto laws.total c.args.x _ _ (put_in g c)

-- The messages and nodes of a table, as lists.
use Rattle.std.specs.Prelude.{ℕ, ◌+◌, Bool, true, false, not, ◌&&◌, List, [], ◌∷◌, Some, None, Option, ◌==◌, nat_le, slice_index_or}
use Rattle.std.specs.List.{list_any, list_all}
use Rattle.fields.specs.Limits.{admitted}
use Rattle.fields.specs.declared.limits.Field.TheVariants.{LastStart}
use Rattle.delay.specs.Order.{by_frame}
use Rattle.delay.specs.declared.entry.Entry.{Entry}

-- Some element passes the test; every element does.
abbrev pub some : {X : Type 0} → (X → Bool) → List X → Bool
some p xs = list_any p xs

abbrev pub every : {X : Type 0} → (X → Bool) → List X → Bool
every p xs = list_all p xs

-- No entry stands after one that it should come before.
abbrev pub ascends : List Entry → Bool
ascends [] = true
ascends (x ∷ xs) = every (by_frame x) xs && ascends xs

-- An entry has the number.
abbrev pub numbered : ℕ → Entry → Bool
numbered n e = e.number == n

-- No two elements clash.
abbrev pub none_clash : {X : Type 0} → (X → X → Bool) → List X → Bool
none_clash p [] = true
none_clash p (x ∷ xs) = not (some (p x) xs) && none_clash p xs

-- No two entries have one number.
abbrev pub apart : List Entry → Bool
apart [] = true
apart (e ∷ es) = not (some (numbered e.number) es) && apart es

-- Two entries of one frame at two nodes; two of one frame and one priority.
abbrev pub nodes_clash : Entry → Entry → Bool
nodes_clash e d = d.frame == e.frame && not (d.node == e.node)

abbrev pub priorities_clash : Entry → Entry → Bool
priorities_clash e d = d.frame == e.frame && d.priority == e.priority

-- A sending that starts in the last minislot allowed ends within so many minislots.
abbrev pub ends_within : ℕ → Entry → Bool
ends_within q e = nat_le (e.latest + e.size) (q + 1)

-- The last start of an entry is that of its node.
abbrev pub start_is : Option ℕ → ℕ → Bool
start_is None a = false
start_is (Some x) a = x == a

abbrev pub starts_as_node : List (Option ℕ) → Entry → Bool
starts_as_node nodes e = start_is (slice_index_or nodes e.node None) e.latest

-- The last start of each known node is in its range.
abbrev pub is_start_in_range : Option ℕ → Bool
is_start_in_range None = true
is_start_in_range (Some a) = admitted LastStart a

abbrev pub nodes_fit : List (Option ℕ) → Bool
nodes_fit xs = every is_start_in_range xs

-- The order of a table.
use Rattle.std.specs.Prelude.{Bool, ◌&&◌, ◌||◌, ◌==◌, nat_le, nat_lt}
use Rattle.delay.specs.declared.entry.Entry.{Entry}

-- By frame, then by priority.
abbrev pub by_frame : Entry → Entry → Bool
by_frame x y = nat_lt x.frame y.frame || (x.frame == y.frame && nat_le x.priority y.priority)

-- The range of every field: the least and the greatest value that it may have.
use Rattle.std.specs.Prelude.{ℕ, ◌≤◌, Bool, ◌&&◌, nat_le}
use Rattle.fields.specs.declared.limits.Field.{Field}
use Rattle.fields.specs.declared.limits.Field.TheVariants.{Cycle, Offset, Minislot, Minislots, Node, LastStart, Size, Message, Frame, Priority, Deadline, Period, Window, Jitter, Releases, Time}

abbrev pub lowest : Field → ℕ
lowest Cycle = 10
lowest Offset = 0
lowest Minislot = 2
lowest Minislots = 1
lowest Node = 1
lowest LastStart = 1
lowest Size = 1
lowest Message = 1
lowest Frame = 1
lowest Priority = 1
lowest Deadline = 1
lowest Period = 1
lowest Window = 1
lowest Jitter = 0
lowest Releases = 1
lowest Time = 0

abbrev pub highest : Field → ℕ
highest Cycle = 16000
highest Offset = 15999
highest Minislot = 63
highest Minislots = 7994
highest Node = 64
highest LastStart = 7994
highest Size = 7994
highest Message = 128
highest Frame = 2047
highest Priority = 255
highest Deadline = 4000000
highest Period = 4000000
highest Window = 4000000
highest Jitter = 4000000
highest Releases = 16
highest Time = 99999999999

-- The place of a field in a table that goes by field.
abbrev pub place_of : Field → ℕ
place_of Cycle = 0
place_of Offset = 1
place_of Minislot = 2
place_of Minislots = 3
place_of Node = 4
place_of LastStart = 5
place_of Size = 6
place_of Message = 7
place_of Frame = 8
place_of Priority = 9
place_of Deadline = 10
place_of Period = 11
place_of Window = 12
place_of Jitter = 13
place_of Releases = 14
place_of Time = 15

-- A value is within the range of its field.
abbrev pub Admitted : Field → ℕ → Type 0
Admitted f v = (lowest f ≤ v) × (v ≤ highest f)

-- The same as a test.
abbrev pub admitted : Field → ℕ → Bool
admitted f v = nat_le (lowest f) v && nat_le v (highest f)

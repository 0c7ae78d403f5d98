-- What a bench stands at: its position, its clock, and the release times that the clock allows.
use Rattle.std.specs.Prelude.{ℕ, ◌+◌, ◌-◌, ◌*◌, Bool, true, ◌&&◌, List, Some, None, Option, nat_le, nat_lt}
use Rattle.books.specs.Book.{Book}
use Rattle.buffers.specs.declared.instance.Instance.{Instance}
use Rattle.delay.specs.declared.bus.Bus.{Bus}
use Rattle.slots.specs.declared.position.Position.{Position}

-- The time at which a minislot of a cycle begins.
abbrev pub clock_at : Bus → ℕ → ℕ → ℕ
clock_at bus c m = c * bus.cycle + bus.offset + (m - 1) * bus.minislot

-- The clock of a position.
abbrev pub clock : Bus → Position → ℕ
clock bus p = clock_at bus p.cycle p.minislot

-- The state of a bench: where it stands, the time of the last accepted release and the start of the last slot run, if
-- any, the state of its book, and what waits for each frame, in sending order.
pub record State (b : Book) : Type 0 where
  pub position : Position
  pub released : Option ℕ
  pub started : Option ℕ
  pub book : b.State
  pub waiting : ℕ → List Instance

-- The time is not before the last accepted release; it is later than the start of the last slot run.
abbrev pub not_before : Option ℕ → ℕ → Bool
not_before None t = true
not_before (Some u) t = nat_le u t

abbrev pub later_than : Option ℕ → ℕ → Bool
later_than None t = true
later_than (Some u) t = nat_lt u t

-- The clock allows a release at the time.
abbrev pub allowed : Bus → Position → Option ℕ → Option ℕ → ℕ → Bool
allowed bus p released started t = not_before released t && (later_than started t && nat_le t (clock bus p))

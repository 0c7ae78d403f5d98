-- That all rows are listed is a fact with one proof at most, as a ghost field has to be.
use Rattle.std.specs.Prelude.{ℕ, Bool, true, List}
use Rattle.std.specs.List.{AllByRecursion, AllByRecursion-prop}
use Rattle.std.proofs.Math.Bool.{Bool-set}
use Rattle.delay.specs.Delay.{ListedRow}
use Rattle.delay.specs.declared.entry.Row.{Row}

pub listed_prop : (lists : ℕ → Bool) (rows : List Row) → IsProp (AllByRecursion (ListedRow lists) rows)
listed_prop lists rows = AllByRecursion-prop (ListedRow lists) (λ row. Bool-set (lists row.entry.number) true) rows

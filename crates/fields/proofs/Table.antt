-- The table of limits has, at the place of each field, that field's range.
use Rattle.std.proofs.Common.{◌≡◌, ℕ, List, [], ◌∷◌, get_or, rules}
use Rattle.fields.specs.Limits.{lowest, highest, place_of}
use Rattle.fields.specs.declared.limits.Field.{Field}
use Rattle.fields.specs.declared.limits.Limits.{Limits}

abbrev range : ℕ → ℕ → Limits
range l h = record { low = l; high = h }

abbrev pub table : List Limits
table = range 10 16000 ∷ range 0 15999 ∷ range 2 63 ∷ range 1 7994 ∷ range 1 64 ∷ range 1 7994 ∷ range 1 7994 ∷ range 1 128
    ∷ range 1 2047 ∷ range 1 255 ∷ range 1 4000000 ∷ range 1 4000000 ∷ range 1 4000000 ∷ range 0 4000000 ∷ range 1 16
    ∷ range 0 99999999999 ∷ []

pub agrees : (f : Field) (d : Limits) → ((get_or table (place_of f) d).low ≡ lowest f) × ((get_or table (place_of f) d).high ≡ highest f)
agrees f d = search rules

-- Worked cases: a text, and what the rules give for it.
use Rattle.std.specs.Prelude.{ℕ, List, [], ◌∷◌, ◌++◌, codes}
use Prim.Native.String.{String}
use Rattle.std.specs.List.{AllByRecursion}
use Rattle.answers.specs.Answers.{OnlyAnswer}

-- The bytes of lines, each with its line feed.
abbrev pub bytes_of : List String → List ℕ
bytes_of [] = []
bytes_of (l ∷ ls) = codes l ++ 10 ∷ bytes_of ls

-- A table, and what is printed of it, line by line.
pub record SheetCase : Type 0 where
  pub table : List String
  pub prints : List String

-- A cluster of four messages, by what is varied in it: the offset of the segment, the last start of node 3, the size of message 2
-- and the deadline of message 4.
abbrev pub cluster : String → String → String → String → List String
cluster bus node size deadline =
    "FDT 0001" ∷ bus ∷ "N 1 20" ∷ "N 2 18" ∷ node ∷ "P 1 1 1 1 5 400 400 0" ∷ size ∷ "W 3 2 2 2 3 700 2 500" ∷ deadline ∷ []

abbrev pub cases_of_sheets : List SheetCase
cases_of_sheets =
    -- the worked cluster; its size 8 of message 2 just fits
    record {
      table = cluster "B 100 40 2 25" "N 3 20" "P 2 2 2 1 8 600 600 20" "P 4 5 3 1 2 300 300 50";
      prints = "FDS 0001" ∷ "1 1 147 147" ∷ "2 2 147 167" ∷ "3 2 337 337" ∷ "4 5 133 183" ∷ [];
    }
    -- an earlier last start of node 3
    ∷ record {
      table = cluster "B 100 40 2 25" "N 3 19" "P 2 2 2 1 8 600 600 20" "P 4 5 3 1 2 300 300 50";
      prints = "FDS 0001" ∷ "1 1 147 147" ∷ "2 2 147 167" ∷ "3 2 337 337" ∷ "4 5 231 281" ∷ [];
    }
    -- just the deadline that this leaves, and one macrotick less
    ∷ record {
      table = cluster "B 100 40 2 25" "N 3 19" "P 2 2 2 1 8 600 600 20" "P 4 5 3 1 2 281 300 50";
      prints = "FDS 0001" ∷ "1 1 147 147" ∷ "2 2 147 167" ∷ "3 2 337 337" ∷ "4 5 231 281" ∷ [];
    }
    ∷ record { table = cluster "B 100 40 2 25" "N 3 19" "P 2 2 2 1 8 600 600 20" "P 4 5 3 1 2 280 300 50"; prints = "E 13 9" ∷ [] }
    -- a size that does not fit
    ∷ record { table = cluster "B 100 40 2 25" "N 3 20" "P 2 2 2 1 9 600 600 20" "P 4 5 3 1 2 300 300 50"; prints = "E 10 7" ∷ [] }
    -- a segment that ends with the cycle, and one that ends after it
    ∷ record {
      table = cluster "B 100 50 2 25" "N 3 20" "P 2 2 2 1 8 600 600 20" "P 4 5 3 1 2 300 300 50";
      prints = "FDS 0001" ∷ "1 1 147 147" ∷ "2 2 147 167" ∷ "3 2 337 337" ∷ "4 5 133 183" ∷ [];
    }
    ∷ record { table = cluster "B 100 51 2 25" "N 3 20" "P 2 2 2 1 8 600 600 20" "P 4 5 3 1 2 300 300 50"; prints = "E 7 2" ∷ [] } ∷ []

-- The rules give just this answer to the table.
abbrev pub Answered : SheetCase → Type 0
Answered c = OnlyAnswer (bytes_of c.table) (bytes_of c.prints)

-- The same of all cases.
abbrev pub AllAnswered : Type 0
AllAnswered = AllByRecursion Answered cases_of_sheets

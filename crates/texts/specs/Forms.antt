-- The forms of texts, by what is printed: a number by its decimal digits, a line by its letter and its numbers.
use Rattle.std.specs.Prelude.{◌≡◌, ℕ, zero, suc, ◌+◌, ◌<◌, ◌≤◌, min, false, ◌⊎◌, List, [], ◌∷◌, ◌++◌, map, length, ◌≢◌}
use Rattle.std.specs.Char.{is_ascii_digit}
use Rattle.std.specs.Int.Digits.{digits_of}

-- The decimal digits of a number, with no leading zero.
unfoldable pub decimal : ℕ → List ℕ
decimal zero = 48 ∷ []
decimal (suc n) = map (λ d. 48 + d) (digits_of 10 (suc n))

-- Past every range: where a value is cut off.
abbrev pub value_cap : ℕ
value_cap = 1000000000000

-- No digit comes first.
abbrev pub Ends : List ℕ → Type 0
Ends [] = Unit {0}
Ends (b ∷ bs) = is_ascii_digit b ≡ false

-- The bytes are the digits of a number, and then the rest. The value is the number, cut off.
pub record Spelled (bytes rest : List ℕ) (value : ℕ) : Type 0 where
  pub number : ℕ
  pub digits : bytes ≡ decimal number ++ rest
  pub cut : value ≡ min number value_cap

-- The same, and no digit comes after it.
pub record Reads (bytes rest : List ℕ) (value : ℕ) : Type 0 where
  pub spelled : Spelled bytes rest value
  pub ends : Ends rest
  pub shorter : length rest < length bytes

-- No number begins here.
abbrev pub NoNumber : List ℕ → Type 0
NoNumber bs = (n : ℕ) (rest : List ℕ) → Ends rest → bs ≢ decimal n ++ rest

-- Numbers, each after one blank, and then the rest.
abbrev pub fields : List ℕ → List ℕ → List ℕ
fields [] rest = rest
fields (n ∷ ns) rest = 32 ∷ (decimal n ++ fields ns rest)

-- A line, without its line feed: a letter and its numbers.
abbrev pub printed : ℕ → List ℕ → List ℕ
printed letter ns = letter ∷ fields ns []

-- A value as it is kept: cut off past every range.
abbrev pub cut : ℕ → ℕ
cut n = min n value_cap

-- The line is printed from this letter and numbers that come to these values.
pub record FormOf (line : List ℕ) (letter : ℕ) (values : List ℕ) : Type 0 where
  pub numbers : List ℕ
  pub form : line ≡ printed letter numbers
  pub kept : map cut numbers ≡ values

-- The line is printed from no letter with up to eight numbers.
abbrev pub NoForm : List ℕ → Type 0
NoForm line = (letter : ℕ) (ns : List ℕ) → length ns ≤ 8 → line ≢ printed letter ns

-- The same of a line that is read up to the rest.
pub record FormSoFar (line : List ℕ) (letter : ℕ) (values rest : List ℕ) : Type 0 where
  pub numbers : List ℕ
  pub form : line ≡ letter ∷ fields numbers rest
  pub kept : map cut numbers ≡ values
  pub ends : Ends rest ⊎ (numbers ≡ [])

-- Steps of the argument that are about plain numbers: clocks, cycles and stretches of time.
use Rattle.std.proofs.Common.{◌≡◌, ℕ, zero, suc, ◌+◌, ◌-◌, ◌*◌, ◌/◌, ◌<◌, ◌≤◌, ap, ⊎_elim, mul-le-mul_right, arith}
use Rattle.std.proofs.lemmas.Bool.{cases_lt}

-- the first cycle in which an offset lies at a time or later
pub first_cycle : (g o r : ℕ) → o < g → (k : ℕ) × (r ≤ k * g + o) × (k * g + o < r + g)
first_cycle g o zero l = (0, omega arith, omega arith)
first_cycle g o (suc r) l =
    let h = first_cycle g o r l in
    ⊎_elim
    (λ (later : r < h.0 * g + o). (h.0, omega (arith, h.1, h.2), omega (arith, h.1, h.2)))
    (λ (now : h.0 * g + o ≤ r). (h.0 + 1, omega (arith, h.1, h.2), omega (arith, h.1, h.2)))
    (cases_lt r (h.0 * g + o))

-- more blocked cycles than the loads allow
pub too_many : (u k h o : ℕ) → 0 < k → (u / k + h + o + 1) * k ≤ u + k * h + k * o → ⊥
too_many u k h o p l = omega arith

-- a time lies in the stretch of a length that ends before another time
pub stretch_from : (e len t : ℕ) → t < e → e ≤ t + len → e - len ≤ t
stretch_from e len t a b = omega arith

pub stretch_to : (e len t : ℕ) → t < e → e ≤ t + len → t < e - len + len
stretch_to e len t a b = omega arith

-- a product with a figure that does not fall
pub times : (a b k : ℕ) → a ≤ b → a * k ≤ b * k
times a b k h = mul-le-mul_right {m = a} {n = b} k h

-- A clock c·g + o + (m − 1)·l at minislot m of cycle c, where the segment of q minislots ends within the cycle, against
-- the end of a transmission of n minislots that starts in the last minislot a, from slot f on, in cycle k.
pub before_cycle : (c k g o l q f a n m : ℕ) → c < k → m ≤ q → o + q * l ≤ g
    → c * g + o + (m - 1) * l + n * l ≤ k * g + o + (f - 1) * l + (a - f + 1 - 1 + n) * l
before_cycle c k g o l q f a n m before in-segment ends =
    omega (arith, times (c + 1) k g (omega arith), times (m - 1) q l (omega arith), times n (a - f + 1 - 1 + n) l (omega arith))

pub in_cycle : (c k g o l f a n m : ℕ) → c ≡ k → 1 ≤ f → f ≤ a → m ≤ a
    → c * g + o + (m - 1) * l + n * l ≤ k * g + o + (f - 1) * l + (a - f + 1 - 1 + n) * l
in_cycle c k g o l f a n m same first starts early =
    omega (arith, ap (λ y. y * g) same, times (m - 1 + n) (f - 1 + (a - f + 1 - 1 + n)) l (omega arith))

-- The delay covers the cycles up to the one in which nothing blocks, and the transmission in it.
pub covers : (b g o k r d tail : ℕ) → (b + 1) * g + tail ≤ d + 1 → k * g + o < r + g → (k + b) * g + o + tail ≤ r + d
covers b g o k r d tail meets near = omega arith

-- A segment's offset of a slot lies within the cycle.
pub offset_within : (g s l q f : ℕ) → s + q * l ≤ g → 1 ≤ l → 1 ≤ f → f ≤ q → s + (f - 1) * l < g
offset_within g s l q f ends some first last = omega (arith, times (f - 1 + 1) q l (omega arith))

-- A transmission takes time.
pub some_time : (n l : ℕ) → 1 ≤ n → 1 ≤ l → 1 ≤ n * l
some_time n l a c = omega (arith, times 1 n l a)

-- The clock stays in the range of release times.
pub clock_bound : (c g o l q m : ℕ) → c ≤ 1000000 → g ≤ 16000 → m ≤ q → o + q * l ≤ g → c * g + o + (m - 1) * l ≤ 99999999999
clock_bound c g o l q m few short in-segment ends = omega (arith, times c 1000000 g few, times (m - 1) q l (omega arith))

-- The clock moves on with a slot, within the cycle and to the next one.
pub clock_slot : (c g o l m n : ℕ) → 1 ≤ m → 1 ≤ n → 1 ≤ l → c * g + o + (m - 1) * l < c * g + o + (m + n - 1) * l
clock_slot c g o l m n some more long = omega (arith, times (m - 1 + 1) (m + n - 1) l (omega arith))

pub clock_turn : (c g o l q m : ℕ) → 1 ≤ m → m ≤ q → 1 ≤ l → o + q * l ≤ g → c * g + o + (m - 1) * l < (c + 1) * g + o + (1 - 1) * l
clock_turn c g o l q m some in-segment long ends = omega (arith, times (m - 1 + 1) q l (omega arith))

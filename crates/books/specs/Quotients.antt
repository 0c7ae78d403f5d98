-- A quotient rounded up is the least number of parts that cover the whole.
use Rattle.std.specs.Prelude.{◌≡◌, ℕ, ◌+◌, ◌*◌, ◌/◌, ◌%◌, ◌<◌, ◌≤◌}
use Rattle.std.proofs.Common.{⊎_elim, add-mul, suc-mul, one-mul, zero-mul, mod-lt, div-add-mod', mul-le-mul_left, mul-le-mul_right, mul-one, arith}
use Rattle.std.proofs.lemmas.Bool.{cases_lt}
use Rattle.books.specs.Rows.{rounded_up}

-- so many parts cover it
pub up_covers : (n by : ℕ) → 0 < by → n ≤ rounded_up n by * by
up_covers n by pos =
    let whole = div-add-mod' n by in
    let rem = mod-lt n pos in
    ⊎_elim
    (λ (l : 0 < n % by).
    let one_more : rounded_up n by ≡ n / by + 1 = omega arith in
    rw one_more (let e = add-mul (n / by) 1 by in let o = one-mul by in omega arith))
    (λ (z : n % by ≤ 0).
    let exact : rounded_up n by ≡ n / by = omega arith in
    rw exact (omega arith))
    (cases_lt 0 (n % by))

-- and no fewer
pub up_least : (n by k : ℕ) → 0 < by → n ≤ k * by → rounded_up n by ≤ k
up_least n by k pos covers =
    let whole = div-add-mod' n by in
    ⊎_elim
    (λ (l : k < n / by). let more = mul-le-mul_right by l in let e = suc-mul k by in absurd (omega arith))
    (λ (h : n / by ≤ k). ⊎_elim
    (λ (l : n / by < k). omega arith)
    (λ (g : k ≤ n / by). let more = mul-le-mul_right by g in omega arith)
    (cases_lt (n / by) k))
    (cases_lt k (n / by))

pub up_more : (n by k : ℕ) → 0 < by → k * by < n → k + 1 ≤ rounded_up n by
up_more n by k pos below = ⊎_elim
    (λ (l : k < rounded_up n by). omega arith)
    (λ (h : rounded_up n by ≤ k). let c = up_covers n by pos in let m = mul-le-mul_right by h in absurd (omega arith))
    (cases_lt k (rounded_up n by))

pub up_some : (n by : ℕ) → 0 < by → 0 < n → 1 ≤ rounded_up n by
up_some n by pos some = up_more n by 0 pos (rw zero-mul some)

pub up_grows : (n m by : ℕ) → 0 < by → n ≤ m → rounded_up n by ≤ rounded_up m by
up_grows n m by pos l = let c = up_covers m by pos in up_least n by (rounded_up m by) pos (omega arith)

pub up_bound : (n by : ℕ) → 0 < by → rounded_up n by ≤ n
up_bound n by pos = let e = mul-le-mul_left n pos in up_least n by n pos (rw mul-one at e)

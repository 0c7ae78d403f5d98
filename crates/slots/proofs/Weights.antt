-- What a sending takes from a message that waits, and how much sendings can take together.
use Rattle.std.proofs.Common.{◌≡◌, ℕ, zero, suc, ◌+◌, ◌-◌, ◌*◌, ◌<◌, ◌≤◌, Bool, true, false, cond, eqb, leb, List, [], ◌∷◌, refl, mul-add, arith}
use Rattle.std.specs.List.{AllByRecursion}
use Rattle.std.proofs.lemmas.Bool.{cond_both, le-leb, lt-ltb, eq-eqb, and_from, eqb-true, leb-true}
use Rattle.std.proofs.lemmas.Bool.Decides.{nat_tests}
use Rattle.books.specs.Book.{Release, tally, within}
use Rattle.delay.specs.Delay.{total, room, lower, more_urgent}
use Rattle.delay.specs.declared.bus.Bus.{Bus}
use Rattle.delay.specs.declared.entry.Row.{Row}
use Rattle.slots.specs.Rows.{In}
use Rattle.slots.proofs.Sums.{total_in, total_mono, total_add}
use Rattle.slots.proofs.Clocks.{stretch_from, stretch_to}

-- A release that was sent, with the row of its message.
pub record Sending : Type 0 where
  pub row : Row
  pub release : ℕ
  pub cycle : ℕ
  pub start : ℕ

abbrev pub of_sending : Sending → Release
of_sending x = record { message = x.row.entry.number; time = x.release }

-- What one sending of the row j takes from the row i: minislots beyond those of an empty slot where its frame is
-- lower, and all the room of a cycle where it is sent in i's own slot and not less urgent.
abbrev pub weight : Row → Row → ℕ
weight i j =
    cond (lower i.entry j) (j.entry.size - 1)
    (cond (more_urgent i.entry j) (room i.entry) (cond (eqb j.entry.number i.entry.number) (room i.entry) 0))

-- What the sendings of a cycle take from i, and those of a cycle and all later ones; how far they shift the slots.
abbrev pub load : Row → ℕ → List Sending → ℕ
load i k xs = total (λ x. cond (eqb x.cycle k) (weight i x.row) 0) xs

abbrev pub since : Row → ℕ → List Sending → ℕ
since i k xs = total (λ x. cond (leb k x.cycle) (weight i x.row) 0) xs

abbrev pub filled : ℕ → List Sending → ℕ
filled k xs = total (λ x. cond (eqb x.cycle k) (x.row.entry.size - 1) 0) xs

one_cycle : (y k w : ℕ) → cond (eqb y k) w 0 + cond (leb (k + 1) y) w 0 ≤ cond (leb k y) w 0
one_cycle y k w = grind (arith, nat_tests)

load_since : (i : Row) (k : ℕ) (xs : List Sending) → load i k xs + since i (k + 1) xs ≤ since i k xs
load_since i k [] = omega arith
load_since i k (x ∷ xs) = omega (arith, one_cycle x.cycle k (weight i x.row), load_since i k xs)

-- Cycles that are each blocked are a load together.
pub over_cycles : (i : Row) (b n k : ℕ) (xs : List Sending) → ((c : ℕ) → k ≤ c → c < k + n → b ≤ load i c xs) → n * b ≤ since i k xs
over_cycles i b zero k xs h = omega arith
over_cycles i b (suc n) k xs h =
    omega (
      arith,
      load_since i k xs,
      h k (omega arith) (omega arith),
      over_cycles i b n (k + 1) xs (λ c from to. h c (omega arith) (omega arith)),
    )

-- Releases of the message in the stretch of a length before a time.
abbrev pub recent : ℕ → ℕ → ℕ → Release → Bool
recent m e len = within m (e - len) len

pub is_recent : (m e len : ℕ) (x : Release) → x.message ≡ m → x.time < e → e ≤ x.time + len → recent m e len x ≡ true
is_recent m e len x same a c =
    and_from _ _ (eq-eqb x.message m same)
    (and_from _ _ (le-leb (e - len) x.time (stretch_from e len x.time a c)) (lt-ltb x.time (e - len + len) (stretch_to e len x.time a c)))

-- The length of the stretch in which releases of j can block i, and what each of them takes.
abbrev pub reach : Bus → Row → Row → ℕ
reach bus i j = cond (lower i.entry j) (i.delay + j.delay + (i.entry.frame - 1) * bus.minislot) (i.delay + j.delay)

abbrev pub share : Row → Row → ℕ
share i j = cond (lower i.entry j) (j.entry.size - 1) (cond (more_urgent i.entry j) (room i.entry) 0)

abbrev pub blocks : Bus → Row → ℕ → Row → Release → Bool
blocks bus i r j = recent j.entry.number (r + i.delay) (reach bus i j)

abbrev pub own : Row → ℕ → Release → Bool
own i r = recent i.entry.number (r + 1) i.delay

-- A sending that may block a release of i at the time r, in time.
pub record Blocks (bus : Bus) (rows : List Row) (i : Row) (r : ℕ) (x : Sending) : Type 0 where
  pub planned : In x.row rows
  pub early : x.release < r + i.delay
  pub by_lower : lower i.entry x.row ≡ true → r ≤ x.release + x.row.delay + (i.entry.frame - 1) * bus.minislot
  pub by_urgent : more_urgent i.entry x.row ≡ true → r ≤ x.release + x.row.delay
  pub by_own : x.row.entry.number ≡ i.entry.number → (x.release ≤ r) × (r + 1 ≤ x.release + i.delay)

abbrev pub portion : Bus → Row → ℕ → Sending → Row → ℕ
portion bus i r x j = share i j * cond (blocks bus i r j (of_sending x)) 1 0

pick : (a c d : Bool) (w k n : ℕ) → (a ≡ true → w ≤ n) → (a ≡ false → c ≡ true → k ≤ n) → (a ≡ false → c ≡ false → d ≡ true → k ≤ n)
    → cond a w (cond c k (cond d k 0)) ≤ n
pick true c d w k n x y z = x refl
pick false true d w k n x y z = y refl refl
pick false false true w k n x y z = z refl refl refl
pick false false false w k n x y z = omega arith

module _ (bus : Bus) (rows : List Row) (i : Row) (r : ℕ) where
  one_weight : (x : Sending) → Blocks bus rows i r x
      → weight i x.row ≤ total (portion bus i r x) rows + room i.entry * cond (own i r (of_sending x)) 1 0
  one_weight x h =
      let most = total_in (portion bus i r x) rows x.row h.planned in
      pick (lower i.entry x.row) (more_urgent i.entry x.row) (eqb x.row.entry.number i.entry.number) _ _ _
      (λ low.
      let far : r + i.delay ≤ x.release + reach bus i x.row = rw low (omega (arith, h.by_lower low)) in
      let here : blocks bus i r x.row (of_sending x) ≡ true = is_recent _ (r + i.delay) (reach bus i x.row) (of_sending x) refl h.early far in
      let part : portion bus i r x x.row ≡ x.row.entry.size - 1 = rw here (rw low (omega arith)) in
      omega arith)
      (λ not urgent.
      let far : r + i.delay ≤ x.release + reach bus i x.row = rw not (omega (arith, h.by_urgent urgent)) in
      let here : blocks bus i r x.row (of_sending x) ≡ true = is_recent _ (r + i.delay) (reach bus i x.row) (of_sending x) refl h.early far in
      let part : portion bus i r x x.row ≡ room i.entry = rw here (rw (not, urgent) (omega arith)) in
      omega arith)
      (λ _ _ same.
      let one = h.by_own (eqb-true _ _ same) in
      let here : own i r (of_sending x) ≡ true = is_recent _ (r + 1) i.delay (of_sending x) (eqb-true _ _ same) (omega (arith, one.0)) one.1 in
      rw here (omega arith))

  -- What sendings from a cycle on take from the release, by the row of each.
  pub all_weights : (k : ℕ) (xs : List Sending) → AllByRecursion (λ x. k ≤ x.cycle → Blocks bus rows i r x) xs
      → since i k xs ≤ total (λ j. share i j * tally (λ x. blocks bus i r j (of_sending x)) xs) rows + room i.entry * tally
      (λ x. own i r (of_sending x)) xs
  all_weights k [] all = omega arith
  all_weights k (x ∷ xs) all =
      let rest = all_weights k xs all.1 in
      let one : cond (leb k x.cycle) (weight i x.row) 0 ≤ total (portion bus i r x) rows + room i.entry * cond (own i r (of_sending x)) 1 0 =
      cond_both (leb k x.cycle) (weight i x.row) 0
      (λ n. n ≤ total (portion bus i r x) rows + room i.entry * cond (own i r (of_sending x)) 1 0)
      (λ late. one_weight x (all.0 (leb-true _ _ late))) (λ _. omega arith) in
      let both = total_add (portion bus i r x) (λ j. share i j * tally (λ y. blocks bus i r j (of_sending y)) xs) rows in
      let apart = total_mono (λ j. portion bus i r x j + share i j * tally (λ y. blocks bus i r j (of_sending y)) xs)
      (λ j. share i j * tally (λ y. blocks bus i r j (of_sending y)) (x ∷ xs)) rows
      (λ j _. omega (arith, mul-add (share i j) (cond (blocks bus i r j (of_sending x)) 1 0) (tally (λ y. blocks bus i r j (of_sending y)) xs))) in
      let mine = mul-add (room i.entry) (cond (own i r (of_sending x)) 1 0) (tally (λ y. own i r (of_sending y)) xs) in
      omega (arith, one, rest, both, apart, mine)

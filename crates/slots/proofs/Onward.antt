-- The position after a slot, and the slots that lie behind it then.
use Rattle.std.proofs.Common.{◌≡◌, ℕ, ◌+◌, ◌<◌, ◌≤◌, ltb, ◌⊎◌, List, [], ◌∷◌, refl, inl, inr, ⊎_elim, arith}
use Rattle.std.specs.List.{AllByRecursion}
use Rattle.std.proofs.ByRecursion.{All-weaker}
use Rattle.std.proofs.lemmas.Bool.{cond_both, ltb-true, ltb-false, cases_lt, ne_eqb}
use Rattle.delay.specs.Delay.{room}
use Rattle.delay.specs.declared.bus.Bus.{Bus}
use Rattle.delay.specs.declared.entry.Row.{Row}
use Rattle.slots.specs.States.{clock}
use Rattle.slots.specs.Steps.{onward, cycles}
use Rattle.slots.specs.declared.position.Position.{Position}
use Rattle.slots.proofs.Clocks.{clock_slot, clock_turn}
use Rattle.slots.proofs.Weights.{Sending, load, filled}
use Rattle.slots.proofs.NoLate.{filled_load}
use Rattle.slots.proofs.Invariant.{Passed}

pub filled_none : (c : ℕ) (xs : List Sending) → AllByRecursion (λ x. x.cycle < c) xs → filled c xs ≡ 0
filled_none c [] all = refl
filled_none c (x ∷ xs) all = let other = ne_eqb x.cycle c (λ e. omega (arith, all.0)) in rw other (omega (arith, filled_none c xs all.1))

module _ (bus : Bus) (p : Position) (n : ℕ) (some : 1 ≤ n) (first_slot : 1 ≤ p.slot) (shifts : p.slot ≤ p.minislot)
    (segment : p.minislot ≤ bus.minislots) where
  -- what holds where the segment is over, and where it is not
  by_end : (P : Position → Type 0) → (bus.minislots < p.minislot + n → P (record { cycle = p.cycle + 1; minislot = 1; slot = 1 }))
      → (p.minislot + n ≤ bus.minislots → P (record { cycle = p.cycle; minislot = p.minislot + n; slot = p.slot + 1 })) → P (onward bus p n)
  by_end P turns stays =
      cond_both (ltb bus.minislots (p.minislot + n)) _ _ P (λ e. turns (ltb-true _ _ e)) (λ e. stays (ltb-false _ _ e))

  pub clock_on : clock bus p < clock bus (onward bus p n)
  clock_on =
      by_end (λ y. clock bus p < clock bus y)
      (λ _. clock_turn p.cycle bus.cycle bus.offset bus.minislot bus.minislots p.minislot (omega arith) segment (omega arith)
      (omega arith))
      (λ _. clock_slot p.cycle bus.cycle bus.offset bus.minislot p.minislot n (omega arith) some (omega arith))

  pub passed_on : (f k : ℕ) → Passed p f k → Passed (onward bus p n) f k
  passed_on f k h =
      by_end (λ y. Passed y f k)
      (λ _. inl (omega (arith, h)))
      (λ _. ⊎_elim (λ (a : k < p.cycle). inl a) (λ (a : (k ≡ p.cycle) × (f < p.slot)). inr (a.0, omega (arith, a.1))) h)

  pub here_passed : Passed (onward bus p n) p.slot p.cycle
  here_passed = by_end (λ y. Passed y p.slot p.cycle) (λ _. inl (omega arith)) (λ _. inr (refl, omega arith))

  -- a slot that lies behind the position now: it did before, it is this one, or the cycle ended before it
  pub newly : (f k : ℕ) → 1 ≤ f → Passed (onward bus p n) f k
      → Passed p f k ⊎ (((f ≡ p.slot) × (k ≡ p.cycle)) ⊎ ((k ≡ p.cycle) × (p.slot < f) × (bus.minislots < p.minislot + n)))
  newly f k some-frame =
      by_end (λ y. Passed y f k → Passed p f k ⊎ (((f ≡ p.slot) × (k ≡ p.cycle)) ⊎ ((k ≡ p.cycle) × (p.slot < f) × (bus.minislots
      < p.minislot + n))))
      (λ over h. let before : k < p.cycle + 1 = omega (arith, h) in ⊎_elim
      (λ (a : k < p.cycle). inl (inl a))
      (λ (a : p.cycle ≤ k). ⊎_elim
      (λ (c : f < p.slot). inl (inr (omega arith, c)))
      (λ (c : p.slot ≤ f). ⊎_elim
      (λ (d : p.slot < f). inr (inr (omega arith, d, over)))
      (λ (d : f ≤ p.slot). inr (inl (omega arith, omega arith)))
      (cases_lt p.slot f))
      (cases_lt f p.slot))
      (cases_lt k p.cycle))
      (λ _ h. ⊎_elim (λ (a : k < p.cycle). inl (inl a))
      (λ (a : (k ≡ p.cycle) × (f < p.slot + 1)). ⊎_elim
      (λ (c : f < p.slot). inl (inr (a.0, c)))
      (λ (c : p.slot ≤ f). inr (inl (omega (arith, a.1), a.0)))
      (cases_lt f p.slot)) h)

  pub first_slot_on : 1 ≤ (onward bus p n).slot
  first_slot_on = by_end (λ y. 1 ≤ y.slot) (λ _. omega arith) (λ _. omega arith)

  pub segment_on : (onward bus p n).minislot ≤ bus.minislots
  segment_on = by_end (λ y. y.minislot ≤ bus.minislots) (λ _. omega arith) (λ h. h)

  pub cycle_on : p.cycle < cycles → (onward bus p n).cycle ≤ cycles
  cycle_on l = by_end (λ y. y.cycle ≤ cycles) (λ _. omega arith) (λ _. omega arith)

  -- what was sent up to the slot, this one with it
  pub record Grown (xs ys : List Sending) : Type 0 where
    pub more : (i : Row) (k : ℕ) → load i k xs ≤ load i k ys
    pub fills : filled p.cycle ys + 1 ≡ filled p.cycle xs + n
    pub known : AllByRecursion (λ x. (x.cycle ≤ p.cycle) × (x.cycle ≡ p.cycle → x.row.entry.frame ≤ p.slot)) ys

  pub shifted_on : (xs ys : List Sending) → Grown xs ys → p.minislot ≡ p.slot + filled p.cycle xs
      → (onward bus p n).minislot ≡ (onward bus p n).slot + filled (onward bus p n).cycle ys
  shifted_on xs ys g shifted =
      by_end (λ y. y.minislot ≡ y.slot + filled y.cycle ys)
      (λ _. omega (arith, filled_none (p.cycle + 1) ys (All-weaker _ _ (λ x h. omega (arith, h.0)) ys g.known)))
      (λ _. omega (arith, g.fills, shifted))

  -- a cycle that ends before the slot of a row is blocked for it
  pub cut_off : (xs ys : List Sending) → Grown xs ys → p.minislot ≡ p.slot + filled p.cycle xs → (i : Row)
      → i.entry.latest + i.entry.size ≤ bus.minislots + 1 → p.slot < i.entry.frame → bus.minislots < p.minislot + n
      → room i.entry ≤ load i p.cycle ys
  cut_off xs ys g shifted i fits before over =
      let lower-ones = All-weaker (λ x. (x.cycle ≤ p.cycle) × (x.cycle ≡ p.cycle → x.row.entry.frame ≤ p.slot))
      (λ x. x.cycle ≡ p.cycle → x.row.entry.frame < i.entry.frame) (λ x h e. omega (arith, h.1 e)) ys g.known in
      omega (arith, filled_load i p.cycle ys lower-ones, g.fills, shifted)

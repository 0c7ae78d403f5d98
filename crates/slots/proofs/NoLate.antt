-- No release that waits is late, whenever it were sent now.
use Rattle.std.proofs.Common.{◌≡◌, ℕ, ◌+◌, ◌-◌, ◌*◌, ◌<◌, ◌≤◌, Bool, true, false, cond, eqb, List, refl, ap, inl, inr, ⊎_elim, mul-le-mul_left, arith}
use Rattle.std.specs.List.{AllByRecursion}
use Rattle.std.proofs.lemmas.Bool.{cases_lt, eqb-true, and_parts, lt-ltb}
use Rattle.books.specs.Book.{Book, Release, Lawful, tally}
use Rattle.buffers.specs.declared.instance.Instance.{Instance}
use Rattle.delay.specs.Delay.{room, lower, more_urgent, share_of_lower, share_of_urgent, lower_load, urgent_load, own_load, blocked_cycles}
use Rattle.delay.specs.declared.bus.Bus.{Bus}
use Rattle.delay.specs.declared.entry.Row.{Row}
use Rattle.slots.specs.Rows.{In}
use Rattle.slots.specs.States.{State, clock_at, clock}
use Rattle.slots.specs.Runs.{last_frame}
use Rattle.slots.specs.Guarantees.{SetUp}
use Rattle.slots.specs.declared.calls.Sent.{Sent}
use Rattle.slots.proofs.Sums.{all_in, all_each, total_mono, total_all, total_add, total_scale, frames_in, tally_in}
use Rattle.slots.proofs.Clocks.{first_cycle, too_many, times, before_cycle, in_cycle, covers, offset_within, some_time}
use Rattle.slots.proofs.Weights.{Sending, of_sending, weight, load, since, filled, over_cycles}
use Rattle.slots.proofs.Weights.{recent, is_recent, reach, share, blocks, own, Blocks, all_weights}
use Rattle.slots.proofs.Invariant.{of_instance, Gone, Waits, Keeps}

-- What the sendings of this cycle shift, they take from every row whose slot is still to come.
one_filled : (i : Row) (c : ℕ) (x : Sending) → (x.cycle ≡ c → x.row.entry.frame < i.entry.frame)
    → cond (eqb x.cycle c) (x.row.entry.size - 1) 0 ≤ cond (eqb x.cycle c) (weight i x.row) 0
one_filled i c x h = step (eqb x.cycle c) refl
  where
    step : (t : Bool) → eqb x.cycle c ≡ t → cond t (x.row.entry.size - 1) 0 ≤ cond t (weight i x.row) 0
    step true e = let low : lower i.entry x.row ≡ true = lt-ltb _ _ (h (eqb-true _ _ e)) in rw low (omega arith)
    step false e = omega arith

pub filled_load : (i : Row) (c : ℕ) (xs : List Sending) → AllByRecursion (λ x. x.cycle ≡ c → x.row.entry.frame < i.entry.frame) xs
    → filled c xs ≤ load i c xs
filled_load i c xs all =
    total_all (λ x. x.cycle ≡ c → x.row.entry.frame < i.entry.frame) _ _ xs all (λ x h. one_filled i c x h)

-- A share of the releases in its reach is one of the two loads.
spread : (a c : Bool) (z k n₁ n₂ : ℕ) (count : ℕ → ℕ)
    → cond a z (cond c k 0) * count (cond a n₁ n₂) ≤ cond a (z * count n₁) 0 + k * cond c (count n₂) 0
spread true c z k n₁ n₂ count = omega arith
spread false true z k n₁ n₂ count = omega arith
spread false false z k n₁ n₂ count = omega arith

module _ (bus : Bus) (rows : List Row) (b : Book) (lawful : Lawful b) (from : State b) (set : SetUp bus rows b from) where
  -- a stretch holds no more releases of a planned message than its count
  pub few : (rs : List Release) (ss : List Sent) (s : State b) → Keeps bus rows b from.book rs ss s → (i : Row) → In i rows → (e len : ℕ)
      → tally (recent i.entry.number e len) rs ≤ b.count from.book i.entry.number len
  few rs ss s k i m e len =
      let listed = set.table.listed i m in
      lawful.counted from.book s.book rs set.sound k.history i.entry.number (e - len) len listed (set.fresh _ listed)

  pub some_delay : (i : Row) → In i rows → 1 ≤ i.delay
  some_delay i m =
      let meets = set.table.covered i m in
      omega (arith, times 1 (blocked_cycles bus (b.count from.book) rows i.entry i.delay + 1) bus.cycle (omega arith))

  -- of them, those that were sent
  pub few_sent : (rs : List Release) (ss : List Sent) (s : State b) (k : Keeps bus rows b from.book rs ss s) → (i : Row) → In i rows → (e len : ℕ)
      → tally (λ x. recent i.entry.number e len (of_sending x)) k.sendings ≤ b.count from.book i.entry.number len
  few_sent rs ss s k i m e len = omega (arith, few rs ss s k i m e len, k.counted (recent i.entry.number e len))

  module _ (rs : List Release) (ss : List Sent) (s : State b) (k : Keeps bus rows b from.book rs ss s)
      (f : ℕ) (w : Instance) (h : Waits bus rows b s k.sendings f w) (m : In w (s.waiting f)) where
    abbrev i : Row
    i = h.row

    abbrev r : ℕ
    r = w.release

    -- every sending since the release's first cycle may have blocked it, within its reach
    may_block : (c : ℕ) → r ≤ clock_at bus c i.entry.frame → (x : Sending) → In x k.sendings → c ≤ x.cycle → Blocks bus rows i r x
    may_block c from-c x n late =
        let g = all_in (Gone bus rows b s) k.sendings x k.gone n in
        let cycles = times c x.cycle bus.cycle late in
        record {
          planned = g.planned;
          early = omega (arith, h.early x n);
          by_lower = λ _. omega arith;
          by_urgent = λ u.
              let same = eqb-true x.row.entry.frame i.entry.frame (and_parts _ _ u).0 in
              omega (arith, ap (λ y. (y - 1) * bus.minislot) same);
          by_own = λ same.
              let is = set.table.one_number x.row i g.planned h.planned same in
              let some = some_time x.row.entry.size bus.minislot (omega arith) (omega arith) in
              (h.after_own x n same, omega (arith, ap (λ y. (y.entry.frame - 1) * bus.minislot) is, ap (λ y. y.delay) is));
        }

    -- what was sent since that cycle takes no more than the loads of the definition
    taken : (c : ℕ) → r ≤ clock_at bus c i.entry.frame
        → since i c k.sendings ≤ lower_load bus (b.count from.book) rows i.entry i.delay
        + room i.entry * urgent_load (b.count from.book) rows i.entry i.delay + room i.entry * own_load (b.count from.book)
        i.entry i.delay
    unfolding lower_load urgent_load
    taken c from-c =
        let count = b.count from.book in
        let all = all_weights bus rows i r c k.sendings
        (all_each (λ x. c ≤ x.cycle → Blocks bus rows i r x) k.sendings (may_block c from-c)) in
        let each = total_mono (λ j. share i j * tally (λ x. blocks bus i r j (of_sending x)) k.sendings)
        (λ j. share_of_lower bus count i.entry i.delay j + room i.entry * share_of_urgent count i.entry i.delay j) rows
        (λ j n.
        let some = few_sent rs ss s k j n (r + i.delay) (reach bus i j) in
        let more = mul-le-mul_left (share i j) some in
        let parts = spread (lower i.entry j) (more_urgent i.entry j) (j.entry.size - 1) (room i.entry)
        (i.delay + j.delay + (i.entry.frame - 1) * bus.minislot) (i.delay + j.delay) (count j.entry.number) in
        omega (arith, more, parts)) in
        let sums = total_add (share_of_lower bus count i.entry i.delay) (λ j. room i.entry * share_of_urgent count i.entry i.delay j) rows in
        let scaled = total_scale (room i.entry) (share_of_urgent count i.entry i.delay) rows in
        let here : own i r (of_instance w) ≡ true = is_recent i.entry.number (r + 1) i.delay (of_instance w) h.number (omega arith)
        (omega (arith, some_delay i h.planned)) in
        let waits = frames_in (λ y. tally (λ v. own i r (of_instance v)) (s.waiting y)) f last_frame (omega arith) (omega arith) in
        let mine = tally_in (λ v. own i r (of_instance v)) (s.waiting f) w m here in
        let ours = k.counted (own i r) in
        let most = few rs ss s k i h.planned (r + 1) i.delay in
        let less : tally (λ x. own i r (of_sending x)) k.sendings ≤ own_load count i.entry i.delay = omega (arith, waits, mine, ours, most) in
        let scaled-own = mul-le-mul_left (room i.entry) less in
        omega (arith, all, each, sums, scaled, scaled-own)

    -- so the cycles that the delay allows for are not all blocked
    not_all_blocked : (c : ℕ) → r ≤ clock_at bus c i.entry.frame
        → ((y : ℕ) → c ≤ y → y < c + (blocked_cycles bus (b.count from.book) rows i.entry i.delay + 1)
        → room i.entry ≤ load i y k.sendings) → ⊥
    not_all_blocked c from-c all =
        let count = b.count from.book in
        let n = blocked_cycles bus count rows i.entry i.delay + 1 in
        let cycles = over_cycles i (room i.entry) n c k.sendings all in
        let loads = taken c from-c in
        too_many (lower_load bus count rows i.entry i.delay) (room i.entry) (urgent_load count rows i.entry i.delay)
        (own_load count i.entry i.delay) (omega arith)
        (omega (arith, cycles, loads))

    pub this_cycle : s.position.slot ≤ i.entry.frame → i.entry.latest < s.position.minislot
        → room i.entry ≤ load i s.position.cycle k.sendings
    this_cycle before late =
        let lower-ones = all_each (λ x. x.cycle ≡ s.position.cycle → x.row.entry.frame < i.entry.frame) k.sendings
        (λ x n same. let g = all_in (Gone bus rows b s) k.sendings x k.gone n in omega (arith, g.passed)) in
        let some = filled_load i s.position.cycle k.sendings lower-ones in
        omega (arith, some, k.shifted)

    pub no_late : clock bus s.position + i.entry.size * bus.minislot ≤ w.release + i.delay
    no_late =
        let g = bus.cycle in
        let p = s.position in
        let o = bus.offset + (i.entry.frame - 1) * bus.minislot in
        let n = blocked_cycles bus (b.count from.book) rows i.entry i.delay in
        let fits = set.table.fits i h.planned in
        let in-cycle-o = offset_within g bus.offset bus.minislot bus.minislots i.entry.frame (omega arith) (omega arith)
        (omega arith) (omega arith) in
        let c = first_cycle g o r in-cycle-o in
        let from-c : r ≤ clock_at bus c.0 i.entry.frame = omega (arith, c.1) in
        let covered = covers n g o c.0 r i.delay ((room i.entry - 1 + i.entry.size) * bus.minislot)
        (set.table.covered i h.planned) c.2 in
        let on : (y : ℕ) → c.0 ≤ y → r ≤ clock_at bus y i.entry.frame = λ y l. omega (arith, times c.0 y g l) in
        ⊎_elim
        (λ (early : p.cycle < c.0 + n).
        omega (
          arith,
          before_cycle p.cycle (c.0 + n) g bus.offset bus.minislot bus.minislots i.entry.frame i.entry.latest
              i.entry.size p.minislot early k.segment (omega arith),
          covered,
        ))
        (λ (there : c.0 + n ≤ p.cycle). ⊎_elim
        (λ (past : (c.0 + n < p.cycle)). absurd (not_all_blocked c.0 from-c (λ y l t. h.blocked y (inl (omega arith)) (on y l))))
        (λ (last : p.cycle ≤ c.0 + n). ⊎_elim
        (λ (slot-past : i.entry.frame < p.slot). absurd (not_all_blocked c.0 from-c (λ y l t. h.blocked y
        (⊎_elim (λ (a : y < p.cycle). inl a) (λ (a : p.cycle ≤ y). inr (omega arith, slot-past)) (cases_lt y p.cycle)) (on y l))))
        (λ (slot_next : p.slot ≤ i.entry.frame). ⊎_elim
        (λ (too-late : i.entry.latest < p.minislot). absurd (not_all_blocked c.0 from-c (λ y l t. ⊎_elim
        (λ (a : y < p.cycle). h.blocked y (inl a) (on y l))
        (λ (a : p.cycle ≤ y). let same : y ≡ p.cycle = omega arith in rw same (this_cycle slot_next too-late)) (cases_lt y p.cycle))))
        (λ (in-time : p.minislot ≤ i.entry.latest).
        omega (
          arith,
          in_cycle p.cycle (c.0 + n) g bus.offset bus.minislot i.entry.frame i.entry.latest i.entry.size
              p.minislot (omega arith) (omega arith) (omega arith) in-time,
          covered,
        ))
        (cases_lt i.entry.latest p.minislot))
        (cases_lt i.entry.frame p.slot))
        (cases_lt (c.0 + n) p.cycle))
        (cases_lt p.cycle (c.0 + n))

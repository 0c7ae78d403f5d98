-- No more wait for a frame than it needs places.
use Rattle.std.proofs.Common.{◌≡◌, ℕ, ◌+◌, ◌≤◌, Bool, true, false, cond, eqb, List, [], ◌∷◌, length, refl, arith}
use Rattle.std.specs.List.{AllByRecursion}
use Rattle.std.proofs.lemmas.Bool.{eqb-true, eq-eqb}
use Rattle.books.specs.Book.{Book, Release, Lawful, tally}
use Rattle.buffers.specs.declared.instance.Instance.{Instance}
use Rattle.delay.specs.Delay.{total}
use Rattle.delay.specs.declared.bus.Bus.{Bus}
use Rattle.delay.specs.declared.entry.Row.{Row}
use Rattle.slots.specs.Rows.{In, needs}
use Rattle.slots.specs.States.{State, clock}
use Rattle.slots.specs.Runs.{last_frame}
use Rattle.slots.specs.Guarantees.{SetUp}
use Rattle.slots.specs.declared.calls.Sent.{Sent}
use Rattle.slots.proofs.Sums.{all_in, all_each, total_in, total_mono, total_add, frames_in}
use Rattle.slots.proofs.Clocks.{some_time}
use Rattle.slots.proofs.Weights.{recent, is_recent}
use Rattle.slots.proofs.Invariant.{of_instance, Waits, Keeps}
use Rattle.slots.proofs.NoLate.{few, no_late}

-- The releases of a row that came in the stretch of its delay before a time, where the row is one of the frame.
abbrev held : ℕ → ℕ → List Instance → Row → ℕ
held f e ws j = cond (eqb j.entry.frame f) (tally (λ w. recent j.entry.number e j.delay (of_instance w)) ws) 0

record Held (rows : List Row) (f e : ℕ) (w : Instance) : Type 0 where
  row : Row
  planned : In row rows
  frame : row.entry.frame ≡ f
  recently : recent row.entry.number e row.delay (of_instance w) ≡ true

one_more_held : (a : Bool) (x y : ℕ) → cond a (x + 0) 0 + cond a y 0 ≤ cond a (x + y) 0
one_more_held true x y = omega arith
one_more_held false x y = omega arith

all_held : (rows : List Row) (f e : ℕ) (ws : List Instance) → AllByRecursion (Held rows f e) ws → length ws ≤ total (held f e ws) rows
all_held rows f e [] all = omega arith
all_held rows f e (w ∷ ws) all =
    let h = all.0 in
    let here = eq-eqb h.row.entry.frame f h.frame in
    let one : held f e (w ∷ []) h.row ≡ 1 = rw (here, h.recently) refl in
    let some = total_in (held f e (w ∷ [])) rows h.row h.planned in
    let rest = all_held rows f e ws all.1 in
    let both = total_add (held f e (w ∷ [])) (held f e ws) rows in
    let apart = total_mono (λ j. held f e (w ∷ []) j + held f e ws j) (held f e (w ∷ ws)) rows
    (λ j _. one_more_held (eqb j.entry.frame f) (cond (recent j.entry.number e j.delay (of_instance w)) 1 0)
    (tally (λ v. recent j.entry.number e j.delay (of_instance v)) ws)) in
    omega (arith, one, some, rest, both, apart)

module _ (bus : Bus) (rows : List Row) (b : Book) (lawful : Lawful b) (from : State b) (set : SetUp bus rows b from)
    (rs : List Release) (ss : List Sent) (s : State b) (k : Keeps bus rows b from.book rs ss s) where
  -- what waits was released within its delay
  is_held : (f : ℕ) (w : Instance) → In w (s.waiting f) → Held rows f (clock bus s.position + 1) w
  is_held f w m =
      let h = all_in (Waits bus rows b s k.sendings f) (s.waiting f) w (k.waits f) m in
      let late = no_late bus rows b lawful from set rs ss s k f w h m in
      let some = some_time h.row.entry.size bus.minislot (omega arith) (omega arith) in
      record {
        row = h.row;
        planned = h.planned;
        frame = h.frame;
        recently = is_recent h.row.entry.number (clock bus s.position + 1) h.row.delay (of_instance w) h.number
            (omega (arith, h.arrived)) (omega (arith, late, some));
      }

  pub enough : (f : ℕ) → length (s.waiting f) ≤ needs (b.count from.book) rows f
  unfolding needs
  enough f =
      let e = clock bus s.position + 1 in
      let all = all_held rows f e (s.waiting f) (all_each (Held rows f e) (s.waiting f) (is_held f)) in
      let each = total_mono (held f e (s.waiting f)) (λ j. cond (eqb j.entry.frame f)
      (b.count from.book j.entry.number j.delay) 0) rows
      (λ j m. one f e j m (eqb j.entry.frame f) refl) in
      omega (arith, all, each)
    where
      one : (f e : ℕ) (j : Row) → In j rows → (t : Bool) → eqb j.entry.frame f ≡ t
          → cond t (tally (λ w. recent j.entry.number e j.delay (of_instance w)) (s.waiting f)) 0 ≤ cond t
          (b.count from.book j.entry.number j.delay) 0
      one f e j m true is =
          let same = eqb-true j.entry.frame f is in
          let here = frames_in (λ y. tally (λ w. recent j.entry.number e j.delay (of_instance w)) (s.waiting y)) f last_frame (omega arith)
          (omega arith) in
          omega (arith, here, k.counted (recent j.entry.number e j.delay), few bus rows b lawful from set rs ss s k j m e j.delay)
      one f e j m false is = omega arith

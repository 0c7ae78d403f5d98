-- A slot run keeps what every run keeps.
use Rattle.std.proofs.Common.{◌≡◌, ℕ, ◌+◌, ◌-◌, ◌*◌, ◌<◌, ◌≤◌, Bool, true, false, cond, eqb, ◌⊎◌, List, [], ◌∷◌, Some, sym, refl, ap, ◌∙◌, subst, inl, inr, ⊎_elim, arith}
use Rattle.std.specs.List.{AllByRecursion}
use Rattle.std.proofs.ByRecursion.{All-weaker}
use Rattle.std.proofs.lemmas.Bool.{ltb-true, lt-ltb, le-ltb, leb-false, cases_eq, cases_lt, eq-eqb, and_from, and_right}
use Rattle.books.specs.Book.{Book, Release, Lawful, tally}
use Rattle.buffers.specs.declared.instance.Instance.{Instance}
use Rattle.delay.specs.Delay.{room, lower, more_urgent}
use Rattle.delay.specs.declared.bus.Bus.{Bus}
use Rattle.delay.specs.declared.entry.Row.{Row}
use Rattle.slots.specs.Rows.{In, size_in, size_of}
use Rattle.slots.specs.States.{State, clock_at, clock, later_than}
use Rattle.slots.specs.Steps.{may_start, cycles}
use Rattle.slots.specs.Runs.{over_frames, last_frame}
use Rattle.slots.specs.Guarantees.{SetUp, InTime}
use Rattle.slots.specs.declared.calls.Sent.{Sent}
use Rattle.slots.proofs.Sums.{all_in, all_each, frames_one}
use Rattle.slots.proofs.Clocks.{times, some_time}
use Rattle.slots.proofs.Weights.{Sending, of_sending, weight, load}
use Rattle.slots.proofs.Lookups.{planned_row_of, planned_last_start}
use Rattle.slots.proofs.Invariant.{of_instance, with_slot, of_sent, Passed, Before, Ordered, Gone, Waits, Keeps}
use Rattle.slots.proofs.NoLate.{no_late, this_cycle}
use Rattle.slots.proofs.Onward.{Grown, clock_on, passed_on, here_passed, newly, first_slot_on, segment_on, cycle_on, shifted_on, cut_off}

-- What a row not less urgent takes from i out of its own slot: all of its room.
whole : (bus : Bus) (b : Book) (i j : Row) → j.entry.frame ≡ i.entry.frame → j.entry.priority ≤ i.entry.priority
    → (j.entry.priority ≡ i.entry.priority → j.entry.number ≡ i.entry.number) → weight i j ≡ room i.entry
whole bus b i j frames urgent same =
    let not_lower : lower i.entry j ≡ false = le-ltb _ _ (omega arith) in
    rw not_lower (⊎_elim
    (λ (less : j.entry.priority < i.entry.priority).
    let above : more_urgent i.entry j ≡ true = and_from _ _ (eq-eqb _ _ frames) (lt-ltb _ _ less) in rw above)
    (λ (level : i.entry.priority ≤ j.entry.priority).
    let not-above : more_urgent i.entry j ≡ false = and_right (eqb j.entry.frame i.entry.frame) _ (le-ltb _ _ level) in
    let number = eq-eqb j.entry.number i.entry.number (same (omega arith)) in rw (not-above, number))
    (cases_lt j.entry.priority i.entry.priority))

module _ (bus : Bus) (rows : List Row) (b : Book) (lawful : Lawful b) (from : State b) (set : SetUp bus rows b from)
    (rs : List Release) (ss : List Sent) (s : State b) (k : Keeps bus rows b from.book rs ss s) (goes : s.position.cycle < cycles) where
  -- the state after a slot that took n minislots
  abbrev next : ℕ → (ℕ → List Instance) → State b
  next = with_slot bus b s

  shifts : s.position.slot ≤ s.position.minislot
  shifts = omega (arith, k.shifted)

  module _ (n : ℕ) (some : 1 ≤ n) (waiting : ℕ → List Instance) where
    clock_moves : clock bus s.position < clock bus (next n waiting).position
    clock_moves = clock_on bus s.position n some k.first_slot shifts k.segment

    still_gone : (x : Sending) → Gone bus rows b s x → Gone bus rows b (next n waiting) x
    still_gone x g = record {
      planned = g.planned;
      starts = g.starts;
      released = g.released;
      finished = g.finished;
      past = omega (arith, g.past, clock_moves);
      passed = passed_on bus s.position n some k.first_slot shifts k.segment x.row.entry.frame x.cycle g.passed;
      ordered = g.ordered;
      later = λ t e. omega (arith, g.past, ltb-true (clock bus s.position) t e);
    }

    module _ (ys : List Sending) (grown : Grown bus s.position n some k.first_slot shifts k.segment k.sendings ys) where
      -- a slot that newly lies behind the position is this one, or was blocked
      blocked_or_here : (i : Row) → In i rows → (c : ℕ) → Passed (next n waiting).position i.entry.frame c
          → (Passed s.position i.entry.frame c → room i.entry ≤ load i c k.sendings)
          → ((i.entry.frame ≡ s.position.slot) → (c ≡ s.position.cycle) → room i.entry ≤ load i c ys) → room i.entry ≤ load i c ys
      blocked_or_here i m c p before here =
          ⊎_elim (λ old. omega (arith, before old, grown.more i c))
          (⊎_elim (λ (h : (i.entry.frame ≡ s.position.slot) × (c ≡ s.position.cycle)). here h.0 h.1)
          (λ (h : (c ≡ s.position.cycle) × (s.position.slot < i.entry.frame) × (bus.minislots < s.position.minislot + n)).
          rw h.0 (cut_off bus s.position n some k.first_slot shifts k.segment k.sendings ys grown k.shifted i
          (set.table.fits i m) h.1 h.2)))
          (newly bus s.position n some k.first_slot shifts k.segment i.entry.frame c (omega arith) p)

      passed : (i : Row) → In i rows → (c : ℕ) → Passed (next n waiting).position i.entry.frame c → (t : ℕ)
          → later_than (Some (clock bus s.position)) t ≡ true
          → t ≤ clock_at bus c i.entry.frame → room i.entry ≤ load i c ys
      passed i m c p t e l =
          let after = ltb-true (clock bus s.position) t e in
          blocked_or_here i m c p (λ old. k.passed i m c old t (k.started t (omega arith)) l)
          (λ frame cycle.
          let now = times (i.entry.frame - 1) (s.position.minislot - 1) bus.minislot (omega (arith, shifts)) in
          absurd (omega (arith, ap (λ y. y * bus.cycle) cycle, now)))

      -- one that goes on waiting
      still_waits : (f : ℕ) (w : Instance) → In w (s.waiting f) → (h : Waits bus rows b s k.sendings f w)
          → ((x : Sending) → In x ys → In x k.sendings
          ⊎ ((x.start ≡ clock bus s.position) × (x.row.entry.number ≡ h.row.entry.number → x.release ≤ w.release)))
          → (h.row.entry.frame ≡ s.position.slot → (c : ℕ) → c ≡ s.position.cycle → room h.row.entry ≤ load h.row c ys)
          → Waits bus rows b (next n waiting) ys f w
      still_waits f w m h either here = record {
        row = h.row;
        planned = h.planned;
        number = h.number;
        priority = h.priority;
        frame = h.frame;
        arrived = omega (arith, h.arrived, clock_moves);
        ordered = h.ordered;
        after_own = λ x n e. ⊎_elim (λ old. h.after_own x old e)
            (λ (new : (x.start ≡ clock bus s.position) × (x.row.entry.number ≡ h.row.entry.number → x.release ≤ w.release)).
            new.1 e) (either x n);
        early = λ x n. ⊎_elim (λ old. h.early x old)
            (λ (new : (x.start ≡ clock bus s.position) × (x.row.entry.number ≡ h.row.entry.number → x.release ≤ w.release)).
            let late = no_late bus rows b lawful from set rs ss s k f w h m in
            let time = some_time h.row.entry.size bus.minislot (omega arith) (omega arith) in
            omega (arith, late, time, new.0)) (either x n);
        blocked = λ c p l. blocked_or_here h.row h.planned c p (λ old. h.blocked c old l) (λ frame cycle. here frame c cycle);
      }

      keeps : AllByRecursion (Gone bus rows b (next n waiting)) ys → ((f : ℕ) → AllByRecursion (Waits bus rows b (next n waiting) ys f) (waiting f))
          → ((f : ℕ) → Ordered (waiting f))
          → (sent : List Sent)
          → ((p : Release → Bool) → tally p rs ≡ tally (λ x. p (of_sending x)) ys
          + over_frames (λ f. tally (λ w. p (of_instance w)) (waiting f)) last_frame)
          → ((p : Release → Bool) → tally (λ x. p (of_sent x)) sent ≡ tally (λ x. p (of_sending x)) ys)
          → AllByRecursion (λ x. InTime rows x.message x.release x.finish) sent → Keeps bus rows b from.book rs sent (next n waiting)
      keeps gone waits ordered sent counted reports timely = record {
        sendings = ys;
        gone = gone;
        waits = waits;
        ordered = ordered;
        first_slot = first_slot_on bus s.position n some k.first_slot shifts k.segment;
        segment = segment_on bus s.position n some k.first_slot shifts k.segment;
        cycle = cycle_on bus s.position n some k.first_slot shifts k.segment goes;
        shifted = shifted_on bus s.position n some k.first_slot shifts k.segment k.sendings ys grown k.shifted;
        passed = passed;
        started = λ t l. lt-ltb (clock bus s.position) t (omega (arith, clock_moves));
        history = k.history;
        sound = k.sound;
        lists = k.lists;
        rests = k.rests;
        due = k.due;
        counted = counted;
        reports = reports;
        timely = timely;
      }

  known : AllByRecursion (λ x. (x.cycle ≤ s.position.cycle) × (x.cycle ≡ s.position.cycle → x.row.entry.frame ≤ s.position.slot)) k.sendings
  known =
      All-weaker (Gone bus rows b s) (λ x. (x.cycle ≤ s.position.cycle)
      × (x.cycle ≡ s.position.cycle → x.row.entry.frame ≤ s.position.slot))
      (λ x g. (omega (arith, g.passed), λ e. omega (arith, g.passed))) k.sendings k.gone

  -- An empty slot: nothing waits for it, or it is too late to start.
  same_sendings : Grown bus s.position 1 (omega arith) k.first_slot shifts k.segment k.sendings k.sendings
  same_sendings = record { more = λ i c. omega arith; fills = refl; known = known }

  pub after_empty : (s.waiting s.position.slot ≡ []) ⊎ (may_start rows s.position ≡ false)
      → Keeps bus rows b from.book rs ss (next 1 s.waiting)
  after_empty why =
      keeps 1 (omega arith) s.waiting k.sendings same_sendings
      (All-weaker (Gone bus rows b s) (Gone bus rows b (next 1 s.waiting)) (still_gone 1 (omega arith) s.waiting) k.sendings k.gone)
      (λ f. all_each (Waits bus rows b (next 1 s.waiting) k.sendings f) (s.waiting f) (λ w m.
      let h = all_in (Waits bus rows b s k.sendings f) (s.waiting f) w (k.waits f) m in
      still_waits 1 (omega arith) s.waiting k.sendings same_sendings f w m h (λ x n. inl n)
      (λ frame c cycle. rw cycle (blocks f w m h frame why))))
      k.ordered ss k.counted k.reports k.timely
    where
      blocks : (f : ℕ) (w : Instance) → In w (s.waiting f) → (h : Waits bus rows b s k.sendings f w) → h.row.entry.frame ≡ s.position.slot
          → (s.waiting s.position.slot ≡ []) ⊎ (may_start rows s.position ≡ false)
          → room h.row.entry ≤ load h.row s.position.cycle k.sendings
      blocks f w m h frame (inl none) =
          let same : f ≡ s.position.slot = sym h.frame ∙ frame in
          let here : In w (s.waiting s.position.slot) = subst (λ y. In w (s.waiting y)) same m in
          absurd (subst (λ ws. In w ws) none here)
      blocks f w m h frame (inr late) =
          let last = planned_last_start bus b from.book rows set.table h.row h.planned s.position.slot frame in
          this_cycle bus rows b lawful from set rs ss s k f w h m (omega arith) (omega (arith, leb-false _ _ late, last))

  -- A slot that sends the first that waits for its frame.
  module _ (x : Instance) (rest : List Instance) (first : s.waiting s.position.slot ≡ x ∷ rest) (waiting : ℕ → List Instance)
      (frame : waiting s.position.slot ≡ rest) (others : (f : ℕ) → (f ≡ s.position.slot → ⊥) → waiting f ≡ s.waiting f) where
    in_slot : In x (s.waiting s.position.slot)
    in_slot = subst (λ ws. In x ws) (sym first) (inl refl)

    h : Waits bus rows b s k.sendings s.position.slot x
    h = all_in (Waits bus rows b s k.sendings s.position.slot) (s.waiting s.position.slot) x (k.waits s.position.slot) in_slot

    abbrev size : ℕ
    size = size_of rows x.message

    size_is : size ≡ h.row.entry.size
    size_is = ap size_in (planned_row_of bus b from.book rows set.table h.row h.planned x.message (sym h.number))

    some : 1 ≤ size
    some = let i = h.row in omega (arith, size_is)

    abbrev y : Sending
    y = record { row = h.row; release = x.release; cycle = s.position.cycle; start = clock bus s.position }

    grown : Grown bus s.position size some k.first_slot shifts k.segment k.sendings (y ∷ k.sendings)
    grown = record {
      more = λ i c. omega arith;
      fills = let here = eq-eqb s.position.cycle s.position.cycle refl in let i = h.row in rw here (omega (arith, size_is));
      known = ((omega arith, λ _. omega (arith, h.frame)), known);
    }

    gone : Gone bus rows b (next size waiting) y
    gone = record {
      planned = h.planned;
      starts =
          let early = times (h.row.entry.frame - 1) (s.position.minislot - 1) bus.minislot (omega (arith, h.frame, shifts)) in
          omega (arith, early);
      released = h.arrived;
      finished = no_late bus rows b lawful from set rs ss s k s.position.slot x h in_slot;
      past = clock_moves size some waiting;
      passed = subst (λ f. Passed (next size waiting).position f s.position.cycle) (sym h.frame)
          (here_passed bus s.position size some k.first_slot shifts k.segment);
      ordered = h.ordered;
      later = λ t e. ltb-true (clock bus s.position) t e;
    }

    -- another instance that goes on waiting, behind the first in the same frame
    goes_on : (f : ℕ) (w : Instance) → In w (s.waiting f) → (f ≡ s.position.slot → Before x w)
        → Waits bus rows b (next size waiting) (y ∷ k.sendings) f w
    goes_on f w m after =
        let v = all_in (Waits bus rows b s k.sendings f) (s.waiting f) w (k.waits f) m in
        let number_same : h.row.entry.number ≡ v.row.entry.number → x.release ≤ w.release = λ e.
        let same = set.table.one_number h.row v.row h.planned v.planned e in
        let frames : f ≡ s.position.slot = sym v.frame ∙ sym (ap (λ q. q.entry.frame) same) ∙ h.frame in
        (after frames).1 (h.priority ∙ ap (λ q. q.entry.priority) same ∙ sym v.priority) in
        still_waits size some waiting (y ∷ k.sendings) grown f w m v
        (λ z n. ⊎_elim (λ (e : z ≡ y). inr (
          ap (λ q. q.start) e,
          λ q. number_released z e
              (number_same (ap (λ a. a.row.entry.number) (sym e) ∙ q)),
        )) (λ old. inl old) n)
        (λ frames c cycle.
        let level : f ≡ s.position.slot = sym v.frame ∙ frames in
        let urgent = (after level).0 in
        let all = whole bus b v.row h.row (h.frame ∙ sym frames) (omega (arith, urgent, h.priority, v.priority))
        (λ e. ap (λ q. q.entry.number) (set.table.one_priority h.row v.row h.planned v.planned (h.frame ∙ sym frames) e)) in
        let here = eq-eqb s.position.cycle c (sym cycle) in
        rw here (omega (arith, all)))
      where
        number_released : (z : Sending) → z ≡ y → x.release ≤ w.release → z.release ≤ w.release
        number_released z e l = omega (arith, ap (λ q. q.release) e)

    ordered_list : AllByRecursion (Before x) rest × Ordered rest
    ordered_list = let o : Ordered (x ∷ rest) = rw first at (k.ordered s.position.slot) in o

    waits : (f : ℕ) → AllByRecursion (Waits bus rows b (next size waiting) (y ∷ k.sendings) f) (waiting f)
    waits f =
        ⊎_elim
        (λ (e : f ≡ s.position.slot). subst (λ q. AllByRecursion (Waits bus rows b (next size waiting) (y ∷ k.sendings) q) (waiting q)) (sym e)
        (rw frame (all_each (Waits bus rows b (next size waiting) (y ∷ k.sendings) s.position.slot) rest
        (λ w m. goes_on s.position.slot w (subst (λ ws. In w ws) (sym first) (inr m)) (λ _. all_in (Before x) rest w ordered_list.0 m)))))
        (λ (e : f ≡ s.position.slot → ⊥). rw (others f e)
        (all_each (Waits bus rows b (next size waiting) (y ∷ k.sendings) f) (s.waiting f) (λ w m. goes_on f w m (λ same. absurd (e same)))))
        (cases_eq f s.position.slot)

    ordered : (f : ℕ) → Ordered (waiting f)
    ordered f =
        ⊎_elim
        (λ (e : f ≡ s.position.slot). subst (λ q. Ordered (waiting q)) (sym e) (rw frame ordered_list.1))
        (λ (e : f ≡ s.position.slot → ⊥). rw (others f e) (k.ordered f))
        (cases_eq f s.position.slot)

    abbrev report : Sent
    report = record { message = x.message; release = x.release; finish = clock bus s.position + size * bus.minislot }

    same_release : (p : Release → Bool) → ◌≡◌ {A = ℕ} (cond (p (of_instance x)) 1 0) (cond (p (of_sending y)) 1 0)
    same_release p = ap (λ q. cond (p (record { message = q; time = x.release })) 1 0) h.number

    counted : (p : Release → Bool) → tally p rs ≡ tally (λ z. p (of_sending z)) (y ∷ k.sendings)
        + over_frames (λ f. tally (λ w. p (of_instance w)) (waiting f)) last_frame
    counted p =
        let q = λ (w : Instance). p (of_instance w) in
        let one = frames_one (λ f. tally q (waiting f)) (λ f. tally q (s.waiting f)) s.position.slot last_frame k.first_slot
        (let i = h.row in omega (arith, h.frame))
        (λ f e. ap (tally q) (others f e)) in
        omega (arith, one, ap (tally q) first, ap (tally q) frame, same_release p, k.counted p)

    timely : InTime rows report.message report.release report.finish
    timely = record {
      row = h.row;
      planned = planned_row_of bus b from.book rows set.table h.row h.planned x.message (sym h.number);
      timely = omega (arith, no_late bus rows b lawful from set rs ss s k s.position.slot x h in_slot, ap (λ q. q * bus.minislot) size_is);
    }

    pub after_sent : Keeps bus rows b from.book rs (report ∷ ss) (next size waiting)
    after_sent =
        keeps size some waiting (y ∷ k.sendings) grown
        (gone, All-weaker (Gone bus rows b s) (Gone bus rows b (next size waiting)) (still_gone size some waiting) k.sendings k.gone)
        waits ordered (report ∷ ss) counted (λ p. omega (arith, same_release p, k.reports p)) (timely, k.timely)

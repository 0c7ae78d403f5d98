-- Every run keeps the guarantee.
use Rattle.std.proofs.Common.{◌≡◌, ℕ, ◌+◌, ◌<◌, ◌≤◌, Bool, true, false, cond, ◌&&◌, eqb, ◌⊎◌, List, [], ◌∷◌, ◌++◌, length, is_some, Some, None, Ok, Option, sym, refl, ap, ◌∙◌, subst, inl, inr, ⊎_elim, arith}
use Rattle.std.proofs.ByRecursion.{All-weaker}
use Rattle.std.proofs.lemmas.Bool.{cases_eq, eq-eqb, ne_eqb, cond-true, cond-false}
use Rattle.fields.specs.Refusals.{first_reason}
use Rattle.books.specs.Book.{Book, Release, Lawful, Accepted, tally}
use Rattle.buffers.specs.declared.instance.Instance.{Instance}
use Rattle.delay.specs.declared.bus.Bus.{Bus}
use Rattle.delay.specs.declared.entry.Row.{Row}
use Rattle.slots.specs.Rows.{row_of, needs}
use Rattle.slots.specs.States.{State, clock, allowed}
use Rattle.slots.specs.Steps.{Step, Taken, SlotRun, sends, keeps, used, sent_from, may_start, onward, cycles, instance_of, release_checks}
use Rattle.slots.specs.Runs.{Answered, Run, accepted, sent, sent_in, over_frames, last_frame, last_of}
use Rattle.slots.specs.Guarantees.{InTime, Rested, Guarantee, OfFrame, InOrder, SetUp, DelaysHold}
use Rattle.slots.specs.declared.calls.Call.{Call}
use Rattle.slots.specs.declared.calls.Call.TheVariants as call
use Rattle.slots.specs.declared.calls.Sent.{Sent}
use Rattle.slots.specs.declared.calls.SlotReport.{SlotReport}
use Rattle.slots.specs.declared.calls.Answer.{Answer}
use Rattle.slots.specs.declared.calls.Answer.TheVariants.{Released}
use Rattle.slots.proofs.Sums.{all_in, all_each, frames_none}
use Rattle.slots.proofs.Clocks.{clock_bound}
use Rattle.slots.proofs.Lookups.{found_row, planned_row_of, some_value, admits, not_refused, running}
use Rattle.slots.proofs.Invariant.{of_instance, with_release, with_slot, Waits, Due, Keeps}
use Rattle.slots.proofs.NoLate.{no_late}
use Rattle.slots.proofs.Room.{enough}
use Rattle.slots.proofs.AfterRelease.{ascends, after_release}
use Rattle.slots.proofs.AfterRun.{after_empty, after_sent}
use Rattle.slots.proofs.Placing.{place, one_longer}

-- two states with the same parts are one
pub same_state : (b : Book) (s t : State b) → s.position ≡ t.position → s.released ≡ t.released → s.started ≡ t.started → s.book ≡ t.book
    → ((f : ℕ) → s.waiting f ≡ t.waiting f) → s ≡ t
same_state b s t p r a k w = λ i. record { position = p i; released = r i; started = a i; book = k i; waiting = λ f. w f i }

module _ (bus : Bus) (rows : List Row) (b : Book) (lawful : Lawful b) (from : State b) (set : SetUp bus rows b from) where
  -- at the start
  none_counted : (p : Release → Bool) → ◌≡◌ {A = ℕ} 0 (0 + over_frames (λ f. tally (λ w. p (of_instance w)) (from.waiting f)) last_frame)
  none_counted p =
      omega (
        arith,
        frames_none (λ f. tally (λ w. p (of_instance w)) (from.waiting f)) last_frame
            (λ f. ap (tally (λ w. p (of_instance w))) (set.begins.waiting f)),
      )

  start : Keeps bus rows b from.book [] [] from
  start =
      let at = set.begins.position in
      let c : from.position.cycle ≡ 0 = ap (λ p. p.cycle) at in
      let m : from.position.minislot ≡ 1 = ap (λ p. p.minislot) at in
      let f : from.position.slot ≡ 1 = ap (λ p. p.slot) at in
      record {
        sendings = [];
        gone = tt;
        waits = λ g. rw (set.begins.waiting g) tt;
        ordered = λ g. rw (set.begins.waiting g) tt;
        first_slot = omega arith;
        segment = omega arith;
        cycle = omega arith;
        shifted = omega arith;
        passed = λ i n k p t l e. absurd (omega (arith, p));
        started = λ t l. rw set.begins.started refl;
        history = Accepted.none;
        sound = set.sound;
        lists = λ _. refl;
        rests = λ _. refl;
        due = λ n l. set.fresh n l;
        counted = none_counted;
        reports = λ p. refl;
        timely = tt;
      }

  module _ (rs : List Release) (ss : List Sent) (s : State b) (k : Keeps bus rows b from.book rs ss s) where
    -- a release
    released : (m t : ℕ) (s' : State b) (i : Row) → row_of rows m ≡ Some i → first_reason (release_checks bus rows b s m t) ≡ None → Taken b s i t s'
        → Keeps bus rows b from.book (record { message = m; time = t } ∷ rs) ss s'
    released m t s' i is ok taken =
        let row = found_row rows m i is in
        let meets = admits bus rows b s m t ok in
        let kept = after_release bus rows b lawful from set rs ss s k i row.0 t (rw row.1 meets) s'.waiting taken.placed
        taken.others in
        let same = same_state b s' _ taken.position taken.released taken.started taken.book (λ f. refl) in
        rw same (subst (λ n. Keeps bus rows b from.book (record { message = n; time = t } ∷ rs) ss (with_release b s i.entry.number t s'.waiting))
        row.1 kept)

    -- a slot run, whether it sends or not
    ran : (r : SlotReport) (s' : State b) → s.position.cycle < cycles → SlotRun bus rows b s r s'
        → Keeps bus rows b from.book rs (sent_in r.sent ++ ss) s'
    ran r s' goes run = by_case (s.waiting s.position.slot) refl (may_start rows s.position) refl
      where
        empty : sends rows s.position (s.waiting s.position.slot) ≡ None
            → keeps rows s.position (s.waiting s.position.slot) ≡ s.waiting s.position.slot
            → (s.waiting s.position.slot ≡ []) ⊎ (may_start rows s.position ≡ false)
            → Keeps bus rows b from.book rs (sent_in r.sent ++ ss) s'
        empty none left why =
            let unsent : r.sent ≡ None = run.sent ∙ ap (sent_from bus rows (clock bus s.position)) none in
            let at = run.position ∙ ap (λ o. onward bus s.position (used rows o)) none in
            let all : (f : ℕ) → s'.waiting f ≡ s.waiting f = λ f.
            ⊎_elim (λ (e : f ≡ s.position.slot). ap s'.waiting e ∙ run.frame ∙ left ∙ ap s.waiting (sym e)) (λ e. run.others f e)
            (cases_eq f s.position.slot) in
            let same = same_state b s' (with_slot bus b s 1 s.waiting) at run.released run.started run.book all in
            rw (same, unsent) (after_empty bus rows b lawful from set rs ss s k goes why)

        sending : (x : Instance) (rest : List Instance) → s.waiting s.position.slot ≡ x ∷ rest
            → sends rows s.position (s.waiting s.position.slot) ≡ Some x
            → keeps rows s.position (s.waiting s.position.slot) ≡ rest → Keeps bus rows b from.book rs (sent_in r.sent ++ ss) s'
        sending x rest first one left =
            let out = run.sent ∙ ap (sent_from bus rows (clock bus s.position)) one in
            let at = run.position ∙ ap (λ o. onward bus s.position (used rows o)) one in
            let same = same_state b s' (with_slot bus b s (used rows (Some x)) s'.waiting) at run.released run.started run.book (λ f. refl) in
            rw (same, out) (after_sent bus rows b lawful from set rs ss s k goes x rest first s'.waiting (run.frame ∙ left) run.others)

        by_case : (ws : List Instance) → s.waiting s.position.slot ≡ ws → (t : Bool) → may_start rows s.position ≡ t
            → Keeps bus rows b from.book rs (sent_in r.sent ++ ss) s'
        by_case ws is false late = empty (rw late) (rw late) (inr late)
        by_case [] is true early = empty (rw (early, is)) (rw (early, is)) (inl is)
        by_case (x ∷ rest) is true early = sending x rest is (rw (early, is)) (rw (early, is))

  -- every call keeps it
  step : (xs : List Answered) (s : State b) → Keeps bus rows b from.book (accepted xs) (sent xs) s → {c : Call} {a : Answer} {s' : State b}
      → Step bus rows b s c a s'
      → Keeps bus rows b from.book (accepted (record { call = c; answer = a } ∷ xs)) (sent (record { call = c; answer = a } ∷ xs)) s'
  step xs s k (Step.accepted {m = m} {t = t} {s' = s'} i is ok taken) = released (accepted xs) (sent xs) s k m t s' i is ok taken
  step xs s k (Step.refused _ same) = rw same k
  step xs s k (Step.ran {r = r} {s' = s'} ok run) = ran (accepted xs) (sent xs) s k r s' (running s.position k.cycle ok) run
  step xs s k (Step.over _ same) = rw same k
  step xs s k (Step.told same) = rw same k

  every_run : {xs : List Answered} {s : State b} → Run bus rows b from xs s → Keeps bus rows b from.book (accepted xs) (sent xs) s
  every_run Run.none = start
  every_run (Run.one_more {xs = xs} {s = s} before one) = step xs s (every_run before) one

  module _ (xs : List Answered) (s : State b) (k : Keeps bus rows b from.book (accepted xs) (sent xs) s) where
    planned_listed : (m : ℕ) → is_some (row_of rows m) ≡ true → b.lists from.book m ≡ true
    planned_listed m is =
        let i = some_value (row_of rows m) is in
        let row = found_row rows m i.0 i.1 in
        rw row.1 at (set.table.listed i.0 row.0)

    -- a rested release is not too early
    due_by : (o : Option ℕ) (rest e t : ℕ) → Due o rest e → Rested o rest t → e ≤ t
    due_by None rest e t due r = omega arith
    due_by (Some u) rest e t due r = omega arith

    rested : (m t : ℕ) → is_some (row_of rows m) ≡ true → allowed bus s.position s.released s.started t ≡ true
        → Rested (last_of m (accepted xs)) (b.rest from.book m) t → {a : Answer} {s' : State b} → Step bus rows b s (call.Release m t) a s'
        → a ≡ Released (Ok tt)
    rested m t is ok rest (Step.accepted i _ _ _) = refl
    rested m t is ok rest (Step.refused {e = e} why same) =
        let due = due_by (last_of m (accepted xs)) (b.rest from.book m) (b.earliest s.book m) t (k.due m (planned_listed m is)) rest in
        let none = not_refused bus rows b s m t is ok due in
        let both = sym none ∙ why.0 in
        let z : ◌≡◌ {A = ℕ} 0 1 = cc in absurd (omega arith)

    guarantee : Guarantee bus rows b from s xs
    guarantee = record {
      each_once = λ m t. omega (
        arith,
        k.counted (λ x. eqb x.message m && eqb x.time t),
        k.reports (λ x. eqb x.message m && eqb x.time t),
      );
      none_late = k.timely;
      none_overdue = λ f. all_each (λ w. InTime rows w.message w.release (clock bus s.position)) (s.waiting f) (λ w m.
          let h = all_in (Waits bus rows b s k.sendings f) (s.waiting f) w (k.waits f) m in
          record {
            row = h.row;
            planned = planned_row_of bus b from.book rows set.table h.row h.planned w.message (sym h.number);
            timely = omega (arith, no_late bus rows b lawful from set (accepted xs) (sent xs) s k f w h m);
          });
      rested = λ m t is ok rest a s' one. rested m t is ok rest one;
    }

    -- where a release would be accepted, the frame has a place for it
    free : (m t : ℕ) (i : Row) → row_of rows m ≡ Some i → first_reason (release_checks bus rows b s m t) ≡ None
        → length (s.waiting i.entry.frame) < needs (b.count from.book) rows i.entry.frame
    free m t i is ok =
        let row = found_row rows m i is in
        let here = place (instance_of i t) (s.waiting i.entry.frame) in
        let after : ℕ → List Instance = λ f. cond (eqb f i.entry.frame) here.new (s.waiting f) in
        let frame : after i.entry.frame ≡ here.new = cond-true _ _ _ (eq-eqb i.entry.frame i.entry.frame refl) in
        let kept = after_release bus rows b lawful from set (accepted xs) (sent xs) s k i row.0 t (rw row.1 (admits bus rows b s m t ok)) after
        (rw frame here.placed) (λ f e. cond-false _ _ _ (ne_eqb f i.entry.frame e)) in
        let room = enough bus rows b lawful from set _ (sent xs) _ kept i.entry.frame in
        omega (arith, room, ap length frame, one_longer (instance_of i t) (s.waiting i.entry.frame) here.new here.placed)

    in_order : InOrder bus rows b from s
    in_order = record {
      first_slot = k.first_slot;
      slot = omega (arith, k.shifted);
      minislot = k.segment;
      cycle = k.cycle;
      clock_range = (
        omega arith,
        clock_bound s.position.cycle bus.cycle bus.offset bus.minislot bus.minislots
            s.position.minislot k.cycle (omega arith) k.segment (omega arith),
      );
      of_frame = λ f. All-weaker (Waits bus rows b s k.sendings f) (OfFrame rows f) (λ w h. record {
        row = h.row;
        planned = planned_row_of bus b from.book rows set.table h.row h.planned w.message (sym h.number);
        priority = h.priority;
        frame = h.frame;
      }) (s.waiting f) (k.waits f);
      ascending = λ f. ascends (s.waiting f) (k.ordered f);
      sound = k.sound;
      listed = λ m is. k.lists m ∙ planned_listed m is;
      room = enough bus rows b lawful from set (accepted xs) (sent xs) s k;
      free = free;
    }

pub delays_hold : (b : Book) → Lawful b → DelaysHold b
delays_hold b lawful bus rows from set xs s run =
    let k = every_run bus rows b lawful from set run in
    (guarantee bus rows b lawful from set xs s k, in_order bus rows b lawful from set xs s k)

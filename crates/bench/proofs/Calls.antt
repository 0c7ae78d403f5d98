-- What the code of a call has found out, and the step of the rules that it has made then.
use Rattle.std.proofs.Common.{◌≡◌, ℕ, ◌≤◌, true, false, cond, ltb, leb, List, length, get_or, is_some, Some, None, Ok, Err, vec_items, Option, Result, sym, refl, ap, ◌∙◌, subst, arith}
use Rattle.std.specs.Result as results
use Rattle.std.proofs.lemmas.Bool.{le-leb, and_from, ne_eqb}
use Rattle.fields.specs.Limits.{Admitted, admitted, lowest, highest}
use Rattle.fields.specs.Refusals.{first_reason, RefusedFor}
use Rattle.fields.specs.declared.limits.Field.{Field}
use Rattle.fields.specs.declared.limits.Field.TheVariants.{Frame, Message, Priority, Time}
use Rattle.fields.specs.declared.refusal.Place.TheVariants as place
use Rattle.fields.specs.declared.refusal.Reason.{Reason}
use Rattle.fields.specs.declared.refusal.Reason.TheVariants.{NotListed, TimeNotAllowed, TooEarly}
use Rattle.fields.specs.declared.refusal.Refusal.{Refusal}
use Rattle.ranked.specs.Ranks.{Placed}
use Rattle.books.specs.Book.{Lawful, Released}
use Rattle.books.specs.Book as books
use Rattle.buffers.specs.Buffer.{put_checks, Elsewhere, Putting}
use Rattle.buffers.specs.declared.instance.Instance.{Instance}
use Rattle.delay.specs.declared.entry.Row.{Row}
use Rattle.slots.specs.Rows.{row_of}
use Rattle.slots.specs.States.{State, allowed, clock}
use Rattle.slots.specs.Steps.{Step, release_checks, run_checks, by_priority, sends, used, sent_from, onward, head, behind, cycles}
use Rattle.slots.specs.Runs.{Answered}
use Rattle.slots.specs.declared.calls.Call.TheVariants as call
use Rattle.slots.specs.declared.calls.SlotReport.{SlotReport}
use Rattle.slots.specs.declared.calls.Answer.TheVariants as answer
use Rattle.slots.specs.declared.position.Position.{Position}
use Rattle.slots.proofs.Holds.{same_state}
use Rattle.slots.proofs.Lookups.{found_row, allowed_parts}
use Rattle.bench.specs.Benches.{Kinds, rows_in, state_of, Course, Promised, TakenIf}
use Rattle.bench.specs.declared.bench.Bench.{Bench}
use Rattle.bench.proofs.Tables.{start_read}
use Rattle.bench.proofs.Courses.{moved, order, goes_on}

admitted_test : (f : Field) (v : ℕ) → Admitted f v → admitted f v ≡ true
admitted_test f v within_range = and_from _ _ (le-leb (lowest f) v within_range.0) (le-leb v (highest f) within_range.1)

module _ {B S : Type 0} (k : Kinds B S) (lawful : Lawful k.book) (from : State k.book) (past : List Answered) (x : Bench B S)
    (course : Course k from past x) where
  pub slot_ran : (r : SlotReport) (o : Option Instance) (n : ℕ) (buffer : S) (p : Position) (start : ℕ) → first_reason (run_checks x.position) ≡ None
      → TakenIf (leb x.position.minislot (get_or (vec_items x.starts) x.position.slot 0))
      (k.buffer x.buffer) x.position.slot o
      (k.buffer buffer)
      → k.sound buffer → start ≡ clock x.bus x.position → r.cycle ≡ x.position.cycle → r.slot ≡ x.position.slot → r.start ≡ start
      → r.sent ≡ sent_from x.bus (rows_in x) start o → n ≡ used (rows_in x) o
      → (x.position.cycle ≤ cycles → x.position.slot ≤ x.bus.minislots → p ≡ onward x.bus x.position n)
      → Promised k from past x call.SlotRun (answer.Ran (Ok r)) (moved x x.book buffer p x.released (Some start))
  slot_ran r o n buffer p start runs taken sound at cycle slot begins sent size on =
      let at-start = order k lawful from past x course in
      let ws = (k.buffer x.buffer).waiting x.position.slot in
      let last = start_read (rows_in x) (vec_items x.starts) course.starts x.position.slot in
      let took : o ≡ sends (rows_in x) x.position ws = taken.first ∙ ap (λ a. cond (leb x.position.minislot a) (head ws) None) last in
      goes_on k lawful from past x course call.SlotRun (answer.Ran (Ok r)) x.book buffer p x.released (Some start) sound taken.others.places
      (Step.ran runs (record {
        cycle = cycle;
        slot = slot;
        start = begins ∙ at;
        sent = sent ∙ ap (λ s. sent_from x.bus (rows_in x) s o) at ∙ ap (sent_from x.bus (rows_in x) (clock x.bus x.position)) took;
        position = on at-start.cycle (omega (arith, at-start.slot, at-start.minislot))
            ∙ ap (onward x.bus x.position) (size ∙ ap (used (rows_in x)) took);
        released = refl;
        started = ap Some at;
        book = refl;
        frame = taken.frame ∙ ap (λ a. cond (leb x.position.minislot a) (behind ws) ws) last;
        others = taken.others.waiting;
      }))

  pub cycles_over : (e : Refusal) → RefusedFor (run_checks x.position) place.Bench x.position.cycle e
      → Promised k from past x call.SlotRun (answer.Ran (Err e)) x
  cycles_over e why = goes_on k lawful from past x course call.SlotRun (answer.Ran (Err e)) x.book x.buffer x.position
      x.released x.started course.sound (λ f. refl) (Step.over why refl)

  pub told : Promised k from past x call.Position (answer.At (x.position.cycle, x.position.minislot)) x
  told = goes_on k lawful from past x course call.Position _ x.book x.buffer x.position x.released x.started course.sound
      (λ f. refl) (Step.told refl)

  module _ (m t : ℕ) where
    -- where the book lists the message and the values are in range, it goes by E alone
    book_says : k.book.lists (k.meaning x.book) m ≡ true → Admitted Message m → Admitted Time t
        → first_reason (books.release_checks k.book (k.meaning x.book) m t) ≡ cond (ltb t (k.book.earliest (k.meaning x.book) m))
        (Some TooEarly) None
    book_says listed m-in t-in =
        let a = admitted_test Message m m-in in
        let c = admitted_test Time t t-in in
        rw (a, c, listed)

    -- what is known of a message that has a row, at a time that the clock allows
    times : true ≡ allowed x.bus x.position x.released x.started t → Admitted Time t
    times ok =
        let by_clock = (allowed_parts x.bus x.position x.released x.started t (sym ok)).2 in
        (omega arith, omega (arith, by_clock, (order k lawful from past x course).clock_range.1))

    by_book : (i : Row) → row_of (rows_in x) m ≡ Some i → true ≡ allowed x.bus x.position x.released x.started t
        → (o : Option Reason) → first_reason (books.release_checks k.book (k.meaning x.book) m t) ≡ o
        → first_reason (release_checks x.bus (rows_in x) k.book (state_of k x) m t) ≡ o
    by_book i e ok o is =
        let at = order k lawful from past x course in
        let here : is_some (row_of (rows_in x) m) ≡ true = rw e in
        let listed = at.listed m here in
        let m-in = lawful.listed (k.meaning x.book) m at.sound listed in
        let says = book_says listed m-in (times ok) in
        rw (e, sym ok) (sym says ∙ is)

    refused_so : (e : Refusal) → RefusedFor (release_checks x.bus (rows_in x) k.book (state_of k x) m t) place.Bench m e → (book : B)
        → k.meaning book ≡ k.meaning x.book
        → Promised k from past x (call.Release m t) (answer.Released (Err e)) (moved x book x.buffer x.position x.released x.started)
    refused_so e why book same =
        goes_on k lawful from past x course (call.Release m t) (answer.Released (Err e)) book x.buffer x.position x.released
        x.started course.sound (λ f. refl)
        (Step.refused why (same_state k.book _ _ refl refl refl same (λ f. refl)))

    pub unplanned : (e : Refusal) → e ≡ record { reason = NotListed; place = place.Bench; concerns = m } → None ≡ row_of (rows_in x) m
        → Promised k from past x (call.Release m t) (answer.Released (Err e)) x
    unplanned e is none =
        let why : first_reason (release_checks x.bus (rows_in x) k.book (state_of k x) m t) ≡ Some NotListed = rw (sym none) in
        refused_so e (why ∙ ap (λ r. Some r.reason) (sym is), ap (λ r. r.place) is, ap (λ r. r.concerns) is) x.book refl

    pub untimely : (e : Refusal) → e ≡ record { reason = TimeNotAllowed; place = place.Bench; concerns = m } → (i : Row) → Some i ≡ row_of (rows_in x) m
        → false ≡ allowed x.bus x.position x.released x.started t → Promised k from past x (call.Release m t) (answer.Released (Err e)) x
    untimely e is i row late =
        let why : first_reason (release_checks x.bus (rows_in x) k.book (state_of k x) m t) ≡ Some TimeNotAllowed = rw (sym row, sym late) in
        refused_so e (why ∙ ap (λ r. Some r.reason) (sym is), ap (λ r. r.place) is, ap (λ r. r.concerns) is) x.book refl

    too_early : (e : Refusal) (why : Reason) → e ≡ record { reason = why; place = place.Bench; concerns = m } → (i : Row)
        → Some i ≡ row_of (rows_in x) m
        → true ≡ allowed x.bus x.position x.released x.started t → first_reason
        (books.release_checks k.book (k.meaning x.book) m t) ≡ Some why
        → (book : B) → k.meaning book ≡ k.meaning x.book
        → Promised k from past x (call.Release m t) (answer.Released (Err e)) (moved x book x.buffer x.position x.released x.started)
    too_early e why is i row ok says book same =
        refused_so e (
          by_book i (sym row) ok (Some why) says ∙ ap (λ r. Some r.reason) (sym is),
          ap (λ r. r.place) is,
          ap
              (λ r. r.concerns) is,
        ) book same

    -- a release that the book accepts finds a place
    not_full : (i : Row) → Some i ≡ row_of (rows_in x) m → true ≡ allowed x.bus x.position x.released x.started t
        → first_reason (books.release_checks k.book (k.meaning x.book) m t) ≡ None
        → first_reason (put_checks (k.buffer x.buffer) i.entry.frame
        (record { message = m; priority = i.entry.priority; release = t })) ≡ None
    not_full i row ok says =
        let at = order k lawful from past x course in
        let passed = by_book i (sym row) ok None says in
        let free = at.free m t i (sym row) passed in
        let most = course.enough i.entry.frame in
        let number = (found_row (rows_in x) m i (sym row)).1 in
        let here : is_some (row_of (rows_in x) m) ≡ true = rw (sym row) in
        let a = admitted_test Frame i.entry.frame i.entry.frame_in in
        let c = admitted_test Message m (lawful.listed (k.meaning x.book) m at.sound (at.listed m here)) in
        let d = admitted_test Priority i.entry.priority i.entry.priority_in in
        let e = admitted_test Time t (times ok) in
        let f = ne_eqb (length ((k.buffer x.buffer).waiting i.entry.frame)) ((k.buffer x.buffer).places i.entry.frame)
        (λ same. omega (arith, free, most, same)) in
        rw (a, c, d, e, f)

    accepted : (i : Row) → Some i ≡ row_of (rows_in x) m → true ≡ allowed x.bus x.position x.released x.started t
        → first_reason (books.release_checks k.book (k.meaning x.book) m t) ≡ None → (book : B)
        → k.meaning book ≡ k.book.after (k.meaning x.book) m t
        → (buffer : S) → k.sound buffer
        → Placed by_priority (record { message = m; priority = i.entry.priority; release = t }) ((k.buffer x.buffer).waiting i.entry.frame)
        ((k.buffer buffer).waiting i.entry.frame)
        → Elsewhere i.entry.frame (k.buffer x.buffer) (k.buffer buffer)
        → Promised k from past x (call.Release m t) (answer.Released (Ok tt)) (moved x book buffer x.position (Some t) x.started)
    accepted i row ok says book moves buffer sound placed others =
        let number = (found_row (rows_in x) m i (sym row)).1 in
        let passed = by_book i (sym row) ok None says in
        goes_on k lawful from past x course (call.Release m t) (answer.Released (Ok tt)) book buffer x.position (Some t) x.started
        sound others.places
        (Step.accepted i (sym row) passed (record {
          position = refl;
          released = refl;
          started = refl;
          book = moves ∙ ap (λ n. k.book.after (k.meaning x.book) n t) (sym number);
          placed = subst (λ (n : ℕ). Placed by_priority (record { message = n; priority = i.entry.priority; release = t })
              ((k.buffer x.buffer).waiting i.entry.frame)
              ((k.buffer buffer).waiting i.entry.frame)) (sym number) placed;
          others = others.waiting;
        }))

    -- what the buffer answers then
    pub released : (i : Row) → Some i ≡ row_of (rows_in x) m → true ≡ allowed x.bus x.position x.released x.started t
        → first_reason (books.release_checks k.book (k.meaning x.book) m t) ≡ None → (book : B)
        → k.meaning book ≡ k.book.after (k.meaning x.book) m t
        → (buffer : S) → k.sound buffer → (r : Result Unit Refusal)
        → Putting (k.buffer x.buffer) i.entry.frame (record { message = m; priority = i.entry.priority; release = t }) r (k.buffer buffer)
        → Promised k from past x (call.Release m t) (answer.Released r) (moved x book buffer x.position (Some t) x.started)
    released i row ok says book moves buffer sound (Ok u) put = accepted i row ok says book moves buffer sound put.verdict.1 put.others
    released i row ok says book moves buffer sound (Err e) put =
        let free = not_full i row ok says in
        let full = put.verdict.0 in
        let z : ◌≡◌ {A = ℕ} 0 1 = cc in
        absurd (omega arith)

    -- what the book answers where it refuses
    pub refused_by_book : (i : Row) → Some i ≡ row_of (rows_in x) m → true ≡ allowed x.bus x.position x.released x.started t
        → (book : B) (r : Result Unit Refusal) → Released k.book (k.meaning x.book) m t r (k.meaning book) → (e : Refusal)
        → results.MatchResult r (λ _. ⊥) (λ d. e ≡ record { reason = d.reason; place = place.Bench; concerns = m })
        → Promised k from past x (call.Release m t) (answer.Released (Err e)) (moved x book x.buffer x.position x.released x.started)
    refused_by_book i row ok book (Ok u) says e is = absurd is
    refused_by_book i row ok book (Err d) says e is = too_early e d.reason is i row ok says.0.0 book says.1

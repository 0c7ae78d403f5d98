-- An accepted release keeps what every run keeps.
use Rattle.std.proofs.Common.{◌≡◌, ℕ, ◌+◌, ◌≤◌, Bool, true, false, List, [], ◌∷◌, ◌++◌, sym, refl, ap, ◌∙◌, subst, ⊎_elim, arith}
use Rattle.std.specs.List.{AllByRecursion}
use Rattle.std.proofs.ByRecursion.{All-weaker}
use Rattle.std.proofs.lemmas.Bool.{leb-true, leb-false, le-leb, cases_eq, eq-eqb, ne_eqb}
use Rattle.ranked.specs.Ranks.{Placed, Ascending}
use Rattle.books.specs.Book.{Book, Release, Lawful, Accepts, Accepted, tally}
use Rattle.buffers.specs.declared.instance.Instance.{Instance}
use Rattle.delay.specs.declared.bus.Bus.{Bus}
use Rattle.delay.specs.declared.entry.Row.{Row}
use Rattle.slots.specs.Rows.{In}
use Rattle.slots.specs.States.{State}
use Rattle.slots.specs.Steps.{by_priority, instance_of}
use Rattle.slots.specs.Runs.{over_frames, last_frame, last_of}
use Rattle.slots.specs.Guarantees.{SetUp}
use Rattle.slots.specs.declared.calls.Sent.{Sent}
use Rattle.slots.proofs.Sums.{all_in, all_put, all_front, tally_put, frames_one}
use Rattle.slots.proofs.Clocks.{clock_bound}
use Rattle.slots.proofs.Weights.{Sending, of_sending}
use Rattle.slots.proofs.Lookups.{Admits}
use Rattle.slots.proofs.Invariant.{of_instance, with_release, Before, Ordered, Gone, Waits, Due, Keeps}

-- the order of sending, as tests and as facts
pub ascends : (ws : List Instance) → Ordered ws → Ascending by_priority ws
ascends [] o = tt
ascends (w ∷ ws) o =
    (All-weaker (Before w) (λ v. by_priority w v ≡ true) (λ v h. le-leb w.priority v.priority h.0) ws o.0, ascends ws o.1)

put_in_order : (x : Instance) (front back : List Instance) → AllByRecursion (λ y. Before y x) front → AllByRecursion (Before x) back → Ordered (front ++ back)
    → Ordered (front ++ x ∷ back)
put_in_order x [] back a c o = (c, o)
put_in_order x (f ∷ fs) back a c o = (all_put (Before f) x fs back a.0 o.0, put_in_order x fs back a.1 c o.1)

pub placed_in_order : (x : Instance) (old new : List Instance) → Placed by_priority x old new → AllByRecursion (λ y. y.release ≤ x.release) old
    → Ordered old → Ordered new
placed_in_order x old new p before o =
    let parts : Ordered (p.front ++ p.back) = rw p.parts at o in
    let times' : AllByRecursion (λ y. y.release ≤ x.release) (p.front ++ p.back) = rw p.parts at before in
    rw p.put (put_in_order x p.front p.back
    (both p.front p.behind (all_front (λ y. y.release ≤ x.release) p.front p.back times'))
    (All-weaker (λ y. by_priority y x ≡ false) (Before x)
    (λ y f. let less = leb-false y.priority x.priority f in (omega arith, λ same. absurd (omega arith))) p.back (p.before (ascends old o)))
    parts)
  where
    both : (ys : List Instance) → AllByRecursion (λ y. by_priority y x ≡ true) ys → AllByRecursion (λ y. y.release ≤ x.release) ys → AllByRecursion (λ y. Before y x) ys
    both [] a c = tt
    both (y ∷ ys) a c = ((leb-true y.priority x.priority a.0, λ _. c.0), both ys a.1 c.1)

module _ (bus : Bus) (rows : List Row) (b : Book) (lawful : Lawful b) (from : State b) (set : SetUp bus rows b from)
    (rs : List Release) (ss : List Sent) (s : State b) (k : Keeps bus rows b from.book rs ss s)
    (i : Row) (planned : In i rows) (t : ℕ) (ok : Admits bus rows b s i.entry.number t) (waiting : ℕ → List Instance)
    (placed : Placed by_priority (instance_of i t) (s.waiting i.entry.frame) (waiting i.entry.frame))
    (others : (f : ℕ) → (f ≡ i.entry.frame → ⊥) → waiting f ≡ s.waiting f) where
  abbrev n : ℕ
  n = i.entry.number

  abbrev next : State b
  next = with_release b s n t waiting

  gone : (x : Sending) → Gone bus rows b s x → Gone bus rows b next x
  gone x g = record {
    planned = g.planned;
    starts = g.starts;
    released = g.released;
    finished = g.finished;
    past = g.past;
    passed = g.passed;
    ordered = λ u e. omega (arith, g.ordered t ok.in_order, leb-true t u e);
    later = g.later;
  }

  still : (f : ℕ) (w : Instance) → Waits bus rows b s k.sendings f w → Waits bus rows b next k.sendings f w
  still f w h = record {
    row = h.row;
    planned = h.planned;
    number = h.number;
    priority = h.priority;
    frame = h.frame;
    arrived = h.arrived;
    ordered = λ u e. omega (arith, h.ordered t ok.in_order, leb-true t u e);
    after_own = h.after_own;
    early = h.early;
    blocked = h.blocked;
  }

  new : Waits bus rows b next k.sendings i.entry.frame (instance_of i t)
  new = record {
    row = i;
    planned = planned;
    number = refl;
    priority = refl;
    frame = refl;
    arrived = ok.by_clock;
    ordered = λ u e. leb-true t u e;
    after_own = λ x m _. (all_in (Gone bus rows b s) k.sendings x k.gone m).ordered t ok.in_order;
    early = λ x m. omega (arith, (all_in (Gone bus rows b s) k.sendings x k.gone m).later t ok.later);
    blocked = λ c p l. k.passed i planned c p t ok.later l;
  }

  -- what holds of the list of every frame
  each_frame : (P : ℕ → List Instance → Type 0) → ((f : ℕ) → P f (s.waiting f)) → (P i.entry.frame (waiting i.entry.frame)) → (f : ℕ)
      → P f (waiting f)
  each_frame P old here f =
      ⊎_elim (λ (e : f ≡ i.entry.frame). subst (λ y. P y (waiting y)) (sym e) here) (λ (e : f ≡ i.entry.frame → ⊥). rw (others f e) (old f))
      (cases_eq f i.entry.frame)

  old_waits : (f : ℕ) → AllByRecursion (Waits bus rows b next k.sendings f) (s.waiting f)
  old_waits f = All-weaker (Waits bus rows b s k.sendings f) (Waits bus rows b next k.sendings f) (still f) (s.waiting f) (k.waits f)

  waits : (f : ℕ) → AllByRecursion (Waits bus rows b next k.sendings f) (waiting f)
  waits = each_frame (λ f ws. AllByRecursion (Waits bus rows b next k.sendings f) ws) old_waits
      (rw placed.put (all_put (Waits bus rows b next k.sendings i.entry.frame) (instance_of i t) placed.front placed.back new
      (rw placed.parts at (old_waits i.entry.frame))))

  ordered : (f : ℕ) → Ordered (waiting f)
  ordered = each_frame (λ _ ws. Ordered ws) k.ordered
      (placed_in_order (instance_of i t) (s.waiting i.entry.frame) (waiting i.entry.frame) placed
      (All-weaker (Waits bus rows b s k.sendings i.entry.frame) (λ y. y.release ≤ t) (λ y h. h.ordered t ok.in_order)
      (s.waiting i.entry.frame) (k.waits i.entry.frame))
      (k.ordered i.entry.frame))

  accepts : Accepts b s.book n t
  accepts = record {
    listed = k.lists n ∙ set.table.listed i planned;
    in_range = (
      omega arith,
      omega (
        arith,
        ok.by_clock,
        clock_bound s.position.cycle bus.cycle bus.offset bus.minislot
            bus.minislots s.position.minislot k.cycle (omega arith) k.segment (omega arith),
      ),
    );
    due = ok.due;
  }

  due : (m : ℕ) → b.lists from.book m ≡ true → Due (last_of m (record { message = n; time = t } ∷ rs)) (b.rest from.book m)
      (b.earliest (b.after s.book n t) m)
  due m listed =
      ⊎_elim
      (λ (e : n ≡ m).
      let here = eq-eqb n m e in
      rw here (let after = (lawful.next s.book n t k.sound accepts).1 in let rest = k.rests n in
      omega (arith, after, rest, ap (λ y. b.rest from.book y) e, ap (λ y. b.earliest (b.after s.book n t) y) e)))
      (λ (e : n ≡ m → ⊥).
      let here = ne_eqb n m e in
      let same = lawful.others s.book n t m k.sound accepts (λ q. e (sym q)) in
      rw here (rw same (k.due m listed)))
      (cases_eq n m)

  counted : (p : Release → Bool) → tally p (record { message = n; time = t } ∷ rs)
      ≡ tally (λ x. p (of_sending x)) k.sendings + over_frames (λ f. tally (λ w. p (of_instance w)) (waiting f)) last_frame
  counted p =
      let q = λ (w : Instance). p (of_instance w) in
      let one = frames_one (λ f. tally q (waiting f)) (λ f. tally q (s.waiting f)) i.entry.frame last_frame (omega arith) (omega arith)
      (λ f e. ap (tally q) (others f e)) in
      let more = tally_put q (instance_of i t) placed.front placed.back in
      omega (arith, one, more, ap (tally q) placed.put, ap (tally q) placed.parts, k.counted p)

  pub after_release : Keeps bus rows b from.book (record { message = n; time = t } ∷ rs) ss next
  after_release = record {
    sendings = k.sendings;
    gone = All-weaker (Gone bus rows b s) (Gone bus rows b next) gone k.sendings k.gone;
    waits = waits;
    ordered = ordered;
    first_slot = k.first_slot;
    segment = k.segment;
    cycle = k.cycle;
    shifted = k.shifted;
    passed = k.passed;
    started = k.started;
    history = Accepted.one_more k.history accepts;
    sound = lawful.stays_sound s.book n t k.sound accepts;
    lists = λ m. lawful.same_lists s.book n t m k.sound accepts ∙ k.lists m;
    rests = λ m. lawful.same_rest s.book n t m k.sound accepts ∙ k.rests m;
    due = due;
    counted = counted;
    reports = k.reports;
    timely = k.timely;
  }

-- A table has one sheet: each row is determined by those before it.
use Rattle.std.proofs.Common.{◌≡◌, ℕ, ◌+◌, ◌-◌, ◌*◌, ◌/◌, ◌<◌, ◌≤◌, Bool, true, cond, ◌&&◌, eqb, ltb, List, [], ◌∷◌, ◌++◌, map, sym, refl, ap, ◌∙◌, subst, ap₂, append_assoc, arith}
use Rattle.std.specs.List.{AllByRecursion}
use Rattle.std.proofs.lemmas.List.{map_push, append-nil}
use Rattle.std.proofs.ByRecursion.{All-weaker}
use Rattle.books.specs.Book.{Book}
use Rattle.ranked.specs.Ranks.{Ascending}
use Rattle.delay.proofs.Grows.{one_delay}
use Rattle.delay.specs.Order.{by_frame}
use Rattle.delay.specs.Delay.{total, room, share_of_lower, share_of_urgent, lower_load, urgent_load, own_load, needed, Meets, Least}
use Rattle.delay.specs.declared.bus.Bus.{Bus}
use Rattle.delay.specs.declared.entry.Entry.{Entry}
use Rattle.delay.specs.declared.entry.Row.{Row}
use Rattle.plan.specs.Sheets.{RowOf, Sheet, FirstLate, figures_of, OneSheet}
use Rattle.plan.proofs.Sheets.{Uncounted, needed_push, after, itself, from_map}

-- What of a row counts for others.
view : Row → Entry × ℕ
view r = (r.entry, r.delay)

total_same : {X Y : Type 0} (g : Y → ℕ) (h : X → Y) (xs ys : List X) → map h xs ≡ map h ys → total (λ x. g (h x)) xs ≡ total (λ x. g (h x)) ys
total_same g h [] [] e = refl
total_same g h [] (y ∷ ys) e = let z : ◌≡◌ {A = ℕ} 0 1 = cc in absurd (omega arith)
total_same g h (x ∷ xs) [] e = let z : ◌≡◌ {A = ℕ} 0 1 = cc in absurd (omega arith)
total_same g h (x ∷ xs) (y ∷ ys) e =
    let one : h x ≡ h y = cc in
    let rest : map h xs ≡ map h ys = cc in
    omega (arith, ap g one, total_same g h xs ys rest)

same_view : (r q : Row) → r.entry ≡ q.entry → r.delay ≡ q.delay → view r ≡ view q
unfolding view
same_view r q e d = cc

-- The shares of a row, by what of it counts.
lower_share_of : Bus → (ℕ → ℕ → ℕ) → Entry → ℕ → Entry → ℕ → ℕ
lower_share_of bus count i d e delay = cond (ltb e.frame i.frame) ((e.size - 1) * count e.number (d + delay + (i.frame - 1) * bus.minislot)) 0

urgent_share_of : (ℕ → ℕ → ℕ) → Entry → ℕ → Entry → ℕ → ℕ
urgent_share_of count i d e delay = cond (eqb e.frame i.frame && ltb e.priority i.priority) (count e.number (d + delay)) 0

needed_same : (bus : Bus) (count : ℕ → ℕ → ℕ) (xs ys : List Row) (i : Entry) → map view xs ≡ map view ys → (d : ℕ) → needed bus count xs i d ≡ needed bus count ys i d
unfolding lower_load urgent_load view lower_share_of urgent_share_of
needed_same bus count xs ys i e d =
    let low = total_same (λ (p : Entry × ℕ). lower_share_of bus count i d p.0 p.1) view xs ys e in
    let high = total_same (λ (p : Entry × ℕ). urgent_share_of count i d p.0 p.1) view xs ys e in
    ap (λ u. (u / room i + total (share_of_urgent count i d) xs + own_load count i d + 1) * bus.cycle + (room i - 1 + i.size) * bus.minislot) low
    ∙ ap (λ h. (total (share_of_lower bus count i d) ys / room i + h + own_load count i d + 1) * bus.cycle + (room i - 1 + i.size) * bus.minislot) high

needed_front : (bus : Bus) (count : ℕ → ℕ → ℕ) (xs ys : List Row) (i : Entry) → AllByRecursion (Uncounted i) ys → (d : ℕ) → needed bus count (xs ++ ys) i d ≡ needed bus count xs i d
needed_front bus count xs [] i off d = ap (λ l. needed bus count l i d) (append-nil xs)
needed_front bus count xs (y ∷ ys) i off d =
    ap (λ l. needed bus count l i d) (sym (append_assoc xs (y ∷ []) ys))
    ∙ needed_front bus count (xs ++ y ∷ []) ys i off.1 d ∙ needed_push bus count xs y i off.0 d

least_same : (bus : Bus) (count : ℕ → ℕ → ℕ) (xs ys : List Row) (i : Entry) (d : ℕ) → ((e : ℕ) → needed bus count xs i e ≡ needed bus count ys i e)
    → Least bus count xs i d → Least bus count ys i d
least_same bus count xs ys i d same l = record {
  positive = l.positive;
  meets = omega (arith, same d, l.meets);
  least = λ e p m. l.least e p (omega (arith, same e));
}

-- The rows from a message on do not count for it.
none_after : (r : Row) (rs : List Row) → Ascending by_frame (map (λ q. q.entry) (r ∷ rs)) → AllByRecursion (Uncounted r.entry) (r ∷ rs)
none_after r rs asc = (
  after r.entry r (itself r),
  All-weaker (λ q. by_frame r.entry q.entry ≡ true) (Uncounted r.entry) (λ q o. after r.entry q o) rs
      (from_map (λ y. by_frame r.entry y ≡ true) (λ q. q.entry) rs asc.0),
)

only_from : (bus : Bus) (b : Book) (s : b.State) (done done' todo todo' : List Row) → map view done ≡ map view done'
    → map (λ r. r.entry) todo ≡ map (λ r. r.entry) todo' → Ascending by_frame (map (λ r. r.entry) todo) → Ascending by_frame (map (λ r. r.entry) todo')
    → AllByRecursion (RowOf bus b s (done ++ todo)) todo → AllByRecursion (RowOf bus b s (done' ++ todo')) todo' → map figures_of todo ≡ map figures_of todo'
only_from bus b s done done' [] [] v e asc asc' h h' = refl
only_from bus b s done done' [] (r' ∷ rs') v e asc asc' h h' = let z : ◌≡◌ {A = ℕ} 0 1 = cc in absurd (omega arith)
only_from bus b s done done' (r ∷ rs) [] v e asc asc' h h' = let z : ◌≡◌ {A = ℕ} 0 1 = cc in absurd (omega arith)
only_from bus b s done done' (r ∷ rs) (r' ∷ rs') v e asc asc' h h' =
    let count = b.count s in
    let same : r.entry ≡ r'.entry = cc in
    let rest : map (λ q. q.entry) rs ≡ map (λ q. q.entry) rs' = cc in
    let here = least_same bus count (done ++ r ∷ rs) done r.entry r.delay (needed_front bus count done (r ∷ rs) r.entry (none_after r rs asc)) h.0.delay in
    let there = least_same bus count (done' ++ r' ∷ rs') done' r'.entry r'.delay
    (needed_front bus count done' (r' ∷ rs') r'.entry (none_after r' rs' asc')) h'.0.delay in
    let moved = least_same bus count done done' r.entry r.delay (needed_same bus count done done' r.entry v) here in
    let one : r.delay ≡ r'.delay = one_delay bus count done' r'.entry r.delay r'.delay (rw same at moved) there in
    let answer : r.response ≡ r'.response = h.0.response ∙ ap (λ (i : Entry). b.jitter s i.number + r.delay) same ∙ ap (λ d. b.jitter s r'.entry.number + d) one
    ∙ sym h'.0.response in
    let pair : view r ≡ view r' = same_view r r' same one in
    let views : map view (done ++ r ∷ []) ≡ map view (done' ++ r' ∷ []) =
    map_push view done r ∙ ap (λ l. l ++ view r ∷ []) v ∙ ap (λ x. map view done' ++ x ∷ []) pair ∙ sym (map_push view done' r') in
    let later = only_from bus b s (done ++ r ∷ []) (done' ++ r' ∷ []) rs rs' views rest asc.1 asc'.1
    (subst (λ (l : List Row). AllByRecursion (RowOf bus b s l) rs) (sym (append_assoc done (r ∷ []) rs)) h.1)
    (subst (λ (l : List Row). AllByRecursion (RowOf bus b s l) rs') (sym (append_assoc done' (r' ∷ []) rs')) h'.1) in
    cc

-- Two sheets of one table say the same.
pub one_sheet : (bus : Bus) (b : Book) (s : b.State) (entries : List Entry) → Ascending by_frame entries → OneSheet bus b s entries
one_sheet bus b s entries asc rows others x y =
    only_from bus b s [] [] rows others refl (x.messages ∙ sym y.messages) (rw x.messages asc) (rw y.messages asc) x.figures y.figures

-- A sheet cut after some of its messages is the sheet of these.
record Cut (bus : Bus) (b : Book) (s : b.State) (front back : List Entry) (rows : List Row) : Type 0 where
  done : List Row
  todo : List Row
  parts : rows ≡ done ++ todo
  rest : map (λ r. r.entry) todo ≡ back
  sheet : Sheet bus b s front done

record Halves (front back : List Entry) (rows : List Row) : Type 0 where
  done : List Row
  todo : List Row
  parts : rows ≡ done ++ todo
  first : map (λ r. r.entry) done ≡ front
  rest : map (λ r. r.entry) todo ≡ back

halves : (front back : List Entry) (rows : List Row) → map (λ r. r.entry) rows ≡ front ++ back → Halves front back rows
halves [] back rows e = record { done = []; todo = rows; parts = refl; first = refl; rest = e }
halves (f ∷ fs) back [] e = let z : ◌≡◌ {A = ℕ} 0 1 = cc in absurd (omega arith)
halves (f ∷ fs) back (r ∷ rs) e =
    let one : r.entry ≡ f = cc in
    let more : map (λ r. r.entry) rs ≡ fs ++ back = cc in
    let h = halves fs back rs more in
    record { done = r ∷ h.done; todo = h.todo; parts = ap (λ l. r ∷ l) h.parts; first = ap₂ (λ x l. x ∷ l) one h.first; rest = h.rest }

all_both_front : {X : Type 0} (P : X → Type 0) (xs ys : List X) → AllByRecursion P (xs ++ ys) → AllByRecursion P xs × AllByRecursion P ys
all_both_front P [] ys all = (tt, all)
all_both_front P (x ∷ xs) ys all = let r = all_both_front P xs ys all.1 in ((all.0, r.0), r.1)

-- What stands in front of an ascending list ascends, and comes before all of the rest.
ascends_across : {X : Type 0} (upto : X → X → Bool) (xs ys : List X) → Ascending upto (xs ++ ys) → AllByRecursion (λ x. AllByRecursion (λ y. upto x y ≡ true) ys) xs
ascends_across upto [] ys asc = tt
ascends_across upto (x ∷ xs) ys asc = ((all_both_front (λ y. upto x y ≡ true) xs ys asc.0).1, ascends_across upto xs ys asc.1)

ascends_front : {X : Type 0} (upto : X → X → Bool) (xs ys : List X) → Ascending upto (xs ++ ys) → Ascending upto xs
ascends_front upto [] ys asc = tt
ascends_front upto (x ∷ xs) ys asc = ((all_both_front (λ y. upto x y ≡ true) xs ys asc.0).0, ascends_front upto xs ys asc.1)

ascends_back : {X : Type 0} (upto : X → X → Bool) (xs ys : List X) → Ascending upto (xs ++ ys) → Ascending upto ys
ascends_back upto [] ys asc = asc
ascends_back upto (x ∷ xs) ys asc = ascends_back upto xs ys asc.1

all_two : {X : Type 0} (P Q R : X → Type 0) → ((x : X) → P x → Q x → R x) → (xs : List X) → AllByRecursion P xs → AllByRecursion Q xs → AllByRecursion R xs
all_two P Q R f [] p q = tt
all_two P Q R f (x ∷ xs) p q = (f x p.0 q.0, all_two P Q R f xs p.1 q.1)

row_front : (bus : Bus) (b : Book) (s : b.State) (done todo : List Row) (q : Row) → AllByRecursion (Uncounted q.entry) todo → RowOf bus b s (done ++ todo) q → RowOf bus b s done q
row_front bus b s done todo q off h = record {
  delay = least_same bus (b.count s) (done ++ todo) done q.entry q.delay (needed_front bus (b.count s) done todo q.entry off) h.delay;
  response = h.response;
  timely = h.timely;
}

cut : (bus : Bus) (b : Book) (s : b.State) (front back : List Entry) (rows : List Row) → Ascending by_frame (front ++ back) → Sheet bus b s (front ++ back) rows
    → Cut bus b s front back rows
cut bus b s front back rows asc sheet =
    let h = halves front back rows sheet.messages in
    let figures = all_both_front (RowOf bus b s (h.done ++ h.todo)) h.done h.todo (rw h.parts at sheet.figures) in
    let across : AllByRecursion (λ x. AllByRecursion (λ y. by_frame x y ≡ true) (map (λ r. r.entry) h.todo)) (map (λ r. r.entry) h.done) =
    rw (h.first, h.rest) (ascends_across by_frame front back asc) in
    record {
      done = h.done;
      todo = h.todo;
      parts = h.parts;
      rest = h.rest;
      sheet = record {
        messages = h.first;
        figures = all_two (λ q. AllByRecursion (λ y. by_frame q.entry y ≡ true) (map (λ r. r.entry) h.todo)) (RowOf bus b s (h.done ++ h.todo)) (RowOf bus b s h.done)
            (λ q o row. row_front bus b s h.done h.todo q
            (All-weaker (λ r. by_frame q.entry r.entry ≡ true) (Uncounted q.entry) (λ r. after q.entry r) h.todo
            (from_map (λ y. by_frame q.entry y ≡ true) (λ r. r.entry) h.todo o)) row)
            h.done (from_map (λ x. AllByRecursion (λ y. by_frame x y ≡ true) (map (λ r. r.entry) h.todo)) (λ q. q.entry) h.done across) figures.0;
      };
    }

same_views : (xs ys : List Row) → map figures_of xs ≡ map figures_of ys → map view xs ≡ map view ys
same_views [] [] e = refl
same_views [] (y ∷ ys) e = let z : ◌≡◌ {A = ℕ} 0 1 = cc in absurd (omega arith)
same_views (x ∷ xs) [] e = let z : ◌≡◌ {A = ℕ} 0 1 = cc in absurd (omega arith)
same_views (x ∷ xs) (y ∷ ys) e =
    let one : figures_of x ≡ figures_of y = cc in
    let rest : map figures_of xs ≡ map figures_of ys = cc in
    ap₂ (λ v l. v ∷ l) (same_view x y (ap (λ f. f.entry) one) (ap (λ f. f.delay) one)) (same_views xs ys rest)

-- A message that has no delay within its deadline after those before it has no row in any sheet.
never_row : (bus : Bus) (b : Book) (s : b.State) (front : List Entry) (i : Entry) (rows done todo : List Row) (r : Row) → Sheet bus b s front rows
    → Sheet bus b s front done → Ascending by_frame front → Ascending by_frame (map (λ q. q.entry) (r ∷ todo)) → r.entry ≡ i → RowOf bus b s (done ++ r ∷ todo) r
    → ((d : ℕ) → 1 ≤ d → Meets bus (b.count s) rows i d → i.deadline < b.jitter s i.number + d) → ⊥
never_row bus b s front i rows done todo r sheet other asc behind same row late =
    let count = b.count s in
    let here = least_same bus count (done ++ r ∷ todo) done r.entry r.delay (needed_front bus count done (r ∷ todo) r.entry (none_after r todo behind)) row.delay in
    let views = same_views done rows (one_sheet bus b s front asc done rows other sheet) in
    let moved = least_same bus count done rows r.entry r.delay (needed_same bus count done rows r.entry views) here in
    let met = rw same at moved in
    omega (arith, late r.delay met.positive met.meets, rw same at row.response, rw same at row.timely)

pub late_excludes : (bus : Bus) (b : Book) (s : b.State) (front : List Entry) (i : Entry) (back : List Entry) (rows others : List Row) → Sheet bus b s front rows
    → Ascending by_frame (front ++ i ∷ back) → Sheet bus b s (front ++ i ∷ back) others
    → ((d : ℕ) → 1 ≤ d → Meets bus (b.count s) rows i d → i.deadline < b.jitter s i.number + d) → ⊥
late_excludes bus b s front i back rows others sheet asc whole late = go c.todo c.rest (all_both_front (RowOf bus b s (c.done ++ c.todo)) c.done c.todo (rw c.parts at whole.figures)).1
  where
    c : Cut bus b s front (i ∷ back) others
    c = cut bus b s front (i ∷ back) others asc whole

    go : (todo : List Row) → map (λ r. r.entry) todo ≡ i ∷ back → AllByRecursion (RowOf bus b s (c.done ++ todo)) todo → ⊥
    go [] e all = let z : ◌≡◌ {A = ℕ} 0 1 = cc in omega arith
    go (r ∷ rs) e all =
        let one : r.entry ≡ i = cc in
        never_row bus b s front i rows c.done rs r sheet c.sheet (ascends_front by_frame front (i ∷ back) asc) (subst (Ascending by_frame) (sym e) (ascends_back by_frame front (i ∷ back) asc)) one all.0 late

-- Two places in one list: the same, or one before the other.
data Compared {X : Type 0} (xs : List X) (x : X) (xs' : List X) (x' : X) : Type 0 where
  same_place : xs ≡ xs' → x ≡ x' → Compared xs x xs' x'
  earlier : (m : List X) → xs' ≡ xs ++ x ∷ m → Compared xs x xs' x'
  later : (m : List X) → xs ≡ xs' ++ x' ∷ m → Compared xs x xs' x'

compared_more : {X : Type 0} (a a' : X) (xs : List X) (x : X) (xs' : List X) (x' : X) → a ≡ a' → Compared xs x xs' x' → Compared (a ∷ xs) x (a' ∷ xs') x'
compared_more a a' xs x xs' x' e (same_place p q) = same_place (ap₂ (λ h t. h ∷ t) e p) q
compared_more a a' xs x xs' x' e (earlier m p) = earlier m (ap₂ (λ h t. h ∷ t) (sym e) p)
compared_more a a' xs x xs' x' e (later m p) = later m (ap₂ (λ h t. h ∷ t) e p)

compare_places : {X : Type 0} (xs : List X) (x : X) (ys xs' : List X) (x' : X) (ys' : List X) → xs ++ x ∷ ys ≡ xs' ++ x' ∷ ys' → Compared xs x xs' x'
compare_places [] x ys [] x' ys' e = same_place refl (cc)
compare_places [] x ys (a ∷ xs') x' ys' e = let one : x ≡ a = cc in earlier xs' (ap (λ h. h ∷ xs') (sym one))
compare_places (a ∷ xs) x ys [] x' ys' e = let one : a ≡ x' = cc in later xs (ap (λ h. h ∷ xs) one)
compare_places (a ∷ xs) x ys (a' ∷ xs') x' ys' e =
    let one : a ≡ a' = cc in
    let rest : xs ++ x ∷ ys ≡ xs' ++ x' ∷ ys' = cc in
    compared_more a a' xs x xs' x' one (compare_places xs x ys xs' x' ys' rest)

-- A table has one first message without a delay.
pub one_late : (bus : Bus) (b : Book) (s : b.State) (entries : List Entry) (n m : ℕ) → Ascending by_frame entries → FirstLate bus b s entries n → FirstLate bus b s entries m → n ≡ m
one_late bus b s entries n m asc p q =
    elim (compare_places p.front p.entry p.back q.front q.entry q.back (sym p.parts ∙ q.parts)) [
      | same_place e f ↦ p.concerns ∙ ap (λ (i : Entry). i.number) f ∙ sym q.concerns
      | earlier k e ↦ absurd (late_excludes bus b s p.front p.entry k p.rows q.rows p.before
          (rw e at (ascends_front by_frame q.front (q.entry ∷ q.back) (rw q.parts at asc))) (rw e at q.before) p.here)
      | later k e ↦ absurd (late_excludes bus b s q.front q.entry k q.rows p.rows q.before
          (rw e at (ascends_front by_frame p.front (p.entry ∷ p.back) (rw p.parts at asc))) (rw e at p.before) q.here)
    ]

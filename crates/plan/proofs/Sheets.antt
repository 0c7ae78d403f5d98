-- A sheet grows row by row: a later row does not count for an earlier one.
use Rattle.std.proofs.Common.{◌≡◌, ℕ, zero, suc, ◌+◌, ◌-◌, ◌*◌, ◌/◌, ◌<◌, Bool, true, false, ◌⊎◌, List, [], ◌∷◌, ◌++◌, map, length, get_or, take, drop, ap, ◌∙◌, inr, ⊎_elim, le_of_suc-le-suc, not-suc-le-zero, arith}
use Rattle.std.specs.List.{AllByRecursion}
use Rattle.std.proofs.lemmas.List.{map_push, take_more}
use Rattle.std.proofs.ByRecursion.{All-push, All-get_or, All-take}
use Rattle.std.proofs.lemmas.Bool.{cond-false}
use Rattle.std.proofs.lemmas.Bool.Decides.{nat_tests}
use Rattle.fields.specs.declared.refusal.Refusal.{Refusal}
use Rattle.books.specs.Book.{Book}
use Rattle.ranked.specs.Ranks.{Ascending}
use Rattle.delay.specs.Order.{by_frame}
use Rattle.delay.specs.Delay.{total, room, lower, more_urgent, share_of_lower, share_of_urgent, lower_load, urgent_load, own_load, needed, Least, ListedRow, Unlisted, NoneWithin}
use Rattle.delay.specs.declared.bus.Bus.{Bus}
use Rattle.delay.specs.declared.entry.Entry.{Entry}
use Rattle.delay.specs.declared.entry.Row.{Row}
use Rattle.plan.specs.Sheets.{RowOf, Sheet, Listed, NoSheet}

total_push : {X : Type 0} (f : X → ℕ) (xs : List X) (x : X) → total f (xs ++ x ∷ []) ≡ total f xs + f x
total_push f [] x = omega arith
total_push f (y ∷ ys) x = omega (arith, total_push f ys x)

-- The row neither is of a lower frame nor more urgent: it does not count for the message.
unfoldable pub Uncounted : Entry → Row → Type 0
Uncounted i r = (lower i r ≡ false) × (more_urgent i r ≡ false)

pub needed_push : (bus : Bus) (count : ℕ → ℕ → ℕ) (rows : List Row) (r : Row) (i : Entry) → Uncounted i r → (d : ℕ)
    → needed bus count (rows ++ r ∷ []) i d ≡ needed bus count rows i d
unfolding lower_load urgent_load Uncounted
needed_push bus count rows r i off d =
    let low : total (share_of_lower bus count i d) (rows ++ r ∷ []) ≡ total (share_of_lower bus count i d) rows =
    omega (arith, total_push (share_of_lower bus count i d) rows r, cond-false (lower i r) ((r.entry.size - 1) * count r.entry.number (d + r.delay + (i.frame - 1) * bus.minislot)) 0 off.0) in
    let high : total (share_of_urgent count i d) (rows ++ r ∷ []) ≡ total (share_of_urgent count i d) rows =
    omega (arith, total_push (share_of_urgent count i d) rows r, cond-false (more_urgent i r) (count r.entry.number (d + r.delay)) 0 off.1) in
    ap (λ u. (u / room i + total (share_of_urgent count i d) (rows ++ r ∷ []) + own_load count i d + 1) * bus.cycle + (room i - 1 + i.size) * bus.minislot) low
    ∙ ap (λ h. (total (share_of_lower bus count i d) rows / room i + h + own_load count i d + 1) * bus.cycle + (room i - 1 + i.size) * bus.minislot) high

least_push : (bus : Bus) (count : ℕ → ℕ → ℕ) (rows : List Row) (r : Row) (i : Entry) (d : ℕ) → Uncounted i r
    → Least bus count rows i d → Least bus count (rows ++ r ∷ []) i d
least_push bus count rows r i d off l = record {
  positive = l.positive;
  meets = omega (arith, needed_push bus count rows r i off d, l.meets);
  least = λ e p m. l.least e p (omega (arith, needed_push bus count rows r i off e));
}

row_push : (bus : Bus) (b : Book) (s : b.State) (rows : List Row) (r q : Row) → Uncounted q.entry r → RowOf bus b s rows q → RowOf bus b s (rows ++ r ∷ []) q
row_push bus b s rows r q off h = record {
  delay = least_push bus (b.count s) rows r q.entry q.delay off h.delay;
  response = h.response;
  timely = h.timely;
}

pub after : (i : Entry) (r : Row) → by_frame i r.entry ≡ true → Uncounted i r
unfolding Uncounted
after i r h = (grind (arith, nat_tests), grind (arith, nat_tests))

pub itself : (r : Row) → by_frame r.entry r.entry ≡ true
itself r = grind (arith, nat_tests)

all_both : {X : Type 0} (P Q R : X → Type 0) → ((x : X) → P x → Q x → R x) → (xs : List X) → AllByRecursion P xs → AllByRecursion Q xs → AllByRecursion R xs
all_both P Q R f [] p q = tt
all_both P Q R f (x ∷ xs) p q = (f x p.0 q.0, all_both P Q R f xs p.1 q.1)

pub sheet_push : (bus : Bus) (b : Book) (s : b.State) (front : List Entry) (rows : List Row) (r : Row) → Sheet bus b s front rows
    → RowOf bus b s rows r → AllByRecursion (λ q. by_frame q.entry r.entry ≡ true) rows → Sheet bus b s (front ++ r.entry ∷ []) (rows ++ r ∷ [])
sheet_push bus b s front rows r sheet row order = record {
  messages = map_push (λ q. q.entry) rows r ∙ ap (λ es. es ++ r.entry ∷ []) sheet.messages;
  figures = All-push (RowOf bus b s (rows ++ r ∷ [])) rows r
      (all_both (λ q. by_frame q.entry r.entry ≡ true) (RowOf bus b s rows) (RowOf bus b s (rows ++ r ∷ []))
      (λ q o h. row_push bus b s rows r q (after q.entry r o) h) rows order sheet.figures)
      (row_push bus b s rows r r (after r.entry r (itself r)) row);
}

all_before : {X : Type 0} (upto : X → X → Bool) (xs : List X) (i : ℕ) (d : X) → Ascending upto xs → i < length xs
    → AllByRecursion (λ y. upto y (get_or xs i d) ≡ true) (take i xs)
all_before upto [] i d asc h = absurd (not-suc-le-zero h)
all_before upto (x ∷ xs) zero d asc h = tt
all_before upto (x ∷ xs) (suc i) d asc h =
    let l = le_of_suc-le-suc h in (All-get_or (λ y. upto x y ≡ true) xs i d l asc.0, all_before upto xs i d asc.1 l)

pub from_map : {X Y : Type 0} (P : Y → Type 0) (f : X → Y) (xs : List X) → AllByRecursion P (map f xs) → AllByRecursion (λ x. P (f x)) xs
from_map P f [] all = tt
from_map P f (x ∷ xs) all = (all.0, from_map P f xs all.1)

-- The next row of a table in order.
pub sheet_next : (bus : Bus) (b : Book) (s : b.State) (entries : List Entry) (rows : List Row) (i : ℕ) (e : Entry) (r : Row)
    → Ascending by_frame entries → i < length entries → e ≡ get_or entries i e → Sheet bus b s (take i entries) rows → r.entry ≡ e → RowOf bus b s rows r
    → Sheet bus b s (take (i + 1) entries) (rows ++ r ∷ [])
sheet_next bus b s entries rows i e r asc h is sheet same row =
    let at : get_or entries i e ≡ r.entry = cc in
    let order = from_map (λ y. by_frame y r.entry ≡ true) (λ q. q.entry) rows
    (rw sheet.messages (rw at at (all_before by_frame entries i e asc h))) in
    let next : take (i + 1) entries ≡ take i entries ++ r.entry ∷ [] = take_more entries i e h ∙ ap (λ y. take i entries ++ y ∷ []) at in
    rw next (sheet_push bus b s (take i entries) rows r sheet row order)

-- The messages of the rows so far are listed, as all of the table are.
rows_listed : (b : Book) (s : b.State) (entries : List Entry) (rows : List Row) (i : ℕ) → map (λ r. r.entry) rows ≡ take i entries
    → AllByRecursion (Listed b s) entries → AllByRecursion (ListedRow (b.lists s)) rows
rows_listed b s entries rows i is all = from_map (Listed b s) (λ r. r.entry) rows (rw is (All-take (Listed b s) i entries all))

-- A message that gets no row is the first that has no delay.
pub no_row : (bus : Bus) (b : Book) (s : b.State) (entries : List Entry) (rows : List Row) (i : ℕ) (x : Entry) (e : Refusal)
    → AllByRecursion (Listed b s) entries → Listed b s x → entries ≡ take i entries ++ x ∷ drop (i + 1) entries → Sheet bus b s (take i entries) rows
    → Unlisted (b.lists s) rows x e ⊎ NoneWithin bus b s rows x e → NoSheet bus b s entries e
no_row bus b s entries rows i x e listed own parts sheet why =
    ⊎_elim
    (λ u. absurd (u.3 own (rows_listed b s entries rows i sheet.messages listed)))
    (λ n. (
      n.1,
      inr (
        n.0,
        record {
          listed = listed;
          front = take i entries;
          entry = x;
          back = drop (i + 1) entries;
          parts = parts;
          rows = rows;
          before = sheet;
          here = n.5;
          concerns = n.2;
        },
      ),
    ))
    why

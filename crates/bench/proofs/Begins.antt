-- A bench that was just set up begins its course.
use Rattle.std.proofs.Common.{◌≡◌, ℕ, ◌≤◌, cond, eqb, List, [], ◌∷◌, map, length, None, vec_items, sym, refl, ap, ◌∙◌, subst, ⊎_elim, arith}
use Rattle.std.specs.List.{range_with_len}
use Rattle.std.proofs.lemmas.Bool.{ltb-false, ne_eqb, cond-false, cases_lt, both_ways, and_cases}
use Rattle.fields.specs.Limits.{Admitted, highest}
use Rattle.fields.specs.declared.limits.Field.TheVariants.{Frame}
use Rattle.books.specs.Book.{Lawful, Fresh}
use Rattle.delay.specs.Delay.{total}
use Rattle.delay.specs.declared.entry.Row.{Row}
use Rattle.plan.specs.Plans.{rows_of}
use Rattle.plan.specs.declared.plan.Plan.{Plan}
use Rattle.slots.specs.Rows.{SoundTable, needs, last_start_of, size_of}
use Rattle.slots.specs.Runs.{Run}
use Rattle.slots.specs.Guarantees.{SetUp}
use Rattle.slots.proofs.Holds.{delays_hold}
use Rattle.bench.specs.Benches.{Kinds, rows_in, state_of}
use Rattle.bench.specs.SetUps.{AllListed, Ready, Proper, Begun, BenchOf}
use Rattle.bench.specs.declared.bench.Bench.{Bench}
use Rattle.bench.proofs.Plans.{sound_table}

no_more : {X : Type 0} (xs : List X) → length xs ≤ 0 → xs ≡ []
no_more [] l = refl
no_more (x ∷ xs) l = absurd (omega (arith, l))

-- frames out of range need no places
none_needed : (count : ℕ → ℕ → ℕ) (f : ℕ) → ((r : Row) → r.entry.frame ≡ f → ⊥) → (rows : List Row)
    → total (λ r. cond (eqb r.entry.frame f) (count r.entry.number r.delay) 0) rows ≡ 0
none_needed count f off [] = refl
none_needed count f off (r ∷ rs) =
    omega (
      arith,
      cond-false (eqb r.entry.frame f) (count r.entry.number r.delay) 0 (ne_eqb r.entry.frame f (off r)),
      none_needed count f off rs,
    )

outside_needs : (count : ℕ → ℕ → ℕ) (rows : List Row) (f : ℕ) → (Admitted Frame f → ⊥) → needs count rows f ≡ 0
unfolding needs
outside_needs count rows f off =
    none_needed count f (λ r e. off (omega (arith, e, r.entry.frame_in.0), omega (arith, e, r.entry.frame_in.1))) rows

-- a fact of every frame, from those in range and those out of it
by_range : (P : ℕ → Type 0) (f : ℕ) → (Admitted Frame f → P f) → ((Admitted Frame f → ⊥) → P f) → P f
by_range P f inside outside =
    ⊎_elim (λ low. outside (λ a. omega (arith, low, a.0)))
    (λ ok. ⊎_elim (λ high. outside (λ a. omega (arith, high, a.1))) (λ fits. inside (ok, fits)) (cases_lt (highest Frame) f)) (cases_lt f 1)

-- What was found of the rows and the book that a plan answers is so of the plan.
pub at_plan : {B S : Type 0} (k : Kinds B S) (p : Plan B) (buffer : S) (P : k.book.State → List Row → Type 0) (rows : List Row) (book : B)
    → rows ≡ rows_of p → book ≡ p.book
    → (AllListed k.book (k.meaning book) rows → k.sound buffer → P (k.meaning book) rows) → Proper k p buffer
    → P (k.meaning p.book) (rows_of p)
at_plan k p buffer P rows book same_rows same_book found proper =
    let at_rows = subst (λ l. AllListed k.book (k.meaning book) l → k.sound buffer → P (k.meaning book) l) same_rows found in
    let at-book = subst (λ b. AllListed k.book (k.meaning b) (rows_of p) → k.sound buffer → P (k.meaning b) (rows_of p)) same_book at_rows in
    let table = sound_table k.book k.meaning proper.draft proper.book p proper.planned proper.listed in
    at-book table.listed proper.sound

module _ {B S : Type 0} (k : Kinds B S) (lawful : Lawful k.book) (x : Bench B S)
    (table : SoundTable x.bus k.book (k.meaning x.book) (rows_in x))
    (ready : Ready k.book (k.meaning x.book) (rows_in x) (k.buffer x.buffer))
    (book-sound : k.book.Sound (k.meaning x.book))
    (room : (f : ℕ) → length ((k.buffer x.buffer).waiting f) ≤ (k.buffer x.buffer).places f)
    (outside : (f : ℕ) → (Admitted Frame f → ⊥) → (k.buffer x.buffer).places f ≡ 0) where
  nothing_waits : (f : ℕ) → (k.buffer x.buffer).waiting f ≡ []
  nothing_waits f =
      by_range (λ f. (k.buffer x.buffer).waiting f ≡ []) f
      (λ inside. no_more ((k.buffer x.buffer).waiting f) (ltb-false 0 (length ((k.buffer x.buffer).waiting f)) (ready.empty f inside)))
      (λ off. no_more ((k.buffer x.buffer).waiting f) (omega (arith, room f, outside f off)))

  enough : (f : ℕ) → needs (k.book.count (k.meaning x.book)) (rows_in x) f ≤ (k.buffer x.buffer).places f
  enough f =
      by_range (λ f. needs (k.book.count (k.meaning x.book)) (rows_in x) f ≤ (k.buffer x.buffer).places f) f
      (λ inside. ltb-false ((k.buffer x.buffer).places f) (needs (k.book.count (k.meaning x.book)) (rows_in x) f) (ready.places f inside))
      (λ off. omega (arith, outside_needs (k.book.count (k.meaning x.book)) (rows_in x) f off))

  fresh : Fresh k.book (k.meaning x.book)
  fresh m listed =
      ⊎_elim (λ unlisted. absurd (both_ways (k.book.lists (k.meaning x.book) m) unlisted listed))
      (λ now. omega (arith, ltb-false 0 (k.book.earliest (k.meaning x.book) m) now))
      (and_cases (k.book.lists (k.meaning x.book) m) _ (ready.fresh m (lawful.listed (k.meaning x.book) m book-sound listed)))

  pub begun : x.position ≡ record { cycle = 0; minislot = 1; slot = 1 } → x.released ≡ None → x.started ≡ None → k.sound x.buffer
      → vec_items x.starts ≡ map (last_start_of (rows_in x)) (range_with_len 0 2048) → vec_items x.sizes ≡ map (size_of (rows_in x))
      (range_with_len 0 129) → Begun k x
  begun position released started sound starts sizes =
      let set : SetUp x.bus (rows_in x) k.book (state_of k x) = record {
        begins = record { position = position; released = released; started = started; waiting = nothing_waits };
        sound = book-sound;
        fresh = fresh;
        table = table;
      } in
      record {
        ready = ready;
        course = record { set = set; enough = enough; sound = sound; starts = starts; sizes = sizes; run = Run.none };
        guarantee = λ xs s run. delays_hold k.book lawful x.bus (rows_in x) (state_of k x) set xs s run;
      }

-- The bench of a plan and a buffer.
pub bench_of : {B S : Type 0} (k : Kinds B S) → Lawful k.book → (p : Plan B) (x : Bench B S) → ((y : B) → k.book.Sound (k.meaning y))
    → ((f : ℕ) → k.sound x.buffer → length ((k.buffer x.buffer).waiting f) ≤ (k.buffer x.buffer).places f)
    → ((f : ℕ) → k.sound x.buffer → (Admitted Frame f → ⊥) → (k.buffer x.buffer).places f ≡ 0) → x.bus ≡ p.bus → rows_in x ≡ rows_of p
    → x.book ≡ p.book
    → x.position ≡ record { cycle = 0; minislot = 1; slot = 1 } → x.released ≡ None → x.started ≡ None
    → (Proper k p x.buffer → Ready k.book (k.meaning p.book) (rows_of p) (k.buffer x.buffer))
    → vec_items x.starts ≡ map (last_start_of (rows_of p)) (range_with_len 0 2048) → vec_items x.sizes ≡ map (size_of (rows_of p)) (range_with_len 0 129)
    → BenchOf k p x.buffer x
bench_of k lawful p x sound room outside bus rows book position released started ready starts sizes = record {
  bus = bus;
  rows = rows;
  book = book;
  same_buffer = refl;
  position = position;
  no_release = released;
  no_run = started;
  begun = λ proper.
      let m = k.buffer x.buffer in
      let planned = sound_table k.book k.meaning proper.draft proper.book p proper.planned proper.listed in
      let at-bus = subst (λ b. SoundTable b k.book (k.meaning p.book) (rows_of p)) (sym bus) planned in
      let at-book = subst (λ b. SoundTable x.bus k.book (k.meaning b) (rows_of p)) (sym book) at-bus in
      let table = subst (λ l. SoundTable x.bus k.book (k.meaning x.book) l) (sym rows) at-book in
      let ready-book = subst (λ b. Ready k.book (k.meaning b) (rows_of p) m) (sym book) (ready proper) in
      let ready-rows = subst (λ l. Ready k.book (k.meaning x.book) l m) (sym rows) ready-book in
      begun k lawful x table ready-rows (sound x.book) (λ f. room f proper.sound) (λ f. outside f proper.sound) position released
      started proper.sound
      (starts ∙ ap (λ l. map (last_start_of l) (range_with_len 0 2048)) (sym rows)) (sizes ∙ ap (λ l. map (size_of l) (range_with_len 0 129)) (sym rows));
}

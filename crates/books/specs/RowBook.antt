-- A book that keeps a lawful row for each message is lawful.
use Rattle.std.specs.Prelude.{◌≡◌, ℕ, ◌+◌, ◌*◌, ◌≤◌, Bool, true, false, cond, ◌&&◌, List, [], ◌∷◌, length, is_some, Some, None, Option, ◌==◌, ◌≢◌, slice_set}
use Rattle.std.proofs.Math.Path.{refl}
use Rattle.std.proofs.Common.{sym, ap, subst, ◌∙◌, ⊎_elim, arith}
use Rattle.std.specs.Option.{option_map, unwrap_or}
use Rattle.std.proofs.lemmas.List.{get_or-set_same, get_or-set_other, get_or_past, set_past}
use Rattle.std.proofs.lemmas.Bool.{cases_lt, cases_eq, eqb-true, eqb-false}
use Rattle.books.specs.Places.{same_there}
use Rattle.books.specs.Book.{Release, Accepts, Accepted, Lawful, tally, within, largest}
use Rattle.books.specs.Rows.{Kind, RowLaws, Taken, SoundRows, inside, row_at, figure, row_book}

-- what a row that is there says
some_row : {X : Type 0} (o : Option X) → is_some o ≡ true → (x : X) × (o ≡ Some x)
some_row None e = let z : ◌≡◌ {A = ℕ} 0 1 = cc in absurd (omega arith)
some_row (Some x) e = (x, refl)

abbrev of : {X : Type 0} → (X → ℕ) → Option X → ℕ
of f o = unwrap_or (option_map f o) 0

figure_at : {X : Type 0} (f : X → ℕ) (rows : List (Option X)) (m : ℕ) (x : X) → row_at rows m ≡ Some x → figure f rows m ≡ f x
figure_at f rows m x e = ap (λ o. unwrap_or (option_map f o) 0) e

-- the rows after one is changed: that row, and every other
changed : {X : Type 0} (g : X → X) (rows : List (Option X)) (m : ℕ) → row_at (slice_set rows m (option_map g (row_at rows m))) m ≡ option_map g (row_at rows m)
changed g rows m = ⊎_elim
    (λ l. get_or-set_same rows m _ None l)
    (λ p. ap (λ rs. row_at rs m) (set_past rows m _ p) ∙ get_or_past rows m None p ∙ ap (option_map g) (sym (get_or_past rows m None p)))
    (cases_lt m (length rows))

unchanged : {X : Type 0} (rows : List (Option X)) (m k : ℕ) (v : Option X) → (k ≢ m) → row_at (slice_set rows m v) k ≡ row_at rows k
unchanged rows m k v ne = get_or-set_other rows m k v None ne

-- what a change of one row leaves is left throughout
same_throughout : {X Y : Type 0} (h : Option X → Y) (g : X → X) (rows : List (Option X)) (m k : ℕ)
    → ((o : Option X) → h (option_map g o) ≡ h o) → h (row_at (slice_set rows m (option_map g (row_at rows m))) k) ≡ h (row_at rows k)
same_throughout h g rows m k same = ⊎_elim
    (λ e. rw e (ap h (changed g rows m) ∙ same (row_at rows m)))
    (λ ne. ap h (unchanged rows m k _ ne))
    (cases_eq k m)

same_figure : {X : Type 0} (f : X → ℕ) (g : X → X) → ((x : X) → f (g x) ≡ f x) → (o : Option X) → unwrap_or (option_map f (option_map g o)) 0 ≡ unwrap_or (option_map f o) 0
same_figure f g same None = refl
same_figure f g same (Some x) = same x

module _ (k : Kind) (laws : RowLaws k) where
  -- the row that an accepted release meets
  record Met (rows : List (Option k.Row)) (m t : ℕ) : Type 0 where
    row : k.Row
    here : row_at rows m ≡ Some row
    sound : k.Sound row
    due : k.earliest row ≤ t

  met : (rows : List (Option k.Row)) (m t : ℕ) → SoundRows k rows → Accepts (row_book k) rows m t → Met rows m t
  met rows m t sound acc =
      let found = some_row (row_at rows m) acc.listed in
      record {
        row = found.0;
        here = found.1;
        sound = sound.row_sound m found.0 found.1;
        due = rw (figure_at k.earliest rows m found.0 found.1) at acc.due;
      }

  after_met : (rows : List (Option k.Row)) (m t : ℕ) (x : k.Row) → row_at rows m ≡ Some x → row_at ((row_book k).after rows m t) m ≡ Some (k.after x t)
  after_met rows m t x e = changed (λ y. k.after y t) rows m ∙ ap (option_map (λ y. k.after y t)) e

  goes_on : (rows : List (Option k.Row)) (m t : ℕ) → SoundRows k rows → Accepts (row_book k) rows m t
      → (t ≤ (row_book k).earliest ((row_book k).after rows m t) m) × ((row_book k).earliest ((row_book k).after rows m t) m ≤ t + (row_book k).rest rows m)
  goes_on rows m t sound acc =
      let p = met rows m t sound acc in
      let l = laws.next p.row t p.sound acc.in_range p.due in
      let e = figure_at k.earliest ((row_book k).after rows m t) m (k.after p.row t) (after_met rows m t p.row p.here) in
      let r = figure_at k.rest rows m p.row p.here in
      rw (e, r) l

  keeps_sound : (rows : List (Option k.Row)) (m t : ℕ) → SoundRows k rows → Accepts (row_book k) rows m t → SoundRows k ((row_book k).after rows m t)
  keeps_sound rows m t sound acc =
      let p = met rows m t sound acc in
      let here = after_met rows m t p.row p.here in
      let next = laws.stays_sound p.row t p.sound acc.in_range p.due in
      record {
        in_range = λ j e. sound.in_range j (sym (same_throughout is_some (λ y. k.after y t) rows m j (same_there (λ y. k.after y t))) ∙ e);
        row_sound = λ j x e. ⊎_elim
            (λ i. let same : k.after p.row t ≡ x = cc in subst k.Sound same next)
            (λ ne. sound.row_sound j x (sym (unchanged rows m j _ ne) ∙ e))
            (cases_eq j m);
      }

  -- the row of a message that is listed, and what holds of a figure since it holds of every sound row's
  listed_row : (rows : List (Option k.Row)) (m : ℕ) → SoundRows k rows → (row_book k).lists rows m ≡ true → (x : k.Row) × (row_at rows m ≡ Some x) × k.Sound x
  listed_row rows m sound e = let found = some_row (row_at rows m) e in (found.0, found.1, sound.row_sound m found.0 found.1)

  by_row : (f : k.Row → ℕ) (P : ℕ → Type 0) (rows : List (Option k.Row)) (m : ℕ) → SoundRows k rows → (row_book k).lists rows m ≡ true
      → ((x : k.Row) → k.Sound x → P (f x)) → P (figure f rows m)
  by_row f P rows m sound e each = let (x, here, ok) = listed_row rows m sound e in rw (figure_at f rows m x here) (each x ok)

  -- a figure that no release of its own message changes
  stays : (f : k.Row → ℕ) (rows : List (Option k.Row)) (m t j : ℕ) → ((x : k.Row) → f (k.after x t) ≡ f x) → figure f ((row_book k).after rows m t) j ≡ figure f rows j
  stays f rows m t j same = same_throughout (of f) (λ x. k.after x t) rows m j (same_figure f (λ x. k.after x t) same)

-- the times of the releases of one message
times_of : ℕ → List Release → List ℕ
times_of m [] = []
times_of m (r ∷ rs) = cond (r.message == m) (r.time ∷ times_of m rs) (times_of m rs)

times_tally : (m from len : ℕ) (rs : List Release) → tally (within m from len) rs ≡ tally (inside from len) (times_of m rs)
unfolding times_of
times_tally m from len [] = refl
times_tally m from len (r ∷ rs) = go (r.message == m) (times_tally m from len rs)
  where
    go : (b : Bool) → tally (within m from len) rs ≡ tally (inside from len) (times_of m rs)
        → cond (b && inside from len r.time) 1 0 + tally (within m from len) rs ≡ tally (inside from len) (cond b (r.time ∷ times_of m rs) (times_of m rs))
    go true e = ap (λ n. cond (inside from len r.time) 1 0 + n) e
    go false e = omega arith

module _ (k : Kind) (laws : RowLaws k) where
  -- one release more, of this message or of another
  one_taken : (rows : List (Option k.Row)) (ts : List ℕ) (x y : k.Row) (m j t : ℕ) → row_at rows m ≡ Some y → Taken k x ts y → Accepts (row_book k) rows j t
      → (b : Bool) → (j == m) ≡ b → (z : k.Row) × (row_at ((row_book k).after rows j t) m ≡ Some z) × Taken k x (cond b (t ∷ ts) ts) z
  one_taken rows ts x y m j t here before acc true e =
      let same = eqb-true j m e in
      let due = rw (same, figure_at k.earliest rows m y here) at acc.due in
      (k.after y t, rw same (after_met k laws rows m t y here), Taken.one_more before acc.in_range due)
  one_taken rows ts x y m j t here before acc false e =
      (y, unchanged rows j m _ (λ i. eqb-false j m e (sym i)) ∙ here, before)

  -- the releases of one message, row by row
  taken : {first : List (Option k.Row)} {rs : List Release} {rows : List (Option k.Row)} (m : ℕ) (x : k.Row) → row_at first m ≡ Some x
      → Accepted (row_book k) first rs rows → (y : k.Row) × (row_at rows m ≡ Some y) × Taken k x (times_of m rs) y
  unfolding times_of
  taken m x here Accepted.none = (x, here, Taken.none)
  taken m x here (Accepted.one_more {rs = rs} {s = rows} {m = j} {t = t} before acc) =
      let p = taken m x here before in
      one_taken rows (times_of m rs) x p.0 m j t p.1 p.2 acc (j == m) refl

  all_counted : (first rows : List (Option k.Row)) (rs : List Release) → SoundRows k first → Accepted (row_book k) first rs rows
      → (m from len : ℕ) → (row_book k).lists first m ≡ true → tally (within m from len) rs ≤ (row_book k).count first m len
  all_counted first rows rs sound acc m from len listed =
      let (x, here, row-sound) = listed_row k laws first m sound listed in
      let p = taken m x here acc in
      rw (times_tally m from len rs, figure_at (λ y. k.count y len) first m x here)
      (laws.counted x p.0 (times_of m rs) row-sound p.2 from len)

  pub row_book_lawful : Lawful (row_book k)
  row_book_lawful = record {
    listed = λ rows m sound e. sound.in_range m e;
    next = goes_on k laws;
    stays_sound = keeps_sound k laws;
    same_lists = λ rows m t j _ _. same_throughout is_some (λ x. k.after x t) rows m j (same_there (λ x. k.after x t));
    same_rest = λ rows m t j _ _. stays k laws k.rest rows m t j (λ x. laws.same_rest x t);
    same_jitter = λ rows m t j _ _. stays k laws k.jitter rows m t j (λ x. laws.same_jitter x t);
    same_count = λ rows m t j len _ _. stays k laws (λ x. k.count x len) rows m t j (λ x. laws.same_count x t len);
    others = λ rows m t j _ _ ne. ap (of k.earliest) (unchanged rows m j _ ne);
    count_none = λ rows m sound e. by_row k laws (λ x. k.count x 0) (λ c. c ≡ 0) rows m sound e (λ x ok. laws.count_none x ok);
    count_some = λ rows m len sound e l. by_row k laws (λ x. k.count x len) (λ c. 1 ≤ c) rows m sound e (λ x ok. laws.count_some x len ok l);
    count_grows = λ rows m len more sound e l. let (x, here, ok) = listed_row k laws rows m sound e in
        rw (figure_at (λ y. k.count y len) rows m x here, figure_at (λ y. k.count y more) rows m x here) (laws.count_grows x len more ok l);
    count_bound = λ rows m len sound e. by_row k laws (λ x. k.count x len) (λ c. c ≤ 16 * (len + largest)) rows m sound e (λ x ok. laws.count_bound x len ok);
    rest_bound = λ rows m sound e. by_row k laws k.rest (λ n. n ≤ largest) rows m sound e (λ x ok. laws.rest_bound x ok);
    jitter_bound = λ rows m sound e. by_row k laws k.jitter (λ n. n ≤ largest) rows m sound e (λ x ok. laws.jitter_bound x ok);
    counted = λ first rows rs sound acc m from len e _. all_counted first rows rs sound acc m from len e;
  }

-- The messages of accepted lines are listed without fault: each is in range, and has a number of its own.
use Rattle.std.proofs.Common.{◌≡◌, ℕ, zero, suc, ◌+◌, ◌<◌, ◌≤◌, Bool, true, false, cond, not, ◌&&◌, ◌||◌, eqb, List, [], ◌∷◌, ◌++◌, map, length, get_or, take, is_some, Some, None, vec_items, Option, unwrap_or, sym, refl, ap, ◌∙◌, subst, ⊎_elim, append_assoc, le_of_suc-le-suc, not-suc-le-zero, arith}
use Rattle.std.specs.List.{AllByRecursion}
use Rattle.std.specs.Option.{option_map}
use Rattle.std.proofs.lemmas.List.FromFn.{get_or-map-range_with_len, fill_by_all}
use Rattle.std.proofs.lemmas.List.{append-nil, length-map}
use Rattle.std.proofs.ByRecursion.{All-get_or}
use Rattle.std.proofs.lemmas.Bool.{and_parts, or_cases, or_from, or_left, or_right, cases_Bool, eqb-true, eq-eqb, both_ways, cond-true, cond-false}
use Rattle.std.proofs.lemmas.Bool.Decides.{nat_tests}
use Rattle.fields.proofs.Checks.{all_passed}
use Rattle.fields.specs.Limits.{admitted}
use Rattle.fields.specs.Refusals.{first_reason}
use Rattle.fields.specs.declared.limits.Field.TheVariants as field
use Rattle.fields.specs.declared.refusal.Reason.TheVariants.{OutOfRange, NumberUsed, Malformed}
use Rattle.fields.specs.declared.refusal.Refusal.{Refusal}
use Rattle.books.specs.Book.{tally}
use Rattle.books.specs.Listing.{used, given, wrong_at, FirstWrong}
use Rattle.books.specs.Periodic.{first_nominal, nominal_of, nominal_rows}
use Rattle.books.specs.Window.{first_span, span_of, span_rows}
use Rattle.books.specs.Rows.{row_at}
use Rattle.books.specs.Periodic.{PeriodicBook}
use Rattle.books.specs.Window.{WindowBook}
use Rattle.books.specs.declared.periodic.PeriodicMessage.{PeriodicMessage}
use Rattle.books.specs.declared.window.WindowMessage.{WindowMessage}
use Rattle.delay.specs.declared.entry.Entry.{Entry}
use Rattle.plan.specs.Entries.{some}
use Rattle.plan.specs.Sheets.{Listed, FirstUnlisted}
use Rattle.plan.specs.declared.draft.Message.{Message}
use Rattle.by_lines.specs.Held.{Told, told_of, told_up_to, entry_told, in_order}
use Rattle.texts.specs.Lines.{fits}
use Rattle.by_lines.specs.Plans.{periodic_of, window_of, by_number, book_of_lines, table_book}
use Rattle.by_lines.specs.Tables.{messages_of, start_of, in_turn, message_rules, table_rules, line_rules, same_number, AllAccepted}
use Rattle.texts.specs.declared.line.Line.{Line}
use Rattle.texts.specs.declared.line.Line.TheVariants as line
use Rattle.by_lines.proofs.Accepts.{messages_more}
use Rattle.by_lines.proofs.Orders.{or_assoc, or_swap, all_put_all}

-- How often a number is used.
abbrev uses : {M : Type 0} → (M → ℕ) → List M → ℕ → ℕ
uses number es n = tally (λ e. eqb (number e) n) es

tally_push : {X : Type 0} (p : X → Bool) (xs : List X) (x : X) → tally p (xs ++ x ∷ []) ≡ tally p xs + cond (p x) 1 0
tally_push p [] x = omega arith
tally_push p (y ∷ ys) x = omega (arith, tally_push p ys x)

none_passes : {X : Type 0} (p : X → Bool) (xs : List X) → some p xs ≡ false → tally p xs ≡ 0
none_passes p [] h = refl
none_passes p (x ∷ xs) h = go (p x) (some p xs) h (none_passes p xs)
  where
    go : (a b : Bool) → (a || b) ≡ false → (b ≡ false → tally p xs ≡ 0) → cond a 1 0 + tally p xs ≡ 0
    go true b e f = absurd (both_ways true e refl)
    go false b e f = omega (arith, f e)

counts : (b : Bool) → b ≡ true → ◌≡◌ {A = ℕ} (cond b 1 0) 1
counts b h = cond-true b 1 0 h

counts_not : (b : Bool) → b ≡ false → ◌≡◌ {A = ℕ} (cond b 1 0) 0
counts_not b h = cond-false b 1 0 h

module _ {M : Type 0} (number : M → ℕ) where
  pub used_once : (es : List M) (n : ℕ) → used number es n ≡ true → 1 ≤ uses number es n
  used_once [] n h = absurd (both_ways false refl h)
  used_once (e ∷ es) n h = go (eqb (number e) n) (used number es n) h (used_once es n)
    where
      go : (a b : Bool) → (a || b) ≡ true → (b ≡ true → 1 ≤ uses number es n) → 1 ≤ cond a 1 0 + uses number es n
      go true b e f = omega arith
      go false b e f = omega (arith, f e)

  read_once : (es : List M) (k : ℕ) (d : M) → k < length es → 1 ≤ uses number es (number (get_or es k d))
  read_once [] k d h = absurd (not-suc-le-zero h)
  read_once (e ∷ es) zero d h = omega (arith, counts (eqb (number e) (number (get_or (e ∷ es) 0 d))) (eq-eqb (number e) (number e) refl))
  read_once (e ∷ es) (suc k) d h = let more = read_once es k d (le_of_suc-le-suc h) in omega arith

  -- Where no number is used twice, none is used before.
  used_before : (es : List M) → ((n : ℕ) → uses number es n ≤ 1) → (k : ℕ) (d : M) → k < length es → used number (take k es) (number (get_or es k d)) ≡ false
  used_before [] once k d h = absurd (not-suc-le-zero h)
  used_before (e ∷ es) once zero d h = refl
  used_before (e ∷ es) once (suc k) d h =
      let l = le_of_suc-le-suc h in
      let v = number (get_or es k d) in
      or_from (eqb (number e) v) (used number (take k es) v)
      (⊎_elim (λ same. absurd (omega (arith, counts (eqb (number e) (number (get_or es k d))) same, once v, read_once es k d l))) (λ other. other) (cases_Bool (eqb (number e) v)))
      (used_before es (λ n. omega (arith, once n)) k d l)

  module _ {X : Type 0} (begins : M → Option X) where
    -- The message is in range.
    abbrev InRange : M → Type 0
    InRange e = (admitted field.Message (number e) && is_some (begins e)) ≡ true

    pub never_wrong : (es : List M) → AllByRecursion InRange es → ((n : ℕ) → uses number es n ≤ 1) → (r : Refusal) → FirstWrong number begins es r → ⊥
    never_wrong [] all once r w = absurd (not-suc-le-zero w.in_list)
    never_wrong (d ∷ es) all once r w =
        let e = get_or (d ∷ es) w.at d in
        let ranges = All-get_or InRange (d ∷ es) w.at d w.in_list all in
        let free = used_before (d ∷ es) once w.at d w.in_list in
        let why = w.reason d in
        let none : wrong_at number begins (d ∷ es) w.at e ≡ None =
        ap (λ b. cond (not b) (Some OutOfRange) (first_reason (record { holds = used number (take w.at (d ∷ es)) (number e); reason = NumberUsed } ∷ []))) ranges
        ∙ ap (λ b. first_reason (record { holds = b; reason = NumberUsed } ∷ [])) free in
        let z : ◌≡◌ {A = ℕ} 0 1 = cc in omega arith

    -- A number has a row just where it is used.
    pub given_used : (es : List M) (n : ℕ) → is_some (given number begins es n) ≡ true → used number es n ≡ true
    given_used [] n h = h
    given_used (e ∷ es) n h = go (eqb (number e) n) h (given_used es n)
      where
        go : (a : Bool) → is_some (cond a (begins e) (given number begins es n)) ≡ true → (is_some (given number begins es n) ≡ true → used number es n ≡ true)
            → (a || used number es n) ≡ true
        go true e f = refl
        go false e f = f e

    pub used_given : (es : List M) → AllByRecursion InRange es → (n : ℕ) → used number es n ≡ true → is_some (given number begins es n) ≡ true
    used_given [] all n h = h
    used_given (e ∷ es) all n h =
        go (eqb (number e) n) h (and_parts (admitted field.Message (number e)) (is_some (begins e)) all.0).1 (used_given es all.1 n)
      where
        go : (a : Bool) → (a || used number es n) ≡ true → is_some (begins e) ≡ true → (used number es n ≡ true → is_some (given number begins es n) ≡ true)
            → is_some (cond a (begins e) (given number begins es n)) ≡ true
        go true u b f = b
        go false u b f = f u

-- What every accepted line passed.
message_free : (before : List Line) (m : Message) → first_reason (message_rules before m) ≡ None → some (same_number m) (messages_of before) ≡ false
message_free before m h = (all_passed (message_rules before m) h).0

accepted_fits : (before : List Line) (l : Line) → first_reason (line_rules before l) ≡ None → (fits l ≡ true) × (first_reason (table_rules before l) ≡ None)
accepted_fits before l h = go (in_turn before l) (fits l) h
  where
    go : (a b : Bool) → cond (not a) (Some Malformed) (cond (not b) (Some OutOfRange) (first_reason (table_rules before l))) ≡ None
        → (b ≡ true) × (first_reason (table_rules before l) ≡ None)
    go true true e = (refl, e)
    go true false e = let z : ◌≡◌ {A = ℕ} 0 1 = cc in absurd (omega arith)
    go false b e = let z : ◌≡◌ {A = ℕ} 0 1 = cc in absurd (omega arith)

-- No two messages of accepted lines have one number.
once_more : (ms : List Message) (m : Message) → some (same_number m) ms ≡ false → ((n : ℕ) → uses (λ o. o.number) ms n ≤ 1)
    → (n : ℕ) → uses (λ o. o.number) (ms ++ m ∷ []) n ≤ 1
once_more ms m free once n =
    ⊎_elim
    (λ same. let v = eqb-true m.number n same in
    let none : uses (λ o. o.number) ms n ≡ 0 = ap (uses (λ o. o.number) ms) (sym v) ∙ none_passes (same_number m) ms free in
    omega (arith, counts (eqb m.number n) same, tally_push (λ o. eqb o.number n) ms m))
    (λ other. omega (arith, counts_not (eqb m.number n) other, once n, tally_push (λ o. eqb o.number n) ms m))
    (cases_Bool (eqb m.number n))

abbrev Once : List Line → Type 0
Once ls = (n : ℕ) → uses (λ (m : Message). m.number) (messages_of ls) n ≤ 1

once_line : (done : List Line) (l : Line) → first_reason (line_rules done l) ≡ None → Once done → Once (done ++ l ∷ [])
once_line done (line.Bus g s l q) h once n = rw (messages_more done (line.Bus g s l q ∷ []), append-nil (messages_of done)) (once n)
once_line done (line.Node k a) h once n = rw (messages_more done (line.Node k a ∷ []), append-nil (messages_of done)) (once n)
once_line done (line.Periodic m t j) h once n =
    rw (messages_more done (line.Periodic m t j ∷ [])) (once_more (messages_of done) m (message_free done m (accepted_fits done (line.Periodic m t j) h).1) once n)
once_line done (line.Window m k w) h once n =
    rw (messages_more done (line.Window m k w ∷ [])) (once_more (messages_of done) m (message_free done m (accepted_fits done (line.Window m k w) h).1) once n)

once_all : (done ls : List Line) → AllAccepted done ls → Once done → Once (done ++ ls)
once_all done [] all once = subst Once (sym (append-nil done)) once
once_all done (l ∷ ls) all once = subst Once (append_assoc done (l ∷ []) ls) (once_all (done ++ l ∷ []) ls all.1 (once_line done l all.0 once))

-- Each message is of a P line or of a W line.
uses_parts : (ls : List Line) (n : ℕ) → uses (λ (m : Message). m.number) (messages_of ls) n
    ≡ uses (λ (m : PeriodicMessage). m.number) (periodic_of ls) n + uses (λ (m : WindowMessage). m.number) (window_of ls) n
uses_parts [] n = refl
uses_parts (line.Bus g s l q ∷ ls) n = uses_parts ls n
uses_parts (line.Node k a ∷ ls) n = uses_parts ls n
uses_parts (line.Periodic m t j ∷ ls) n = omega (arith, uses_parts ls n)
uses_parts (line.Window m k w ∷ ls) n = omega (arith, uses_parts ls n)

some_parts : (ls : List Line) (n : ℕ) → some (λ (m : Message). eqb m.number n) (messages_of ls)
    ≡ (used (λ (m : PeriodicMessage). m.number) (periodic_of ls) n || used (λ (m : WindowMessage). m.number) (window_of ls) n)
some_parts [] n = refl
some_parts (line.Bus g s l q ∷ ls) n = some_parts ls n
some_parts (line.Node k a ∷ ls) n = some_parts ls n
some_parts (line.Periodic m t j ∷ ls) n = ap (λ b. eqb m.number n || b) (some_parts ls n)
    ∙ sym (or_assoc (eqb m.number n) (used (λ (m : PeriodicMessage). m.number) (periodic_of ls) n) (used (λ (m : WindowMessage). m.number) (window_of ls) n))
some_parts (line.Window m k w ∷ ls) n = ap (λ b. eqb m.number n || b) (some_parts ls n)
    ∙ or_swap (eqb m.number n) (used (λ (m : PeriodicMessage). m.number) (periodic_of ls) n) (used (λ (m : WindowMessage). m.number) (window_of ls) n)

-- The figures of each are in range.
period_range : (m : Message) (t j : ℕ) → fits (line.Periodic m t j) ≡ true
    → InRange (λ (o : PeriodicMessage). o.number) first_nominal (record { number = m.number; period = t; jitter = j })
period_range m t j f = grind (arith, nat_tests)

window_range : (m : Message) (n w : ℕ) → fits (line.Window m n w) ≡ true
    → InRange (λ (o : WindowMessage). o.number) first_span (record { number = m.number; releases = n; window = w })
window_range m n w f = grind (arith, nat_tests)

all_periodic : (done ls : List Line) → AllAccepted done ls → AllByRecursion (InRange (λ (o : PeriodicMessage). o.number) first_nominal) (periodic_of ls)
all_periodic done [] all = tt
all_periodic done (line.Bus g s l q ∷ ls) all = all_periodic (done ++ line.Bus g s l q ∷ []) ls all.1
all_periodic done (line.Node k a ∷ ls) all = all_periodic (done ++ line.Node k a ∷ []) ls all.1
all_periodic done (line.Periodic m t j ∷ ls) all =
    (period_range m t j (accepted_fits done (line.Periodic m t j) all.0).0, all_periodic (done ++ line.Periodic m t j ∷ []) ls all.1)
all_periodic done (line.Window m k w ∷ ls) all = all_periodic (done ++ line.Window m k w ∷ []) ls all.1

all_window : (done ls : List Line) → AllAccepted done ls → AllByRecursion (InRange (λ (o : WindowMessage). o.number) first_span) (window_of ls)
all_window done [] all = tt
all_window done (line.Bus g s l q ∷ ls) all = all_window (done ++ line.Bus g s l q ∷ []) ls all.1
all_window done (line.Node k a ∷ ls) all = all_window (done ++ line.Node k a ∷ []) ls all.1
all_window done (line.Periodic m t j ∷ ls) all = all_window (done ++ line.Periodic m t j ∷ []) ls all.1
all_window done (line.Window m k w ∷ ls) all =
    (window_range m k w (accepted_fits done (line.Window m k w) all.0).0, all_window (done ++ line.Window m k w ∷ []) ls all.1)

module _ (ls : List Line) (all : AllAccepted [] ls) where
  once : Once ls
  once = once_all [] ls all (λ n. omega arith)

  pub periodic_right : (r : Refusal) → FirstWrong (λ (m : PeriodicMessage). m.number) first_nominal (periodic_of ls) r → ⊥
  periodic_right r w = never_wrong (λ m. m.number) first_nominal (periodic_of ls) (all_periodic [] ls all) (λ n. omega (arith, once n, uses_parts ls n)) r w

  pub window_right : (r : Refusal) → FirstWrong (λ (m : WindowMessage). m.number) first_span (window_of ls) r → ⊥
  window_right r w = never_wrong (λ m. m.number) first_span (window_of ls) (all_window [] ls all) (λ n. omega (arith, once n, uses_parts ls n)) r w

  -- No number is on both sides.
  pub never_shared : (n : ℕ) → is_some (given (λ (m : PeriodicMessage). m.number) first_nominal (periodic_of ls) n) ≡ true
      → is_some (given (λ (m : WindowMessage). m.number) first_span (window_of ls) n) ≡ true → ⊥
  never_shared n p w =
      omega (
        arith,
        once n,
        uses_parts ls n,
        used_once (λ m. m.number) (periodic_of ls) n (given_used (λ m. m.number) first_nominal (periodic_of ls) n p),
        used_once (λ m. m.number) (window_of ls) n (given_used (λ m. m.number) first_span (window_of ls) n w),
      )

  row_by_number : {X : Type 0} (f : ℕ → Option X) (n : ℕ) → n ≤ 128 → row_at (by_number f) n ≡ f n
  row_by_number f n h = get_or-map-range_with_len f 0 129 n n None (omega arith) (omega arith)

  -- The book lists every message of the lines.
  pub lists_message : (n : ℕ) → n ≤ 128 → some (λ (m : Message). eqb m.number n) (messages_of ls) ≡ true → table_book.lists (book_of_lines ls) n ≡ true
  unfolding book_of_lines
  lists_message n h there =
      let left = row_by_number (given (λ (m : PeriodicMessage). m.number) first_nominal (periodic_of ls)) n h in
      let right = row_by_number (given (λ (m : WindowMessage). m.number) first_span (window_of ls)) n h in
      ap (λ o. is_some o || is_some (row_at (by_number (given (λ (m : WindowMessage). m.number) first_span (window_of ls))) n)) left
      ∙ ap (λ o. is_some (given (λ (m : PeriodicMessage). m.number) first_nominal (periodic_of ls) n) || is_some o) right
      ∙ ⊎_elim
      (λ p. or_left _ _ (used_given (λ m. m.number) first_nominal (periodic_of ls) (all_periodic [] ls all) n p))
      (λ w. or_right _ _ (used_given (λ m. m.number) first_span (window_of ls) (all_window [] ls all) n w))
      (or_cases _ _ (sym (some_parts ls n) ∙ there))

-- The state of a book that was made of the lines' messages.
pub book_is : (ls : List Line) (l : PeriodicBook) (r : WindowBook)
    → ((n : ℕ) → row_at (nominal_rows l) n ≡ given (λ (m : PeriodicMessage). m.number) first_nominal (periodic_of ls) n)
    → ((n : ℕ) → row_at (span_rows r) n ≡ given (λ (m : WindowMessage). m.number) first_span (window_of ls) n) → (nominal_rows l, span_rows r) ≡ book_of_lines ls
unfolding book_of_lines
book_is ls l r left right =
    let lefts = fill_by_all (given (λ (m : PeriodicMessage). m.number) first_nominal (periodic_of ls)) (nominal_rows l) 129 None
    (length-map (vec_items l.places) (option_map nominal_of) ∙ sym l.places.ok.0 ∙ l.sized) (λ k h. left k) in
    let rights = fill_by_all (given (λ (m : WindowMessage). m.number) first_span (window_of ls)) (span_rows r) 129 None
    (length-map (vec_items r.places) (option_map span_of) ∙ sym r.places.ok.0 ∙ r.sized) (λ k h. right k) in
    λ i. (lefts i, rights i)

all_unmap : {X Y : Type 0} (f : X → Y) (P : Y → Type 0) (Q : X → Type 0) → ((x : X) → P (f x) → Q x) → (xs : List X) → AllByRecursion P (map f xs) → AllByRecursion Q xs
all_unmap f P Q h [] all = tt
all_unmap f P Q h (x ∷ xs) all = (h x all.0, all_unmap f P Q h xs all.1)

all_middle : {X : Type 0} (P : X → Type 0) (front : List X) (x : X) (back : List X) → AllByRecursion P (front ++ x ∷ back) → P x
all_middle P [] x back all = all.0
all_middle P (f ∷ fs) x back all = all_middle P fs x back all.1

-- Every message of a table is listed in its book.
pub listed_all : (ls : List Line) → AllAccepted [] ls → (entries : List Entry) → map entry_told entries ≡ in_order ls → AllByRecursion (Listed table_book (book_of_lines ls)) entries
listed_all ls all entries is =
    all_unmap entry_told (λ t. (t.message.number ≤ 128 → table_book.lists (book_of_lines ls) t.message.number ≡ true)) (Listed table_book (book_of_lines ls))
    (λ e h. h e.number_in.1) entries
    (rw is (all_put_all (λ t. (t.message.number ≤ 128 → table_book.lists (book_of_lines ls) t.message.number ≡ true)) told_up_to [] (told_of ls) tt
    (told_all (messages_of ls) (λ m t. t))))
  where
    told_all : (ms : List Message) → ((m : Message) → some (λ (o : Message). eqb o.number m.number) ms ≡ true → some (λ (o : Message). eqb o.number m.number) (messages_of ls) ≡ true)
        → AllByRecursion (λ (t : Told). t.message.number ≤ 128 → table_book.lists (book_of_lines ls) t.message.number ≡ true)
        (map (λ m. record { message = m; latest = unwrap_or (start_of ls m.node) 0 }) ms)
    told_all [] f = tt
    told_all (m ∷ ms) f = (
      λ h. lists_message ls all m.number h (f m (or_left (eqb m.number m.number) (some (λ (o : Message). eqb o.number m.number) ms) (eq-eqb m.number m.number refl))),
      told_all ms (λ o t. f o (or_right (eqb m.number o.number) (some (λ (x : Message). eqb x.number o.number) ms) t)),
    )

-- So no message of it is the first that is not listed.
pub never_unlisted : (ls : List Line) → AllAccepted [] ls → (entries : List Entry) → map entry_told entries ≡ in_order ls → (n : ℕ)
    → FirstUnlisted table_book (book_of_lines ls) entries n → ⊥
never_unlisted ls all entries is n u =
    both_ways (table_book.lists (book_of_lines ls) u.entry.number) u.here
    (all_middle (Listed table_book (book_of_lines ls)) u.front u.entry u.back (rw u.parts at (listed_all ls all entries is)))

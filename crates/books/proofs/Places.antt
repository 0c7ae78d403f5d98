-- What is read of rows, also after one of them is written, and a list of ends after a new one.
use Rattle.std.proofs.Common.{◌≡◌, ℕ, zero, suc, vec_items, ◌-◌, ◌<◌, ◌≤◌, false, cond, List, [], ◌∷◌, ◌++◌, length, take, drop, set, is_some, Some, None, Option, refl, sym, ap, ◌∙◌, arith}
use Rattle.std.specs.Prelude.{◌==◌, nat_lt, slice_index_or, slice_set}
use Rattle.std.specs.Option.{option_map}
use Rattle.std.proofs.lemmas.List.{get_or-map, get_or-set_same, get_or-set_other, length-map, length-drop, map-set}
use Rattle.std.proofs.lemmas.Bool.{le-ltb, eqb-true, eqb-false, cond_both}
use Rattle.books.specs.Rows.{Kind, SoundRows, row_at, rows_for, figure, row_book}
use Rattle.books.specs.Places.{same_there, rows_sound}
use Rattle.books.specs.declared.rows.RowBook.{RowBook}

pub none_there : {V X : Type 0} (f : V → X) (o : Option X) (v : Option V) → o ≡ option_map f v → false ≡ is_some v → is_some o ≡ false
none_there f o v e none = ap is_some e ∙ same_there f v ∙ sym none

-- a value is written at one place
pub row_set : {V X : Type 0} (f : V → X) (vs : List (Option V)) (m : ℕ) (o : Option V) → m < length vs
    → (k : ℕ) → row_at (rows_for f (slice_set vs m o)) k ≡ cond (m == k) (option_map f o) (row_at (rows_for f vs) k)
row_set f vs m o l k =
    let within : m < length (rows_for f vs) = simp length-map l in
    ap (λ rows. row_at rows k) (map-set (option_map f) vs m o)
    ∙ cond_both (m == k) (option_map f o) (row_at (rows_for f vs) k) (λ x. row_at (slice_set (rows_for f vs) m (option_map f o)) k ≡ x)
    (λ e. rw (← eqb-true m k e) (get_or-set_same (rows_for f vs) m (option_map f o) None within))
    (λ e. get_or-set_other (rows_for f vs) m k (option_map f o) None (λ i. eqb-false m k e (sym i)))

-- a row that is written is the row after the release
pub row_written : {V : Type 0} (k : Kind) (f : V → k.Row) (vs : List (Option V)) (m t : ℕ) (v w : V)
    → row_at (rows_for f vs) m ≡ Some (f v) → f w ≡ k.after (f v) t → rows_for f (slice_set vs m (Some w)) ≡ (row_book k).after (rows_for f vs) m t
row_written k f vs m t v w here next =
    map-set (option_map f) vs m (Some w) ∙ ap (set (rows_for f vs) m) (ap Some next ∙ sym (ap (option_map (λ x. k.after x t)) here))

pub row_due : {X : Type 0} (e : X → ℕ) (rows : List (Option X)) (m t : ℕ) (x : X) → row_at rows m ≡ Some x → e x ≤ t → nat_lt t (figure e rows m) ≡ false
row_due e rows m t x here due = le-ltb t (figure e rows m) (rw here due)

-- a list turned by one place, with another first
turned : (xs ys : List ℕ) (v : ℕ) → length xs ≡ 1 → slice_set (xs ++ ys) 0 v ≡ v ∷ ys
turned [] ys v e = absurd (omega arith)
turned (x ∷ []) ys v e = refl
turned (x ∷ y ∷ xs) ys v e = absurd (omega arith)

pub ends_pushed : (ends rotated : List ℕ) (v : ℕ) → length ends ≡ 16 → rotated ≡ drop (length ends - 1) ends ++ take (length ends - 1) ends
    → slice_set rotated 0 v ≡ v ∷ take 15 ends
ends_pushed ends rotated v sixteen e =
    let one : length (drop 15 ends) ≡ 1 = simp length-drop (omega arith) in
    rw (e, sixteen) (turned (drop 15 ends) (take 15 ends) v one)

-- what is read at a place, and past all places that hold nothing
pub row_read : {V X : Type 0} (f : V → X) (vs : List (Option V)) (m : ℕ) (o : Option V)
    → m < length vs → o ≡ slice_index_or vs m o → row_at (rows_for f vs) m ≡ option_map f o
row_read f vs m o l e = get_or-map (option_map f) vs m o None l ∙ ap (option_map f) (sym e)

pub none_pushed : {V : Type 0} (vs : List (Option V)) → ((n : ℕ) → slice_index_or vs n None ≡ None) → (n : ℕ) → slice_index_or (vs ++ None ∷ []) n None ≡ None
none_pushed [] h zero = refl
none_pushed [] h (suc n) = refl
none_pushed (v ∷ vs) h zero = h 0
none_pushed (v ∷ vs) h (suc n) = none_pushed vs (λ k. h (suc k)) n

-- the rows of a book are sound
pub table_sound : {V : Type 0} (k : Kind) (f : V → k.Row) → ((v : V) → k.Sound (f v)) → (t : RowBook V) → SoundRows k (rows_for f (vec_items t.places))
table_sound k f ok t = rows_sound k f ok (vec_items t.places) (omega arith) t.spare

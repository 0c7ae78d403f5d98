-- The rows that a list of values stands for: what is read at a place, and when they are sound.
use Rattle.std.specs.Prelude.{◌≡◌, ℕ, ◌+◌, ◌≤◌, false, List, map, length, is_some, Some, None, Option, slice_index_or, refl}
use Rattle.std.proofs.Common.{sym, ap, subst, ◌∙◌, ⊎_elim, arith}
use Rattle.std.specs.Option.{option_map}
use Rattle.std.proofs.lemmas.List.{get_or-map, get_or_past, length-map}
use Rattle.std.proofs.lemmas.Bool.{cases_lt, both_ways}
use Rattle.fields.specs.Limits.{highest}
use Rattle.fields.specs.declared.limits.Field.TheVariants.{Message}
use Rattle.books.specs.Rows.{Kind, SoundRows, row_at, rows_for}

pub row_past : {V X : Type 0} (f : V → X) (vs : List (Option V)) (m : ℕ) → length vs ≤ m → row_at (rows_for f vs) m ≡ None
row_past f vs m l = get_or_past (map (option_map f) vs) m None (simp length-map l)

pub row_at_place : {V X : Type 0} (f : V → X) (vs : List (Option V)) (m : ℕ) → row_at (rows_for f vs) m ≡ option_map f (slice_index_or vs m None)
row_at_place f vs m = ⊎_elim
    (λ l. get_or-map (option_map f) vs m None None l)
    (λ p. row_past f vs m p ∙ ap (option_map f) (sym (get_or_past vs m None p)))
    (cases_lt m (length vs))

pub same_there : {V X : Type 0} (f : V → X) (o : Option V) → is_some (option_map f o) ≡ is_some o
same_there f None = refl
same_there f (Some v) = refl

module _ {V : Type 0} (k : Kind) (f : V → k.Row) (ok : (v : V) → k.Sound (f v)) where
  sound_of : (o : Option V) (x : k.Row) → option_map f o ≡ Some x → k.Sound x
  sound_of None x e = let z : ◌≡◌ {A = ℕ} 0 1 = cc in absurd (omega arith)
  sound_of (Some v) x e = let same : f v ≡ x = cc in subst k.Sound same (ok v)

  -- messages in range only have rows, since place 0 is spare and the places end at the highest number
  pub rows_sound : (vs : List (Option V)) → length vs ≤ highest Message + 1 → is_some (slice_index_or vs 0 None) ≡ false → SoundRows k (rows_for f vs)
  rows_sound vs size spare = record {
    in_range = λ m e. (
      ⊎_elim (λ l. l) (λ z. let zero : m ≡ 0 = omega arith in
          absurd (both_ways (is_some (row_at (rows_for f vs) m)) (rw (zero, row_at_place f vs 0) (same_there f (slice_index_or vs 0 None) ∙ spare)) e)) (cases_lt 0 m),
      ⊎_elim (λ l. omega arith) (λ past. absurd (both_ways (is_some (row_at (rows_for f vs) m)) (ap is_some (row_past f vs m past)) e)) (cases_lt m (length vs)),
    );
    row_sound = λ m x e. sound_of (slice_index_or vs m None) x (sym (row_at_place f vs m) ∙ e);
  }

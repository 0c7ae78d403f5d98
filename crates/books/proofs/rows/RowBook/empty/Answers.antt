use Rattle.std.proofs.Common.{◌≡◌, ℕ, ◌+◌, replicate, None, Option, vec_items, ap, ◌∙◌, rules, ⊎_elim, get_or}
use Rattle.std.specs.Option.{option_map}
use Rattle.std.proofs.lemmas.List.{get_or-replicate, get_or_past, length-replicate}
use Rattle.std.proofs.lemmas.Bool.{cases_lt}
use Rattle.books.specs.Places.{row_at_place}
use Rattle.books.proofs.rows.RowBook.empty.Goals as goal

all_none : {X : Type 0} (n k : ℕ) → ◌≡◌ {A = Option X} (get_or (replicate n None) k None) None
all_none n k = ⊎_elim (λ l. get_or-replicate n k None None l) (λ p. get_or_past (replicate n None) k None (simp length-replicate p)) (cases_lt k n)

pub returns : goal.returns
returns g c n =
    let size = c.limits_of.result.high + 1 in
    let none : vec_items c.in_ok-places.places ≡ replicate size None = c.in_ok-places.ensures.items_if_clones_equal (λ y p. search rules) in
    row_at_place g.R.MessageRow.figures (vec_items c.in_ok-places.places) n
    ∙ rw none (ap (option_map g.R.MessageRow.figures) (all_none size n))

-- The tables of a bench: what they say at every place is what the rows say.
use Rattle.std.proofs.Common.{◌≡◌, ℕ, ◌≤◌, Bool, false, cond, eqb, List, [], ◌∷◌, map, get_or, Some, None, sym, refl, ap, ◌∙◌, ⊎_elim, arith}
use Rattle.std.specs.List.{find, range_with_len}
use Rattle.std.proofs.lemmas.List.FromFn.{get_or-map-range_with_len, length-map-range_with_len}
use Rattle.std.proofs.lemmas.List.{get_or_past}
use Rattle.std.proofs.lemmas.Bool.{cases_lt, ne_eqb}
use Rattle.delay.specs.declared.entry.Row.{Row}
use Rattle.slots.specs.Rows.{size_of, size_in, last_start_of, latest_in}

-- no row passes a test that each fails
first_none : (p : Row → Bool) (rows : List Row) → ((r : Row) → p r ≡ false) → find p rows ≡ None
first_none p [] fails = refl
first_none p (r ∷ rs) fails = ap (λ b. cond b (Some r) (find p rs)) (fails r) ∙ first_none p rs fails

counted : (f : ℕ → ℕ) (n d i : ℕ) → (n ≤ i → f i ≡ d) → get_or (map f (range_with_len 0 n)) i d ≡ f i
counted f n d i past =
    ⊎_elim (λ l. get_or-map-range_with_len f 0 n i i d l (omega arith))
    (λ l. get_or_past (map f (range_with_len 0 n)) i d (omega (arith, l, length-map-range_with_len f 0 n)) ∙ sym (past l)) (cases_lt i n)

pub start_read : (rows : List Row) (table : List ℕ) → table ≡ map (last_start_of rows) (range_with_len 0 2048) → (f : ℕ) → get_or table f 0 ≡ last_start_of rows f
start_read rows table is f =
    ap (λ t. get_or t f 0) is
    ∙ counted (last_start_of rows) 2048 0 f
    (λ past. ap latest_in (first_none (λ r. eqb r.entry.frame f) rows (λ r. ne_eqb r.entry.frame f
    (λ e. omega (arith, e, past, r.entry.frame_in.1)))))

pub size_read : (rows : List Row) (table : List ℕ) → table ≡ map (size_of rows) (range_with_len 0 129) → (m : ℕ) → get_or table m 1 ≡ size_of rows m
size_read rows table is m =
    ap (λ t. get_or t m 1) is
    ∙ counted (size_of rows) 129 1 m
    (λ past. ap size_in (first_none (λ r. eqb r.entry.number m) rows (λ r. ne_eqb r.entry.number m
    (λ e. omega (arith, e, past, r.entry.number_in.1)))))

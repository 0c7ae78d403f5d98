-- Places handed over by frame: those that none are given, the sums so far, and a table of them.
use Rattle.std.specs.Prelude.{◌≡◌, ℕ, zero, suc, ◌+◌, ◌<◌, ◌≤◌, ◌⊎◌, List, [], ◌∷◌, ◌++◌, length, take, sum, slice_index, refl}
use Rattle.std.proofs.Common.{sym, ap, subst, ◌∙◌, ⊎_elim, add-zero, arith}
use Rattle.std.proofs.lemmas.List.{get_or_append_left, get_or_past, get_or_push, take_all}
use Rattle.std.proofs.lemmas.List.Sums.{sum_by-cons, sum_by_more, sum_by-take-le}
use Rattle.std.proofs.lemmas.Bool.{cases_lt}
use Rattle.fields.specs.Limits.{highest}
use Rattle.fields.specs.declared.limits.Field.TheVariants.{Frame}
use Rattle.fields.specs.declared.refusal.Place.TheVariants as place
use Rattle.fields.specs.declared.refusal.Reason.TheVariants.{OutOfRange}
use Rattle.buffers.specs.Places.{most_places, places_given, Fits, FirstUnfit}

pub none_given : (given : List ℕ) (f : ℕ) → (f ≡ 0) ⊎ (length given < f) → 0 ≡ places_given given f
none_given given zero way = refl
none_given given (suc f) way = sym (get_or_past given f 0 (⊎_elim (λ z. absurd (omega arith)) (λ l. omega arith) way))

-- a list that reads as another does, as far as it goes
front_sum : (xs ys : List ℕ) → ((k : ℕ) → k < length xs → slice_index xs k ≡ slice_index ys k) → sum xs ≤ sum ys
front_sum [] ys same = omega arith
front_sum (x ∷ xs) [] same = omega (arith, same 0 (omega arith), front_sum xs [] (λ k l. same (suc k) (omega arith)), sum_by-cons (λ x. x) x xs)
front_sum (x ∷ xs) (y ∷ ys) same =
    omega (arith, same 0 (omega arith), front_sum xs ys (λ k l. same (suc k) (omega arith)), sum_by-cons (λ x. x) x xs, sum_by-cons (λ x. x) y ys)

-- frame 0 adds nothing
pub table_sum : (given table : List ℕ) → ((f : ℕ) → f < length table → slice_index table f ≡ places_given given f) → sum table ≤ sum given
table_sum given table same = omega (arith, front_sum table (0 ∷ given) same, sum_by-cons (λ x. x) 0 given)

pub fits_sum : (given : List ℕ) → Fits given (length given) → sum given ≤ most_places
fits_sum given fits = rw (take_all (length given) given (omega arith)) at fits.total

-- one frame more fits, or is the first that does not
pub fits_more : (given : List ℕ) (i : ℕ) → ((k : ℕ) → k ≤ i → Fits given k) → i + 1 ≤ highest Frame → sum (take (i + 1) given) ≤ most_places
    → (k : ℕ) → k ≤ i + 1 → Fits given k
fits_more given i before frame total k l = ⊎_elim
    (λ lower. before k (omega arith))
    (λ there. let same : i + 1 ≡ k = omega arith in subst (Fits given) same (record { frame = frame; total = total }))
    (cases_lt k (i + 1))

pub unfit_there : (given : List ℕ) (i : ℕ) → ((k : ℕ) → k ≤ i → Fits given k) → i < length given
    → (highest Frame < i + 1) ⊎ (most_places < sum (take (i + 1) given))
    → FirstUnfit given (record { reason = OutOfRange; place = place.Buffer; concerns = i + 1 })
unfit_there given i before l way = record {
  reason = refl;
  place = refl;
  named = omega arith;
  unfit = λ fits. ⊎_elim (λ frame. omega arith) (λ over. omega arith) way;
  before = λ k below. before k (omega arith);
}

-- the sum of a front, one element on or past the end
pub sum_more : (xs : List ℕ) (i : ℕ) → sum (take (i + 1) xs) ≡ sum (take i xs) + slice_index xs i
sum_more xs i = ⊎_elim (λ l. sum_by_more (λ x. x) xs i 0 l)
    (λ past. rw (take_all (i + 1) xs (omega arith), take_all i xs past, get_or_past xs i 0 past) (sym (add-zero (sum xs)))) (cases_lt i (length xs))

-- frame 0 adds nothing
pub sum_given : (given : List ℕ) (n : ℕ) → sum (take n (0 ∷ given)) ≤ sum given
sum_given given n = omega (arith, sum_by-take-le (λ x. x) (0 ∷ given) n, sum_by-cons (λ x. x) 0 given)

-- one more number at the end
pub pushed_more : (given table : List ℕ) (n : ℕ) (i : ℕ) → length table ≡ i → n ≡ places_given given i
    → ((f : ℕ) → f < i → slice_index table f ≡ places_given given f) → (f : ℕ) → f < i + 1 → slice_index (table ++ n ∷ []) f ≡ places_given given f
pushed_more given table n i size here before f l = ⊎_elim
    (λ lower. get_or_append_left table (n ∷ []) 0 f (omega arith) ∙ before f lower)
    (λ there. let same : i ≡ f = omega arith in get_or_push table n 0 f (size ∙ same) ∙ here ∙ ap (places_given given) same)
    (cases_lt f i)

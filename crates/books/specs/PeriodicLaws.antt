-- Periodic rows are lawful.
use Rattle.std.specs.Prelude.{◌≡◌, ℕ, zero, suc, ◌+◌, ◌*◌, ◌<◌, ◌≤◌, Bool, true, false, cond, ◌&&◌, ◌⊎◌, List, Some, None, ◌==◌, refl}
use Rattle.std.proofs.Common.{ap, ◌∙◌, inl, inr, ⊎_elim, add-mul, zero-mul, arith}
use Rattle.std.specs.Option.{option_map, unwrap_or}
use Rattle.std.proofs.lemmas.Bool.{and_parts, leb-true, ltb-true, eqb-true, eqb-false, cond_both, cases_lt}
use Rattle.fields.specs.Limits.{admitted}
use Rattle.fields.specs.declared.limits.Field.TheVariants.{Period, Jitter}
use Rattle.books.specs.Book.{tally, largest}
use Rattle.books.specs.Rows.{RowLaws, Taken, inside, rounded_up}
use Rattle.books.specs.declared.periodic.PeriodicMessage.{PeriodicMessage}
use Rattle.books.specs.declared.periodic.row.PeriodicRow.{PeriodicRow}
use Rattle.books.specs.Periodic.{Nominal, SoundNominal, periodic, nominal_of, first_nominal}
use Rattle.books.specs.Quotients.{up_some, up_grows, up_bound, up_more}

-- Of n releases in a stretch of a length, since the row `first`, with the row `x` after all: nominal times lie a period
-- apart, so the next lies n periods after the stretch begins, and all but the last fit into the length and the jitter.
record Spaced (first x : Nominal) (from len n : ℕ) : Type 0 where
  same_period : x.period ≡ first.period
  same_jitter : x.jitter ≡ first.jitter
  far : 0 < n → from + n * first.period ≤ x.next
  few : (k : ℕ) → n ≡ suc k → k * first.period < len + first.jitter
  some_length : 0 < n → 0 < len

spaced_step : (first x : Nominal) (from len n t : ℕ) → Spaced first x from len n → periodic.earliest x ≤ t
    → (b : Bool) → inside from len t ≡ b → Spaced first (periodic.after x t) from len (cond b 1 0 + n)
spaced_step first x from len n t s due true e =
    let parts = and_parts _ _ e in
    let begun = leb-true from t parts.0 in
    let ended = ltb-true t (from + len) parts.1 in
    let one_more = add-mul 1 n first.period in
    let periods : (0 < n → from + n * first.period ≤ x.next) × (n ≡ 0 → n * first.period ≡ 0) = (s.far, λ z. ap (λ k. k * first.period) z ∙ zero-mul first.period) in
    record {
      same_period = s.same_period;
      same_jitter = s.same_jitter;
      far = λ _. ⊎_elim (λ (l : 0 < n). let f = periods.0 l in omega arith) (λ (z : n ≤ 0). let f = periods.1 (omega arith) in omega arith) (cases_lt 0 n);
      few = λ k h. let same : k ≡ n = omega arith in
          rw same (⊎_elim (λ (l : 0 < n). let f = periods.0 l in omega arith) (λ (z : n ≤ 0). let f = periods.1 (omega arith) in omega arith) (cases_lt 0 n));
      some_length = λ _. omega arith;
    }
spaced_step first x from len n t s due false e = record {
  same_period = s.same_period;
  same_jitter = s.same_jitter;
  far = λ h. let f = s.far in omega arith;
  few = λ k h. s.few k (omega arith);
  some_length = λ h. s.some_length (omega arith);
}

spaced : {first : Nominal} {ts : List ℕ} {x : Nominal} (from len : ℕ) → Taken periodic first ts x → Spaced first x from len (tally (inside from len) ts)
spaced from len Taken.none = record {
  same_period = refl;
  same_jitter = refl;
  far = λ h. absurd (omega arith);
  few = λ k h. absurd (omega arith);
  some_length = λ h. absurd (omega arith);
}
spaced {first} from len (Taken.one_more {ts = ts} {x = x} {t = t} before range due) =
    spaced_step first x from len (tally (inside from len) ts) t (spaced from len before) due (inside from len t) refl

-- the count of a length above 0
count_at : (x : Nominal) (len : ℕ) → 0 < len → periodic.count x len ≡ rounded_up (len + x.jitter) x.period
count_at x len l = cond_both (len == 0) 0 (rounded_up (len + x.jitter) x.period) (λ c. c ≡ rounded_up (len + x.jitter) x.period)
    (λ e. let z = eqb-true len 0 e in absurd (omega arith)) (λ _. refl)

none_or_more : (n : ℕ) → (n ≡ 0) ⊎ ((k : ℕ) × (n ≡ suc k))
none_or_more zero = inl refl
none_or_more (suc n) = inr (n, refl)

all_counted : (first x : Nominal) (ts : List ℕ) → SoundNominal first → Taken periodic first ts x
    → (from len : ℕ) → tally (inside from len) ts ≤ periodic.count first len
all_counted first x ts sound acc from len =
    let n = tally (inside from len) ts in
    let s = spaced from len acc in
    ⊎_elim
    (λ (z : n ≡ 0). omega arith)
    (λ ((k, e) : (k : ℕ) × (n ≡ suc k)).
    let up = up_more (len + first.jitter) first.period k sound.period.0 (s.few k e) in
    rw (count_at first len (s.some_length (omega arith))) (omega arith))
    (none_or_more n)

count_grows : (x : Nominal) (len more : ℕ) → SoundNominal x → len ≤ more → periodic.count x len ≤ periodic.count x more
count_grows x len more sound l = cond_both (len == 0) 0 (rounded_up (len + x.jitter) x.period) (λ c. c ≤ periodic.count x more)
    (λ _. omega arith)
    (λ e. let some : 0 < len = omega (arith, eqb-false len 0 e) in
    rw (count_at x more (omega arith)) (up_grows (len + x.jitter) (more + x.jitter) x.period sound.period.0 (omega arith)))

count_bound : (x : Nominal) (len : ℕ) → SoundNominal x → periodic.count x len ≤ 16 * (len + largest)
count_bound x len sound = cond_both (len == 0) 0 (rounded_up (len + x.jitter) x.period) (λ c. c ≤ 16 * (len + largest))
    (λ _. omega arith)
    (λ _. let up = up_bound (len + x.jitter) x.period sound.period.0 in omega arith)

pub periodic_lawful : RowLaws periodic
periodic_lawful = record {
  next = λ x t sound range due. omega arith;
  stays_sound = λ x t sound range due. record { period = sound.period; jitter = sound.jitter; last = range; next = omega arith };
  same_rest = λ x t. refl;
  same_jitter = λ x t. refl;
  same_count = λ x t len. refl;
  count_none = λ x sound. refl;
  count_some = λ x len sound l. rw (count_at x len l) (up_some (len + x.jitter) x.period sound.period.0 (omega arith));
  count_grows = count_grows;
  count_bound = count_bound;
  rest_bound = λ x sound. sound.period.1;
  jitter_bound = λ x sound. sound.jitter.1;
  counted = all_counted;
}

pub nominal_sound : (x : PeriodicRow) → SoundNominal (nominal_of x)
nominal_sound x = record { period = x.figures.0; jitter = x.figures.1; last = x.figures.2; next = x.soon }

pub first_at_once : (m : PeriodicMessage) → unwrap_or (option_map periodic.earliest (first_nominal m)) 0 ≡ 0
first_at_once m =
    cond_both (admitted Period m.period && admitted Jitter m.jitter) (Some (record { period = m.period; jitter = m.jitter; last = 0; next = 0 })) None
    (λ o. unwrap_or (option_map periodic.earliest o) 0 ≡ 0) (λ _. omega arith) (λ _. refl)

-- Window rows are lawful.
use Rattle.std.specs.Prelude.{◌≡◌, ℕ, zero, suc, ◌+◌, ◌-◌, ◌*◌, ◌<◌, ◌≤◌, Bool, true, false, cond, ◌&&◌, List, ◌∷◌, length, take, replicate, Some, None, slice_index, refl}
use Rattle.std.proofs.Common.{⊎_elim, suc-mul, mul-suc, mul-zero, zero-mul, mul-le-mul, mul-le-mul_left, arith}
use Rattle.std.specs.Option.{option_map, unwrap_or}
use Rattle.std.proofs.lemmas.List.{get_or-take, get_or_past, length-take}
use Rattle.std.proofs.lemmas.Bool.{and_parts, leb-true, ltb-true, cond_both, cases_lt}
use Rattle.fields.specs.Limits.{admitted}
use Rattle.fields.specs.declared.limits.Field.TheVariants.{Releases, Window}
use Rattle.books.specs.Book.{tally}
use Rattle.books.specs.Rows.{RowLaws, Taken, inside, rounded_up}
use Rattle.books.specs.Window.{Span, SoundSpan, windowed, span_of, first_span}
use Rattle.books.specs.declared.window.WindowMessage.{WindowMessage}
use Rattle.books.specs.declared.window.row.WindowRow.{WindowRow}
use Rattle.books.specs.Quotients.{up_covers, up_some, up_grows, up_bound}
use Rattle.books.specs.Tallies.{tally_split, tally_longer, tally_none}

-- a front of a list is no higher than the list
front_below : (n : ℕ) (ends : List ℕ) (b : ℕ) → ((j : ℕ) → slice_index ends j ≤ b) → (k : ℕ) → slice_index (take n ends) k ≤ b
front_below n ends b all k = ⊎_elim
    (λ (l : k < n). rw (get_or-take n ends k 0 l) (all k))
    (λ (p : n ≤ k). let past : length (take n ends) ≤ k = simp length-take (omega arith) in rw (get_or_past (take n ends) k 0 past) (omega arith))
    (cases_lt k n)

-- nor with one put before it that is not higher
pub pushed_below : (n : ℕ) (v : ℕ) (ends : List ℕ) (b : ℕ) → v ≤ b → ((j : ℕ) → slice_index ends j ≤ b) → (k : ℕ) → slice_index (v ∷ take n ends) k ≤ b
pushed_below n v ends b l all zero = l
pushed_below n v ends b l all (suc k) = front_below n ends b all k

-- Of n releases in a window that begins at a time, since the row `first`, with the row `x` after all: the windows that
-- they began end after this one does, and there are no more than the window may hold.
record Held (first x : Span) (from n : ℕ) : Type 0 where
  same_releases : x.releases ≡ first.releases
  same_window : x.window ≡ first.window
  begun : 0 < n → from ≤ x.last
  over : (j : ℕ) → j < n → j < 16 → from + first.window ≤ slice_index x.ends j
  few : n ≤ first.releases

pushed_over : (v b n : ℕ) (ends : List ℕ) → b ≤ v → ((j : ℕ) → j < n → j < 16 → b ≤ slice_index ends j) → (j : ℕ) → j < 1 + n → j < 16 → b ≤ slice_index (v ∷ take 15 ends) j
pushed_over v b n ends l all zero below small = l
pushed_over v b n ends l all (suc j) below small = rw (get_or-take 15 ends j 0 (omega arith)) (all j (omega arith) (omega arith))

held_step : (first x : Span) (from n t : ℕ) → SoundSpan first → Held first x from n → windowed.earliest x ≤ t
    → (b : Bool) → inside from first.window t ≡ b → Held first (windowed.after x t) from (cond b 1 0 + n)
held_step first x from n t sound s due true e =
    let parts = and_parts _ _ e in
    let begun = leb-true from t parts.0 in
    let ended = ltb-true t (from + first.window) parts.1 in
    let turn = rw s.same_releases at due in
    record {
      same_releases = s.same_releases;
      same_window = s.same_window;
      begun = λ _. begun;
      over = pushed_over (t + x.window) (from + first.window) n x.ends (let w = s.same_window in omega arith) s.over;
      few = ⊎_elim
          (λ (l : n < first.releases). omega arith)
          (λ (h : first.releases ≤ n). let o = s.over (first.releases - 1) (omega arith) (omega arith) in absurd (omega arith))
          (cases_lt n first.releases);
    }
held_step first x from n t sound s due false e = record {
  same_releases = s.same_releases;
  same_window = s.same_window;
  begun = λ h. let b = s.begun (omega arith) in omega arith;
  over = λ j below small.
      let b = s.begun (omega arith) in
      pushed_over (t + x.window) (from + first.window) n x.ends (let w = s.same_window in omega arith) s.over j (omega arith) small;
  few = let f = s.few in omega arith;
}

held : {first : Span} {ts : List ℕ} {x : Span} (from : ℕ) → SoundSpan first → Taken windowed first ts x → Held first x from (tally (inside from first.window) ts)
held from sound Taken.none = record {
  same_releases = refl;
  same_window = refl;
  begun = λ h. absurd (omega arith);
  over = λ j h. absurd (omega arith);
  few = omega arith;
}
held {first} from sound (Taken.one_more {ts = ts} {x = x} {t = t} before range due) =
    held_step first x from (tally (inside from first.window) ts) t sound (held from sound before) due (inside from first.window t) refl

-- so many windows, one after the other
windows_held : {first : Span} {ts : List ℕ} {x : Span} → SoundSpan first → Taken windowed first ts x
    → (from q : ℕ) → tally (inside from (q * first.window)) ts ≤ first.releases * q
windows_held {first} {ts} sound taken from zero = rw (zero-mul first.window) (let n = tally_none from ts in omega arith)
windows_held {first} {ts} sound taken from (suc q) =
    let w = first.window in
    let before = windows_held sound taken from q in
    let one = (held (from + q * w) sound taken).few in
    let both = tally_split from (q * w) w ts in
    rw (suc-mul q w, mul-suc first.releases q) (omega arith)

all_counted : (first x : Span) (ts : List ℕ) → SoundSpan first → Taken windowed first ts x
    → (from len : ℕ) → tally (inside from len) ts ≤ windowed.count first len
all_counted first x ts sound taken from len =
    let covered = up_covers len first.window sound.window.0 in
    let longer = tally_longer from len (rounded_up len first.window * first.window) covered ts in
    let held = windows_held sound taken from (rounded_up len first.window) in
    omega arith

pub windowed_lawful : RowLaws windowed
windowed_lawful = record {
  next = λ x t sound range due.
      let below = pushed_below 15 (t + x.window) x.ends (t + x.window) (omega arith) (λ j. let e = sound.ends j in omega arith) (x.releases - 1) in
      (omega arith, omega arith);
  stays_sound = λ x t sound range due. record {
    releases = sound.releases;
    window = sound.window;
    last = range;
    ends = pushed_below 15 (t + x.window) x.ends (t + x.window) (omega arith) (λ j. let e = sound.ends j in omega arith);
  };
  same_rest = λ x t. refl;
  same_jitter = λ x t. refl;
  same_count = λ x t len. refl;
  count_none = λ x sound.
      let none : rounded_up 0 x.window ≡ 0 = let up = up_bound 0 x.window sound.window.0 in omega arith in
      rw none (mul-zero x.releases);
  count_some = λ x len sound l. mul-le-mul sound.releases.0 (up_some len x.window sound.window.0 l);
  count_grows = λ x len more sound l. mul-le-mul_left x.releases (up_grows len more x.window sound.window.0 l);
  count_bound = λ x len sound.
      let up = up_bound len x.window sound.window.0 in
      let p = mul-le-mul sound.releases.1 up in omega arith;
  rest_bound = λ x sound. sound.window.1;
  jitter_bound = λ x sound. omega arith;
  counted = all_counted;
}

pub span_sound : (x : WindowRow) → SoundSpan (span_of x)
span_sound x = record { releases = x.figures.0; window = x.figures.1; last = x.figures.2; ends = x.near }

get_d_zeros : (n k : ℕ) → ◌≡◌ {A = ℕ} (slice_index (replicate n 0) k) 0
get_d_zeros zero k = refl
get_d_zeros (suc n) zero = refl
get_d_zeros (suc n) (suc k) = get_d_zeros n k

pub first_at_once : (m : WindowMessage) → unwrap_or (option_map windowed.earliest (first_span m)) 0 ≡ 0
first_at_once m =
    cond_both (admitted Releases m.releases && admitted Window m.window) (Some (record { releases = m.releases; window = m.window; last = 0; ends = replicate 16 0 })) None
    (λ o. unwrap_or (option_map windowed.earliest o) 0 ≡ 0) (λ _. let none = get_d_zeros 16 (m.releases - 1) in omega arith) (λ _. refl)

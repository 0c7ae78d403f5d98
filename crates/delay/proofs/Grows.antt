-- What a message needs never falls as it waits longer, so a climb from below passes over no delay.
use Rattle.std.proofs.Common.{◌≡◌, ℕ, ◌+◌, ◌-◌, ◌/◌, ◌<◌, ◌≤◌, Bool, true, false, cond, List, [], ◌∷◌, ap, mul-le-mul_right, mul-le-mul_left, div-mul-le_self, arith}
use Rattle.std.specs.List.{AllByRecursion}
use Rattle.books.specs.Book.{Book, Lawful}
use Rattle.std.proofs.lemmas.Nat.{le-div}
use Rattle.delay.specs.Delay.{total, room, lower, more_urgent, share_of_lower, share_of_urgent, lower_load, urgent_load, blocked_cycles, needed, Meets, ListedRow, NeverFalls, OneDelay}
use Rattle.delay.specs.declared.bus.Bus.{Bus}
use Rattle.delay.specs.declared.entry.Entry.{Entry}
use Rattle.delay.specs.declared.entry.Row.{Row}

cond_grows : (b : Bool) (x y : ℕ) → x ≤ y → cond b x 0 ≤ cond b y 0
cond_grows true x y h = h
cond_grows false x y h = omega arith

total_grows : {X : Type 0} (P : X → Type 0) (f g : X → ℕ) → ((x : X) → P x → f x ≤ g x) → (xs : List X) → AllByRecursion P xs → total f xs ≤ total g xs
total_grows P f g h [] all = omega arith
total_grows P f g h (x ∷ xs) all = omega (arith, h x all.0, total_grows P f g h xs all.1)

div_grows : (m n k : ℕ) → 0 < k → m ≤ n → m / k ≤ n / k
div_grows m n k p h = le-div (m / k) n k p (omega (arith, div-mul-le_self m k))

module _ (bus : Bus) (lists : ℕ → Bool) (count : ℕ → ℕ → ℕ)
    (grows : (m len more : ℕ) → lists m ≡ true → len ≤ more → count m len ≤ count m more) (rows : List Row) (i : Entry)
    (own : lists i.number ≡ true) (listed : AllByRecursion (ListedRow lists) rows) where
  lower_grows : (d e : ℕ) → d ≤ e → lower_load bus count rows i d ≤ lower_load bus count rows i e
  unfolding lower_load
  lower_grows d e h =
      total_grows (ListedRow lists) (share_of_lower bus count i d) (share_of_lower bus count i e)
      (λ j l. cond_grows (lower i j) _ _ (mul-le-mul_left (j.entry.size - 1) (grows j.entry.number _ _ l (omega arith)))) rows listed

  urgent_grows : (d e : ℕ) → d ≤ e → urgent_load count rows i d ≤ urgent_load count rows i e
  unfolding urgent_load
  urgent_grows d e h =
      total_grows (ListedRow lists) (share_of_urgent count i d) (share_of_urgent count i e)
      (λ j l. cond_grows (more_urgent i j) _ _ (grows j.entry.number _ _ l (omega arith))) rows listed

  blocked_grows : (d e : ℕ) → d ≤ e → blocked_cycles bus count rows i d ≤ blocked_cycles bus count rows i e
  blocked_grows d e h =
      omega (
        arith,
        div_grows (lower_load bus count rows i d) (lower_load bus count rows i e) (room i) (omega arith) (lower_grows d e h),
        urgent_grows d e h,
        grows i.number d e own h,
      )

  pub needed_grows : (d e : ℕ) → d ≤ e → needed bus count rows i d ≤ needed bus count rows i e
  needed_grows d e h =
      omega (arith, mul-le-mul_right {m = blocked_cycles bus count rows i d + 1} {n = blocked_cycles bus count rows i e + 1} bus.cycle (omega (arith, blocked_grows d e h)))

  -- No delay lies between a waiting time and what is needed after it.
  pub climbs : (d n : ℕ) → n ≡ needed bus count rows i d - 1 → ((e : ℕ) → 1 ≤ e → Meets bus count rows i e → d ≤ e)
      → (e : ℕ) → 1 ≤ e → Meets bus count rows i e → n ≤ e
  climbs d n is least e p m = omega (arith, needed_grows d e (least e p m))

-- The same over the state of a lawful book.
pub climbs_on : (b : Book) → Lawful b → (s : b.State) → b.Sound s → (bus : Bus) (rows : List Row) (i : Entry)
    → b.lists s i.number ≡ true → AllByRecursion (ListedRow (b.lists s)) rows → (d n : ℕ) → n ≡ needed bus (b.count s) rows i d
    → ((e : ℕ) → 1 ≤ e → Meets bus (b.count s) rows i e → d ≤ e) → (e : ℕ) → 1 ≤ e → Meets bus (b.count s) rows i e → n - 1 ≤ e
climbs_on b lawful s sound bus rows i own listed d n is =
    climbs bus (b.lists s) (b.count s) (λ m len more l h. lawful.count_grows s m len more sound l h) rows i own listed d (n - 1) (ap (λ k. k - 1) is)

pub never_falls : (b : Book) → Lawful b → (s : b.State) → b.Sound s → (bus : Bus) (rows : List Row) (i : Entry) → NeverFalls bus b s rows i
never_falls b lawful s sound bus rows i own listed d e h =
    needed_grows bus (b.lists s) (b.count s) (λ m len more l g. lawful.count_grows s m len more sound l g) rows i own listed d e h

-- Two least numbers are one.
pub one_delay : (bus : Bus) (count : ℕ → ℕ → ℕ) (rows : List Row) (i : Entry) → OneDelay bus count rows i
one_delay bus count rows i d e l m = omega (arith, l.least e m.positive m.meets, m.least d l.positive l.meets)

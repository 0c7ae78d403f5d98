-- Two lawful books side by side are a lawful book.
use Rattle.std.specs.Prelude.{◌≡◌, ℕ, ◌+◌, ◌*◌, ◌≤◌, Bool, true, false, cond, not, ◌||◌, List, [], ◌∷◌, filter, refl}
use Rattle.std.proofs.Common.{sym, ap, ◌∙◌, ⊎_elim, arith}
use Rattle.std.proofs.lemmas.Bool.{cases_Bool, cond_both, cond-true, and_parts, or_cases, eqb-true, both_ways}
use Rattle.books.specs.Book.{Book, Release, Accepts, Accepted, Lawful, tally, within, largest}
use Rattle.books.specs.Joint.{joined}

-- the releases of the messages that pass a test
abbrev only : (ℕ → Bool) → List Release → List Release
only p = filter (λ x. p x.message)

-- all releases of a message that passes are among them
only_tally : (p : ℕ → Bool) (m from len : ℕ) → p m ≡ true → (rs : List Release) → tally (within m from len) rs ≤ tally (within m from len) (only p rs)
only_tally p m from len e [] = omega arith
only_tally p m from len e (x ∷ rs) =
    let rest = only_tally p m from len e rs in
    cond_both (p x.message) (x ∷ only p rs) (only p rs) (λ xs. cond (within m from len x) 1 0 + tally (within m from len) rs ≤ tally (within m from len) xs)
    (λ _. omega arith)
    (λ out. cond_both (within m from len x) 1 0 (λ n. n + tally (within m from len) rs ≤ tally (within m from len) (only p rs))
    (λ in'. let same = eqb-true x.message m (and_parts _ _ in').0 in absurd (both_ways (p m) (rw same at out) e))
    (λ _. omega arith))

module _ (l r : Book) (ll : Lawful l) (rl : Lawful r) where
  -- a release that the left takes, and one that the right takes
  by_left : (s : l.State × r.State) (m t : ℕ) → l.lists s.0 m ≡ true → Accepts (joined l r) s m t → Accepts l s.0 m t
  by_left s m t e acc = record { listed = e; in_range = acc.in_range; due = rw e at acc.due }

  by_right : (s : l.State × r.State) (m t : ℕ) → l.lists s.0 m ≡ false → Accepts (joined l r) s m t → Accepts r s.1 m t
  by_right s m t e acc = record { listed = rw e at acc.listed; in_range = acc.in_range; due = rw e at acc.due }

  -- what holds after a release, by the side that took it
  either : (P : l.State × r.State → Type 0) (s : l.State × r.State) (m t : ℕ) → Accepts (joined l r) s m t
      → (l.lists s.0 m ≡ true → Accepts l s.0 m t → P (l.after s.0 m t, s.1))
      → (l.lists s.0 m ≡ false → Accepts r s.1 m t → P (s.0, r.after s.1 m t)) → P ((joined l r).after s m t)
  either P s m t acc left right =
      cond_both (l.lists s.0 m) (l.after s.0 m t, s.1) (s.0, r.after s.1 m t) P (λ e. left e (by_left s m t e acc)) (λ e. right e (by_right s m t e acc))

  next : (s : l.State × r.State) (m t : ℕ) → (joined l r).Sound s → Accepts (joined l r) s m t
      → (t ≤ (joined l r).earliest ((joined l r).after s m t) m) × ((joined l r).earliest ((joined l r).after s m t) m ≤ t + (joined l r).rest s m)
  next s m t sound acc = either (λ u. (t ≤ (joined l r).earliest u m) × ((joined l r).earliest u m ≤ t + (joined l r).rest s m)) s m t acc
      (λ e a.
      let n = ll.next s.0 m t sound.0 a in
      let there = ll.same_lists s.0 m t m sound.0 a ∙ e in
      let now = cond-true (l.lists (l.after s.0 m t) m) (l.earliest (l.after s.0 m t) m) (r.earliest s.1 m) there in
      let rest = cond-true (l.lists s.0 m) (l.rest s.0 m) (r.rest s.1 m) e in
      (omega arith, omega arith))
      (λ e a. rw e (rl.next s.1 m t sound.1 a))

  stays_sound : (s : l.State × r.State) (m t : ℕ) → (joined l r).Sound s → Accepts (joined l r) s m t → (joined l r).Sound ((joined l r).after s m t)
  stays_sound s m t sound acc = either (joined l r).Sound s m t acc
      (λ e a. (ll.stays_sound s.0 m t sound.0 a, sound.1))
      (λ e a. (sound.0, rl.stays_sound s.1 m t sound.1 a))

  same_lists : (s : l.State × r.State) (m t k : ℕ) → (joined l r).Sound s → Accepts (joined l r) s m t → (joined l r).lists ((joined l r).after s m t) k ≡ (joined l r).lists s k
  same_lists s m t k sound acc = either (λ u. (joined l r).lists u k ≡ (joined l r).lists s k) s m t acc
      (λ e a. ap (λ b. b || r.lists s.1 k) (ll.same_lists s.0 m t k sound.0 a))
      (λ e a. ap (λ b. l.lists s.0 k || b) (rl.same_lists s.1 m t k sound.1 a))

  -- a figure of either side that a release leaves
  same_figure : {X : Type 0} (f : l.State → ℕ → X) (g : r.State → ℕ → X) (k : ℕ) (s : l.State × r.State) (m t : ℕ) → (joined l r).Sound s → Accepts (joined l r) s m t
      → (Accepts l s.0 m t → f (l.after s.0 m t) k ≡ f s.0 k) → (Accepts r s.1 m t → g (r.after s.1 m t) k ≡ g s.1 k)
      → cond (l.lists ((joined l r).after s m t).0 k) (f ((joined l r).after s m t).0 k) (g ((joined l r).after s m t).1 k) ≡ cond (l.lists s.0 k) (f s.0 k) (g s.1 k)
  same_figure f g k s m t sound acc left right =
      either (λ u. cond (l.lists u.0 k) (f u.0 k) (g u.1 k) ≡ cond (l.lists s.0 k) (f s.0 k) (g s.1 k)) s m t acc
      (λ e a. let listed = ll.same_lists s.0 m t k sound.0 a in let same = left a in cc)
      (λ e a. ap (λ y. cond (l.lists s.0 k) (f s.0 k) y) (right a))

  -- a law of a listed message, by the side that serves it
  served : {X : Type 0} (f : l.State → X) (g : r.State → X) (P : X → Type 0) (s : l.State × r.State) (m : ℕ) → (joined l r).lists s m ≡ true
      → (l.lists s.0 m ≡ true → P (f s.0)) → (r.lists s.1 m ≡ true → P (g s.1)) → P (cond (l.lists s.0 m) (f s.0) (g s.1))
  served f g P s m listed left right =
      cond_both (l.lists s.0 m) (f s.0) (g s.1) P left (λ e. right (rw e at listed))

  -- the releases of each side, accepted one after the other
  record Split (first s : l.State × r.State) (rs : List Release) : Type 0 where
    sound : (joined l r).Sound s
    same : (k : ℕ) → l.lists s.0 k ≡ l.lists first.0 k
    left : Accepted l first.0 (only (l.lists first.0) rs) s.0
    right : Accepted r first.1 (only (λ k. not (l.lists first.0 k)) rs) s.1

  split_more : (first s : l.State × r.State) (rs : List Release) (m t : ℕ) → Split first s rs → Accepts (joined l r) s m t
      → Split first ((joined l r).after s m t) (record { message = m; time = t } ∷ rs)
  split_more first s rs m t p acc = either (λ u. Split first u (record { message = m; time = t } ∷ rs)) s m t acc
      (λ e a.
      let mine = sym (p.same m) ∙ e in
      record {
        sound = (ll.stays_sound s.0 m t p.sound.0 a, p.sound.1);
        same = λ k. ll.same_lists s.0 m t k p.sound.0 a ∙ p.same k;
        left = rw mine (Accepted.one_more p.left a);
        right = rw mine p.right;
      })
      (λ e a.
      let other = sym (p.same m) ∙ e in
      record {
        sound = (p.sound.0, rl.stays_sound s.1 m t p.sound.1 a);
        same = p.same;
        left = rw other p.left;
        right = rw other (Accepted.one_more p.right a);
      })

  split : {first : l.State × r.State} {rs : List Release} {s : l.State × r.State} → (joined l r).Sound first → Accepted (joined l r) first rs s → Split first s rs
  split sound Accepted.none = record { sound = sound; same = λ k. refl; left = Accepted.none; right = Accepted.none }
  split {first} sound (Accepted.one_more {rs = rs} {s = s} {m = m} {t = t} before acc) = split_more first s rs m t (split sound before) acc

  counted : (first s : l.State × r.State) (rs : List Release) → (joined l r).Sound first → Accepted (joined l r) first rs s
      → (m from len : ℕ) → (joined l r).lists first m ≡ true → (joined l r).earliest first m ≡ 0 → tally (within m from len) rs ≤ (joined l r).count first m len
  counted first s rs sound acc m from len listed zero =
      let p = split sound acc in
      cond_both (l.lists first.0 m) (l.count first.0 m len) (r.count first.1 m len) (λ c. tally (within m from len) rs ≤ c)
      (λ e.
      let all = only_tally (l.lists first.0) m from len e rs in
      let few = ll.counted first.0 s.0 _ sound.0 p.left m from len e (rw e at zero) in
      omega arith)
      (λ e.
      let all = only_tally (λ k. not (l.lists first.0 k)) m from len (rw e) rs in
      let few = rl.counted first.1 s.1 _ sound.1 p.right m from len (rw e at listed) (rw e at zero) in
      omega arith)

  pub joined_lawful : Lawful (joined l r)
  joined_lawful = record {
    listed = λ s m sound e. ⊎_elim (λ a. ll.listed s.0 m sound.0 a) (λ b. rl.listed s.1 m sound.1 b) (or_cases (l.lists s.0 m) (r.lists s.1 m) e);
    next = next;
    stays_sound = stays_sound;
    same_lists = same_lists;
    same_rest = λ s m t k sound acc. same_figure l.rest r.rest k s m t sound acc (ll.same_rest s.0 m t k sound.0) (rl.same_rest s.1 m t k sound.1);
    same_jitter = λ s m t k sound acc. same_figure l.jitter r.jitter k s m t sound acc (ll.same_jitter s.0 m t k sound.0) (rl.same_jitter s.1 m t k sound.1);
    same_count = λ s m t k len sound acc. same_figure (λ x n. l.count x n len) (λ y n. r.count y n len) k s m t sound acc
        (ll.same_count s.0 m t k len sound.0) (rl.same_count s.1 m t k len sound.1);
    others = λ s m t k sound acc ne. same_figure l.earliest r.earliest k s m t sound acc
        (λ a. ll.others s.0 m t k sound.0 a ne) (λ a. rl.others s.1 m t k sound.1 a ne);
    count_none = λ s m sound e. served (λ x. l.count x m 0) (λ y. r.count y m 0) (λ c. c ≡ 0) s m e (ll.count_none s.0 m sound.0) (rl.count_none s.1 m sound.1);
    count_some = λ s m len sound e some. served (λ x. l.count x m len) (λ y. r.count y m len) (λ c. 1 ≤ c) s m e
        (λ a. ll.count_some s.0 m len sound.0 a some) (λ b. rl.count_some s.1 m len sound.1 b some);
    count_grows = λ s m len more sound e far. ⊎_elim
        (λ a. rw a (ll.count_grows s.0 m len more sound.0 a far))
        (λ b. rw b (rl.count_grows s.1 m len more sound.1 (rw b at e) far))
        (cases_Bool (l.lists s.0 m));
    count_bound = λ s m len sound e. served (λ x. l.count x m len) (λ y. r.count y m len) (λ c. c ≤ 16 * (len + largest)) s m e
        (ll.count_bound s.0 m len sound.0) (rl.count_bound s.1 m len sound.1);
    rest_bound = λ s m sound e. served (λ x. l.rest x m) (λ y. r.rest y m) (λ c. c ≤ largest) s m e (ll.rest_bound s.0 m sound.0) (rl.rest_bound s.1 m sound.1);
    jitter_bound = λ s m sound e. served (λ x. l.jitter x m) (λ y. r.jitter y m) (λ c. c ≤ largest) s m e (ll.jitter_bound s.0 m sound.0) (rl.jitter_bound s.1 m sound.1);
    counted = counted;
  }

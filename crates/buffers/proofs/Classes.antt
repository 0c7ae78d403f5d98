-- A list read out by priority: one more at its end, its first one taken out, and its order.
use Rattle.std.specs.Prelude.{◌≡◌, ℕ, zero, suc, ◌<◌, ◌≤◌, true, false, List, [], ◌∷◌, ◌++◌, ◌==◌, ◌≢◌, nat_eq, refl}
use Rattle.std.proofs.Common.{sym, ap, ◌∙◌, ⊎_elim, arith}
use Rattle.std.specs.List.{AllByRecursion}
use Rattle.std.proofs.lemmas.List.Elements.{filter-append}
use Rattle.std.proofs.ByRecursion.{All-append, All-weaker, kept_by_passes}
use Rattle.std.proofs.lemmas.List.{append_assoc, append-nil}
use Rattle.std.proofs.lemmas.Bool.{cases_lt, cond-true, cond-false, eqb-true, eq-eqb, ne_eqb, le-leb, lt-leb}
use Rattle.ranked.specs.Ranks.{Placed}
use Rattle.buffers.specs.Buffer.{upto, of_priority}
use Rattle.buffers.specs.Pooled.{up_to_priority}
use Rattle.buffers.specs.PoolLaws.{read_upto}
use Rattle.buffers.specs.declared.instance.Instance.{Instance}

-- nothing is of a priority that no element has
pub none_of : (p : ℕ) (xs : List Instance) → AllByRecursion (λ x. x.priority ≢ p) xs → of_priority p xs ≡ []
none_of p [] all = refl
none_of p (x ∷ xs) all = cond-false (x.priority == p) _ _ (ne_eqb x.priority p all.0) ∙ none_of p xs all.1

-- an element of another priority does not show
pub other_out : (p : ℕ) (x : Instance) (xs ys : List Instance) → (x.priority ≢ p) → of_priority p (xs ++ x ∷ ys) ≡ of_priority p (xs ++ ys)
other_out p x xs ys ne =
    filter-append (λ y. nat_eq y.priority p) xs (x ∷ ys)
    ∙ ap (λ l. of_priority p xs ++ l) (cond-false (x.priority == p) _ _ (ne_eqb x.priority p ne))
    ∙ sym (filter-append (λ y. nat_eq y.priority p) xs ys)

pub own_in : (p : ℕ) (x : Instance) (xs ys : List Instance) → x.priority ≡ p → of_priority p (xs ++ x ∷ ys) ≡ of_priority p xs ++ x ∷ of_priority p ys
own_in p x xs ys same =
    filter-append (λ y. nat_eq y.priority p) xs (x ∷ ys)
    ∙ ap (λ l. of_priority p xs ++ l) (cond-true (x.priority == p) _ _ (eq-eqb x.priority p same))

-- up to a priority below, an element does not show
below_out : (n : ℕ) (x : Instance) (xs ys : List Instance) → n < x.priority → up_to_priority n (xs ++ x ∷ ys) ≡ up_to_priority n (xs ++ ys)
unfolding up_to_priority
below_out zero x xs ys l = refl
below_out (suc n) x xs ys l =
    let rest = below_out n x xs ys (omega arith) in
    let here = other_out (suc n) x xs ys (λ e. omega arith) in
    rw (rest, here)

pub none_read : (n : ℕ) → up_to_priority n [] ≡ []
unfolding up_to_priority
none_read zero = refl
none_read (suc n) = rw (none_read n)

-- an instance put between those that are no less urgent and those that are
pub record Between (x : Instance) (old new : List Instance) : Type 0 where
  pub front : List Instance
  pub back : List Instance
  pub parts : old ≡ front ++ back
  pub put : new ≡ front ++ x ∷ back
  pub behind : AllByRecursion (λ y. upto y x ≡ true) front
  pub above : AllByRecursion (λ y. upto y x ≡ false) back

placed_between : (x : Instance) (old new : List Instance) → Between x old new → Placed upto x old new
placed_between x old new b = record {
  front = b.front;
  back = b.back;
  parts = b.parts;
  put = b.put;
  behind = b.behind;
  stops = λ y ys e. (rw e at b.above).0;
  before = λ _. b.above;
}

above_class : (x : Instance) (p : ℕ) (xs : List Instance) → x.priority < p → AllByRecursion (λ y. upto y x ≡ false) (of_priority p xs)
above_class x p xs l = All-weaker (λ y. (y.priority == p) ≡ true) (λ y. upto y x ≡ false)
    (λ y e. let same = eqb-true y.priority p e in lt-leb y.priority x.priority (omega arith)) (of_priority p xs) (kept_by_passes (λ y. nat_eq y.priority p) xs)

-- one more at the end of the list
between_last : (n : ℕ) (x : Instance) (xs : List Instance) → 1 ≤ x.priority → x.priority ≤ n → Between x (up_to_priority n xs) (up_to_priority n (xs ++ x ∷ []))
unfolding up_to_priority
between_last zero x xs some l = absurd (omega arith)
between_last (suc n) x xs some l = ⊎_elim
    (λ lower.
    let b = between_last n x xs some (omega arith) in
    let same = other_out (suc n) x xs [] (λ e. omega arith) ∙ ap (of_priority (suc n)) (append-nil xs) in
    record {
      front = b.front;
      back = b.back ++ of_priority (suc n) xs;
      parts = ap (λ l. l ++ of_priority (suc n) xs) b.parts ∙ append_assoc b.front b.back (of_priority (suc n) xs);
      put = ap (λ l. l ++ of_priority (suc n) (xs ++ x ∷ [])) b.put ∙ rw same (append_assoc b.front (x ∷ b.back) (of_priority (suc n) xs));
      behind = b.behind;
      above = All-append (λ y. upto y x ≡ false) b.back (of_priority (suc n) xs) b.above (above_class x (suc n) xs (omega arith));
    })
    (λ there.
    let same : x.priority ≡ suc n = omega arith in
    let below = below_out n x xs [] (omega arith) ∙ ap (up_to_priority n) (append-nil xs) in
    let own = own_in (suc n) x xs [] same in
    record {
      front = up_to_priority n xs ++ of_priority (suc n) xs;
      back = [];
      parts = sym (append-nil (up_to_priority n xs ++ of_priority (suc n) xs));
      put = rw (below, own) (sym (append_assoc (up_to_priority n xs) (of_priority (suc n) xs) (x ∷ [])));
      behind = All-weaker (λ y. y.priority ≤ suc n) (λ y. upto y x ≡ true) (λ y low. le-leb y.priority x.priority (omega arith)) _ (read_upto (suc n) xs);
      above = tt;
    })
    (cases_lt x.priority (suc n))

pub placed_last : (n : ℕ) (x : Instance) (xs : List Instance) → 1 ≤ x.priority → x.priority ≤ n → Placed upto x (up_to_priority n xs) (up_to_priority n (xs ++ x ∷ []))
placed_last n x xs some l = placed_between x _ _ (between_last n x xs some l)

none_below : (n : ℕ) (xs : List Instance) → AllByRecursion (λ x. n < x.priority) xs → up_to_priority n xs ≡ []
unfolding up_to_priority
none_below zero xs all = refl
none_below (suc n) xs all =
    let lower = none_below n xs (All-weaker (λ x. suc n < x.priority) (λ x. n < x.priority) (λ x l. omega arith) xs all) in
    let here = none_of (suc n) xs (All-weaker (λ x. suc n < x.priority) (λ x. x.priority ≢ suc n) (λ x l e. omega arith) xs all) in
    rw (lower, here)

first_of_class : (x : Instance) (a b c d e ys : List Instance) → a ≡ [] → c ≡ [] → e ≡ [] → b ≡ e ++ x ∷ ys → d ≡ e ++ ys → a ++ b ≡ x ∷ (c ++ d)
first_of_class x a b c d e ys p q r s t = rw (p, q, s, t, r)

-- the first one, more urgent than all before it in the list and no less urgent than all after it
pub first_read : (n : ℕ) (x : Instance) (xs ys : List Instance) → 1 ≤ x.priority → x.priority ≤ n
    → AllByRecursion (λ y. x.priority < y.priority) xs → AllByRecursion (λ y. x.priority ≤ y.priority) ys
    → up_to_priority n (xs ++ x ∷ ys) ≡ x ∷ up_to_priority n (xs ++ ys)
unfolding up_to_priority
first_read zero x xs ys some l before after = absurd (omega arith)
first_read (suc n) x xs ys some l before after = ⊎_elim
    (λ lower.
    let rest = first_read n x xs ys some (omega arith) before after in
    let here = other_out (suc n) x xs ys (λ e. omega arith) in
    rw (rest, here))
    (λ there.
    let same : x.priority ≡ suc n = omega arith in
    let xs-later = All-weaker (λ y. x.priority < y.priority) (λ y. n < y.priority) (λ y low. omega arith) xs before in
    let ys-later = All-weaker (λ y. x.priority ≤ y.priority) (λ y. n < y.priority) (λ y low. omega arith) ys after in
    let with-x = none_below n (xs ++ x ∷ ys) (All-append (λ y. n < y.priority) xs (x ∷ ys) xs-later (omega arith, ys-later)) in
    let without = none_below n (xs ++ ys) (All-append (λ y. n < y.priority) xs ys xs-later ys-later) in
    let none = none_of (suc n) xs (All-weaker (λ y. x.priority < y.priority) (λ y. y.priority ≢ suc n) (λ y low e. omega arith) xs before) in
    let own = own_in (suc n) x xs ys same in
    let rest = filter-append (λ y. nat_eq y.priority (suc n)) xs ys in
    first_of_class x _ _ _ _ _ _ with-x without none own rest)
    (cases_lt x.priority (suc n))

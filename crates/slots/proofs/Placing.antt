-- An instance has just one place in the sending order.
use Rattle.std.proofs.Common.{◌≡◌, ℕ, ◌+◌, true, false, List, [], ◌∷◌, ◌++◌, length, sym, refl, ap, ◌∙◌, subst, ⊎_elim, arith}
use Rattle.std.specs.List.{AllByRecursion}
use Rattle.std.proofs.ByRecursion.{All-weaker}
use Rattle.std.proofs.lemmas.Bool.{cases_Bool, both_ways, leb-true, leb-false, lt-leb}
use Rattle.ranked.specs.Ranks.{Placed}
use Rattle.buffers.specs.declared.instance.Instance.{Instance}
use Rattle.slots.specs.Steps.{by_priority}

pub record Place (x : Instance) (old : List Instance) : Type 0 where
  pub new : List Instance
  pub placed : Placed by_priority x old new

pub place : (x : Instance) (old : List Instance) → Place x old
place x [] = record {
  new = x ∷ [];
  placed = record {
    front = [];
    back = [];
    parts = refl;
    put = refl;
    behind = tt;
    stops = λ y ys e. let z : ◌≡◌ {A = ℕ} 0 1 = cc in absurd
        (omega arith);
    before = λ _. tt;
  };
}
place x (w ∷ ws) =
    let h = place x ws in
    let p = h.placed in
    ⊎_elim
    (λ (before : by_priority w x ≡ true). record {
      new = w ∷ h.new;
      placed = record {
        front = w ∷ p.front;
        back = p.back;
        parts = ap (λ l. w ∷ l) p.parts;
        put = ap (λ l. w ∷ l) p.put;
        behind = (before, p.behind);
        stops = p.stops;
        before = λ asc. p.before asc.1;
      };
    })
    (λ (after : by_priority w x ≡ false). record {
      new = x ∷ w ∷ ws;
      placed = record {
        front = [];
        back = w ∷ ws;
        parts = refl;
        put = refl;
        behind = tt;
        stops = λ y ys e. let same : w ≡ y = cc in subst (λ v. by_priority v x ≡ false) same after;
        before = λ asc. (
          after,
          All-weaker (λ v. by_priority w v ≡ true) (λ v. by_priority v x ≡ false)
              (λ v l. lt-leb v.priority x.priority (omega
              (arith, leb-true w.priority v.priority l, leb-false w.priority x.priority after))) ws asc.0,
        );
      };
    })
    (cases_Bool (by_priority w x))

-- two ways to cut a list, each at the first that comes behind x
cut_once : (x : Instance) (f g c d : List Instance) → f ++ c ≡ g ++ d → AllByRecursion (λ y. by_priority y x ≡ true) f → AllByRecursion (λ y. by_priority y x ≡ true) g
    → ((y : Instance) (ys : List Instance) → c ≡ y ∷ ys → by_priority y x ≡ false)
    → ((y : Instance) (ys : List Instance) → d ≡ y ∷ ys → by_priority y x ≡ false)
    → f ++ x ∷ c ≡ g ++ x ∷ d
cut_once x [] [] c d e a h s t = ap (λ l. x ∷ l) e
cut_once x [] (g ∷ gs) c d e a h s t = absurd (both_ways (by_priority g x) (s g (gs ++ d) e) h.0)
cut_once x (f ∷ fs) [] c d e a h s t = absurd (both_ways (by_priority f x) (t f (fs ++ c) (sym e)) a.0)
cut_once x (f ∷ fs) (g ∷ gs) c d e a h s t =
    let heads : f ≡ g = cc in
    let tails : fs ++ c ≡ gs ++ d = cc in
    let rest = cut_once x fs gs c d tails a.1 h.1 s t in
    cc

pub one_place : (x : Instance) (old new other : List Instance) → Placed by_priority x old new → Placed by_priority x old other → new ≡ other
one_place x old new other p q =
    p.put ∙ cut_once x p.front q.front p.back q.back (sym p.parts ∙ q.parts) p.behind q.behind p.stops q.stops ∙ sym
    q.put

pub one_longer : (x : Instance) (old new : List Instance) → Placed by_priority x old new → length new ≡ length old + 1
one_longer x old new p = omega (arith, ap length p.put, ap length p.parts, longer p.front p.back)
  where
    longer : (f c : List Instance) → length (f ++ x ∷ c) ≡ length (f ++ c) + 1
    longer [] c = omega arith
    longer (f ∷ fs) c = omega (arith, longer fs c)

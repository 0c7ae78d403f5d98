-- Entries with different numbers: there are no more of them than there are numbers, and one more stays apart.
use Rattle.std.proofs.Common.{◌≡◌, ℕ, zero, suc, ◌+◌, ◌<◌, ◌≤◌, Bool, true, false, cond, not, ◌&&◌, eqb, List, [], ◌∷◌, ◌++◌, length, get_or, set, is_some, Some, None, Ok, Err, vec_items, Option, Result, unwrap_or, sym, refl, ap, ◌∙◌, subst, ap₂, ⊎_elim, arith, MatchResult}
use Rattle.std.specs.List.{AllByRecursion}
use Rattle.std.proofs.lemmas.Bool.{and_parts, and_from, or_parts, or_from, not-true, not_from_false, eq-eqb, ne_eqb, cases_eq, both_ways, ltb-false, le-leb}
use Rattle.std.proofs.lemmas.List.{get_or-set_other}
use Rattle.ranked.specs.Ranks.{Ascending, Placed}
use Rattle.delay.specs.Order.{by_frame}
use Rattle.delay.specs.declared.entry.Entry.{Entry}
use Rattle.fields.specs.Refusals.{first_reason}
use Rattle.fields.proofs.Checks.{all_passed}
use Rattle.plan.specs.Drafts.{entries_of, latest_start_of, message_checks, Describes}
use Rattle.plan.specs.declared.draft.Draft.{Draft}
use Rattle.plan.specs.declared.draft.Message.{Message as Given}
use Rattle.plan.specs.Entries.{some, every, numbered, none_clash, apart, nodes_clash, priorities_clash, ends_within, start_is, starts_as_node, ascends}

one : Bool → ℕ
one b = cond b 1 0

-- how many entries have a number, and how many of the numbers from 1 to n they have, each as often as it stands there
hits : ℕ → List Entry → ℕ
hits k [] = 0
hits k (e ∷ es) = one (eqb e.number k) + hits k es

up_to : ℕ → List Entry → ℕ
up_to zero es = 0
up_to (suc n) es = hits (suc n) es + up_to n es

spot : ℕ → ℕ → ℕ
spot zero x = 0
spot (suc n) x = one (eqb x (suc n)) + spot n x

one_true : (b : Bool) → b ≡ true → one b ≡ 1
unfolding one
one_true true e = refl
one_true false e = omega (arith, ap one e)

one_false : (b : Bool) → b ≡ false → one b ≡ 0
unfolding one
one_false true e = omega (arith, ap one e)
one_false false e = refl

spot_one : (n x : ℕ) → 1 ≤ x → x ≤ n → 1 ≤ spot n x
unfolding spot
spot_one zero x low high = omega arith
spot_one (suc n) x low high =
    ⊎_elim (λ e. omega (arith, one_true (eqb x (suc n)) (eq-eqb x (suc n) e)))
    (λ ne. let h : x ≤ n = omega arith in omega (arith, spot_one n x low h)) (cases_eq x (suc n))

up_to_cons : (n : ℕ) (e : Entry) (es : List Entry) → up_to n (e ∷ es) ≡ spot n e.number + up_to n es
unfolding up_to spot hits
up_to_cons zero e es = omega arith
up_to_cons (suc n) e es = omega (arith, up_to_cons n e es)

length_up_to : (n : ℕ) (es : List Entry) → AllByRecursion (λ e. (1 ≤ e.number) × (e.number ≤ n)) es → length es ≤ up_to n es
length_up_to n [] all = omega arith
length_up_to n (e ∷ es) all = omega (arith, up_to_cons n e es, spot_one n e.number all.0.0 all.0.1, length_up_to n es all.1)

no_hits : (k : ℕ) (es : List Entry) → some (numbered k) es ≡ false → hits k es ≡ 0
unfolding hits
no_hits k [] h = refl
no_hits k (e ∷ es) h =
    let p = or_parts (eqb e.number k) (some (numbered k) es) h in
    omega (arith, one_false (eqb e.number k) p.0, no_hits k es p.1)

-- No two entries have one number: their numbers do not clash.
pub apart_clear : (es : List Entry) → apart es ≡ none_clash (λ e. numbered e.number) es
apart_clear [] = refl
apart_clear (e ∷ es) = ap (λ b. not (some (numbered e.number) es) && b) (apart_clear es)

hits_once : (k : ℕ) (es : List Entry) → apart es ≡ true → hits k es ≤ 1
unfolding hits
hits_once k [] h = omega arith
hits_once k (e ∷ es) h =
    let p = and_parts (not (some (numbered e.number) es)) (apart es) h in
    ⊎_elim
    (λ same. omega (
      arith,
      one_true (eqb e.number k) (eq-eqb e.number k same),
      no_hits k es (subst (λ (n : ℕ). some (numbered n) es ≡ false) same (not-true _ p.0)),
    ))
    (λ other. omega (arith, one_false (eqb e.number k) (ne_eqb e.number k other), hits_once k es p.1))
    (cases_eq e.number k)

up_to_bound : (n : ℕ) (es : List Entry) → apart es ≡ true → up_to n es ≤ n
unfolding up_to
up_to_bound zero es h = omega arith
up_to_bound (suc n) es h = omega (arith, hits_once (suc n) es h, up_to_bound n es h)

all_in : (es : List Entry) → AllByRecursion (λ e. (1 ≤ e.number) × (e.number ≤ 128)) es
all_in [] = tt
all_in (e ∷ es) = (e.number_in, all_in es)

-- A message whose number is free finds room.
pub has_room : (x : Entry) (es : List Entry) → apart es ≡ true → some (numbered x.number) es ≡ false → length es < 128
has_room x es h free =
    let apart-too = and_from (not (some (numbered x.number) es)) (apart es) (not_from_false _ free) h in
    omega (arith, length_up_to 128 (x ∷ es) (all_in (x ∷ es)), up_to_bound 128 (x ∷ es) apart-too)

some_put : {X : Type 0} (p : X → Bool) (front : List X) (x : X) (back : List X) → some p (front ++ back) ≡ false → p x ≡ false
    → some p (front ++ x ∷ back) ≡ false
some_put p [] x back none px = or_from (p x) (some p back) px none
some_put p (f ∷ fs) x back none px =
    let q = or_parts (p f) (some p (fs ++ back)) none in or_from (p f) (some p (fs ++ x ∷ back)) q.0 (some_put p fs x back q.1 px)

none_clash_put : {X : Type 0} (p : X → X → Bool) → ((x y : X) → p x y ≡ p y x) → (front : List X) (x : X) (back : List X) → none_clash p (front ++ back) ≡ true
    → some (p x) (front ++ back) ≡ false → none_clash p (front ++ x ∷ back) ≡ true
none_clash_put p same [] x back h free = and_from (not (some (p x) back)) (none_clash p back) (not_from_false _ free) h
none_clash_put p same (f ∷ fs) x back h free =
    let a = and_parts (not (some (p f) (fs ++ back))) (none_clash p (fs ++ back)) h in
    let q = or_parts (p x f) (some (p x) (fs ++ back)) free in
    and_from (not (some (p f) (fs ++ x ∷ back))) (none_clash p (fs ++ x ∷ back))
    (not_from_false _ (some_put (p f) fs x back (not-true _ a.0) (same f x ∙ q.0))) (none_clash_put p same fs x back a.1 q.1)

every_put : {X : Type 0} (p : X → Bool) (front : List X) (x : X) (back : List X) → every p (front ++ back) ≡ true → p x ≡ true → every p (front ++ x ∷ back) ≡ true
every_put p [] x back h px = and_from (p x) (every p back) px h
every_put p (f ∷ fs) x back h px =
    let a = and_parts (p f) (every p (fs ++ back)) h in and_from (p f) (every p (fs ++ x ∷ back)) a.0 (every_put p fs x back a.1 px)

-- After an insertion, which may have been refused, still no two clash, and every element passes a test.
pub kept_clear : (p : Entry → Entry → Bool) → ((x y : Entry) → p x y ≡ p y x) → (x : Entry) (old new : List Entry) (r : Result Unit Entry)
    → MatchResult r (λ _. Placed by_frame x old new) (λ y. (y ≡ x) × (new ≡ old)) → none_clash p old ≡ true → some (p x) old ≡ false → none_clash p new ≡ true
kept_clear p same x old new (Ok u) c h free =
    rw c.put (none_clash_put p same c.front x c.back (rw c.parts at h) (rw c.parts at free))
kept_clear p same x old new (Err y) c h free = rw c.1 h

pub kept_every : (p : Entry → Bool) (x : Entry) (old new : List Entry) (r : Result Unit Entry)
    → MatchResult r (λ _. Placed by_frame x old new) (λ y. (y ≡ x) × (new ≡ old)) → every p old ≡ true → p x ≡ true → every p new ≡ true
kept_every p x old new (Ok u) c h px = rw c.put (every_put p c.front x c.back (rw c.parts at h) px)
kept_every p x old new (Err y) c h px = rw c.1 h

-- Clashes go both ways.
eqb_swap : (a b : ℕ) → eqb a b ≡ eqb b a
eqb_swap a b = ⊎_elim (λ e. eq-eqb a b e ∙ sym (eq-eqb b a (sym e))) (λ ne. ne_eqb a b ne ∙ sym (ne_eqb b a (λ e. ne (sym e)))) (cases_eq a b)

pub numbers_both : (x y : Entry) → numbered x.number y ≡ numbered y.number x
numbers_both x y = eqb_swap y.number x.number

pub nodes_both : (x y : Entry) → nodes_clash x y ≡ nodes_clash y x
nodes_both x y = ap₂ ◌&&◌ (eqb_swap y.frame x.frame) (ap not (eqb_swap y.node x.node))

pub priorities_both : (x y : Entry) → priorities_clash x y ≡ priorities_clash y x
priorities_both x y = ap₂ ◌&&◌ (eqb_swap y.frame x.frame) (eqb_swap y.priority x.priority)

every_all : {X : Type 0} (p : X → Bool) (xs : List X) → every p xs ≡ true → AllByRecursion (λ x. p x ≡ true) xs
every_all p [] h = tt
every_all p (x ∷ xs) h = let q = and_parts (p x) (every p xs) h in (q.0, every_all p xs q.1)

all_every : {X : Type 0} (p : X → Bool) (xs : List X) → AllByRecursion (λ x. p x ≡ true) xs → every p xs ≡ true
all_every p [] h = refl
all_every p (x ∷ xs) h = and_from (p x) (every p xs) h.0 (all_every p xs h.1)

-- The test of the order says just that the list ascends.
pub ascending_from : (es : List Entry) → ascends es ≡ true → Ascending by_frame es
ascending_from [] h = tt
ascending_from (e ∷ es) h = let q = and_parts (every (by_frame e) es) (ascends es) h in (every_all (by_frame e) es q.0, ascending_from es q.1)

pub ascends_from : (es : List Entry) → Ascending by_frame es → ascends es ≡ true
ascends_from [] h = refl
ascends_from (e ∷ es) h = and_from (every (by_frame e) es) (ascends es) (all_every (by_frame e) es h.0) (ascends_from es h.1)

-- The number of an accepted message is free.
pub free_number : (d : Draft) (m : Given) (e : Entry) → first_reason (message_checks d m) ≡ None → e.number ≡ m.number
    → some (numbered e.number) (entries_of d) ≡ false
free_number d m e ok same = rw same (all_passed (message_checks d m) ok).1.0

-- What else holds of an accepted message: its node is that of its frame, its priority is free, it ends within the
-- segment, and it starts as its node does.
pub free_frame : (d : Draft) (m : Given) (e : Entry) → first_reason (message_checks d m) ≡ None → Describes m (latest_start_of d m.node) e
    → some (nodes_clash e) (entries_of d) ≡ false
free_frame d m e ok is =
    subst (λ (f : ℕ). some (λ x. eqb x.frame f && not (eqb x.node e.node)) (entries_of d) ≡ false) (sym is.frame)
    (subst (λ (n : ℕ). some (λ x. eqb x.frame m.frame && not (eqb x.node n)) (entries_of d) ≡ false) (sym is.node)
    (all_passed (message_checks d m) ok).1.1.1.0)

pub free_priority : (d : Draft) (m : Given) (e : Entry) → first_reason (message_checks d m) ≡ None → Describes m (latest_start_of d m.node) e
    → some (priorities_clash e) (entries_of d) ≡ false
free_priority d m e ok is =
    subst (λ (f : ℕ). some (λ x. eqb x.frame f && eqb x.priority e.priority) (entries_of d) ≡ false) (sym is.frame)
    (subst (λ (n : ℕ). some (λ x. eqb x.frame m.frame && eqb x.priority n) (entries_of d) ≡ false) (sym is.priority)
    (all_passed (message_checks d m) ok).1.1.1.1.0)

pub ends_within_segment : (d : Draft) (m : Given) (e : Entry) → first_reason (message_checks d m) ≡ None → Describes m (latest_start_of d m.node) e
    → ends_within d.bus.minislots e ≡ true
ends_within_segment d m e ok is =
    let passed = ltb-false _ _ (all_passed (message_checks d m) ok).1.1.1.1.1.0 in
    let known : unwrap_or (latest_start_of d m.node) 0 ≡ e.latest = ap (λ o. unwrap_or o 0) is.latest in
    le-leb (e.latest + e.size) (d.bus.minislots + 1) (omega (arith, passed, known, is.size))

pub starts_as_its_node : (d : Draft) (m : Given) (e : Entry) → Describes m (latest_start_of d m.node) e → starts_as_node (vec_items d.nodes) e ≡ true
starts_as_its_node d m e is = rw (is.node, is.latest) (eq-eqb e.latest e.latest refl)

-- A node that is new is that of no entry.
start_known : (o : Option ℕ) (a : ℕ) → is_some o ≡ false → start_is o a ≡ true → ⊥
start_known None a none is = both_ways false refl is
start_known (Some x) a none is = both_ways true none refl

pub starts_kept : (nodes : List (Option ℕ)) (n a : ℕ) (es : List Entry) → is_some (get_or nodes n None) ≡ false
    → every (starts_as_node nodes) es ≡ true → every (starts_as_node (set nodes n (Some a))) es ≡ true
starts_kept nodes n a [] new h = refl
starts_kept nodes n a (e ∷ es) new h =
    let p = and_parts (starts_as_node nodes e) (every (starts_as_node nodes) es) h in
    and_from (starts_as_node (set nodes n (Some a)) e) (every (starts_as_node (set nodes n (Some a))) es)
    (⊎_elim (λ same. absurd (start_known (get_or nodes n None) e.latest new (subst (λ (k : ℕ). start_is (get_or nodes k None) e.latest ≡ true) same p.0)))
    (λ other. ap (λ o. start_is o e.latest) (get_or-set_other nodes n e.node (Some a) None other) ∙ p.0) (cases_eq e.node n))
    (starts_kept nodes n a es new p.1)

-- Calls carried out one after the other: one more at the end, that the answers are determined, and that nothing is lost.
use Rattle.std.proofs.Common.{◌≡◌, ℕ, ◌+◌, ◌<◌, Bool, true, false, cond, ◌&&◌, eqb, List, [], ◌∷◌, ◌++◌, length, get_or, take, is_ok, Some, None, Ok, Err, Option, Result, sym, refl, ap, ◌∙◌, ⊎_elim, arith}
use Rattle.std.specs.Option as options
use Rattle.std.specs.Option.{option_to_list}
use Rattle.std.specs.List.{AllByRecursion}
use Rattle.std.proofs.lemmas.List.Elements.{filter-append}
use Rattle.std.proofs.ByRecursion.{All-weaker}
use Rattle.std.proofs.lemmas.List.{append_assoc, append-nil, take_more}
use Rattle.std.proofs.lemmas.Bool.{both_ways, cases_eq, cond-true, cond-false, eq-eqb, ne_eqb, leb-false}
use Rattle.fields.specs.Refusals.{first_reason}
use Rattle.fields.specs.declared.refusal.Refusal.{Refusal}
use Rattle.ranked.specs.Ranks.{Ascending, Placed}
use Rattle.buffers.specs.Buffer.{Meaning, Elsewhere, Putting, Taking, upto, of_priority, put_checks}
use Rattle.buffers.specs.Runs.{Ordered, Same, Step, Carried, Determined, brought_by, taken_by, brought, taken, NothingLost}
use Rattle.buffers.specs.declared.instance.Instance.{Instance}
use Rattle.buffers.specs.declared.runs.BufferCall.{BufferCall}
use Rattle.buffers.specs.declared.runs.BufferAnswer.{BufferAnswer}
use Rattle.buffers.specs.declared.runs.BufferAnswer.TheVariants as answer
use Rattle.buffers.proofs.Classes.{none_of, other_out, own_in}

-- one call more
carried_push : {m m' m'' : Meaning} {cs : List BufferCall} {given : List BufferAnswer} {c : BufferCall} {a : BufferAnswer}
    → Carried m cs given m' → Ordered m'' → Step m' c a m'' → Carried m (cs ++ c ∷ []) (given ++ a ∷ []) m''
carried_push (Carried.none here) last step = Carried.one_more here step (Carried.none last)
carried_push (Carried.one_more here first rest) last step = Carried.one_more here first (carried_push rest last step)

-- there is one place for an instance only
one_place : {X : Type 0} (upto : X → X → Bool) (x : X) (front back front' back' : List X) → front ++ back ≡ front' ++ back'
    → AllByRecursion (λ y. upto y x ≡ true) front → AllByRecursion (λ y. upto y x ≡ true) front'
    → ((y : X) (ys : List X) → back ≡ y ∷ ys → upto y x ≡ false) → ((y : X) (ys : List X) → back' ≡ y ∷ ys → upto y x ≡ false)
    → front ++ x ∷ back ≡ front' ++ x ∷ back'
one_place upto x [] back [] back' e b b' s s' = ap (λ l. x ∷ l) e
one_place upto x [] back (y ∷ front') back' e b b' s s' = absurd (both_ways (upto y x) (s y (front' ++ back') e) b'.0)
one_place upto x (y ∷ front) back [] back' e b b' s s' = absurd (both_ways (upto y x) (s' y (front ++ back) (sym e)) b.0)
one_place upto x (y ∷ front) back (z ∷ front') back' e b b' s s' =
    let head : y ≡ z = cc in
    let tail : front ++ back ≡ front' ++ back' = cc in
    let rest = one_place upto x front back front' back' tail b.1 b'.1 s s' in
    cc

placed_same : {X : Type 0} (upto : X → X → Bool) (x : X) (old old' new new' : List X) → old ≡ old' → Placed upto x old new → Placed upto x old' new' → new ≡ new'
placed_same upto x old old' new new' e p q =
    p.put ∙ one_place upto x p.front p.back q.front q.back (sym p.parts ∙ e ∙ q.parts) p.behind q.behind p.stops q.stops ∙ sym q.put

-- what holds at the frame of a call and elsewhere holds everywhere
same_after : (f : ℕ) (m n m' n' : Meaning) → Same m n → Elsewhere f m m' → Elsewhere f n n' → m'.waiting f ≡ n'.waiting f → Same m' n'
same_after f m n m' n' same left right there = record {
  places = λ k. left.places k ∙ same.places k ∙ sym (right.places k);
  waiting = λ k. ⊎_elim (λ e. rw e there) (λ ne. left.waiting k ne ∙ same.waiting k ∙ sym (right.waiting k ne)) (cases_eq k f);
}

refusal_same : (e d : Refusal) → e.reason ≡ d.reason → e.place ≡ d.place → e.concerns ≡ d.concerns → e ≡ d
refusal_same e d p q r = rw (p, q, r)

checks_same : (m n : Meaning) (f : ℕ) (x : Instance) → Same m n → first_reason (put_checks m f x) ≡ first_reason (put_checks n f x)
checks_same m n f x same = rw (same.places f, same.waiting f)

never_both : {X : Type 0} (o o' : Option X) (x : X) → o ≡ o' → o ≡ None → o' ≡ Some x → ⊥
never_both o o' x e p q = let z : ◌≡◌ {A = ℕ} 0 1 = cc in omega arith

put_same : (m n m' n' : Meaning) (f : ℕ) (x : Instance) (r q : Result Unit Refusal) → Same m n → Putting m f x r m' → Putting n f x q n' → (q ≡ r) × Same m' n'
put_same m n m' n' f x (Ok u) (Ok v) same p s =
    (refl, same_after f m n m' n' same p.others s.others (placed_same upto x _ _ _ _ (same.waiting f) p.verdict.1 s.verdict.1))
put_same m n m' n' f x (Ok u) (Err e) same p s = absurd (never_both _ _ e.reason (checks_same m n f x same) p.verdict.0 s.verdict.0)
put_same m n m' n' f x (Err e) (Ok v) same p s = absurd (never_both _ _ e.reason (sym (checks_same m n f x same)) s.verdict.0 p.verdict.0)
put_same m n m' n' f x (Err e) (Err d) same p s =
    let checks = checks_same m n f x same in
    let before = p.verdict.0 in
    let after = s.verdict.0 in
    let reason : d.reason ≡ e.reason = cc in
    let place = s.verdict.1 ∙ sym p.verdict.1 in
    let concerns = s.verdict.2 ∙ sym p.verdict.2 in
    (ap Err (refusal_same d e reason place concerns), same_after f m n m' n' same p.others s.others (p.stays ∙ same.waiting f ∙ sym s.stays))

take_same : (m n m' n' : Meaning) (f : ℕ) (r q : Option Instance) → Same m n → Taking m f r m' → Taking n f q n' → (q ≡ r) × Same m' n'
take_same m n m' n' f None None same p s =
    (refl, same_after f m n m' n' same p.others s.others (p.first.1 ∙ sym s.first.1))
take_same m n m' n' f None (Some y) same p s =
    let there = same.waiting f in let none = p.first.0 in let some = s.first in let z : ◌≡◌ {A = ℕ} 0 1 = cc in absurd (omega arith)
take_same m n m' n' f (Some x) None same p s =
    let there = same.waiting f in let none = s.first.0 in let some = p.first in let z : ◌≡◌ {A = ℕ} 0 1 = cc in absurd (omega arith)
take_same m n m' n' f (Some x) (Some y) same p s =
    let there = same.waiting f in
    let left = p.first in
    let right = s.first in
    let first : y ≡ x = cc in
    let rest : m'.waiting f ≡ n'.waiting f = cc in
    (ap Some first, same_after f m n m' n' same p.others s.others rest)

step_same : {m n m' n' : Meaning} {c : BufferCall} {a b : BufferAnswer} → Same m n → Step m c a m' → Step n c b n' → (b ≡ a) × Same m' n'
step_same {m} {n} {m'} {n'} same (Step.put {f = f} {x = x} {r = r} p) (Step.put {r = q} s) =
    let both = put_same m n m' n' f x r q same p s in (ap answer.Put both.0, both.1)
step_same {m} {n} {m'} {n'} same (Step.take {f = f} {r = r} p) (Step.take {r = q} s) =
    let both = take_same m n m' n' f r q same p s in (ap answer.Take both.0, both.1)

-- whatever means the same at the start gets the same answers, and means the same at the end
pub determined : {m m' : Meaning} {cs : List BufferCall} {given : List BufferAnswer} → Carried m cs given m' → Determined m cs given m'
determined (Carried.none here) n n' bs same (Carried.none there) = (refl, same)
determined (Carried.one_more here first rest) n n' bs same (Carried.one_more there first' rest') =
    let step = step_same same first first' in
    let later = determined rest _ n' _ step.1 rest' in
    (rw (step.0, later.0), later.1)

-- an instance that is placed stands last of its priority
class_put : (x : Instance) (old new : List Instance) → Placed upto x old new → Ascending upto old → (p : ℕ) → of_priority p old ++ of_priority p (x ∷ []) ≡ of_priority p new
class_put x old new placed asc p = ⊎_elim
    (λ own.
    let none = none_of p placed.back (All-weaker (λ y. upto y x ≡ false) (λ y. y.priority ≡ p → ⊥)
    (λ y out e. let l = leb-false y.priority x.priority out in omega arith) placed.back (placed.before asc)) in
    rw (placed.parts, placed.put, filter-append (λ y. eqb y.priority p) placed.front placed.back, own_in p x placed.front placed.back own, none)
    (ap (λ l. l ++ of_priority p (x ∷ [])) (append-nil (of_priority p placed.front)) ∙ ap (λ l. of_priority p placed.front ++ l) (own_in p x [] [] own)))
    (λ other.
    rw (placed.parts, placed.put, other_out p x placed.front placed.back other, other_out p x [] [] other)
    (append-nil (of_priority p (placed.front ++ placed.back))))
    (cases_eq x.priority p)

-- what waits for a frame that a call does not touch
unmoved : (m m' : Meaning) (f p : ℕ) → m'.waiting f ≡ m.waiting f → of_priority p (m.waiting f) ++ [] ≡ of_priority p (m'.waiting f)
unmoved m m' f p same = append-nil (of_priority p (m.waiting f)) ∙ ap (of_priority p) (sym same)

put_kept : (m m' : Meaning) (k : ℕ) (x : Instance) (r : Result Unit Refusal) → Ordered m → Putting m k x r m' → (f p : ℕ)
    → of_priority p (m.waiting f) ++ of_priority p (cond (is_ok r && eqb k f) (x ∷ []) []) ≡ of_priority p (m'.waiting f)
put_kept m m' k x (Ok u) ordered step f p = ⊎_elim
    (λ here. rw (cond-true (eqb k f) (x ∷ []) [] (eq-eqb k f here), ← here) (class_put x _ _ step.verdict.1 (ordered k) p))
    (λ other. rw (cond-false (eqb k f) (x ∷ []) [] (ne_eqb k f other)) (unmoved m m' f p (step.others.waiting f (λ e. other (sym e)))))
    (cases_eq k f)
put_kept m m' k x (Err e) ordered step f p =
    unmoved m m' f p (⊎_elim (λ here. rw (← here) step.stays) (λ other. step.others.waiting f (λ e. other (sym e))) (cases_eq k f))

take_kept : (m m' : Meaning) (k : ℕ) (r : Option Instance) → Taking m k r m' → (f p : ℕ)
    → of_priority p (m.waiting f) ++ [] ≡ of_priority p (cond (eqb k f) (option_to_list r) []) ++ of_priority p (m'.waiting f)
take_kept m m' k r step f p = ⊎_elim
    (λ here. rw (cond-true (eqb k f) (option_to_list r) [] (eq-eqb k f here), ← here) (append-nil (of_priority p (m.waiting k)) ∙ first r step.first))
    (λ other. rw (cond-false (eqb k f) (option_to_list r) [] (ne_eqb k f other)) (unmoved m m' f p (step.others.waiting f (λ e. other (sym e)))))
    (cases_eq k f)
  where
    first : (o : Option Instance) → options.MatchOption o ((m.waiting k ≡ []) × (m'.waiting k ≡ [])) (λ x. m.waiting k ≡ x ∷ m'.waiting k)
        → of_priority p (m.waiting k) ≡ of_priority p (option_to_list o) ++ of_priority p (m'.waiting k)
    first None none = rw (none.0, none.1)
    first (Some x) e = ap (of_priority p) e ∙ filter-append (λ y. eqb y.priority p) (x ∷ []) (m'.waiting k)

step_kept : {m m' : Meaning} {c : BufferCall} {a : BufferAnswer} → Ordered m → Step m c a m' → (f p : ℕ)
    → of_priority p (m.waiting f) ++ of_priority p (brought_by f c a) ≡ of_priority p (taken_by f c a) ++ of_priority p (m'.waiting f)
step_kept {m} {m'} ordered (Step.put {f = k} {x = x} {r = r} step) f p = put_kept m m' k x r ordered step f p
step_kept {m} {m'} ordered (Step.take {f = k} {r = r} step) f p = take_kept m m' k r step f p

-- two parts, each in balance, are in balance together
both_kept : (p : ℕ) (w b t w' bs ts w'' : List Instance) → of_priority p w ++ of_priority p b ≡ of_priority p t ++ of_priority p w'
    → of_priority p w' ++ of_priority p bs ≡ of_priority p ts ++ of_priority p w'' → of_priority p w ++ of_priority p (b ++ bs) ≡ of_priority p (t ++ ts) ++ of_priority p w''
both_kept p w b t w' bs ts w'' one rest =
    rw (filter-append (λ y. eqb y.priority p) b bs, filter-append (λ y. eqb y.priority p) t ts)
    (sym (append_assoc (of_priority p w) (of_priority p b) (of_priority p bs)) ∙ ap (λ l. l ++ of_priority p bs) one
    ∙ append_assoc (of_priority p t) (of_priority p w') (of_priority p bs) ∙ ap (λ l. of_priority p t ++ l) rest
    ∙ sym (append_assoc (of_priority p t) (of_priority p ts) (of_priority p w'')))

pub nothing_lost_in_run : {m m' : Meaning} {cs : List BufferCall} {given : List BufferAnswer} → Carried m cs given m' → NothingLost m cs given m'
nothing_lost_in_run {m} (Carried.none here) f p = append-nil (of_priority p (m.waiting f))
nothing_lost_in_run {m} {m' = m''} (Carried.one_more {m' = m'} {c = c} {a = a} {cs = cs} {as' = given} here first rest) f p =
    both_kept p (m.waiting f) (brought_by f c a) (taken_by f c a) (m'.waiting f) (brought f cs given) (taken f cs given) (m''.waiting f)
    (step_kept here first f p) (nothing_lost_in_run rest f p)

-- the call at a place, after those before it
pub carried_more : {m m' m'' : Meaning} {given : List BufferAnswer} {a : BufferAnswer} (calls : List BufferCall) (i : ℕ) (d : BufferCall) (given' : List BufferAnswer)
    → i < length calls → Carried m (take i calls) given m' → Ordered m'' → Step m' (get_or calls i d) a m'' → given' ≡ given ++ a ∷ []
    → Carried m (take (i + 1) calls) given' m''
carried_more calls i d given' l before last step e = rw (take_more calls i d l, e) (carried_push before last step)

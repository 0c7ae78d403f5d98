-- Calls carried out one after the other.
use Rattle.std.proofs.Common.{◌≡◌, ℕ, ◌+◌, ◌<◌, List, [], ◌∷◌, ◌++◌, length, get_or, take, sym, refl, ◌∙◌, subst, ap₂, arith}
use Rattle.std.proofs.lemmas.List.{take_more, length-take}
use Rattle.books.specs.Book.{Lawful}
use Rattle.slots.specs.States.{State}
use Rattle.slots.specs.Runs.{Answered}
use Rattle.slots.specs.declared.calls.Call.{Call}
use Rattle.slots.specs.declared.calls.Answer.{Answer}
use Rattle.slots.proofs.Holds.{delays_hold}
use Rattle.bench.specs.Benches.{Kinds, rows_in, state_of, Course, Kept}
use Rattle.bench.specs.Carried.{followed, AllKept}
use Rattle.bench.specs.declared.bench.Bench.{Bench}

followed_push : (past : List Answered) (cs : List Call) (given : List Answer) (c : Call) (a : Answer) → length cs ≡ length given
    → followed past (cs ++ c ∷ []) (given ++ a ∷ []) ≡ record { call = c; answer = a } ∷ followed past cs given
followed_push past [] [] c a e = refl
followed_push past [] (b ∷ bs) c a e = absurd (omega (arith, e))
followed_push past (d ∷ ds) [] c a e = absurd (omega (arith, e))
followed_push past (d ∷ ds) (b ∷ bs) c a e = followed_push (record { call = d; answer = b } ∷ past) ds bs c a (omega (arith, e))

-- What is known of a bench after some of the calls.
pub record SoFar {B S : Type 0} (k : Kinds B S) (x : Bench B S) (cs : List Call) (given : List Answer) (y : Bench B S) : Type 0 where
  pub same_bus : y.bus ≡ x.bus
  pub same_rows : rows_in y ≡ rows_in x
  pub course : (from : State k.book) (past : List Answered) → Course k from past x → Course k from (followed past cs given) y
  pub places : (from : State k.book) (past : List Answered) → Course k from past x → (f : ℕ) → (k.buffer y.buffer).places f ≡ (k.buffer x.buffer).places f

pub one_more : {B S : Type 0} (k : Kinds B S) (x y z : Bench B S) (cs : List Call) (i : ℕ) (given new : List Answer) (a : Answer) (d : Call)
    → i < length cs → length given ≡ i → new ≡ given ++ a ∷ []
    → SoFar k x (take i cs) given y → Kept k y (get_or cs i d) a z → SoFar k x (take (i + 1) cs) new z
one_more k x y z cs i given new a d l n put far kept =
    let front : length (take i cs) ≡ length given = omega (arith, length-take i cs, l, n) in
    let calls = take_more cs i d l in
    record {
      same_bus = kept.same_bus ∙ far.same_bus;
      same_rows = kept.same_rows ∙ far.same_rows;
      course = λ from past course.
          subst (λ l. Course k from l z) (sym (ap₂ (followed past) calls put ∙ followed_push past (take i cs) given (get_or cs i d) a front))
          (kept.promised from (followed past (take i cs) given) (far.course from past course)).course;
      places = λ from past course f. (kept.promised from (followed past (take i cs) given) (far.course from past course)).places f ∙
          far.places from past course f;
    }

pub all_kept : {B S : Type 0} (k : Kinds B S) → Lawful k.book → (x y : Bench B S) (cs : List Call) (given : List Answer)
    → length given ≡ length cs → SoFar k x cs given y
    → AllKept k x cs given y
all_kept k lawful x y cs given n far = record {
  one_each = n;
  same_bus = far.same_bus;
  same_rows = far.same_rows;
  promised = λ from past course.
      let now = far.course from past course in
      let held = delays_hold k.book lawful y.bus (rows_in y) from now.set (followed past cs given) (state_of k y) now.run in
      record { course = now; places = far.places from past course; guarantee = held.0; in_order = held.1 };
}

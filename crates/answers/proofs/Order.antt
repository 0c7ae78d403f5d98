-- Messages put in one after the other ascend, and none is lost.
use Rattle.std.proofs.Common.{◌≡◌, ◌+◌, Bool, true, false, cond, List, [], ◌∷◌, refl, arith}
use Rattle.std.proofs.ByRecursion.{All-weaker}
use Rattle.std.proofs.lemmas.Bool.Decides.{nat_tests}
use Rattle.ranked.specs.Ranks.{Ascending}
use Rattle.books.specs.Book.{tally}
use Rattle.by_lines.specs.Held.{Told, told_of, told_up_to, put_in, put_all}
use Rattle.by_lines.proofs.Orders.{all_put_in}
use Rattle.answers.specs.Answers.{Ordered}

told_total : (x y : Told) → told_up_to x y ≡ false → told_up_to y x ≡ true
told_total x y h = grind (arith, nat_tests)

told_trans : (x y z : Told) → told_up_to x y ≡ true → told_up_to y z ≡ true → told_up_to x z ≡ true
told_trans x y z p q = grind (arith, nat_tests)

ascends_put : (x : Told) (ys : List Told) → Ascending told_up_to ys → Ascending told_up_to (put_in told_up_to x ys)
ascends_put x [] asc = (tt, tt)
ascends_put x (y ∷ ys) asc = go (told_up_to y x) refl (ascends_put x ys asc.1)
  where
    go : (b : Bool) → told_up_to y x ≡ b → Ascending told_up_to (put_in told_up_to x ys) → Ascending told_up_to (cond b (y ∷ put_in told_up_to x ys) (x ∷ y ∷ ys))
    go true h rest = (all_put_in (λ z. told_up_to y z ≡ true) told_up_to x ys h asc.0, rest)
    go false h rest =
        let up = told_total y x h in
        ((up, All-weaker (λ z. told_up_to y z ≡ true) (λ z. told_up_to x z ≡ true) (λ z q. told_trans x y z up q) ys asc.0), asc)

ascends_all : (done xs : List Told) → Ascending told_up_to done → Ascending told_up_to (put_all told_up_to done xs)
ascends_all done [] asc = asc
ascends_all done (x ∷ xs) asc = ascends_all (put_in told_up_to x done) xs (ascends_put x done asc)

tally_put : (test : Told → Bool) (x : Told) (ys : List Told) → tally test (put_in told_up_to x ys) ≡ cond (test x) 1 0 + tally test ys
tally_put test x [] = refl
tally_put test x (y ∷ ys) = go (told_up_to y x) (tally_put test x ys)
  where
    go : (b : Bool) → tally test (put_in told_up_to x ys) ≡ cond (test x) 1 0 + tally test ys
        → tally test (cond b (y ∷ put_in told_up_to x ys) (x ∷ y ∷ ys)) ≡ cond (test x) 1 0 + (cond (test y) 1 0 + tally test ys)
    go true e = omega (arith, e)
    go false e = refl

tally_all : (test : Told → Bool) (done xs : List Told) → tally test (put_all told_up_to done xs) ≡ tally test done + tally test xs
tally_all test done [] = omega arith
tally_all test done (x ∷ xs) = omega (arith, tally_all test (put_in told_up_to x done) xs, tally_put test x done)

pub ordered : Ordered
ordered ls = record {
  ascends = ascends_all [] (told_of ls) tt;
  same = λ test. omega (arith, tally_all test [] (told_of ls));
}

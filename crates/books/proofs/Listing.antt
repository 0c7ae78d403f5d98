-- Messages listed one after the other: what the rows are at each step, and which message is the first wrong one.
use Rattle.std.proofs.Common.{◌≡◌, ℕ, ◌+◌, ◌<◌, ◌≤◌, Bool, true, false, cond, not, ◌&&◌, ◌||◌, eqb, List, [], ◌∷◌, ◌++◌, length, get_or, take, is_some, None, Ok, Err, Option, unwrap_or, sym, refl, ap, ◌∙◌, arith, below_more}
use Rattle.std.specs.Option.{option_map}
use Rattle.std.proofs.lemmas.List.{take_all, take_more, get_or_default}
use Rattle.std.proofs.lemmas.Bool.{or_parts, eqb-true, eqb-false, cond_both}
use Rattle.fields.specs.Refusals.{first_reason}
use Rattle.fields.specs.declared.refusal.Reason.TheVariants.{OutOfRange, NumberUsed}
use Rattle.fields.specs.declared.refusal.Refusal.{Refusal}
use Rattle.books.specs.Book.{Fresh}
use Rattle.books.specs.Listing.{RowListed, used, given, wrong_at, RightBelow, FirstWrong}
use Rattle.books.specs.Rows.{Kind, row_book, row_at}

or_last : (a b : Bool) → (a || b) ≡ cond a true b
or_last true b = refl
or_last false b = refl

or_cond : (a b c : Bool) → (a || cond b true c) ≡ cond b true (a || c)
or_cond true true c = refl
or_cond true false c = refl
or_cond false true c = refl
or_cond false false c = refl

-- what the checks of a listing tell where they pass
listing_parts : (a b u : Bool) → first_reason (record { holds = not (a && b); reason = OutOfRange } ∷ record { holds = u; reason = NumberUsed } ∷ []) ≡ None → (b ≡ true) × (u ≡ false)
listing_parts true true false e = (refl, refl)
listing_parts true true true e = let z : ◌≡◌ {A = ℕ} 0 1 = cc in absurd (omega arith)
listing_parts true false u e = let z : ◌≡◌ {A = ℕ} 0 1 = cc in absurd (omega arith)
listing_parts false b u e = let z : ◌≡◌ {A = ℕ} 0 1 = cc in absurd (omega arith)

cond_some : {X : Type 0} (b : Bool) (x y : Option X) (u : Bool) → is_some x ≡ true → is_some y ≡ u → is_some (cond b x y) ≡ cond b true u
cond_some true x y u p q = p
cond_some false x y u p q = q

module _ {M X : Type 0} (number : M → ℕ) (begins : M → Option X) where
  -- the first i messages are right, and the rows are theirs
  pub record Listed (es : List M) (i : ℕ) (rows : List (Option X)) : Type 0 where
    pub right : RightBelow number begins es i
    pub theirs : (n : ℕ) → row_at rows n ≡ given number begins (take i es) n
    pub known : (n : ℕ) → is_some (row_at rows n) ≡ used number (take i es) n

  pub listed_none : (es : List M) (rows : List (Option X)) → ((n : ℕ) → row_at rows n ≡ None) → Listed es 0 rows
  listed_none es rows empty = record {
    right = λ k d l. absurd (omega arith);
    theirs = empty;
    known = λ n. ap is_some (empty n);
  }

  given_push : (xs : List M) (e : M) (n : ℕ) → used number xs (number e) ≡ false
      → given number begins (xs ++ e ∷ []) n ≡ cond (eqb (number e) n) (begins e) (given number begins xs n)
  given_push [] e n free = refl
  given_push (x ∷ xs) e n free =
      let parts = or_parts (eqb (number x) (number e)) (used number xs (number e)) free in
      go (eqb (number x) n) (eqb (number e) n) refl refl parts (given_push xs e n parts.1)
    where
      go : (a b : Bool) → eqb (number x) n ≡ a → eqb (number e) n ≡ b → (eqb (number x) (number e) ≡ false) × (used number xs (number e) ≡ false)
          → given number begins (xs ++ e ∷ []) n ≡ cond (eqb (number e) n) (begins e) (given number begins xs n)
          → cond a (begins x) (given number begins (xs ++ e ∷ []) n) ≡ cond b (begins e) (cond a (begins x) (given number begins xs n))
      go true true p q parts ih = absurd (eqb-false (number x) (number e) parts.0 (eqb-true (number x) n p ∙ sym (eqb-true (number e) n q)))
      go true false p q parts ih = refl
      go false true p q parts ih = ih ∙ rw q
      go false false p q parts ih = ih ∙ rw q

  used_push : (xs : List M) (e : M) (n : ℕ) → used number (xs ++ e ∷ []) n ≡ cond (eqb (number e) n) true (used number xs n)
  used_push [] e n = or_last (eqb (number e) n) false
  used_push (x ∷ xs) e n = ap (λ b. eqb (number x) n || b) (used_push xs e n) ∙ or_cond (eqb (number x) n) (eqb (number e) n) (used number xs n)

  -- the message at a place, by the row that it begins with and what listing it answers
  module _ (es : List M) (i : ℕ) (d : M) (row : Option X) (rows rows' : List (Option X))
      (s : Listed es i rows) (l : i < length es) (first : row ≡ begins (get_or es i d)) where
    -- it is right
    pub listed_more : (done : Unit) → RowListed rows (number (get_or es i d)) row (Ok done) rows' → Listed es (i + 1) rows'
    listed_more done told =
        let e = get_or es i d in
        let checked = rw (first, s.known (number e)) at told.0.0 in
        let free = listing_parts _ _ _ checked in
        let more = take_more es i d l in
        record {
          right = λ k x below. below_more (λ j. (y : M) → wrong_at number begins es j (get_or es j y) ≡ None) i (λ j b y. s.right j y b)
              (λ y. rw (get_or_default es i y d l) checked) k below x;
          theirs = λ n. rw (told.1 n, more, first, s.theirs n, given_push (take i es) e n free.1);
          known = λ n. rw (told.1 n, more, first, used_push (take i es) e n) (cond_some (eqb (number e) n) (begins e) (row_at rows n) _ free.0 (s.known n));
        }

    -- it is the first wrong one
    pub listed_wrong : (r : Refusal) → RowListed rows (number (get_or es i d)) row (Err r) rows' → FirstWrong number begins es r
    listed_wrong r told = record {
      at = i;
      in_list = l;
      before = s.right;
      reason = λ y. rw (get_or_default es i y d l, ← s.known (number (get_or es i d)), ← first) told.0.0;
      place = told.0.1;
      concerns = λ y. rw (get_or_default es i y d l) told.0.2;
    }

  pub listed_all : (es : List M) (i : ℕ) (rows : List (Option X)) → Listed es i rows → length es ≤ i
      → RightBelow number begins es (length es) × ((n : ℕ) → row_at rows n ≡ given number begins es n)
  listed_all es i rows s all = (λ k d l. s.right k d (omega arith), λ n. s.theirs n ∙ ap (λ xs. given number begins xs n) (take_all i es all))

-- rows that may be released at once at first make a fresh book
module _ {M : Type 0} (number : M → ℕ) (k : Kind) (begins : M → Option k.Row) (at_once : (e : M) → unwrap_or (option_map k.earliest (begins e)) 0 ≡ 0) where
  given_at_once : (es : List M) (n : ℕ) → unwrap_or (option_map k.earliest (given number begins es n)) 0 ≡ 0
  given_at_once [] n = refl
  given_at_once (e ∷ es) n =
      cond_both (eqb (number e) n) (begins e) (given number begins es n) (λ o. unwrap_or (option_map k.earliest o) 0 ≡ 0) (λ _. at_once e) (λ _. given_at_once es n)

  pub fresh_at_first : (es : List M) (rows : List (Option k.Row)) → ((n : ℕ) → row_at rows n ≡ given number begins es n) → Fresh (row_book k) rows
  fresh_at_first es rows theirs m _ = ap (λ o. unwrap_or (option_map k.earliest o) 0) (theirs m) ∙ given_at_once es m

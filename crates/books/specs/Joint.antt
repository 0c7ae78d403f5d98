-- The joint book: two books side by side. The left serves what it lists, the right the rest.
use Rattle.std.specs.Prelude.{◌≡◌, ℕ, ◌<◌, Bool, true, false, cond, ◌&&◌, ◌||◌, Option, Result}
use Rattle.std.specs.Option as options
use Rattle.std.specs.Result as results
use Rattle.fields.specs.declared.refusal.Place.TheVariants as place
use Rattle.fields.specs.declared.refusal.Reason.TheVariants.{NumberUsed}
use Rattle.fields.specs.declared.refusal.Refusal.{Refusal}
use Rattle.books.specs.Book.{Book}
use Rattle.books.specs.declared.joint.JointBook.{JointBook}
use Rattle.books.specs.declared.joint.JointRefused.{JointRefused}

-- The two states, and of each message what the side says that serves it.
abbrev pub joined : Book → Book → Book
joined l r = record {
  State = l.State × r.State;
  Sound = λ s. l.Sound s.0 × r.Sound s.1;
  lists = λ s m. l.lists s.0 m || r.lists s.1 m;
  earliest = λ s m. cond (l.lists s.0 m) (l.earliest s.0 m) (r.earliest s.1 m);
  rest = λ s m. cond (l.lists s.0 m) (l.rest s.0 m) (r.rest s.1 m);
  jitter = λ s m. cond (l.lists s.0 m) (l.jitter s.0 m) (r.jitter s.1 m);
  count = λ s m len. cond (l.lists s.0 m) (l.count s.0 m len) (r.count s.1 m len);
  after = λ s m t. cond (l.lists s.0 m) (l.after s.0 m t, s.1) (s.0, r.after s.1 m t);
}

-- The states of both sides.
abbrev pub sides : {L R S T : Type 0} → (L → S) → (R → T) → JointBook L R → S × T
sides f g j = (f j.left, g j.right)

-- Both states list the message.
abbrev pub both_list : (l r : Book) → l.State → r.State → ℕ → Bool
both_list l r x y m = l.lists x m && r.lists y m

-- A message that both list, and none below it.
pub record LowestShared (l r : Book) (x : l.State) (y : r.State) (m : ℕ) : Type 0 where
  pub shared : both_list l r x y m ≡ true
  pub lowest : (k : ℕ) → k < m → both_list l r x y k ≡ false

-- A refusal that names the lowest message that both list.
pub record SharedRefusal (l r : Book) (x : l.State) (y : r.State) (e : Refusal) : Type 0 where
  pub reason : e.reason ≡ NumberUsed
  pub place : e.place ≡ place.Book
  pub concerns : LowestShared l r x y e.concerns

-- Whether the two books share a message, and the lowest where they do.
abbrev pub Sharing : (l r : Book) → l.State → r.State → Option ℕ → Type 0
Sharing l r x y o = options.MatchOption o ((m : ℕ) → both_list l r x y m ≡ false) (LowestShared l r x y)

-- What joining two books answers: a book with both their states where they share no message, else both of them back.
abbrev pub Joining : (l r : Book) {L R : Type 0} → (L → l.State) → (R → r.State) → L → R → Result (JointBook L R) (JointRefused L R) → Type 0
Joining l r f g left right result =
    results.MatchResult result (λ j. (sides f g j ≡ (f left, g right)) × ((m : ℕ) → both_list l r (f left) (g right) m ≡ false))
    (λ e. (e.left ≡ left) × (e.right ≡ right) × SharedRefusal l r (f left) (g right) e.refusal)

-- The rows of a plan are a sound table for the slot rules.
use Rattle.std.proofs.Common.{◌≡◌, ℕ, ◌+◌, Bool, true, false, List, [], ◌∷◌, map, get_or, Some, None, vec_items, Option, sym, refl, ap, ◌∙◌, subst, inl, inr, ⊎_elim}
use Rattle.std.specs.List.{AllByRecursion}
use Rattle.std.proofs.lemmas.Bool.{and_parts, and_from, not-true, not_from_false, both_ways, or_left, or_right, eqb-true, eq-eqb, ne_eqb, leb-true, cases_eq}
use Rattle.books.specs.Book.{Book}
use Rattle.delay.specs.declared.entry.Entry.{Entry}
use Rattle.delay.specs.declared.entry.Row.{Row}
use Rattle.plan.specs.Drafts.{entries_of}
use Rattle.plan.specs.Entries.{some, every, none_clash, numbered, nodes_clash, priorities_clash, ends_within, start_is, starts_as_node}
use Rattle.plan.specs.Plans.{rows_of, Planned}
use Rattle.plan.specs.Sheets.{RowOf, Listed}
use Rattle.plan.specs.declared.draft.Draft.{Draft}
use Rattle.plan.specs.declared.plan.Plan.{Plan}
use Rattle.slots.specs.Rows.{In, SoundTable}
use Rattle.slots.proofs.Sums.{all_in}

some_in : {X Y : Type 0} (f : X → Y) (p : Y → Bool) (xs : List X) (x : X) → In x xs → p (f x) ≡ true → some p (map f xs) ≡ true
some_in f p [] x m e = absurd m
some_in f p (y ∷ ys) x (inl s) e = or_left (p (f y)) _ (subst (λ z. p (f z) ≡ true) s e)
some_in f p (y ∷ ys) x (inr m) e = or_right (p (f y)) _ (some_in f p ys x m e)

-- Where no two clash, two that clash are one.
same_by : {X Y : Type 0} (f : X → Y) (p : Y → Y → Bool) (xs : List X) → none_clash p (map f xs) ≡ true → (x y : X) → In x xs → In y xs
    → p (f x) (f y) ≡ true → p (f y) (f x) ≡ true → x ≡ y
same_by f p [] ok x y m n a c = absurd m
same_by f p (z ∷ zs) ok x y (inl e) (inl d) a c = e ∙ sym d
same_by f p (z ∷ zs) ok x y (inl e) (inr n) a c =
    absurd (both_ways _ (not-true _ (and_parts _ _ ok).0) (some_in f (p (f z)) zs y n (subst (λ v. p (f v) (f y) ≡ true) e a)))
same_by f p (z ∷ zs) ok x y (inr m) (inl d) a c =
    absurd (both_ways _ (not-true _ (and_parts _ _ ok).0) (some_in f (p (f z)) zs x m (subst (λ v. p (f v) (f x) ≡ true) d c)))
same_by f p (z ∷ zs) ok x y (inr m) (inr n) a c = same_by f p zs (and_parts _ _ ok).1 x y m n a c

every_in : {X Y : Type 0} (f : X → Y) (p : Y → Bool) (xs : List X) → every p (map f xs) ≡ true → (x : X) → In x xs → p (f x) ≡ true
every_in f p [] ok x m = absurd m
every_in f p (z ∷ zs) ok x (inl e) = subst (λ v. p (f v) ≡ true) (sym e) (and_parts _ _ ok).0
every_in f p (z ∷ zs) ok x (inr m) = every_in f p zs (and_parts _ _ ok).1 x m

all_map_in : {X Y : Type 0} (f : X → Y) (P : Y → Type 0) (xs : List X) → AllByRecursion P (map f xs) → (x : X) → In x xs → P (f x)
all_map_in f P [] all x m = absurd m
all_map_in f P (z ∷ zs) all x (inl e) = subst (λ v. P (f v)) (sym e) all.0
all_map_in f P (z ∷ zs) all x (inr m) = all_map_in f P zs all.1 x m

-- one node has one last start
one_start : (o : Option ℕ) (a b : ℕ) → start_is o a ≡ true → start_is o b ≡ true → a ≡ b
one_start None a b x y = absurd (both_ways false refl x)
one_start (Some s) a b x y = sym (eqb-true s a x) ∙ eqb-true s b y

module _ {B : Type 0} (b : Book) (meaning : B → b.State) (d : Draft) (book : B) (p : Plan B) (planned : Planned b meaning d book p)
    (listed : AllByRecursion (Listed b (meaning book)) (entries_of d)) where
  entry : Row → Entry
  entry r = r.entry

  -- what the draft is sure of, over the rows
  clear : (q : Entry → Entry → Bool) → none_clash q (entries_of d) ≡ true → none_clash q (map (λ r. r.entry) (rows_of p)) ≡ true
  clear q ok = subst (λ l. none_clash q l ≡ true) (sym planned.sheet.messages) ok

  each : (q : Entry → Bool) → every q (entries_of d) ≡ true → (i : Row) → In i (rows_of p) → q i.entry ≡ true
  each q ok = every_in (λ r. r.entry) q (rows_of p) (subst (λ l. every q l ≡ true) (sym planned.sheet.messages) ok)

  starts_alike : (i j : Row) → In i (rows_of p) → In j (rows_of p) → i.entry.frame ≡ j.entry.frame → i.entry.latest ≡ j.entry.latest
  starts_alike i j m n same =
      ⊎_elim
      (λ node. one_start (get_or (vec_items d.nodes) j.entry.node None) i.entry.latest j.entry.latest
      (subst (λ (k : ℕ). start_is (get_or (vec_items d.nodes) k None) i.entry.latest ≡ true) node
      (each (starts_as_node (vec_items d.nodes)) d.latest i m))
      (each (starts_as_node (vec_items d.nodes)) d.latest j n))
      (λ other. ap (λ (r : Row). r.entry.latest)
      (same_by (λ r. r.entry) nodes_clash (rows_of p) (clear nodes_clash d.one_node) i j m n
      (and_from _ _ (eq-eqb _ _ (sym same)) (not_from_false _ (ne_eqb _ _ (λ e. other (sym e)))))
      (and_from _ _ (eq-eqb _ _ same) (not_from_false _ (ne_eqb _ _ other)))))
      (cases_eq i.entry.node j.entry.node)

  drafted : SoundTable d.bus b (meaning book) (rows_of p)
  drafted = record {
    fits = λ i m. leb-true (i.entry.latest + i.entry.size) (d.bus.minislots + 1) (each (ends_within d.bus.minislots) d.sizes i m);
    one_node = starts_alike;
    one_number = λ i j m n e. same_by (λ r. r.entry) (λ x. numbered x.number) (rows_of p) (clear (λ x. numbered x.number) d.numbers) i j m n
        (eq-eqb _ _ (sym e)) (eq-eqb _ _ e);
    one_priority = λ i j m n f e. same_by (λ r. r.entry) priorities_clash (rows_of p) (clear priorities_clash d.one_priority) i j m n
        (and_from _ _ (eq-eqb _ _ (sym f)) (eq-eqb _ _ (sym e))) (and_from _ _ (eq-eqb _ _ f) (eq-eqb _ _ e));
    listed = all_map_in (λ r. r.entry) (Listed b (meaning book)) (rows_of p) (subst (λ l. AllByRecursion (Listed b (meaning book)) l)
        (sym planned.sheet.messages) listed);
    covered = λ i m. (all_in (RowOf d.bus b (meaning book) (rows_of p)) (rows_of p) i planned.sheet.figures m).delay.meets;
  }

  pub sound_table : SoundTable p.bus b (meaning p.book) (rows_of p)
  sound_table =
      subst (λ bus. SoundTable bus b (meaning p.book) (rows_of p)) (sym planned.same_bus)
      (subst (λ x. SoundTable d.bus b (meaning x) (rows_of p)) (sym planned.same_book) drafted)

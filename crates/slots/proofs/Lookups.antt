-- What the lookups of the slot rules find in the rows of a plan, and what the checks of a release say.
use Rattle.std.proofs.Common.{◌≡◌, ℕ, ◌<◌, ◌≤◌, Bool, true, false, not, ◌&&◌, eqb, ltb, leb, List, [], ◌∷◌, is_some, Some, None, Option, sym, refl, ap, ◌∙◌, arith}
use denote.Ref.{Bor}
use Rattle.std.specs.Option as options
use Rattle.std.specs.Option.{option_map}
use Rattle.std.proofs.lemmas.Bool.{eqb-true, eq-eqb, and_parts, leb-true, ltb-false, eqb-false, le-ltb}
use Rattle.fields.specs.Refusals.{first_reason}
use Rattle.fields.specs.declared.refusal.Reason.{Reason}
use Rattle.books.specs.Book.{Book}
use Rattle.delay.specs.declared.bus.Bus.{Bus}
use Rattle.delay.specs.declared.entry.Row.{Row}
use Rattle.slots.specs.Rows.{In, row_of, last_start_of, latest_in, SoundTable}
use Rattle.slots.specs.States.{State, clock, not_before, later_than, allowed}
use Rattle.slots.specs.Steps.{release_checks, run_checks, cycles}
use Rattle.slots.specs.declared.position.Position.{Position}
use Rattle.slots.proofs.Sums.{first_in, first_found}

-- the row that is found is one of the rows, and has the number
pub found_row : (rows : List Row) (m : ℕ) (i : Row) → row_of rows m ≡ Some i → In i rows × (i.entry.number ≡ m)
found_row rows m i e = let h = first_in (λ r. eqb r.entry.number m) rows i e in (h.0, eqb-true i.entry.number m h.1)

-- what a lookup answers of the row that it finds, or else 0
pub latest_found : (o : Option (Bor Row)) (n : ℕ) → options.MatchOption o (n ≡ 0) (λ r. n ≡ r.now.entry.latest) → n ≡ latest_in (option_map (λ r. r.now) o)
latest_found None n e = e
latest_found (Some r) n e = e

module _ (bus : Bus) (b : Book) (s : b.State) (rows : List Row) (table : SoundTable bus b s rows) where
  pub planned_row_of : (i : Row) → In i rows → (m : ℕ) → i.entry.number ≡ m → row_of rows m ≡ Some i
  planned_row_of i n m e =
      let y = first_found (λ r. eqb r.entry.number m) rows i n (eq-eqb i.entry.number m e) in
      let h = found_row rows m y.0 y.1 in
      y.1 ∙ ap Some (table.one_number y.0 i h.0 n (h.1 ∙ sym e))

  pub planned_last_start : (i : Row) → In i rows → (f : ℕ) → i.entry.frame ≡ f → last_start_of rows f ≡ i.entry.latest
  planned_last_start i n f e =
      let y = first_found (λ r. eqb r.entry.frame f) rows i n (eq-eqb i.entry.frame f e) in
      let h = first_in (λ r. eqb r.entry.frame f) rows y.0 y.1 in
      ap latest_in y.1 ∙ table.one_node y.0 i h.0 n (eqb-true y.0.entry.frame f h.1 ∙ sym e)

-- where there is a value, which
pub some_value : {X : Type 0} (o : Option X) → is_some o ≡ true → (x : X) × (o ≡ Some x)
some_value None e = let z : ◌≡◌ {A = ℕ} 0 1 = cc in absurd (omega arith)
some_value (Some x) e = (x, refl)

-- no condition of three holds
three : (x y z : Bool) (a c d : Reason)
    → first_reason (record { holds = not x; reason = a } ∷ record { holds = not y; reason = c } ∷ record { holds = z; reason = d } ∷ []) ≡ None
    → (x ≡ true) × (y ≡ true) × (z ≡ false)
three true true false a c d e = (refl, refl, refl)
three true true true a c d e = let z : ◌≡◌ {A = ℕ} 0 1 = cc in absurd (omega arith)
three true false z a c d e = let z : ◌≡◌ {A = ℕ} 0 1 = cc in absurd (omega arith)
three false y z a c d e = let z : ◌≡◌ {A = ℕ} 0 1 = cc in absurd (omega arith)

-- What a release that is not refused meets.
pub record Admits (bus : Bus) (rows : List Row) (b : Book) (s : State b) (m t : ℕ) : Type 0 where
  pub planned : is_some (row_of rows m) ≡ true
  pub in_order : not_before s.released t ≡ true
  pub later : later_than s.started t ≡ true
  pub by_clock : t ≤ clock bus s.position
  pub due : b.earliest s.book m ≤ t

-- What the clock allows.
pub allowed_parts : (bus : Bus) (p : Position) (released started : Option ℕ) (t : ℕ) → allowed bus p released started t ≡ true
    → (not_before released t ≡ true) × (later_than started t ≡ true) × (t ≤ clock bus p)
allowed_parts bus p released started t ok =
    let x = and_parts (not_before released t) (later_than started t && leb t (clock bus p)) ok in
    let y = and_parts (later_than started t) (leb t (clock bus p)) x.1 in
    (x.0, y.0, leb-true t (clock bus p) y.1)

pub admits : (bus : Bus) (rows : List Row) (b : Book) (s : State b) (m t : ℕ) → first_reason (release_checks bus rows b s m t) ≡ None
    → Admits bus rows b s m t
admits bus rows b s m t e =
    let h = three (is_some (row_of rows m)) (allowed bus s.position s.released s.started t) (ltb t (b.earliest s.book m)) _ _ _ e in
    let p = allowed_parts bus s.position s.released s.started t h.1 in
    record { planned = h.0; in_order = p.0; later = p.1; by_clock = p.2; due = ltb-false t (b.earliest s.book m) h.2 }

-- A planned release at an allowed time that is due is not refused.
pub not_refused : (bus : Bus) (rows : List Row) (b : Book) (s : State b) (m t : ℕ) → is_some (row_of rows m) ≡ true
    → allowed bus s.position s.released s.started t ≡ true → b.earliest s.book m ≤ t → first_reason (release_checks bus rows b s m t) ≡ None
not_refused bus rows b s m t is ok due = let on-time : ltb t (b.earliest s.book m) ≡ false = le-ltb _ _ due in rw (is, ok, on-time)

-- A slot is run in the cycles below the last.
one : (x : Bool) (a : Reason) → first_reason (record { holds = x; reason = a } ∷ []) ≡ None → x ≡ false
one false a e = refl
one true a e = let z : ◌≡◌ {A = ℕ} 0 1 = cc in absurd (omega arith)

pub running : (p : Position) → p.cycle ≤ cycles → first_reason (run_checks p) ≡ None → p.cycle < cycles
running p l e = let not_last = eqb-false p.cycle cycles (one (eqb p.cycle cycles) _ e) in omega (arith, not_last)

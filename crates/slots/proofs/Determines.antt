-- Every call has one answer and one state after it.
use Rattle.std.proofs.Common.{◌≡◌, ℕ, cond, eqb, List, Some, None, Ok, Err, Option, sym, refl, ap, ◌∙◌, subst, ⊎_elim, arith}
use Rattle.std.proofs.lemmas.Bool.{cases_eq, eq-eqb, ne_eqb, cond-true, cond-false}
use Rattle.fields.specs.Refusals.{Check, first_reason, RefusedFor}
use Rattle.fields.specs.declared.refusal.Reason.{Reason}
use Rattle.fields.specs.declared.refusal.Refusal.{Refusal}
use Rattle.fields.specs.declared.refusal.Place.{Place}
use Rattle.fields.specs.declared.refusal.Place.TheVariants as place
use Rattle.books.specs.Book.{Book}
use Rattle.buffers.specs.declared.instance.Instance.{Instance}
use Rattle.delay.specs.declared.bus.Bus.{Bus}
use Rattle.delay.specs.declared.entry.Row.{Row}
use Rattle.slots.specs.Rows.{row_of}
use Rattle.slots.specs.States.{State, clock}
use Rattle.slots.specs.Steps.{Step, Taken, SlotRun, sends, keeps, used, sent_from, instance_of, release_checks, run_checks}
use Rattle.slots.specs.Guarantees.{Determined, OneAnswer}
use Rattle.slots.specs.declared.calls.Call.TheVariants as call
use Rattle.slots.specs.declared.calls.SlotReport.{SlotReport}
use Rattle.slots.specs.declared.calls.Answer.{Answer}
use Rattle.slots.specs.declared.calls.Answer.TheVariants.{Released, Ran, At}
use Rattle.slots.proofs.Lookups.{some_value, admits}
use Rattle.slots.proofs.Invariant.{with_release, with_slot}
use Rattle.slots.proofs.Placing.{place, one_place}
use Rattle.slots.proofs.Holds.{same_state}

-- one refusal for one list of conditions
one_refusal : (cs : List Check) (p : Place) (n : ℕ) (e d : Refusal) → RefusedFor cs p n e → RefusedFor cs p n d → e ≡ d
one_refusal cs p n e d h g =
    let both = sym h.0 ∙ g.0 in
    let reasons : e.reason ≡ d.reason = cc in
    let places : e.place ≡ d.place = h.1 ∙ sym g.1 in
    let concerns : e.concerns ≡ d.concerns = h.2 ∙ sym g.2 in
    λ i. record { reason = reasons i; place = places i; concerns = concerns i }

never_both : (o : Option Reason) (r : Reason) → o ≡ None → o ≡ Some r → ⊥
never_both o r e f = let z : ◌≡◌ {A = ℕ} 0 1 = cc in absurd (omega arith)

module _ (bus : Bus) (rows : List Row) (b : Book) (s : State b) where
  same_taken : (i j : Row) (t : ℕ) (u v : State b) → i ≡ j → Taken b s i t u → Taken b s j t v → u ≡ v
  same_taken i j t u v e h g' =
      let g : Taken b s i t v = rw e g' in
      same_state b u v (h.position ∙ sym g.position) (h.released ∙ sym g.released) (h.started ∙ sym g.started) (h.book ∙ sym g.book)
      (λ f. ⊎_elim
      (λ (here : f ≡ i.entry.frame). subst (λ y. u.waiting y ≡ v.waiting y) (sym here)
      (one_place (instance_of i t) (s.waiting i.entry.frame) (u.waiting i.entry.frame) (v.waiting i.entry.frame) h.placed
      g.placed))
      (λ (there : f ≡ i.entry.frame → ⊥). h.others f there ∙ sym (g.others f there))
      (cases_eq f i.entry.frame))

  same_run : (p q : SlotReport) (u v : State b) → SlotRun bus rows b s p u → SlotRun bus rows b s q v → (p ≡ q) × (u ≡ v)
  same_run p q u v h g =
      let cycles = h.cycle ∙ sym g.cycle in
      let slots = h.slot ∙ sym g.slot in
      let starts = h.start ∙ sym g.start in
      let sents = h.sent ∙ sym g.sent in (
        λ i. record { cycle = cycles i; slot = slots i; start = starts i; sent = sents i },
        same_state b u v (h.position ∙ sym g.position) (h.released ∙ sym g.released) (h.started ∙ sym g.started) (h.book ∙ sym g.book)
            (λ f. ⊎_elim
            (λ (here : f ≡ s.position.slot). subst (λ y. u.waiting y ≡ v.waiting y) (sym here) (h.frame ∙ sym g.frame))
            (λ (there : f ≡ s.position.slot → ⊥). h.others f there ∙ sym (g.others f there))
            (cases_eq f s.position.slot)),
      )

  -- a release
  module _ (m t : ℕ) where
    only_accepted : (i : Row) (u : State b) → row_of rows m ≡ Some i → first_reason (release_checks bus rows b s m t) ≡ None → Taken b s i t u
        → {a : Answer} {v : State b} → Step bus rows b s (call.Release m t) a v → (a ≡ Released (Ok tt)) × (v ≡ u)
    only_accepted i u is ok h (Step.accepted {s' = v} j js _ g) =
        let both = sym is ∙ js in let same : i ≡ j = cc in (refl, sym (same_taken i j t u v same h g))
    only_accepted i u is ok h (Step.refused {e = e} why same) = absurd (never_both _ e.reason ok why.0)

    only_refused : (d : Refusal) → RefusedFor (release_checks bus rows b s m t) place.Bench m d
        → {a : Answer} {v : State b} → Step bus rows b s (call.Release m t) a v → (a ≡ Released (Err d)) × (v ≡ s)
    only_refused d why (Step.accepted j js ok g) = absurd (never_both _ d.reason ok why.0)
    only_refused d why (Step.refused {e = e} other same) =
        (ap (λ x. Released (Err x)) (one_refusal (release_checks bus rows b s m t) place.Bench m e d other why), same)

    release : (o : Option Reason) → first_reason (release_checks bus rows b s m t) ≡ o → Determined bus rows b s (call.Release m t)
    release (Some r) is =
        let d : Refusal = record { reason = r; place = place.Bench; concerns = m } in
        record {
          answer = Released (Err d);
          after = s;
          step = Step.refused (is, refl, refl) refl;
          only = λ a v one. only_refused d (is, refl, refl) one;
          refusal_leaves = λ _. refl;
        }
    release None is =
        let found = some_value (row_of rows m) (admits bus rows b s m t is).planned in
        let i = found.0 in
        let here = place (instance_of i t) (s.waiting i.entry.frame) in
        let waiting : ℕ → List Instance = λ f. cond (eqb f i.entry.frame) here.new (s.waiting f) in
        let frame : waiting i.entry.frame ≡ here.new = cond-true _ _ _ (eq-eqb i.entry.frame i.entry.frame refl) in
        let u = with_release b s i.entry.number t waiting in
        let h : Taken b s i t u = record {
          position = refl;
          released = refl;
          started = refl;
          book = refl;
          placed = rw frame here.placed;
          others = λ f e. cond-false _ _ _ (ne_eqb f i.entry.frame e);
        } in
        record {
          answer = Released (Ok tt);
          after = u;
          step = Step.accepted i found.1 is h;
          only = λ a v one. only_accepted i u found.1 is h one;
          refusal_leaves = λ r. let no-error = r.1 in let z : ◌≡◌ {A = ℕ} 0 1 = cc in absurd (omega arith);
        }

  -- a slot run
  only_ran : (p : SlotReport) (u : State b) → first_reason (run_checks s.position) ≡ None → SlotRun bus rows b s p u
      → {a : Answer} {v : State b} → Step bus rows b s call.SlotRun a v → (a ≡ Ran (Ok p)) × (v ≡ u)
  only_ran p u ok h (Step.ran {r = q} {s' = v} _ g) = let same = same_run p q u v h g in (ap (λ x. Ran (Ok x)) (sym same.0), sym same.1)
  only_ran p u ok h (Step.over {e = e} why same) = absurd (never_both _ e.reason ok why.0)

  only_over : (d : Refusal) → RefusedFor (run_checks s.position) place.Bench s.position.cycle d
      → {a : Answer} {v : State b} → Step bus rows b s call.SlotRun a v → (a ≡ Ran (Err d)) × (v ≡ s)
  only_over d why (Step.ran ok g) = absurd (never_both _ d.reason ok why.0)
  only_over d why (Step.over {e = e} other same) = (
    ap (λ x. Ran (Err x))
        (one_refusal (run_checks s.position) place.Bench s.position.cycle e d other why),
    same,
  )

  slot_run : (o : Option Reason) → first_reason (run_checks s.position) ≡ o → Determined bus rows b s call.SlotRun
  slot_run (Some r) is =
      let d : Refusal = record { reason = r; place = place.Bench; concerns = s.position.cycle } in
      record {
        answer = Ran (Err d);
        after = s;
        step = Step.over (is, refl, refl) refl;
        only = λ a v one. only_over d (is, refl, refl) one;
        refusal_leaves = λ _. refl;
      }
  slot_run None is =
      let ws = s.waiting s.position.slot in
      let o = sends rows s.position ws in
      let left = keeps rows s.position ws in
      let waiting : ℕ → List Instance = λ f. cond (eqb f s.position.slot) left (s.waiting f) in
      let start = clock bus s.position in
      let p : SlotReport = record { cycle = s.position.cycle; slot = s.position.slot; start = start; sent = sent_from bus rows start o } in
      let u = with_slot bus b s (used rows o) waiting in
      let h : SlotRun bus rows b s p u = record {
        cycle = refl;
        slot = refl;
        start = refl;
        sent = refl;
        position = refl;
        released = refl;
        started = refl;
        book = refl;
        frame = cond-true _ _ _ (eq-eqb s.position.slot s.position.slot refl);
        others = λ f e. cond-false _ _ _ (ne_eqb f s.position.slot e);
      } in
      record {
        answer = Ran (Ok p);
        after = u;
        step = Step.ran is h;
        only = λ a v one. only_ran p u is h one;
        refusal_leaves = λ r. let no-error = r.1 in let z : ◌≡◌ {A = ℕ} 0 1 = cc in absurd (omega arith);
      }

  -- the question
  only_told : {a : Answer} {v : State b} → Step bus rows b s call.Position a v → (a ≡ At (s.position.cycle, s.position.minislot)) × (v ≡ s)
  only_told (Step.told same) = (refl, same)

  position : Determined bus rows b s call.Position
  position = record {
    answer = At (s.position.cycle, s.position.minislot);
    after = s;
    step = Step.told refl;
    only = λ a v one. only_told one;
    refusal_leaves = λ _. refl;
  }

pub one_answer : (b : Book) → OneAnswer b
one_answer b bus rows s (call.Release m t) = release bus rows b s m t (first_reason (release_checks bus rows b s m t)) refl
one_answer b bus rows s call.SlotRun = slot_run bus rows b s (first_reason (run_checks s.position)) refl
one_answer b bus rows s call.Position = position bus rows b s

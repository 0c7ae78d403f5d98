use Rattle.std.proofs.Common.{◌≡◌, ◌<◌, ◌∷◌, ◌++◌, length, Err, sym, ap, arith, rules}
use Rattle.std.proofs.lemmas.List.{length-append}
use Rattle.std.proofs.lemmas.Result.{err_from_is_err_and}
use Rattle.std.proofs.lemmas.Bool.{eqb-false}
use Rattle.fields.specs.declared.refusal.Reason.TheVariants.{Malformed}
use Rattle.texts.specs.declared.fault.TableFault.TheVariants.{Refused}
use Rattle.texts.specs.Readers.{OneLine, bus_line, next_line, unmarked, no_bus_line, bus_refused, bus_unchecked, no_line_feed, line_refused, line_unchecked}
use Rattle.texts.proofs.reader.read.Goals as goal

pub loop-number-init : goal.loop-number-init
loop-number-init g c =
    let m = c.in_ok-rest.ensures in
    let whole : c.in_ok-rest.rest.now ≡ c.in_ok-bus.bus.line.now ++ 10 ∷ c.in_ok-bus.bus.rest.now = search rules in
    let first : OneLine c.in_ok-bus.bus.line.now = search rules in (
      omega (arith, ap length m.begins, m.short, ap length whole, length-append c.in_ok-bus.bus.line.now (10 ∷ c.in_ok-bus.bus.rest.now)),
      bus_line c.in_ok-bus.bus.line.now c.in_ok-bus.bus.rest.now c.in_ok-step.step c.in_ok-table.table
          (rw whole at m) first c.in_ok-step.ensures c.in_ok-table.ensures,
    )

pub loop-number-preserved : goal.loop-number-preserved
loop-number-preserved g c =
    let whole : c.loop-number.rest.now ≡ c.in_ok-cut.cut.line.now ++ 10 ∷ c.in_ok-cut.cut.rest.now = search rules in
    let first : OneLine c.in_ok-cut.cut.line.now = search rules in (
      omega (arith, ap length whole, length-append c.in_ok-cut.cut.line.now (10 ∷ c.in_ok-cut.cut.rest.now)),
      next_line c.loop-number.number c.loop-number.phase c.loop-number.table c.in_ok-cut.cut.line.now c.in_ok-cut.cut.rest.now
          c.loop-number.rest.now c.in_ok-step-2.step c.add.new.self c.loop-number.invariant.1 whole first c.in_ok-step-2.ensures
          c.in_ok-add.ensures,
    )

pub returns-in_err-rest : goal.returns-in_err-rest
returns-in_err-rest g c =
    let p = err_from_is_err_and c.from_residual.result c.from_residual.ensures.1 in
    rw (p.1, p.2) (unmarked c.in_err-rest.field-0.0 c.in_err-rest.ensures)

pub returns-in_err-bus : goal.returns-in_err-bus
returns-in_err-bus g c =
    let gives : c.from_residual-in_err-bus.result ≡ Err (Refused (record { reason = Malformed; line = 2 })) = search rules in
    let none : OneLine c.in_ok-rest.rest.now = search rules in
    rw gives (no_bus_line c.in_ok-rest.rest.now c.in_ok-rest.ensures none)

pub returns-in_err-step : goal.returns-in_err-step
returns-in_err-step g c =
    let p = err_from_is_err_and c.from_residual-in_err-step.result c.from_residual-in_err-step.ensures.1 in
    let whole : c.in_ok-rest.rest.now ≡ c.in_ok-bus.bus.line.now ++ 10 ∷ c.in_ok-bus.bus.rest.now = search rules in
    let first : OneLine c.in_ok-bus.bus.line.now = search rules in
    rw (p.1, p.2) (bus_refused c.in_ok-bus.bus.line.now c.in_ok-bus.bus.rest.now c.in_err-step.field-0.0
    (rw whole at c.in_ok-rest.ensures) first c.in_err-step.ensures)

pub returns-in_err-table : goal.returns-in_err-table
returns-in_err-table g c =
    let p = err_from_is_err_and c.from_residual-in_err-table.result c.from_residual-in_err-table.ensures.1 in
    let whole : c.in_ok-rest.rest.now ≡ c.in_ok-bus.bus.line.now ++ 10 ∷ c.in_ok-bus.bus.rest.now = search rules in
    let first : OneLine c.in_ok-bus.bus.line.now = search rules in
    rw (p.1, p.2) (bus_unchecked c.in_ok-bus.bus.line.now c.in_ok-bus.bus.rest.now c.in_ok-step.step c.in_err-table.field-0.0
    (rw whole at c.in_ok-rest.ensures) first c.in_ok-step.ensures c.in_err-table.ensures)

pub returns-in_err-cut : goal.returns-in_err-cut
returns-in_err-cut g c =
    let gives : c.from_residual-in_err-cut.result ≡ Err (Refused (record { reason = Malformed; line = c.loop-number.number })) = search rules in
    let none : OneLine c.loop-number.rest.now = search rules in
    let some : 0 < length c.loop-number.rest.now = omega (arith, eqb-false (length c.loop-number.rest.now) 0 (sym c.if-is_empty.ensures)) in
    rw gives (no_line_feed c.loop-number.number c.loop-number.phase c.loop-number.table c.loop-number.rest.now c.loop-number.invariant.1 some none)

pub returns-in_err-step-2 : goal.returns-in_err-step-2
returns-in_err-step-2 g c =
    let p = err_from_is_err_and c.from_residual-in_err-step-2.result c.from_residual-in_err-step-2.ensures.1 in
    let whole : c.loop-number.rest.now ≡ c.in_ok-cut.cut.line.now ++ 10 ∷ c.in_ok-cut.cut.rest.now = search rules in
    let first : OneLine c.in_ok-cut.cut.line.now = search rules in
    rw (p.1, p.2) (line_refused c.loop-number.number c.loop-number.phase c.loop-number.table c.in_ok-cut.cut.line.now
    c.in_ok-cut.cut.rest.now c.loop-number.rest.now c.in_err-step-2.field-0.0 c.loop-number.invariant.1 whole first
    c.in_err-step-2.ensures)

pub returns-in_err-add : goal.returns-in_err-add
returns-in_err-add g c =
    let p = err_from_is_err_and c.from_residual-in_err-add.result c.from_residual-in_err-add.ensures.1 in
    let whole : c.loop-number.rest.now ≡ c.in_ok-cut.cut.line.now ++ 10 ∷ c.in_ok-cut.cut.rest.now = search rules in
    let first : OneLine c.in_ok-cut.cut.line.now = search rules in
    rw (p.1, p.2) (line_unchecked c.loop-number.number c.loop-number.phase c.loop-number.table c.in_ok-cut.cut.line.now
    c.in_ok-cut.cut.rest.now c.loop-number.rest.now c.in_ok-step-2.step c.in_err-add.field-0.0 c.loop-number.invariant.1
    whole first c.in_ok-step-2.ensures c.in_err-add.ensures)

use Rattle.std.proofs.Common.{◌≡◌, ◌≤◌, length, Ok, MatchResult, IsErrAnd, rules}
use Rattle.std.proofs.lemmas.Result.{err_from_is_err_and, MatchResult-at_err}
use Rattle.texts.specs.Plans.{BookOf, NotJoined}
use Rattle.texts.proofs.MapErr.{map_err_relates}
use Rattle.by_lines.specs.Held.{lines_of}
use Rattle.by_lines.specs.Sheets.{fault_of_making}
use Rattle.by_lines.specs.Tables.{longest_text}
use Rattle.by_lines.specs.Plans.{periodic_of, window_of, Planned, Unplanned}
use Rattle.by_lines.proofs.Planned.{no_book_unplanned, planned_lines, unplanned_lines}
use Rattle.by_lines.proofs.sheet.TableSheetText.into_plan.Goals as goal

pub returns-in_err-book : goal.returns-in_err-book
returns-in_err-book c =
    let t = c.args.self in
    let ls = lines_of t in
    let made : MatchResult c.book_of.result (BookOf (periodic_of ls) (window_of ls)) (NotJoined (periodic_of ls) (window_of ls)) = search rules in
    let mapped : MatchResult c.book_of.result (λ x. c.map_err.result ≡ Ok x) (λ e. IsErrAnd c.map_err.result (λ d. length ls ≤ longest_text → d ≡ fault_of_making ls e)) = search rules in
    let not = map_err_relates (BookOf (periodic_of ls) (window_of ls)) (Unplanned t) (λ e d. length ls ≤ longest_text → d ≡ fault_of_making ls e) c.book_of.result c.map_err.result mapped made
    (λ b lists. lists) (λ e d why is. no_book_unplanned t e d why (λ a. is a.few)) in
    let p = err_from_is_err_and c.from_residual-in_err-book.result c.from_residual-in_err-book.ensures.1 in
    rw (p.1, p.2) (MatchResult-at_err (BookOf (periodic_of ls) (window_of ls)) (Unplanned t) c.in_err-book.field-0.0 c.in_err-book.was not)

pub returns : goal.returns
returns c =
    let t = c.args.self in
    let ls = lines_of t in
    let book = c.in_ok-book.book in
    let made : BookOf (periodic_of ls) (window_of ls) book = search rules in
    let mapped : MatchResult c.into_plan.result (λ x. c.map_err-2.result ≡ Ok x) (λ e. IsErrAnd c.map_err-2.result (λ d. length ls ≤ longest_text → d ≡ fault_of_making ls e.fault)) = search rules in
    map_err_relates (Planned t) (Unplanned t) (λ e d. length ls ≤ longest_text → d ≡ fault_of_making ls e.fault) c.into_plan.result c.map_err-2.result mapped c.into_plan.ensures.planned
    (planned_lines t book made)
    (λ e d not is. unplanned_lines t book made e d not (λ a. is a.few))

use Rattle.std.proofs.Common.{◌≡◌, Ok, MatchResult, IsErrAnd, vec_items, refl, inl, inr, rules}
use Rattle.std.proofs.lemmas.Result.{err_from_is_err_and, MatchResult-at_err}
use Rattle.texts.specs.Plans.{BookOf, NotJoined, PlanOf, NoPlan}
use Rattle.texts.specs.Sheets.{fault_of_making}
use Rattle.texts.proofs.Books.{no_book}
use Rattle.texts.proofs.MapErr.{map_err_gives}
use Rattle.texts.proofs.sheet.TableSheetText.into_plan.Goals as goal

pub returns-in_err-book : goal.returns-in_err-book
returns-in_err-book c =
    let t = c.args.self in
    let ps = vec_items t.periodic in
    let ws = vec_items t.window in
    let made : MatchResult c.book_of.result (BookOf ps ws) (NotJoined ps ws) = search rules in
    let mapped : MatchResult c.book_of.result (λ x. c.map_err.result ≡ Ok x) (λ e. IsErrAnd c.map_err.result (λ d. d ≡ fault_of_making (vec_items t.origins) e)) = search rules in
    let not = map_err_gives (BookOf ps ws) (NoPlan t) (fault_of_making (vec_items t.origins)) c.book_of.result c.map_err.result mapped made
    (λ b lists. lists) (λ e why. record { why = e; at_message = refl; reason = inl (no_book ps ws e why) }) in
    let p = err_from_is_err_and c.from_residual.result c.from_residual.ensures.1 in
    rw (p.1, p.2) (MatchResult-at_err (BookOf ps ws) (NoPlan t) c.in_err-book.field-0.0 c.in_err-book.was not)

pub returns : goal.returns
returns c =
    let t = c.args.self in
    let book = c.in_ok-book.book in
    let lists : BookOf (vec_items t.periodic) (vec_items t.window) book = search rules in
    let mapped : MatchResult c.into_plan.result (λ x. c.map_err-2.result ≡ Ok x) (λ e. IsErrAnd c.map_err-2.result (λ d. d ≡ fault_of_making (vec_items t.origins) e.fault)) = search rules in
    map_err_gives (PlanOf t) (NoPlan t) (λ e. fault_of_making (vec_items t.origins) e.fault) c.into_plan.result c.map_err-2.result mapped c.into_plan.ensures.planned
    (λ p planned. record { book = book; lists = lists; planned = planned })
    (λ e not. record { why = e.fault; at_message = refl; reason = inr (book, lists, not.why) })

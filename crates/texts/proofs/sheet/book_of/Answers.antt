use Rattle.std.proofs.Common.{◌≡◌, ap, ◌∙◌, Ok, MatchResult, IsErrAnd, inr, rules}
use Rattle.books.specs.Rows.{row_at}
use Rattle.fields.specs.declared.refusal.MakingFault.TheVariants as making
use Rattle.texts.specs.Plans.{BookOf, NotJoined}
use Rattle.texts.proofs.MapErr.{map_err_gives}
use Rattle.texts.proofs.sheet.book_of.Goals as goal

pub returns : goal.returns
returns c =
    let mapped : MatchResult c.new-3.result (λ x. c.map_err.result ≡ Ok x) (λ e. IsErrAnd c.map_err.result (λ d. d ≡ making.Refused e.refusal)) = search rules in
    map_err_gives (BookOf c.args.periodic.now c.args.window.now) (NotJoined c.args.periodic.now c.args.window.now) (λ e. making.Refused e.refusal) c.new-3.result c.map_err.result mapped c.new-3.ensures.making
    (λ b j. record { periodic_rows = λ n. ap (λ s. row_at s.0 n) j.0 ∙ c.in_ok-left.ensures.making.1 n; window_rows = λ n. ap (λ s. row_at s.1 n) j.0 ∙ c.in_ok-right.ensures.making.1 n })
    (λ e no. inr (inr (c.in_ok-left.left, (c.in_ok-right.right, (c.in_ok-left.ensures.making.1, c.in_ok-right.ensures.making.1, no.2)))))

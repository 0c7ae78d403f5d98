-- Why a table has no book.
use Rattle.std.proofs.Common.{List, inl, inr, ⊎_elim}
use Rattle.fields.specs.declared.refusal.MakingFault.{MakingFault}
use Rattle.fields.specs.declared.refusal.MakingFault.TheVariants as making
use Rattle.books.specs.declared.periodic.PeriodicMessage.{PeriodicMessage}
use Rattle.books.specs.declared.window.WindowMessage.{WindowMessage}
use Rattle.texts.specs.Plans.{NoBook, NotJoined, SharedBetween, SharedFault}

shared : (ps : List PeriodicMessage) (ws : List WindowMessage) (f : MakingFault) → SharedBetween ps ws f → SharedFault f
shared ps ws (making.Refused e) s = (s.0, (s.1.0, s.1.1.2))
shared ps ws making.Memory s = s

pub no_book : (ps : List PeriodicMessage) (ws : List WindowMessage) (f : MakingFault) → NotJoined ps ws f → NoBook ps ws f
no_book ps ws f why = ⊎_elim (λ p. inl p) (λ o. ⊎_elim (λ w. inr (inl w)) (λ s. inr (inr (shared ps ws f s))) o) why

-- The number of every reason of refusal, the name of every place, and how a call is refused.
use Rattle.std.specs.Prelude.{◌≡◌, ℕ, Bool, cond, List, [], ◌∷◌, Some, None, Option, Result}
use Rattle.std.specs.Result as results
use Rattle.fields.specs.declared.refusal.Reason.{Reason}
use Rattle.fields.specs.declared.refusal.Reason.TheVariants.{TextTooLong, WrongFirstLine, Malformed, OutOfRange, NumberUsed, NodeUnknown, SegmentTooLong, FrameOfAnotherNode, PriorityUsed, SizeTooLong, FrameAfterLastStart, NotInBook, NoDelay, TooFewPlaces, NotFresh, NotListed, TimeNotAllowed, TooEarly, CyclesOver, PlacesFull}
use Rattle.fields.specs.declared.refusal.Refusal.{Refusal}
use Rattle.fields.specs.declared.refusal.MakingFault.{MakingFault}
use Rattle.fields.specs.declared.refusal.MakingFault.TheVariants as making
use Rattle.fields.specs.declared.refusal.Place.{Place}
use Rattle.fields.specs.declared.refusal.Place.TheVariants.{Text, Draft, Plan, SettingUp, Bench, Book, Buffer}

abbrev pub number_of : Reason → ℕ
number_of TextTooLong = 1
number_of WrongFirstLine = 2
number_of Malformed = 3
number_of OutOfRange = 4
number_of NumberUsed = 5
number_of NodeUnknown = 6
number_of SegmentTooLong = 7
number_of FrameOfAnotherNode = 8
number_of PriorityUsed = 9
number_of SizeTooLong = 10
number_of FrameAfterLastStart = 11
number_of NotInBook = 12
number_of NoDelay = 13
number_of TooFewPlaces = 14
number_of NotFresh = 15
number_of NotListed = 16
number_of TimeNotAllowed = 17
number_of TooEarly = 18
number_of CyclesOver = 19
number_of PlacesFull = 20

-- The bytes of a place's name.
abbrev pub name_of : Place → List ℕ
name_of Text = 116 ∷ 101 ∷ 120 ∷ 116 ∷ []
name_of Draft = 100 ∷ 114 ∷ 97 ∷ 102 ∷ 116 ∷ []
name_of Plan = 112 ∷ 108 ∷ 97 ∷ 110 ∷ []
name_of SettingUp = 115 ∷ 101 ∷ 116 ∷ 116 ∷ 105 ∷ 110 ∷ 103 ∷ 32 ∷ 117 ∷ 112 ∷ []
name_of Bench = 98 ∷ 101 ∷ 110 ∷ 99 ∷ 104 ∷ []
name_of Book = 98 ∷ 111 ∷ 111 ∷ 107 ∷ []
name_of Buffer = 98 ∷ 117 ∷ 102 ∷ 102 ∷ 101 ∷ 114 ∷ []

-- A condition that a call is checked for, and the reason that it gives.
pub record Check : Type 0 where
  pub holds : Bool
  pub reason : Reason

-- The reason that a call is refused for: that of the first condition that holds, in the order of checking.
abbrev pub first_reason : List Check → Option Reason
first_reason [] = None
first_reason (c ∷ cs) = cond c.holds (Some c.reason) (first_reason cs)

-- A refusal for just that reason, at the place, concerning the number.
abbrev pub RefusedFor : List Check → Place → ℕ → Refusal → Type 0
RefusedFor cs place n e = (first_reason cs ≡ Some e.reason) × (e.place ≡ place) × (e.concerns ≡ n)

-- What a call answers: refused for just that reason, at the place, concerning the number; else a right answer.
abbrev pub Verdict : {X : Type 0} → List Check → Place → ℕ → (X → Type 0) → Result X Refusal → Type 0
Verdict cs place n Right r = results.MatchResult r (λ x. (first_reason cs ≡ None) × Right x) (RefusedFor cs place n)

-- What a making answers: as a call does, or that there was no memory.
abbrev pub FaultFor : List Check → Place → ℕ → MakingFault → Type 0
FaultFor cs place n (making.Refused e) = RefusedFor cs place n e
FaultFor cs place n making.Memory = Unit {0}

abbrev pub Made : {X : Type 0} → List Check → Place → ℕ → (X → Type 0) → Result X MakingFault → Type 0
Made cs place n Right r = results.MatchResult r (λ x. (first_reason cs ≡ None) × Right x) (FaultFor cs place n)

-- Laws of the refusals' numbers: none is 0, and no two refusals have one. Assumes nothing.
use Rattle.std.specs.Prelude.{ℕ, ◌-◌, ◌<◌, ◌≡◌, refl, [], ◌∷◌}
use Rattle.std.proofs.Common.{sym, ap, ◌∙◌, arith, get_or}
use Rattle.refusal.specs.declared.Refusal.{Refusal}
use Rattle.refusal.specs.declared.Refusal.TheVariants.{NotSound, WrongSize, WrongKind, WrongCapacity, WrongLink, WrongTerms, NotLinked, OverCapacity, WrongRank, ReadingTooHigh, MonthFull, UnitFull, MonthEmpty, WrongNames, WrongLine, NoRoom, BothIncomplete, WrongSwitchMonth}
use Rattle.refusal.specs.Numbers.{number_of}

-- the refusal of number n; no refusal has number 18, where any may stand
named : ℕ → Refusal
named n = get_or (NotSound ∷ WrongSize ∷ WrongKind ∷ WrongCapacity ∷ WrongLink ∷ WrongTerms ∷ NotLinked ∷ OverCapacity ∷ WrongRank ∷ ReadingTooHigh ∷ MonthFull ∷ UnitFull ∷ MonthEmpty ∷ WrongNames ∷ WrongLine ∷ NoRoom ∷ BothIncomplete ∷ NotSound ∷ WrongSwitchMonth ∷ []) (n - 1) NotSound

named_is : (r : Refusal) → named (number_of r) ≡ r
unfolding named
named_is NotSound = refl
named_is WrongSize = refl
named_is WrongKind = refl
named_is WrongCapacity = refl
named_is WrongLink = refl
named_is WrongTerms = refl
named_is NotLinked = refl
named_is OverCapacity = refl
named_is WrongRank = refl
named_is ReadingTooHigh = refl
named_is MonthFull = refl
named_is UnitFull = refl
named_is MonthEmpty = refl
named_is WrongNames = refl
named_is WrongLine = refl
named_is NoRoom = refl
named_is BothIncomplete = refl
named_is WrongSwitchMonth = refl

pub one_refusal : (r q : Refusal) → number_of r ≡ number_of q → r ≡ q
one_refusal r q e = sym (named_is r) ∙ ap named e ∙ named_is q

pub number_some : (r : Refusal) → 0 < number_of r
number_some r = grind arith

pub number_not_0 : (r : Refusal) → number_of r ≡ 0 → ⊥
number_not_0 r e = omega (arith, number_some r)

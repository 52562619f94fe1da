-- What the tests of the day's functions come to, case by case, for a reader, since no proof needs it. Assumes nothing.
use Rattle.std.specs.Prelude.{ℕ, ◌≡◌, refl, Bool, true, false, ◌||◌, ◌&&◌, not, List, eqb, length, take, if◌then◌else◌}
use Rattle.std.proofs.Math.Path.{sym}
use Rattle.std.proofs.Common.{ap, ◌∙◌, arith, eq-eqb, ne_eqb, eqb-true, take_all, length-take-le}
use Rattle.std.proofs.lemmas.Bool.{not-false}
use Rattle.lists.specs.Refusals.{first_of}
use Rattle.lists.specs.Laws.TestsLaws.{or_left, or_right}
use Rattle.lists.specs.Laws.RefusalsLaws.{first_head}
use Rattle.check_meter.specs.CheckMeter.{day_blocks, incomplete, blocks_apart, day_number, Stretch, day_to_use, empty_part, DayHandedBack}
use Rattle.check_meter.specs.declared.Comparison.{Comparison}
use Rattle.check_meter.specs.declared.Found.{Found}
use Rattle.check_meter.specs.declared.Meter.{Meter}
use Rattle.check_meter.specs.declared.Meter.TheVariants.{Main, Check}
use Rattle.check_meter.specs.Laws.DaysScanned.{found_in}
use Rattle.check_meter.specs.Laws.DaysCompared.{comparison}

-- ---- the comparison, branch by branch

or_true : (b : Bool) → b || true ≡ true
or_true true = refl
or_true false = refl

-- one day that is not of 96 is enough
module _ (main check : List ℕ) where
  pub main_misfit : eqb (length main) day_blocks ≡ false → day_number main check ≡ 2
  unfolding day_number first_of
  main_misfit e = rw e

  pub check_misfit : eqb (length check) day_blocks ≡ false → day_number main check ≡ 2
  unfolding day_number first_of
  check_misfit e = rw (e, or_true (not (eqb (length main) day_blocks)))

-- both days are of 96 where the test says so
pub both_of_96 : {n m : ℕ} → not (eqb n day_blocks) || not (eqb m day_blocks) ≡ false → (n ≡ day_blocks) × (m ≡ day_blocks)
both_of_96 {n} {m} fit = (eqb-true _ _ (not-false _ (or_left _ _ fit)), eqb-true _ _ (not-false _ (or_right (not (eqb n day_blocks)) _ fit)))

module _ (tolerance : ℕ) (main check : List ℕ) where
  abbrev misfit : Bool
  misfit = not (eqb (length main) day_blocks) || not (eqb (length check) day_blocks)

  pub not_of_96 : misfit ≡ true → 2 ≡ day_number main check
  unfolding day_number first_of
  not_of_96 e = rw e

  -- the number, and what is told where it is 0
  pub compared :
      {found : Found} {number : ℕ} → misfit ≡ false → found ≡ found_in tolerance main check → number ≡ (if found.main && found.check then 17 else 0) →
      (number ≡ day_number main check) × (record { meter = if found.main then Check else Main; apart = found.apart } ≡ comparison tolerance main check)
  unfolding day_number first_of
  compared fit e n = (rw (n, e, fit), rw e)

-- ---- what the comparison tells

part_length : (day : List ℕ) → length day ≡ day_blocks → day_blocks ≡ length (take day_blocks day)
part_length day e = sym (length-take-le day_blocks day (omega arith))

module _ (main check : List ℕ) {number : ℕ} (n : number ≡ day_number main check) (z : number ≡ 0) where
  sizes : (length main ≡ day_blocks) × (length check ≡ day_blocks)
  unfolding day_number
  sizes = both_of_96 (first_head 1 _ _ (sym n ∙ z))

  -- a part of 96 readings
  pub main_part : day_blocks ≡ length (take day_blocks main)
  main_part = part_length main sizes.0

  pub check_part : day_blocks ≡ length (take day_blocks check)
  check_part = part_length check sizes.1

module _ (tolerance : ℕ) (main check : List ℕ) {both : Comparison} (e : both ≡ comparison tolerance main check) where
  pub check_compared : both.meter ≡ (if incomplete main then Check else Main)
  check_compared = rw e

  pub apart_compared : both.apart ≡ blocks_apart tolerance main check
  apart_compared = rw e

is_check : Meter → Bool
is_check Main = false
is_check Check = true

lacks : {meter : Meter} (b : Bool) → meter ≡ (if b then Check else Main) → b ≡ is_check meter
unfolding is_check
lacks true e = rw e
lacks false e = rw e

-- ---- the day handed back, branch by branch

abbrev first96 : Stretch → Stretch
first96 day = record { start = day.start; readings = take day_blocks day.readings }

whole : (day : Stretch) → length day.readings ≡ day_blocks → first96 day ≡ day
whole day e = ap (λ (l : List ℕ). record { start = day.start; readings = l }) (take_all day_blocks day.readings (omega arith))

module _ (tolerance : ℕ) (main check : Stretch) {number : ℕ} (n : number ≡ day_number main.readings check.readings) where
  pub none_handed : (number ≡ 0 → ⊥) → DayHandedBack main check tolerance (empty_part main) number 0
  none_handed z = record { number_is = n; day_is = rw (ne_eqb _ _ z); apart_is = rw (ne_eqb _ _ z) }

  module _ {both : Comparison} (e : both ≡ comparison tolerance main.readings check.readings) (z : number ≡ 0) where
    handed : {day : Stretch} → day ≡ day_to_use main check → DayHandedBack main check tolerance day number both.apart
    handed d = record { number_is = n; day_is = d ∙ rw (eq-eqb _ _ z); apart_is = apart_compared _ _ _ e ∙ rw (eq-eqb _ _ z) }

    pub check_handed : both.meter ≡ Check → DayHandedBack main check tolerance (first96 check) number both.apart
    unfolding day_to_use is_check
    check_handed t = handed (whole check (sizes _ _ n z).1 ∙ rw (lacks _ (check_compared _ _ _ e) ∙ ap is_check t))

    pub main_handed : both.meter ≡ Main → DayHandedBack main check tolerance (first96 main) number both.apart
    unfolding day_to_use is_check
    main_handed f = handed (whole main (sizes _ _ n z).0 ∙ rw (lacks _ (check_compared _ _ _ e) ∙ ap is_check f))

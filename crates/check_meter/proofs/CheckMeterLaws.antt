-- What an estate may rely on: the day to use has every reading, and how high the count can be. Assumes nothing.
use Rattle.std.specs.Prelude.{ℕ, ◌≤◌, ◌≡◌, refl, Bool, true, false, ◌&&◌, not, List, [], eqb, ltb, get_or}
use Rattle.std.proofs.Common.{sym, ◌∙◌, arith}
use borrow.Author.Tests.{eqb-true, eqb-false, le-ltb}
use Rattle.lists.specs.Laws.ChoiceLaws.{if_either}
use Rattle.lists.specs.Tests.{some}
use Rattle.lists.specs.Laws.SumsLaws.{sum_cap, sum_zero}
use Rattle.lists.specs.Laws.RefusalsLaws.{first_head, first_tail}
use Rattle.check_meter.specs.CheckMeter.{day_blocks, missing_mark, missing, incomplete, distance, further_apart, blocks_apart, day_number, Stretch, day_to_use, DayHandedBack}
use Rattle.check_meter.specs.Laws.DaysScanned.{one_at_most}

-- ---- the day to use

none_in_nothing : incomplete [] ≡ false
unfolding incomplete some
none_in_nothing = refl

-- where the check meter's day is to be used, no reading of it is missing
pub check_complete : (main check : List ℕ) → day_number main check ≡ 0 → incomplete main ≡ true → incomplete check ≡ false
unfolding day_number
check_complete main check z m = rw m at (first_head 16 (incomplete main && incomplete check) _ (first_tail 1 _ _ z))

-- ---- the count

pub apart_most : (tolerance : ℕ) (main check : List ℕ) → blocks_apart tolerance main check ≤ day_blocks
unfolding blocks_apart
apart_most tolerance main check =
    omega (arith, sum_cap day_blocks 1 _ (λ i l. one_at_most (further_apart tolerance (get_or main i 0) (get_or check i 0))))

-- Of numbers of 32 bits the highest that is a reading: no two readings are further apart than that.
abbrev pub highest_reading : ℕ
highest_reading = 4_294_967_294

never_apart : (tolerance x y : ℕ) → highest_reading ≤ tolerance → x ≤ missing_mark → y ≤ missing_mark → further_apart tolerance x y ≡ false
unfolding further_apart
never_apart tolerance x y t h k = by_case (missing x) (missing y) (eqb-false x missing_mark) (eqb-false y missing_mark)
  where
    by_case : (mx my : Bool) → (mx ≡ false → x ≡ missing_mark → ⊥) → (my ≡ false → y ≡ missing_mark → ⊥) → not mx && not my && ltb tolerance (distance x y) ≡ false
    by_case true my p q = refl
    by_case false true p q = refl
    by_case false false p q = le-ltb tolerance (distance x y) (omega (arith, p refl, q refl))

pub none_apart :
    (tolerance : ℕ) (main check : List ℕ) → highest_reading ≤ tolerance →
    ((i : ℕ) → get_or main i 0 ≤ missing_mark) → ((i : ℕ) → get_or check i 0 ≤ missing_mark) → blocks_apart tolerance main check ≡ 0
unfolding blocks_apart
none_apart tolerance main check t m c = sum_zero day_blocks _ (λ i l. rw (never_apart tolerance (get_or main i 0) (get_or check i 0) t (m i) (c i)))

-- ---- so of every call

abbrev Complete : Stretch → Type 0
Complete day = incomplete day.readings ≡ false

module _ {main check : Stretch} {tolerance : ℕ} {day : Stretch} {number apart : ℕ} (h : DayHandedBack main check tolerance day number apart) where
  -- no reading of the day handed back is missing
  pub handed_complete : incomplete day.readings ≡ false
  unfolding day_to_use
  handed_complete =
      rw h.day_is
      (if_either Complete (eqb number 0)
      (λ z. if_either Complete (incomplete main.readings) (check_complete _ _ (sym h.number_is ∙ eqb-true number 0 z)) (λ m. m))
      (λ z. none_in_nothing))

  -- the count is at most 96
  pub count_most : apart ≤ day_blocks
  count_most = rw h.apart_is (if_either (λ (n : ℕ). n ≤ day_blocks) (eqb number 0) (λ z. apart_most tolerance main.readings check.readings) (λ z. omega arith))

  -- and 0 for a tolerance of 4,294,967,294 or more
  pub count_none :
      highest_reading ≤ tolerance → ((i : ℕ) → get_or main.readings i 0 ≤ missing_mark) → ((i : ℕ) → get_or check.readings i 0 ≤ missing_mark) → apart ≡ 0
  count_none t m c = rw h.apart_is (if_either (λ (n : ℕ). n ≡ 0) (eqb number 0) (λ z. none_apart tolerance main.readings check.readings t m c) (λ z. refl))

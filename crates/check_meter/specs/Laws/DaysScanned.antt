-- One pass over both days: what it finds, and the invariant of its loop. Assumes nothing.
use Rattle.std.specs.Prelude.{ℕ, ◌+◌, ◌≤◌, ◌<◌, ◌≡◌, Bool, true, false, ◌||◌, List, length, get_or, if◌then◌else◌}
use Rattle.std.specs.Int.{from_bool}
use Rattle.std.proofs.Common.{◌∙◌, refl, arith}
use Rattle.lists.specs.Laws.TestsLaws.{Looking, look_start, look_step, look_done}
use Rattle.lists.specs.Laws.SumsLaws.{Summing, sum_start, sum_step, sum_done}
use Rattle.check_meter.specs.CheckMeter.{day_blocks, missing, incomplete, further_apart, blocks_apart}
use Rattle.check_meter.specs.declared.Found.{Found}

abbrev pub found_in : (tolerance : ℕ) (main check : List ℕ) → Found
found_in tolerance main check = record { main = incomplete main; check = incomplete check; apart = blocks_apart tolerance main check }

-- what block i adds to the count
abbrev pub apart_at : (tolerance : ℕ) (main check : List ℕ) → ℕ → ℕ
apart_at tolerance main check i = if further_apart tolerance (get_or main i 0) (get_or check i 0) then 1 else 0

pub one_at_most : (b : Bool) → (if b then 1 else 0) ≤ 1
one_at_most true = omega arith
one_at_most false = omega arith

counts_one : (b : Bool) → from_bool b ≡ (if b then 1 else 0)
counts_one true = refl
counts_one false = refl

-- what is found where i blocks are passed
pub record Scanning (tolerance : ℕ) (main check : List ℕ) (found : Found) (i : ℕ) : Type 0 where
  pub main_looked : Looking day_blocks (λ k. missing (get_or main k 0)) i found.main
  pub check_looked : Looking day_blocks (λ k. missing (get_or check k 0)) i found.check
  pub counted : Summing day_blocks (apart_at tolerance main check) 1 i found.apart

module _ {tolerance : ℕ} {main check : List ℕ} where
  pub scan_start : Scanning tolerance main check record { main = false; check = false; apart = 0 } 0
  scan_start = record { main_looked = look_start; check_looked = look_start; counted = sum_start }

  pub scan_step :
      {found : Found} {x y v i : ℕ} → Scanning tolerance main check found i → i < day_blocks → x ≡ get_or main i 0 → y ≡ get_or check i 0 →
      v ≡ from_bool (further_apart tolerance x y) →
      Scanning tolerance main check record { main = found.main || missing x; check = found.check || missing y; apart = found.apart + v } (i + 1)
  scan_step {x} {y} h l p q e =
      record {
        main_looked = look_step h.main_looked l (rw p);
        check_looked = look_step h.check_looked l (rw q);
        counted = sum_step h.counted l (e ∙ counts_one (further_apart tolerance x y) ∙ rw (p, q)) (rw (e, counts_one) (one_at_most (further_apart tolerance x y)));
      }

  pub scan_done :
      {found : Found} {i : ℕ} → Scanning tolerance main check found i → day_blocks ≤ i → length main ≡ day_blocks → length check ≡ day_blocks → found ≡ found_in tolerance main check
  unfolding incomplete blocks_apart
  scan_done h l m c = rw (m, c, look_done h.main_looked l, look_done h.check_looked l, sum_done h.counted l)

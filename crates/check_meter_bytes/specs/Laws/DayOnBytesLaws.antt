-- How the day's call on bytes follows from the comparison of two lists. Assumes nothing.
use Rattle.std.specs.Prelude.{ℕ, ◌*◌, ◌/◌, ◌%◌, ◌≡◌, refl, false, List, [], ◌∷◌, eqb, length, if◌then◌else◌}
use Rattle.std.proofs.Common.{sym, ap, ◌∙◌, arith, eq-eqb, ne_eqb}
use Rattle.lists.specs.Refusals.{first_of}
use Rattle.refusal.specs.Numbers.{number_of}
use Rattle.refusal.specs.Laws.NumbersLaws.{number_not_0}
use Rattle.refusal.specs.declared.Refusal.{Refusal}
use Rattle.codec.specs.Bytes.{encode, decode}
use Rattle.check_meter.specs.CheckMeter.{day_blocks, incomplete, day_number, blocks_apart}
use Rattle.check_meter.proofs.CheckMeterLaws.{check_complete}
use Rattle.record_layout.specs.OnBytes.{bytes_after}
use Rattle.wheeling_rules.specs.Wheeling.{numbers_in}
use Rattle.wheeling_rules.specs.Laws.BytesReadLaws.{numbers_whole, count_whole, count_broken}
use Rattle.check_meter_bytes.specs.DayOnBytes.{day_output_bytes, meter_to_use, ByteDay}

abbrev day_list_bytes : ℕ
day_list_bytes = 4 * day_blocks

-- a list of so many bytes holds a day of 96 numbers, and no other does
day_read : (bytes : List ℕ) → length bytes ≡ day_list_bytes → decode 4 day_blocks bytes ≡ numbers_in 4 bytes
day_read bytes l =
    let whole : length bytes % 4 ≡ 0 = omega arith in
    let count : length bytes / 4 ≡ day_blocks = omega arith in
    sym (numbers_whole 4 bytes whole ∙ ap (λ (n : ℕ). decode 4 n bytes) count)

day_held : (bytes : List ℕ) → length (numbers_in 4 bytes) ≡ day_blocks → length bytes ≡ day_list_bytes
day_held bytes n = grind (arith, count_whole 4 bytes, count_broken 4 bytes)

-- one day that is not of 96 is enough
wrong_size : (main check : List ℕ) → (length main ≡ day_blocks → length check ≡ day_blocks → ⊥) → day_number main check ≡ 2
unfolding day_number first_of
wrong_size main check h = grind arith

module _ (main check : List ℕ) (tolerance : ℕ) (lent : List ℕ) where
  abbrev days : (number : ℕ) (lent' : List ℕ) → Type 0
  days number lent' = ByteDay (numbers_in 4 main) (numbers_in 4 check) tolerance lent number lent'

  pub day_misfit : (length main ≡ day_list_bytes → length check ≡ day_list_bytes → length lent ≡ day_output_bytes → ⊥) → days 2 lent
  unfolding bytes_after
  day_misfit h = record { number_is = grind (arith, wrong_size, day_held); output_is = refl }

  module _ (m : length main ≡ day_list_bytes) (c : length check ≡ day_list_bytes) (l : length lent ≡ day_output_bytes) where
    number_read : {n : ℕ} {xs ys : List ℕ} → xs ≡ decode 4 day_blocks main → ys ≡ decode 4 day_blocks check → n ≡ day_number xs ys →
        n ≡ (if eqb (length lent) day_output_bytes then day_number (numbers_in 4 main) (numbers_in 4 check) else 2)
    number_read x y e = rw (eq-eqb _ _ l) (e ∙ rw (x, y, day_read main m, day_read check c))

    pub day_given :
        {xs ys lent' : List ℕ} {meter apart : ℕ} → xs ≡ decode 4 day_blocks main → ys ≡ decode 4 day_blocks check → 0 ≡ day_number xs ys →
        lent' ≡ encode 8 (meter ∷ apart ∷ []) → meter ≡ (if incomplete xs then 1 else 0) → apart ≡ blocks_apart tolerance xs ys → days 0 lent'
    unfolding bytes_after meter_to_use
    day_given x y e o p q = record { number_is = number_read x y e; output_is = o ∙ rw (p, q, x, y, day_read main m, day_read check c) }

    pub day_refused :
        (r : Refusal) {xs ys : List ℕ} → xs ≡ decode 4 day_blocks main → ys ≡ decode 4 day_blocks check → number_of r ≡ day_number xs ys → days (number_of r) lent
    unfolding bytes_after
    day_refused r x y e =
        let some : eqb (number_of r) 0 ≡ false = ne_eqb _ _ (number_not_0 r) in
        record { number_is = number_read x y e; output_is = rw some }

-- no reading is missing in the day of the meter that an accepted call names
pub named_complete :
    {main check lent lent' : List ℕ} {tolerance : ℕ} → ByteDay main check tolerance lent 0 lent' → incomplete (if eqb (meter_to_use main) 0 then main else check) ≡ false
unfolding meter_to_use
named_complete {main} {check} h = grind (arith, check_complete main check, h.number_is)

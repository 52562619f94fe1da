-- The tests of the switch and of the classes of hours, as the code makes them. Assumes nothing.
use Rattle.std.specs.Prelude.{◌≡◌, ℕ, ◌+◌, ◌%◌, ◌^◌, ◌<◌, Bool, true, false, ◌&&◌, leb, ◌==◌, bit_or, nat_eq, nat_le, refl}
use Rattle.std.proofs.Common.{arith, leb-true, le-leb, eqb-true, eq-eqb}
use Rattle.lists.specs.Laws.TestsLaws.{same_test, and_left, and_right, and_both}
use Rattle.record.specs.Sound.{classes_sound}
use Rattle.sound_items.specs.Laws.SoundTests.{or_zero}

-- a sum of two numbers of 64 bits, with the test that it did not wrap
pub sum_within : (a b most : ℕ) {s : ℕ} → a < 2 ^ 64 → b < 2 ^ 64 → most < 2 ^ 64 → s ≡ (a + b) % 2 ^ 64 → (nat_le a s && nat_le s most) ≡ nat_le (a + b) most
sum_within a b most {s} h k l e =
    same_test _ _
    (λ t. le-leb (a + b) most (omega (arith, leb-true a s (and_left (nat_le a s) (nat_le s most) t), leb-true s most (and_right (nat_le a s) (nat_le s most) t))))
    (λ t. let u = leb-true (a + b) most t in and_both (le-leb a s (omega (arith, u))) (le-leb s most (omega (arith, u))))

-- a sum of three, the two tests that it did not wrap joined
pub classes_added : (whole a b c : ℕ) {s t : ℕ} → whole < 2 ^ 64 → a < 2 ^ 64 → b < 2 ^ 64 → c < 2 ^ 64 → s ≡ (a + b) % 2 ^ 64 → t ≡ (s + c) % 2 ^ 64 →
    (nat_le a s && nat_le s t && t == whole) ≡ classes_sound true whole (a + b + c)
unfolding classes_sound
classes_added whole a b c {s} {t} h i j k d e = same_test _ _ to from
  where
    to : leb a s && nat_le s t && (t == whole) ≡ true → (a + b + c == whole) ≡ true
    to q =
        let first = and_left (nat_le a s && nat_le s t) (t == whole) q in
        let one = leb-true a s (and_left (nat_le a s) (nat_le s t) first) in
        let two = leb-true s t (and_right (nat_le a s) (nat_le s t) first) in
        let three = eqb-true t whole (and_right (nat_le a s && nat_le s t) (t == whole) q) in
        eq-eqb (a + b + c) whole (omega (arith, one, two, three))

    from : nat_eq (a + b + c) whole ≡ true → nat_le a s && nat_le s t && (t == whole) ≡ true
    from q =
        let u = eqb-true (a + b + c) whole q in
        and_both (and_both (le-leb a s (omega (arith, u))) (le-leb s t (omega (arith, u)))) (eq-eqb t whole (omega (arith, u)))

-- a sum is 0 where each of its terms is
add-zero : (a b : ℕ) → (a + b == 0) ≡ (a == 0) && b == 0
add-zero a b =
    same_test _ _
    (λ e. let z = eqb-true (a + b) 0 e in and_both (eq-eqb a 0 (omega (arith, z))) (eq-eqb b 0 (omega (arith, z))))
    (λ e. eq-eqb (a + b) 0 (omega (arith, eqb-true a 0 (and_left (a == 0) (b == 0) e), eqb-true b 0 (and_right (a == 0) (b == 0) e))))

-- the next place before the switch, joined to those passed
pub classes_next : (bits whole offpeak normal peak : ℕ) →
    (bit_or (bit_or (bit_or bits offpeak) normal) peak == 0) ≡ (bits == 0) && classes_sound false whole (offpeak + normal + peak)
unfolding classes_sound
classes_next bits whole offpeak normal peak =
    rw (or_zero (bit_or (bit_or bits offpeak) normal) peak, or_zero (bit_or bits offpeak) normal, or_zero bits offpeak, add-zero (offpeak + normal) peak, add-zero offpeak normal)
    (regroup (bits == 0))
  where
    regroup : (b : Bool) → ((b && offpeak == 0) && normal == 0) && (peak == 0) ≡ b && ((offpeak == 0 && normal == 0) && peak == 0)
    regroup true = refl
    regroup false = refl

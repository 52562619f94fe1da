-- The totals beyond the agreement, tested as one number. Assumes nothing.
use Rattle.std.specs.Prelude.{◌≡◌, ℕ, true, false, ◌&&◌, leb, ◌==◌, bit_or, nat_eq, nat_le}
use Rattle.std.proofs.Common.{arith, leb-true, le-leb, eq-eqb, eqb-true}
use Rattle.std.specs.Int.Bits.{or_add_and}
use Rattle.std.proofs.lemmas.Nat.{and_le_l, and_le_r}
use Rattle.lists.specs.Laws.TestsLaws.{same_test, and_left, and_right, and_both}
use Rattle.record.specs.Book.{split_of_injected, split_of_metered}
use Rattle.record.specs.Sound.{generator_sound, consumer_sound}
use Rattle.record.specs.declared.GeneratorTerms.{GeneratorTerms}
use Rattle.record.specs.declared.ConsumerTerms.{ConsumerTerms}

-- numbers joined by `|`
zeros : (a b : ℕ) → bit_or a b ≡ 0 → (a ≡ 0) × (b ≡ 0)
zeros a b e = (omega (arith, e, or_add_and a b, and_le_r a b), omega (arith, e, or_add_and a b, and_le_l a b))

-- beyond the agreement all terms of an equation are 0
pub generator_beyond : (blocks : ℕ) (x : GeneratorTerms) →
    (bit_or (bit_or (bit_or (bit_or (bit_or x.injected x.unaccounted) x.lost) x.setoff) x.inadvertent) (bit_or (bit_or (bit_or (bit_or x.charge x.drawn) x.lapsed) x.bank) x.pending) == 0) ≡ generator_sound blocks false x
unfolding generator_sound
generator_beyond blocks x = same_test _ _ to from
  where
    to : nat_eq (bit_or (bit_or (bit_or (bit_or (bit_or x.injected x.unaccounted) x.lost) x.setoff) x.inadvertent) (bit_or (bit_or (bit_or (bit_or x.charge x.drawn) x.lapsed) x.bank) x.pending)) 0 ≡ true →
        nat_le x.injected 0 && (x.injected == split_of_injected x) ≡ true
    to e =
        let given2 = bit_or x.injected x.unaccounted in
        let given3 = bit_or given2 x.lost in
        let given4 = bit_or given3 x.setoff in
        let given5 = bit_or given4 x.inadvertent in
        let banked2 = bit_or x.charge x.drawn in
        let banked3 = bit_or banked2 x.lapsed in
        let banked4 = bit_or banked3 x.bank in
        let banked5 = bit_or banked4 x.pending in
        let all = zeros given5 banked5 (eqb-true (bit_or given5 banked5) 0 e) in
        let g1 = zeros given4 x.inadvertent all.0 in
        let g2 = zeros given3 x.setoff g1.0 in
        let g3 = zeros given2 x.lost g2.0 in
        let g4 = zeros x.injected x.unaccounted g3.0 in
        let b1 = zeros banked4 x.pending all.1 in
        let b2 = zeros banked3 x.bank b1.0 in
        let b3 = zeros banked2 x.lapsed b2.0 in
        let b4 = zeros x.charge x.drawn b3.0 in
        and_both (le-leb x.injected 0 (omega (arith, g4.0))) (eq-eqb x.injected (split_of_injected x) (omega (arith, g1.1, g2.1, g3.1, g4.0, g4.1, b1.1, b2.1, b3.1, b4.0, b4.1)))

    from : leb x.injected 0 && (x.injected == split_of_injected x) ≡ true →
        (bit_or (bit_or (bit_or (bit_or (bit_or x.injected x.unaccounted) x.lost) x.setoff) x.inadvertent) (bit_or (bit_or (bit_or (bit_or x.charge x.drawn) x.lapsed) x.bank) x.pending) == 0) ≡ true
    from e =
        let low = leb-true x.injected 0 (and_left (nat_le x.injected 0) (x.injected == split_of_injected x) e) in
        let split = eqb-true x.injected (split_of_injected x) (and_right (nat_le x.injected 0) (x.injected == split_of_injected x) e) in
        let injected : x.injected ≡ 0 = omega arith in
        let unaccounted : x.unaccounted ≡ 0 = omega arith in
        let lost : x.lost ≡ 0 = omega arith in
        let setoff : x.setoff ≡ 0 = omega arith in
        let inadvertent : x.inadvertent ≡ 0 = omega arith in
        let charge : x.charge ≡ 0 = omega arith in
        let drawn : x.drawn ≡ 0 = omega arith in
        let lapsed : x.lapsed ≡ 0 = omega arith in
        let bank : x.bank ≡ 0 = omega arith in
        let pending : x.pending ≡ 0 = omega arith in
        rw (injected, unaccounted, lost, setoff, inadvertent, charge, drawn, lapsed, bank, pending)

pub consumer_beyond : (blocks : ℕ) (x : ConsumerTerms) →
    (bit_or (bit_or (bit_or (bit_or (bit_or x.metered x.setoff) x.shortfall) x.drawn) x.supplied) x.outstanding == 0) ≡ consumer_sound blocks false x
unfolding consumer_sound
consumer_beyond blocks x = same_test _ _ to from
  where
    to : nat_eq (bit_or (bit_or (bit_or (bit_or (bit_or x.metered x.setoff) x.shortfall) x.drawn) x.supplied) x.outstanding) 0 ≡ true → nat_le x.metered 0 && (x.metered == split_of_metered x) ≡ true
    to e =
        let two = bit_or x.metered x.setoff in
        let three = bit_or two x.shortfall in
        let four = bit_or three x.drawn in
        let five = bit_or four x.supplied in
        let z1 = zeros five x.outstanding (eqb-true (bit_or five x.outstanding) 0 e) in
        let z2 = zeros four x.supplied z1.0 in
        let z3 = zeros three x.drawn z2.0 in
        let z4 = zeros two x.shortfall z3.0 in
        let z5 = zeros x.metered x.setoff z4.0 in
        and_both (le-leb x.metered 0 (omega (arith, z5.0))) (eq-eqb x.metered (split_of_metered x) (omega (arith, z1.1, z2.1, z3.1, z4.1, z5.0, z5.1)))

    from : leb x.metered 0 && (x.metered == split_of_metered x) ≡ true → (bit_or (bit_or (bit_or (bit_or (bit_or x.metered x.setoff) x.shortfall) x.drawn) x.supplied) x.outstanding == 0) ≡ true
    from e =
        let low = leb-true x.metered 0 (and_left (nat_le x.metered 0) (x.metered == split_of_metered x) e) in
        let split = eqb-true x.metered (split_of_metered x) (and_right (nat_le x.metered 0) (x.metered == split_of_metered x) e) in
        let metered : x.metered ≡ 0 = omega arith in
        let setoff : x.setoff ≡ 0 = omega arith in
        let shortfall : x.shortfall ≡ 0 = omega arith in
        let drawn : x.drawn ≡ 0 = omega arith in
        let supplied : x.supplied ≡ 0 = omega arith in
        let outstanding : x.outstanding ≡ 0 = omega arith in
        rw (metered, setoff, shortfall, drawn, supplied, outstanding)

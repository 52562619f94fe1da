-- A closing enters nothing for a generator or a consumer that the unit does not have. Assumes nothing.
use Rattle.std.specs.Prelude.{ℕ, ◌+◌, ◌≤◌, ◌≡◌}
use Rattle.std.proofs.Math.Path.{ap}
use Rattle.std.proofs.Common.{arith}
use Rattle.lists.specs.Sums.{sum}
use Rattle.record.specs.Book.{Book, no_injection, no_consumption}
use Rattle.record.specs.Laws.SoundLaws.{Facts, gen_beyond, con_beyond}
use Rattle.record.specs.declared.GeneratorTerms.{GeneratorTerms}
use Rattle.record.specs.declared.ConsumerTerms.{ConsumerTerms}
use Rattle.closing_rules.specs.Closing.{charge, drawn, supplied, lapsed, bank_after}
use Rattle.closing_rules.proofs.ClosingLaws.{generator_split, consumer_split}

module _ (b : Book) (f : Facts b) where
  module _ (g : ℕ) (h : b.plan.G ≤ g) where
    pub bank_beyond : (b.gen g).bank ≡ 0
    unfolding no_injection
    bank_beyond = ap (λ (x : GeneratorTerms). x.bank) (gen_beyond b f g h)

    pub pending_beyond : (b.gen g).pending ≡ 0
    unfolding no_injection
    pending_beyond = ap (λ (x : GeneratorTerms). x.pending) (gen_beyond b f g h)

    nothing : charge b g + sum b.plan.C (drawn b g) + lapsed b g + bank_after b g ≡ 0
    nothing = omega (arith, generator_split b f g, bank_beyond, pending_beyond)

    pub charge_beyond : charge b g ≡ 0
    charge_beyond = omega (arith, nothing)

    pub given_beyond : sum b.plan.C (drawn b g) ≡ 0
    given_beyond = omega (arith, nothing)

    pub lapsed_beyond : lapsed b g ≡ 0
    lapsed_beyond = omega (arith, nothing)

    pub bank_after_beyond : bank_after b g ≡ 0
    bank_after_beyond = omega (arith, nothing)

  module _ (c : ℕ) (h : b.plan.C ≤ c) where
    pub open_beyond : (b.con c).outstanding ≡ 0
    unfolding no_consumption
    open_beyond = ap (λ (x : ConsumerTerms). x.outstanding) (con_beyond b f c h)

    pub taken_beyond : sum b.plan.G (λ g. drawn b g c) ≡ 0
    taken_beyond = omega (arith, consumer_split b f c, open_beyond)

    pub supplied_beyond : supplied b c ≡ 0
    supplied_beyond = omega (arith, consumer_split b f c, open_beyond)

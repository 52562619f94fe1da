-- Where nothing is scheduled nothing is lost, delivered or settled, so every figure of a block beyond G or C is 0. Assumes nothing.
use Rattle.std.specs.Prelude.{ℕ, ◌-◌, ◌≤◌, ◌≡◌, Bool, ◌⊎◌, if◌then◌else◌}
use Rattle.std.proofs.Math.Bool.{true, false}
use native.Mathlib.Omega.{arith}
use Rattle.energy.specs.Laws.EnergyLaws.{loss_zero}
use Rattle.order_rules.specs.Laws.SettleLaws.{unmet_le}
use Rattle.record.specs.Plan.{Plan, deemed, order}
use Rattle.block_rules.specs.Delivery.{unaccounted, loss_of, delivered, scheduled_at_exit, at_exit}
use Rattle.block_rules.specs.Laws.Deliverable.{Deliverable}
use Rattle.block_rules.proofs.DeliveryLaws.{part_of_no_kw}
use Rattle.block_rules.specs.Settlement.{set_off, after_set_off, underdrawn, shortfall, remainder}
use Rattle.block_rules.proofs.SettlementLaws.{set_off_le, shortfall_le}
use Rattle.block_rules.specs.Laws.Settleable.{Settleable}

module _ (p : Plan) (g e c : ℕ) (none : p.kw g c ≡ 0) where
  loss_unscheduled : loss_of p g e c ≡ 0
  unfolding loss_of
  loss_unscheduled = rw (part_of_no_kw p g e c none) (loss_zero (p.loss g c))

  delivered_unscheduled : delivered p g e c ≡ 0
  unfolding delivered
  delivered_unscheduled = omega (arith, part_of_no_kw p g e c none)

  exit_unscheduled : at_exit p g e c ≡ 0
  unfolding at_exit
  exit_unscheduled = go (deemed p g)
    where
      go : (t : Bool) → (if t then delivered p g e c else scheduled_at_exit p g c) ≡ 0
      go true = delivered_unscheduled
      go false = omega (arith, none)

-- ---- the figures of pairs

module _ (p : Plan) (E : ℕ → ℕ) (h : Deliverable p E) (g c : ℕ) (out : (p.G ≤ g) ⊎ (p.C ≤ c)) where
  pub loss_beyond : (e : ℕ) → loss_of p g e c ≡ 0
  loss_beyond e = loss_unscheduled p g e c (h.kw_beyond g c out)

  pub delivered_beyond : (e : ℕ) → delivered p g e c ≡ 0
  delivered_beyond e = delivered_unscheduled p g e c (h.kw_beyond g c out)

  pub gap_beyond : (e : ℕ) → at_exit p g e c - delivered p g e c ≡ 0
  gap_beyond e = omega (arith, exit_unscheduled p g e c (h.kw_beyond g c out))

  pub set_off_beyond : (r : ℕ) → set_off p E c r g ≡ 0
  set_off_beyond r = omega (arith, set_off_le p E c r g, delivered_beyond (E g))

  pub underdrawn_beyond : (r : ℕ) → underdrawn p E c r g ≡ 0
  unfolding underdrawn
  underdrawn_beyond r = omega (arith, delivered_beyond (E g))

  pub shortfall_beyond : (r : ℕ) → shortfall p E c r g ≡ 0
  shortfall_beyond r = omega (arith, shortfall_le p E c r g, gap_beyond (E g))

-- ---- the figures of one generator, and of one consumer

module _ (p : Plan) (E R : ℕ → ℕ) (h : Settleable p E R) where
  pub unaccounted_beyond : (g : ℕ) → p.G ≤ g → unaccounted p g (E g) ≡ 0
  unfolding unaccounted
  unaccounted_beyond g l = omega (arith, h.entries.entry_beyond g l)

  pub remainder_beyond : (c : ℕ) → p.C ≤ c → remainder p E c (R c) ≡ 0
  unfolding remainder after_set_off
  remainder_beyond c l =
      omega (
        arith,
        h.exit_beyond c l,
        unmet_le (order p c) (λ g. delivered p g (E g) c) (R c),
        unmet_le (order p c) (λ g. at_exit p g (E g) c - delivered p g (E g) c) (after_set_off p E c (R c)),
      )

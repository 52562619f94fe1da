-- Laws of rules 5 to 7: every subtraction is exact, what a block makes of each reading adds up to it, and what comes earlier in
-- the order is used up first. Assumes nothing.
use Rattle.std.specs.Prelude.{ℕ, ◌+◌, ◌-◌, ◌≤◌, ◌<◌, ◌≡◌}
use native.Mathlib.Omega.{arith}
use Rattle.lists.specs.Sums.{sum}
use Rattle.lists.specs.Laws.SumsLaws.{sum_cong, sum_add}
use Rattle.order_rules.specs.Laws.Members.{order_in}
use Rattle.order_rules.specs.Laws.OrderLaws.{Ahead, order_sorted}
use Rattle.order_rules.specs.Laws.SettleLaws.{given_sum, given_le, earlier_first}
use Rattle.record.specs.Plan.{Plan, standing, order}
use Rattle.block_rules.specs.Delivery.{unaccounted, part_of, loss_of, delivered, at_exit}
use Rattle.record.specs.Laws.PlanLaws.{order_within}
use Rattle.block_rules.proofs.DeliveryLaws.{counted_le, parts, loss_of_le}
use Rattle.block_rules.specs.Settlement.{set_off, after_set_off, underdrawn, shortfall, remainder}

module _ (p : Plan) (E : ℕ → ℕ) (c r : ℕ) where
  -- d - set off is exact
  pub set_off_le : (g : ℕ) → set_off p E c r g ≤ delivered p g (E g) c
  unfolding set_off
  set_off_le g = given_le (order p c) (λ h. delivered p h (E h) c) r g

  pub shortfall_le : (g : ℕ) → shortfall p E c r g ≤ at_exit p g (E g) c - delivered p g (E g) c
  unfolding shortfall
  shortfall_le g = given_le (order p c) (λ h. at_exit p h (E h) c - delivered p h (E h) c) (after_set_off p E c r) g

  -- what a consumer is set off, is short of and has left adds up to what was read
  pub exit_split : sum p.G (set_off p E c r) + sum p.G (shortfall p E c r) + remainder p E c r ≡ r
  unfolding set_off shortfall remainder after_set_off
  exit_split =
      omega (
        arith,
        given_sum p.G (order p c) (λ g. delivered p g (E g) c) r (order_within p c),
        given_sum p.G (order p c) (λ g. at_exit p g (E g) c - delivered p g (E g) c) (after_set_off p E c r) (order_within p c),
      )

  -- a later generator is set off only where every earlier one's delivered energy is used up
  pub earlier_set_off : (g h : ℕ) → g < p.G → h < p.G → Ahead (standing p c) g h → 0 < set_off p E c r h → set_off p E c r g ≡ delivered p g (E g) c
  unfolding set_off order
  earlier_set_off g h lg lh a l =
      earlier_first (standing p c) (order p c) (λ k. delivered p k (E k) c) r g h
      (order_sorted (standing p c) p.G) (order_in (standing p c) p.G g lg) (order_in (standing p c) p.G h lh) a l

  -- and so for the shortfall
  pub earlier_shortfall : (g h : ℕ) → g < p.G → h < p.G → Ahead (standing p c) g h → 0 < shortfall p E c r h → shortfall p E c r g ≡ at_exit p g (E g) c - delivered p g (E g) c
  unfolding shortfall order
  earlier_shortfall g h lg lh a l =
      earlier_first (standing p c) (order p c) (λ k. at_exit p k (E k) c - delivered p k (E k) c) (after_set_off p E c r) g h
      (order_sorted (standing p c) p.G) (order_in (standing p c) p.G g lg) (order_in (standing p c) p.G h lh) a l

-- what a generator's reading is split into adds up to it
module _ (p : Plan) (E R : ℕ → ℕ) (g : ℕ) (rates : (c : ℕ) → c < p.C → p.loss g c ≤ 10_000) where
  part_split : (c : ℕ) → c < p.C → part_of p g (E g) c ≡ loss_of p g (E g) c + (set_off p E c (R c) g + underdrawn p E c (R c) g)
  unfolding delivered underdrawn
  part_split c l = omega (arith, loss_of_le p g (E g) c (rates c l), set_off_le p E c (R c) g)

  pub entry_split :
      unaccounted p g (E g) + sum p.C (loss_of p g (E g)) + sum p.C (λ c. set_off p E c (R c) g) + sum p.C (λ c. underdrawn p E c (R c) g) ≡ E g
  unfolding unaccounted
  entry_split =
      let C = p.C in
      let e = sum_cong C (part_of p g (E g)) (λ c. loss_of p g (E g) c + (set_off p E c (R c) g + underdrawn p E c (R c) g)) part_split in
      omega (
        arith,
        parts p g (E g),
        counted_le p g (E g),
        sum_add C (loss_of p g (E g)) (λ c. set_off p E c (R c) g + underdrawn p E c (R c) g),
        sum_add C (λ c. set_off p E c (R c) g) (λ c. underdrawn p E c (R c) g),
      )

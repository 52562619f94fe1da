-- What a block is settled by: the agreement's generators and pairs, and the schedule that stands. Generators and consumers are
-- counted from 0; every figure beyond G or C is 0. Assumes nothing.
use Rattle.std.specs.Prelude.{ℕ, min, Bool, not, List, eqb}
use Rattle.lists.specs.Sums.{sum}
use Rattle.order_rules.specs.Order.{Standing, in_order, only}

pub record Plan : Type 0 where
  pub G : ℕ
  pub C : ℕ
  -- by generator
  pub kind : ℕ → ℕ
  pub installed : ℕ → ℕ
  pub contracted : ℕ → ℕ
  -- by generator, then consumer
  pub link : ℕ → ℕ → ℕ
  pub loss : ℕ → ℕ → ℕ
  pub kw : ℕ → ℕ → ℕ
  pub rank : ℕ → ℕ → ℕ

-- kinds 1 to 3, wind, mini-hydel and solar, are document 01's deemed kinds: scheduled at what they inject (10.5)
abbrev pub deemed_kind : ℕ → Bool
deemed_kind kind = not (eqb kind 0)

-- the lower of a generator's capacities (5.1)
abbrev pub lower_capacity : (installed contracted : ℕ) → ℕ
lower_capacity installed contracted = min installed contracted

module _ (p : Plan) where
  unfoldable pub deemed : ℕ → Bool
  deemed g = deemed_kind (p.kind g)

  -- document 01's A: the kW scheduled of generator g for all consumers
  unfoldable pub scheduled : ℕ → ℕ
  scheduled g = sum p.C (p.kw g)

  -- what consumer c's generators are placed by
  abbrev pub standing : ℕ → ℕ → Standing
  standing c g = record { rank = p.rank g c; kw = p.kw g c }

  -- the inter-se order of the generators for consumer c
  unfoldable pub order : ℕ → List ℕ
  order c = in_order (standing c) p.G

  -- those of them that are linked to c
  unfoldable pub suppliers : ℕ → List ℕ
  suppliers c = only (λ g. eqb (p.link g c) 1) (order c)

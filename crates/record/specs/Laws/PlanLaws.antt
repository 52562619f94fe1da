-- Those whom the order of a consumer names are generators of the plan. Assumes nothing.
use Rattle.std.specs.Prelude.{ℕ, eqb}
use Rattle.order_rules.specs.Laws.Members.{Below, order_below, only_below}
use Rattle.record.specs.Plan.{Plan, standing, order, suppliers}

pub order_within : (p : Plan) (c : ℕ) → Below p.G (order p c)
unfolding order
order_within p c = order_below (standing p c) p.G

pub suppliers_within : (p : Plan) (c : ℕ) → Below p.G (suppliers p c)
unfolding suppliers
suppliers_within p c = only_below (λ g. eqb (p.link g c) 1) p.G (order p c) (order_within p c)

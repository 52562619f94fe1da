-- The loop of `block_settlement::settle_each`: what lasts from turn to turn.
use Rattle.std.proofs.Common.{ℕ, ◌*◌}
use Rattle.record_layout.specs.OnBytes.{plan_in}
use Rattle.block_settlement.specs.Laws.SettlementLent.{exits_in}
use Rattle.block_settlement.specs.Laws.SettledTo.{Whole, SettledTo, Remainders}
use Rattle.block_settlement.proofs.settle_each.Given as goal

abbrev pub invariant-loop-c : goal.invariant-loop-c
invariant-loop-c l =
    ((E : ℕ → ℕ) → SettledTo (plan_in l.s) E (exits_in l.s l.exit) 0 l.initial.set_off l.initial.underdrawn l.initial.shortfall →
    SettledTo (plan_in l.s) E (exits_in l.s l.exit) l.c l.set_off l.underdrawn l.shortfall × Remainders (plan_in l.s) E (exits_in l.s l.exit) l.c l.rests) × Whole (l.n * l.m) l.set_off l.underdrawn l.shortfall

-- `bank::cycle_ends` meets its contract: the test of step 4 without adding. Assumes nothing.
use Prim.Native.Nat.{ℕ, ◌+◌, ◌-◌, ◌<◌}
use mathlib.Core.Path.{◌≡◌, sym, ◌∙◌}
use native.Mathlib.Omega.{arith}
use borrow.Author.Rules.{rules}
use borrow.Author.Tests.{le-ltb, eqb-true, eq-eqb, ne_eqb}
use lib.Dec.{eqb}
use Rattle.lists.specs.Laws.TestsLaws.{same_test}
use Rattle.closing_rules.specs.Closing.{cycle_ends}
use Rattle.bank.proofs.cycle_ends.Goals as goal

month_tested : (gone cycle : ℕ) → 0 < cycle → eqb gone (cycle - 1) ≡ cycle_ends gone cycle
unfolding cycle_ends
month_tested gone cycle l = same_test _ _ (λ t. eq-eqb (gone + 1) cycle (omega (arith, eqb-true gone (cycle - 1) t))) (λ t. eq-eqb gone (cycle - 1) (omega (arith, eqb-true (gone + 1) cycle t)))

pub returns-then-cycle-gt0 : goal.returns-then-cycle-gt0
returns-then-cycle-gt0 c = month_tested _ _ (search rules)

pub returns-else-cycle-gt0 : goal.returns-else-cycle-gt0
unfolding cycle_ends
returns-else-cycle-gt0 c = let a = c.args in le-ltb 0 a.cycle c.if-cycle-gt0.false ∙ sym (ne_eqb (a.gone + 1) a.cycle (λ e. omega arith))

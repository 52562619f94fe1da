-- Steps 1 and 2 of a closing on a bank's balances, as the code has them. Assumes nothing.
use Rattle.std.specs.Prelude.{ℕ, ◌≡◌, List, [], leb, length, replicate, if◌then◌else◌}
use Rattle.lists.specs.Tables.{table}
use Rattle.lists.specs.Laws.TablesLaws.{filled}
use Rattle.lists.specs.Pairs.{place}
use Rattle.energy.specs.Limits.{most_generators}
use Rattle.order_rules.specs.Settle.{given, kept, unmet}
use Rattle.order.specs.Laws.KeptOrder.{from_back, turns_in}
use Rattle.bank.specs.Laws.CreditLaws.{charge_at, credit_at, creditable}

-- Step 1 for the first `count` of w balances: all of them after it, and the charge on each. Beyond the bank's limits they are as they were, and
-- nothing is charged.
pub record Credited (w : ℕ) (old : List ℕ) (count : ℕ) (pending : List ℕ) (rate : ℕ) (balance charge : List ℕ) : Type 0 where
  pub balance_is : balance ≡ (if creditable w old count pending rate then filled old count (credit_at w pending rate old) else old)
  pub charge_is : charge ≡ (if creditable w old count pending rate then filled (replicate w 0) count (charge_at w pending rate) else replicate w 0)

-- Who gives, of suppliers whose keys a list holds: all in their order, and of more than eight nobody.
unfoldable pub givers : List ℕ → List ℕ
givers keys = if leb (length keys) most_generators then turns_in (from_back keys) else []

-- Step 2 for one consumer, on one balance a generator: it drew on the generators gs, in their order. The balances after it, what it drew, and what
-- it lacks.
pub record Drew (gs : List ℕ) (want : ℕ) (old balance drawn : List ℕ) (left : ℕ) : Type 0 where
  pub size : length balance ≡ 8
  pub leaves : place 8 balance ≡ kept gs (place 8 old) want
  pub gives : drawn ≡ table 8 (given gs (place 8 old) want)
  pub lacks : left ≡ unmet gs (place 8 old) want

-- Document 01, "Block": rules 5 to 7 and the block's output. Nothing here knows of totals, bank or closing. Assumes nothing.
use Rattle.std.specs.Prelude.{ℕ, ◌-◌, List, [], ◌∷◌}
use Rattle.lists.specs.Tables.{table}
use Rattle.lists.specs.Pairs.{pairs, joined}
use Rattle.order_rules.specs.Settle.{given, unmet}
use Rattle.record.specs.Plan.{Plan, order}
use Rattle.block_rules.specs.Delivery.{unaccounted, loss_of, delivered, at_exit}

-- ---- rules 5 to 7, for the entry readings E and consumer c with its exit reading r

module _ (p : Plan) (E : ℕ → ℕ) (c r : ℕ) where
  -- Rule 5 (8.3, 9.2): set off in inter-se order, and what that leaves of r.
  unfoldable pub set_off : ℕ → ℕ
  set_off = given (order p c) (λ g. delivered p g (E g) c) r

  unfoldable pub after_set_off : ℕ
  after_set_off = unmet (order p c) (λ g. delivered p g (E g) c) r

  -- Rule 6 (10.3).
  unfoldable pub underdrawn : ℕ → ℕ
  underdrawn g = delivered p g (E g) c - set_off g

  -- Rule 7: the shortfall, in the same order, of what rule 5 leaves of r; the remainder is what is left then.
  unfoldable pub shortfall : ℕ → ℕ
  shortfall = given (order p c) (λ g. at_exit p g (E g) c - delivered p g (E g) c) after_set_off

  unfoldable pub remainder : ℕ
  remainder = unmet (order p c) (λ g. at_exit p g (E g) c - delivered p g (E g) c) after_set_off

-- ---- the output: loss, set off, underdrawn and shortfall by pair, unaccounted by generator, remainder by consumer

module _ (p : Plan) (E R : ℕ → ℕ) where
  unfoldable pub block_lists : List (List ℕ)
  block_lists =
      let G = p.G in
      let C = p.C in
      pairs G C (λ g c. loss_of p g (E g) c) ∷
      pairs G C (λ g c. set_off p E c (R c) g) ∷
      pairs G C (λ g c. underdrawn p E c (R c) g) ∷
      pairs G C (λ g c. shortfall p E c (R c) g) ∷
      table G (λ g. unaccounted p g (E g)) ∷
      table C (λ c. remainder p E c (R c)) ∷
      []

  unfoldable pub block_output : List ℕ
  block_output = joined block_lists

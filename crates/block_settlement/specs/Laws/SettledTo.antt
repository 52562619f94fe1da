-- Three lists of a block's output while its consumers are settled one after the other. Assumes nothing.
use Rattle.std.specs.Prelude.{ℕ, ◌+◌, ◌-◌, ◌*◌, ◌≤◌, ◌<◌, ◌≡◌, List, length, get_or}
use Rattle.record.specs.Plan.{Plan}
use Rattle.block_rules.specs.Delivery.{delivered, at_exit}
use Rattle.block_rules.specs.Settlement.{set_off, underdrawn, shortfall, remainder}

-- each of the three has so many numbers
pub record Whole (size : ℕ) (setoff under short : List ℕ) : Type 0 where
  pub setoff_size : length setoff ≡ size
  pub under_size : length under ≡ size
  pub short_size : length short ≡ size

-- The first i consumers are settled; of the others underdrawn's list has what is delivered, and shortfall's how much less that is than what is
-- scheduled at exit.
pub record SettledTo (p : Plan) (E R : ℕ → ℕ) (i : ℕ) (setoff under short : List ℕ) : Type 0 where
  pub whole : Whole (p.G * p.C) setoff under short
  pub setoff_is : (g c : ℕ) → g < p.G → c < p.C → c < i → get_or setoff (g * p.C + c) 0 ≡ set_off p E c (R c) g
  pub underdrawn_is : (g c : ℕ) → g < p.G → c < p.C → c < i → get_or under (g * p.C + c) 0 ≡ underdrawn p E c (R c) g
  pub delivered_is : (g c : ℕ) → g < p.G → c < p.C → i ≤ c → get_or under (g * p.C + c) 0 ≡ delivered p g (E g) c
  pub shortfall_is : (g c : ℕ) → g < p.G → c < p.C → c < i → get_or short (g * p.C + c) 0 ≡ shortfall p E c (R c) g
  pub gap_is : (g c : ℕ) → g < p.G → c < p.C → i ≤ c → get_or short (g * p.C + c) 0 ≡ at_exit p g (E g) c - delivered p g (E g) c

-- their remainders
pub record Remainders (p : Plan) (E R : ℕ → ℕ) (i : ℕ) (rests : List ℕ) : Type 0 where
  pub is : (c : ℕ) → c < i → get_or rests c 0 ≡ remainder p E c (R c)

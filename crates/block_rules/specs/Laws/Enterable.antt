-- A block that the rules accept, by what each of its numbers tests. Assumes nothing.
use Rattle.std.specs.Prelude.{ℕ, ◌≤◌, ◌<◌, ◌≡◌, List, length}
use Rattle.energy.specs.Limits.{most_reading, most_month_blocks, most_unit_blocks}
use Rattle.record.specs.Book.{Book}
use Rattle.block_rules.specs.Block.{block_length, entry_of, exit_of}

-- a block to which no number applies
pub record Enterable (entry exit : List ℕ) (size : ℕ) (b : Book) : Type 0 where
  pub entry_size : length entry ≡ b.plan.G
  pub exit_size : length exit ≡ b.plan.C
  pub output_size : size ≡ block_length b.plan.G b.plan.C
  pub entry_most : (g : ℕ) → entry_of entry exit b g ≤ most_reading
  pub exit_most : (c : ℕ) → exit_of entry exit b c ≤ most_reading
  pub monthblocks : b.monthblocks < most_month_blocks
  pub unitblocks : b.unitblocks < most_unit_blocks

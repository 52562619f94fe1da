-- The rows of the generators as the code has them, and what rules 3 and 4 ask of the record. Assumes nothing.
use Rattle.std.specs.Prelude.{ℕ, ◌≤◌, ◌<◌, List, [], ◌≡◌, length, get_or}
use Rattle.lists.specs.Tables.{table}
use Rattle.energy.specs.Energy.{quarter_hour, after_loss}
use Rattle.energy.specs.Limits.{most_consumers, most_capacity, most_loss}
use Rattle.record.specs.Plan.{Plan}
use Rattle.block_rules.specs.Delivery.{part_of}
use Rattle.block_figures.specs.Laws.Gap.{gap_of}
use Rattle.record_layout.specs.OnBytes.{plan_in}
use Rattle.record_places.specs.RecordSize.{record_bytes}

-- figure c of row g
abbrev pub figure : List (List ℕ) → ℕ → ℕ → ℕ
figure rows g c = get_or (get_or rows g []) c 0

-- Rule 4 for a pair of which d is delivered, less that.
abbrev pub gap_at : Plan → ℕ → ℕ → ℕ → ℕ
gap_at p g c d = gap_of (p.kind g) (quarter_hour (p.kw g c)) (p.loss g c) d

-- m consumers and figures within the limits
pub record Limited (s : List ℕ) (m : ℕ) : Type 0 where
  pub whole : length s ≡ record_bytes
  pub m_high : m ≤ most_consumers
  pub kw_high : (g c : ℕ) → (plan_in s).kw g c ≤ most_capacity
  pub loss_high : (g c : ℕ) → (plan_in s).loss g c ≤ most_loss

-- rules 1 and 2: the parts of n generators for the entry readings E
pub record Shared (p : Plan) (E : ℕ → ℕ) (n : ℕ) (parts : List (List ℕ)) : Type 0 where
  pub size : length parts ≡ 8
  pub row_is : (g : ℕ) → g < n → get_or parts g [] ≡ table 16 (part_of p g (E g))

-- room for 8 rows, of which n have 16 figures each
pub record Rows (n : ℕ) (parts : List (List ℕ)) : Type 0 where
  pub size : length parts ≡ 8
  pub row_size : (g : ℕ) → g < n → length (get_or parts g []) ≡ 16

-- what rule 3 leaves of them
pub record Lessened (p : Plan) (n m : ℕ) (parts after : List (List ℕ)) : Type 0 where
  pub at : (g c : ℕ) → g < n → c < m → figure after g c ≡ after_loss (figure parts g c) (p.loss g c)

-- What the record's bytes and the exit readings say to the settling of a block. Assumes nothing.
use Rattle.std.specs.Prelude.{ℕ, ◌≤◌, ◌≡◌, List, length}
use Rattle.lists.specs.Pairs.{place}
use Rattle.record.specs.Laws.Orderable.{Orderable}
use Rattle.record_layout.specs.OnBytes.{plan_in}
use Rattle.energy.specs.Limits.{most_generators, most_consumers}
use Rattle.record_places.specs.RecordSize.{record_bytes}

abbrev pub exits_in : List ℕ → List ℕ → ℕ → ℕ
exits_in s exit = place (plan_in s).C exit

-- the bytes of a record of n generators and m consumers whose order can be read
pub record Ranked (s : List ℕ) (n m : ℕ) : Type 0 where
  pub whole : length s ≡ record_bytes
  pub n_is : n ≡ (plan_in s).G
  pub m_is : m ≡ (plan_in s).C
  pub n_high : n ≤ most_generators
  pub m_high : m ≤ most_consumers
  pub orderable : Orderable (plan_in s)

-- What `deliver` is lent: the record's bytes, its n generators and m consumers, and their entry readings. Assumes nothing.
use Rattle.std.specs.Prelude.{ℕ, List, ◌≡◌, length}
use Rattle.lists.specs.Pairs.{place}
use Rattle.block_rules.specs.Laws.Deliverable.{Deliverable}
use Rattle.record_layout.specs.OnBytes.{plan_in}
use Rattle.record_places.specs.RecordSize.{record_bytes}

abbrev pub entries_in : List ℕ → List ℕ → ℕ → ℕ
entries_in s entry = place (plan_in s).G entry

pub record Ready (s : List ℕ) (n m : ℕ) (entry : List ℕ) : Type 0 where
  pub whole : length s ≡ record_bytes
  pub n_is : n ≡ (plan_in s).G
  pub m_is : m ≡ (plan_in s).C
  pub readings : length entry ≡ n
  pub deliverable : Deliverable (plan_in s) (entries_in s entry)

-- What the new schedule is put in place on. Assumes nothing.
use Rattle.std.specs.Prelude.{ℕ, ◌≡◌, List, length}
use Rattle.record.specs.Called.{number_on}
use Rattle.agreement_rules.specs.Schedule.{schedule_rule}
use Rattle.record_places.specs.RecordSize.{record_bytes}
use Rattle.record_layout.specs.OnBytes.{record_in}

-- the bytes hold a record of n generators and m consumers, on which the schedule is accepted
pub record Accepted (s : List ℕ) (n m : ℕ) (kws ranks : List ℕ) : Type 0 where
  pub whole : length s ≡ record_bytes
  pub n_is : n ≡ (record_in s).terms.generators
  pub m_is : m ≡ (record_in s).terms.consumers
  pub number_is : number_on (schedule_rule kws ranks) (record_in s) ≡ 0

-- `schedule::put_list` meets its contract: the list's rows, spread over the record's places, are put there. Assumes nothing.
use Rattle.std.specs.Prelude.{ℕ, get_or}
use Rattle.std.proofs.Common.{rules}
use Rattle.record_runs.specs.Laws.RaiseLaws.{replaced_by}
use Rattle.agreement_rules.specs.Laws.AgreedReadingLaws.{cell_drop_none}
use Rattle.schedule.proofs.put_list.Goals as goal

pub returns : goal.returns
returns c =
    rw (c.spread-rows.ensures, cell_drop_none) at (replaced_by (λ (i : ℕ). get_or c.spread-rows.result i 0) c.replace.ensures (λ i r l gives. search rules))

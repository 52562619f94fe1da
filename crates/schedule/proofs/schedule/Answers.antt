-- `schedule::schedule` meets its contract: the call on the record's bytes is the call on the record. Assumes nothing.
use Rattle.record_layout.specs.Laws.OnBytesLaws.{on_struct}
use Rattle.agreement_rules.specs.Laws.ScheduleLaws.{schedule_keeps}
use Rattle.schedule.proofs.schedule.Goals as goal

pub returns : goal.returns
returns c =
    on_struct _ _ (schedule_keeps _ _) c.store.ensures.1 c.load-after.ensures (rw c.shown-number.ensures c.schedule_on-outcome.ensures)

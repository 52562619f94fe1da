-- `closing::close` meets its contract: the call on the record's bytes is the call on the record.
use Rattle.record_layout.specs.Laws.OnBytesLaws.{on_struct}
use Rattle.closing_rules.proofs.ClosingLaws.{closing_keeps}
use Rattle.closing.proofs.close.Goals as goal

pub returns : goal.returns
returns c =
    on_struct _ _ (closing_keeps _) c.store.ensures.1 c.load-after.ensures (rw c.shown-number.ensures c.close_on-outcome.ensures)

-- `block::block` meets its contract: the call on the record's bytes is the call on the record. Assumes nothing.
use Rattle.record_layout.specs.Laws.OnBytesLaws.{on_struct}
use Rattle.block_rules.proofs.BlockLaws.{block_keeps}
use Rattle.block.proofs.block.Goals as goal

pub returns : goal.returns
returns c =
    on_struct _ _ (block_keeps _ _ _) c.store.ensures.1 c.load-after.ensures (rw c.shown-number.ensures c.block_on-outcome.ensures)

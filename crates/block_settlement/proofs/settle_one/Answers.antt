-- `block_settlement::settle_one` meets its contract: both settlements are by the consumer's turns. Assumes nothing.
use Rattle.block_settlement.specs.Laws.SettledLaws.{list_stocked, settled_in_turn}
use Rattle.block_settlement.proofs.settle_one.Goals as goal

pub settle-left-requires : goal.settle-left-requires
settle-left-requires c = list_stocked c.requires.0 c.requires.1.0 c.turns_at-turns.ensures c.requires.1.1.under_size

pub settle-remainder-requires : goal.settle-remainder-requires
settle-remainder-requires c = list_stocked c.requires.0 c.requires.1.0 c.turns_at-turns.ensures c.requires.1.1.short_size

pub returns : goal.returns
returns c =
    let r = c.requires.0 in
    λ E R read. settled_in_turn _ E R _ r.n_is r.m_is r.n_high c.requires.1.0 read c.turns_at-turns.ensures c.settle-left.ensures c.settle-remainder.ensures c.put_column.ensures c.put_column-2.ensures

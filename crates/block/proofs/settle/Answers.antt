-- `block::settle` meets its contract: the steps of an accepted block make up the call. Assumes nothing.
use Rattle.block.specs.Laws.BlockReady.{ready, ranked, exits, sized, delivered_sized, settled, block_accepted}
use Rattle.block.proofs.settle.Goals as goal

pub deliver-requires : goal.deliver-requires
deliver-requires c = let p = c.requires in (ready _ _ _ _ p.0 p.1, sized _ _ _ _ p.0 p.1)

pub settle_all-requires : goal.settle_all-requires
settle_all-requires c =
    let p = c.requires in
    (ranked _ _ _ _ p.0 p.1, (exits _ _ _ _ p.0 p.1, delivered_sized _ _ _ _ p.0 p.1 c.deliver.ensures))

pub raise-requires : goal.raise-requires
raise-requires c =
    let p = c.requires in
    settled _ _ _ _ p.0 p.1 (c.settle_all.ensures _ c.deliver.ensures)

pub returns : goal.returns
returns c = block_accepted _ _ _ _ c.requires.1 c.raise.ensures (c.settle_all.ensures _ c.deliver.ensures)

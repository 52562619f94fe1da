-- `block_settlement::settle_all` meets its contract: all consumers are settled, and the lists are the output. Assumes nothing.
use Rattle.std.proofs.Common.{rules, ◌+◌, ◌*◌, ◌∙◌}
use Rattle.block_settlement.specs.Laws.SettledLaws.{lists_delivered, all_settled}
use Rattle.block_settlement.proofs.settle_all.Goals as goal

pub returns : goal.returns
returns c =
    let size = c.args.n * c.args.m in
    let loss = c.split_at_mut-lists.ensures in
    let set_off = c.split_at_mut-set_off.ensures in
    let underdrawn = c.split_at_mut-underdrawn.ensures in
    let shortfall = c.split_at_mut-shortfall.ensures in
    let rests = c.split_at_mut-rests.ensures in
    let ranked = c.requires.0 in
    λ E d.
    let delivered = lists_delivered _ E _ ranked.n_is ranked.m_is d (record { setoff_size = set_off.front_len; under_size = underdrawn.front_len; short_size = shortfall.front_len })
    (λ k l. underdrawn.by_index.0 k 0 l ∙ set_off.by_index.1 k 0 ∙ loss.by_index.1 (size + k) 0)
    (λ k l. shortfall.by_index.0 k 0 l ∙ underdrawn.by_index.1 k 0 ∙ set_off.by_index.1 (size + k) 0 ∙ loss.by_index.1 (size + (size + k)) 0) in
    all_settled _ E _ ranked.n_is ranked.m_is d _ _ loss.front_len (λ k l. loss.by_index.0 k 0 l) rests.front_len
    (λ k l. rests.by_index.0 k 0 l ∙ shortfall.by_index.1 k 0 ∙ underdrawn.by_index.1 (size + k) 0 ∙ set_off.by_index.1 (size + (size + k)) 0 ∙ loss.by_index.1 (size + (size + (size + k))) 0)
    (search rules)
    (c.settle_each.ensures E delivered)

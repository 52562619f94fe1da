-- `block_delivery::deliver` is rules 1 to 4: each list in the stretch that it was lent. Assumes nothing.
use Prim.Native.Nat.{◌+◌, ◌*◌}
use native.Mathlib.Omega.{arith}
use borrow.Author.Rules.{rules}
use Rattle.lists.specs.Laws.TablesLaws.{length_table}
use Rattle.lists.specs.Laws.PairsLaws.{length_pairs}
use Rattle.output_lists.specs.Laws.StretchPlaces.{lent_from}
use Rattle.block_delivery.specs.Laws.DeliveryLists.{limited, rows, exact_here, delivered_in}
use Rattle.block_delivery.proofs.deliver.Goals as goal

pub fill_loss-requires : goal.fill_loss-requires
fill_loss-requires c =
    let r = c.requires.0 in
    (limited r, (search rules, (rows c.share_rows.ensures.1, search rules)))

pub fill_gap-requires : goal.fill_gap-requires
fill_gap-requires c =
    let r = c.requires.0 in
    (limited r, (search rules, (exact_here r.deliverable r.n_is r.m_is c.share_rows.ensures.1 c.fill_loss.ensures.1, omega arith)))

pub returns : goal.returns
returns c =
    let r = c.requires.0 in
    let size = c.args.n * c.args.m in
    delivered_in r.deliverable r.n_is r.m_is c.share_rows.ensures.1 c.fill_loss.ensures.1 c.requires.1
    (lent_from (4 * size + c.args.n) (omega arith) c.share_rows.ensures.0 (length_table _ _))
    (lent_from size (omega arith) c.fill_loss.ensures.0 (length_pairs _ _ _))
    (lent_from (3 * size) (omega arith) c.fill_delivered.ensures (length_pairs _ _ _))
    (lent_from (4 * size) (omega arith) c.fill_gap.ensures (length_pairs _ _ _))

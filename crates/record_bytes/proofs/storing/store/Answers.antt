-- `record_bytes::storing::store` meets its contract: the parts, one after the other, fill the record's bytes, from which the record is read back. Assumes nothing.
use native.Mathlib.Omega.{arith}
use Rattle.record.proofs.Owned.{shaped}
use Rattle.record_layout.specs.Laws.Layout.{laid_then, laid_all, words_parts}
use Rattle.record_layout.specs.Laws.LayoutLaws.{read_back}
use Rattle.record_bytes.proofs.storing.store.Goals as goal

pub shape_of-s : goal.shape_of-s
shape_of-s c = omega (arith, c.store_stocks-3.ensures.size, c.requires)

pub returns : goal.returns
returns c =
    let r = c.args.r in
    let laid = rw (← (words_parts r)) at
    (laid_then c.store_terms.ensures
    (laid_then c.store_counts.ensures
    (laid_then c.store_agreed.ensures
    (laid_then c.store_links.ensures
    (laid_then c.store_schedule.ensures
    (laid_then c.store_generators.ensures
    (laid_then c.store_consumers.ensures
    (laid_then c.store_switch.ensures
    (laid_then c.store_stocks.ensures
    (laid_then c.store_stocks-2.ensures
    c.store_stocks-3.ensures)))))))))) in
    (laid_all laid, rw (laid_all laid) (read_back r (shaped r c.well_formed.0.1.1) laid.put.low))

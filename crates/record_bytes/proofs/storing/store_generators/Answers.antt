-- `record_bytes::storing::store_generators` meets its contract: the runs are put one after the other. Assumes nothing.
use native.Mathlib.Omega.{arith}
use borrow.Author.Rules.{rules}
use Rattle.lists.specs.Pairs.{joined}
use Rattle.record_layout.specs.Laws.Layout.{laid_run, laid_then, laid_last}
use Rattle.record_bytes.proofs.storing.store_generators.Goals as goal

pub shape_of-s : goal.shape_of-s
shape_of-s c = omega (arith, c.store_run-10.ensures.size, c.requires)

pub returns : goal.returns
unfolding joined
returns c =
    laid_then (laid_run {n = 8} (search rules) c.store_run.ensures)
    (laid_then (laid_run {n = 8} (search rules) c.store_run-2.ensures)
    (laid_then (laid_run {n = 8} (search rules) c.store_run-3.ensures)
    (laid_then (laid_run {n = 8} (search rules) c.store_run-4.ensures)
    (laid_then (laid_run {n = 8} (search rules) c.store_run-5.ensures)
    (laid_then (laid_run {n = 8} (search rules) c.store_run-6.ensures)
    (laid_then (laid_run {n = 8} (search rules) c.store_run-7.ensures)
    (laid_then (laid_run {n = 8} (search rules) c.store_run-8.ensures)
    (laid_then (laid_run {n = 8} (search rules) c.store_run-9.ensures)
    (laid_last (laid_run {n = 8} (search rules) c.store_run-10.ensures))))))))))

-- `record_bytes::storing::store_stocks` meets its contract: the runs are put one after the other. Assumes nothing.
use Prim.Native.Nat.{◌+◌}
use mathlib.Core.Path.{◌≡◌}
use native.Mathlib.Omega.{arith}
use borrow.Author.Rules.{rules}
use Rattle.lists.specs.Pairs.{joined}
use Rattle.record_layout.specs.Laws.Layout.{laid_run, laid_then, laid_last}
use Rattle.record_bytes.proofs.storing.store_stocks.Goals as goal

pub returns : goal.returns
unfolding joined
returns c =
    let at = c.args.at in
    let second : at + 8 + 8 ≡ at + 16 = omega arith in
    let third : at + 16 + 16 ≡ at + 32 = omega arith in
    laid_then (laid_run {n = 8} (search rules) c.store_run.ensures)
    (laid_then (rw second at (laid_run {n = 8} (search rules) c.store_run-2.ensures))
    (laid_last (rw third at (laid_run {n = 16} (search rules) c.store_run-3.ensures))))

-- `record_runs::raise` meets its contract: the numbers passed are raised by what the calls gave. Assumes nothing.
use Rattle.std.proofs.Common.{arith, ◌∙◌}
use Rattle.record_runs.specs.Laws.RaiseLaws.{none_by, one_more_by, next_low}
use Rattle.record_runs.proofs.raise.Goals as goal

pub loop-i-init : goal.loop-i-init
loop-i-init g c = none_by

pub add_at-requires : goal.add_at-requires
add_at-requires g c =
    let l = c.loop-i in
    let able = c.requires.placed in
    (l.auto.s ∙ able.size, (omega (arith, able.placed), omega (arith, next_low able l.invariant.is, c.requires.moderate l.i c.added.result (omega arith) c.added.ensures)))

pub loop-i-preserved : goal.loop-i-preserved
loop-i-preserved g c = one_more_by c.loop-i.invariant c.added.ensures c.add_at.auto.s c.add_at.ensures

-- `record_runs::replace` meets its contract: the numbers passed are what the calls gave. Assumes nothing.
use Rattle.std.proofs.Common.{arith, ◌∙◌}
use Rattle.record_runs.specs.Laws.RaiseLaws.{none_replaced_by, one_replaced_by}
use Rattle.record_runs.proofs.replace.Goals as goal

pub loop-i-init : goal.loop-i-init
loop-i-init g c = none_replaced_by

pub put_at-requires : goal.put_at-requires
put_at-requires g c =
    let able = c.requires.placed in
    (c.loop-i.auto.s ∙ able.size, omega (arith, able.placed))

pub loop-i-preserved : goal.loop-i-preserved
loop-i-preserved g c = one_replaced_by c.loop-i.invariant c.number.ensures c.put_at.auto.s c.put_at.ensures.0

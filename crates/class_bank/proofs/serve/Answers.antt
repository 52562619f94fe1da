-- `class_bank::serve` meets its contract: settling goes on with the first i keys, until nothing more is wanted. Assumes nothing.
use Rattle.class_bank.specs.Laws.Serving.{serve_step, serve_all, serve_enough}
use Rattle.class_bank.proofs.serve.Goals as goal

pub loop-i-preserved : goal.loop-i-preserved
loop-i-preserved c = serve_step c.loop-i.invariant c.loop-i-test.true c.give_both-left.ensures

pub returns-then-left-eq0 : goal.returns-then-left-eq0
returns-then-left-eq0 c = serve_enough c.loop-i.invariant c.if-left-eq0.true

pub returns-after-loop-i : goal.returns-after-loop-i
returns-after-loop-i c = serve_all c.loop-i.invariant c.loop-i-test.false

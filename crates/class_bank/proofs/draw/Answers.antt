-- `class_bank::draw` is step 2 for one consumer: k classes are settled, one after another; of more than eight suppliers nobody gives. Assumes nothing.
use Rattle.std.proofs.Common.{rules, refl}
use Rattle.bank.specs.Laws.BankLaws.{givers_within, givers_beyond}
use Rattle.class_bank.specs.Laws.Serving.{classes_start, classes_step, classes_done, classes_none}
use Rattle.class_bank.proofs.draw.Goals as goal

pub loop-k-init : goal.loop-k-init
loop-k-init c = classes_start (search rules) (search rules)

pub loop-k-preserved : goal.loop-k-preserved
loop-k-preserved c = classes_step c.loop-k.invariant (search rules) c.serve.ensures

pub returns-after-loop-k : goal.returns-after-loop-k
returns-after-loop-k c = rw (givers_within _ refl c.if-keys-le-MOST_GENERATORS.true) (classes_done c.loop-k.invariant (search rules))

pub returns-else-keys-le-MOST_GENERATORS : goal.returns-else-keys-le-MOST_GENERATORS
returns-else-keys-le-MOST_GENERATORS c = rw (givers_beyond _ c.if-keys-le-MOST_GENERATORS.false) (classes_none (search rules) (search rules))

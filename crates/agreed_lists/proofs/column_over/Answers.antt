-- `agreed_lists::column_over` meets its contract: after g turns it is known whether one of the first g generators is over. Assumes nothing.
use mathlib.Core.Path.{◌∙◌, sym, ap}
use lib.Dec.{ltb}
use borrow.Author.Rules.{rules}
use Rattle.lists.specs.Laws.PairsLaws.{cell_in}
use Rattle.lists.specs.Laws.TestsLaws.{look_start, look_step, look_done}
use Rattle.agreement_rules.specs.Laws.AgreedRefusals.{column_over}
use Rattle.agreed_lists.proofs.column_over.Goals as goal

pub loop-g-init : goal.loop-g-init
loop-g-init c = look_start

pub loop-g-preserved : goal.loop-g-preserved
loop-g-preserved c = look_step c.loop-g.invariant (search rules) (ap (ltb c.args.most) (c.from-x.ensures ∙ sym (cell_in _ 3 _ _ _ (search rules) c.requires.third)))

pub returns : goal.returns
unfolding column_over
returns c = look_done c.loop-g.invariant (search rules)

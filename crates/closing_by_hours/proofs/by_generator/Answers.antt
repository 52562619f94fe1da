-- `closing_by_hours::by_generator` meets its contract: the numbers of g generators are added up. Assumes nothing.
use mathlib.Core.Path.{refl}
use Rattle.closing_by_hours.specs.Laws.ByGenerator.{adding_start, adding_step}
use borrow.Author.Rules.{rules}
use Rattle.closing_by_hours.proofs.by_generator.Goals as goal

pub loop-g-init : goal.loop-g-init
loop-g-init c = (adding_start _ _, search rules)

pub loop-g-preserved : goal.loop-g-preserved
loop-g-preserved c = (adding_step _ _ c.loop-g.invariant.0 (search rules) refl, search rules)

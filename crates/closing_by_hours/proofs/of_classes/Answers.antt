-- `closing_by_hours::of_classes` meets its contract: i numbers are read. Assumes nothing.
use mathlib.Core.Path.{refl}
use Rattle.lists.specs.Laws.TablesLaws.{fill_start, fill_step}
use Rattle.closing_by_hours.specs.Laws.ClassesRead.{class_number}
use borrow.Author.Rules.{rules}
use Rattle.closing_by_hours.proofs.of_classes.Goals as goal

pub loop-i-init : goal.loop-i-init
loop-i-init c = (fill_start refl, search rules)

pub loop-i-preserved : goal.loop-i-preserved
unfolding class_number
loop-i-preserved c = (fill_step c.loop-i.invariant.0 (search rules) c.number_at.ensures, search rules)

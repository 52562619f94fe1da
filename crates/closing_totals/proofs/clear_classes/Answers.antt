-- `closing_totals::clear_classes` meets its contract: three classes are cleared, or none. Assumes nothing.
use mathlib.Core.Path.{◌∙◌, sym}
use Rattle.closing_totals.specs.Laws.ClosingTotalsLaws.{classes_all, classes_stay}
use Rattle.closing_totals.proofs.clear_classes.Goals as goal

pub returns-then-apply : goal.returns-then-apply
returns-then-apply c =
    classes_all _ _ _ _ (sym c.apply.ensures ∙ c.if-apply.true) c.clear_class.ensures c.clear_class-then-apply.ensures c.clear_class-then-apply-2.ensures

pub returns-else-apply : goal.returns-else-apply
returns-else-apply c = classes_stay _ _ _ _ (sym c.apply.ensures ∙ c.if-apply.false)

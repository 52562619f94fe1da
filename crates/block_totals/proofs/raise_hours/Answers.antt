-- `block_totals::raise_hours` meets its contract: by hours one of three classes is raised, else nothing. Assumes nothing.
use mathlib.Core.Path.{ap, ◌∙◌}
use native.Mathlib.Omega.{arith}
use Rattle.record.specs.Hours.{slot_after}
use Rattle.block_rules.proofs.BlockClasses.{class_few}
use Rattle.block_totals.specs.Laws.BlockTotals.{stocks_raised}
use Rattle.block_totals.specs.Laws.BlockTotalsLaws.{among, class_raised_lem, no_class_raised}
use Rattle.record_places.specs.RecordSize.{words_in}
use Rattle.block_totals.proofs.raise_hours.Goals as goal

pub raise_class-requires : goal.raise_class-requires
raise_class-requires c =
    let pre = c.requires in
    let few = class_few (slot_after c.args.month) in
    (among _ _ (omega arith) (omega (arith, c.class_after-class.ensures, c.start.ensures, few)) pre.0, (omega arith, pre.1))

pub returns-then-apply : goal.returns-then-apply
returns-then-apply c =
    let a = c.args in
    class_raised_lem a.n a.m a.out.now (words_in a.s.now) a.month c.load_switch-switch.ensures c.apply.ensures c.if-apply.true c.class_after-class.ensures
    (c.raise_class.ensures ∙ ap (stocks_raised a.n a.m a.out.now (words_in a.s.now)) c.start.ensures)

pub returns-else-apply : goal.returns-else-apply
returns-else-apply c =
    let a = c.args in
    no_class_raised a.n a.m a.out.now (words_in a.s.now) a.month c.load_switch-switch.ensures c.apply.ensures c.if-apply.false

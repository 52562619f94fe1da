-- `closing_totals::enter` meets its contract: the counts, what is raised, what is replaced and what is cleared make up the record after a closing.
-- Assumes nothing.
use mathlib.Core.Path.{◌∙◌}
use native.Mathlib.Omega.{arith}
use Rattle.closing_totals.specs.Laws.ClosingAfterLaws.{gone_few, closings_few, totals_raisable, lists_stand, bytes_after}
use Rattle.closing_totals.proofs.enter.Goals as goal

pub start_month-requires : goal.start_month-requires
start_month-requires c = let listed = c.requires in (listed.head, (listed.switch_is, (gone_few listed, closings_few listed)))

pub raise_totals-requires : goal.raise_totals-requires
raise_totals-requires c =
    let listed = c.requires in
    (totals_raisable listed (c.start_month.auto.s ∙ listed.head.whole) c.start_month.ensures, lists_stand listed)

pub replace_stocks-requires : goal.replace_stocks-requires
replace_stocks-requires c =
    let listed = c.requires in
    (c.raise_totals.auto.s ∙ c.start_month.auto.s ∙ listed.head.whole, lists_stand listed)

pub clear_classes-requires : goal.clear_classes-requires
clear_classes-requires c =
    let listed = c.requires in
    let lists = lists_stand listed in
    (c.replace_stocks.auto.s ∙ c.raise_totals.auto.s ∙ c.start_month.auto.s ∙ listed.head.whole, (lists.generators_few, lists.consumers_few))

pub returns : goal.returns
returns c =
    let size = c.clear_classes.auto.s ∙ c.replace_stocks.auto.s ∙ c.raise_totals.auto.s ∙ c.start_month.auto.s ∙ c.requires.head.whole in
    bytes_after c.requires _ size (λ i. omega (arith, c.slice_known-5-1.given i)) c.start_month.ensures c.raise_totals.ensures c.replace_stocks.ensures c.clear_classes.ensures

-- `schedule_refusal::off_link` meets its contract: after g turns it is known whether one of the first g rows has kW off its links. Assumes nothing.
use mathlib.Core.Path.{◌∙◌}
use native.Mathlib.Omega.{arith}
use borrow.Author.Rules.{rules}
use Rattle.lists.specs.Laws.TestsLaws.{look_start, look_step, look_done}
use Rattle.agreement_rules.specs.Laws.AgreedReadingLaws.{first_row_at}
use Rattle.agreement_rules.specs.Laws.AgreedRefusals.{off_link}
use Rattle.agreement_rules.specs.Laws.AgreedRefusalsLaws.{row_off}
use Rattle.schedule_refusal.proofs.off_link.Goals as goal

pub loop-g-init : goal.loop-g-init
loop-g-init c = look_start

pub overflow_mul-g : goal.overflow_mul-g
overflow_mul-g c = let l = c.loop-g in omega (arith, (first_row_at l.g c.requires (search rules)).fits)

pub row_off_link-found-requires : goal.row_off_link-found-requires
row_off_link-found-requires c = let l = c.loop-g in (search rules, first_row_at l.g c.requires (search rules))

pub loop-g-preserved : goal.loop-g-preserved
loop-g-preserved c = look_step c.loop-g.invariant (search rules) (c.row_off_link-found.ensures ∙ row_off _ _ _ _ _ (search rules) (search rules) (search rules))

pub returns : goal.returns
unfolding off_link
returns c = look_done c.loop-g.invariant (search rules)

-- `agreed_lists::put_row` meets its contract: after c turns the row has its first c new numbers. Assumes nothing.
use native.Mathlib.Omega.{arith}
use borrow.Author.Rules.{rules}
use Rattle.agreement_rules.specs.Laws.AgreedReadingLaws.{put_start, put_step, put_length, put_done}
use Rattle.agreed_lists.proofs.put_row.Goals as goal

pub loop-c-init : goal.loop-c-init
loop-c-init c = put_start (search rules) (search rules)

pub bounds-out-g : goal.bounds-out-g
bounds-out-g c = omega (arith, put_length c.loop-c.invariant)

pub loop-c-preserved : goal.loop-c-preserved
loop-c-preserved c = put_step c.loop-c.invariant (search rules) (search rules) c.from.ensures

pub returns : goal.returns
returns c = put_done c.loop-c.invariant (search rules)

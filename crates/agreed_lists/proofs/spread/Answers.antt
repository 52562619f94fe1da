-- `agreed_lists::spread` meets its contract: after g turns the first g rows are put, and the others are 0. Assumes nothing.
use native.Mathlib.Omega.{arith}
use borrow.Author.Rules.{rules}
use Rattle.agreement_rules.specs.Laws.AgreedReadingLaws.{spread_start, spread_step, spread_length, spread_done, row_at}
use Rattle.agreed_lists.proofs.spread.Goals as goal

pub loop-g-init : goal.loop-g-init
loop-g-init c = spread_start (search rules) (search rules)

pub overflow_mul-g : goal.overflow_mul-g
overflow_mul-g c = let l = c.loop-g in omega (arith, (row_at l.g c.requires (search rules)).fits)

pub overflow_add-from : goal.overflow_add-from
overflow_add-from c = let l = c.loop-g in omega (arith, (row_at l.g c.requires (search rules)).fits)

pub put_row-requires : goal.put_row-requires
put_row-requires c = let l = c.loop-g in (search rules, (spread_length l.invariant, row_at l.g c.requires (search rules)))

pub loop-g-preserved : goal.loop-g-preserved
loop-g-preserved c = spread_step c.loop-g.invariant (search rules) c.put_row.ensures

pub returns : goal.returns
returns c = spread_done c.loop-g.invariant (search rules)

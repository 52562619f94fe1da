-- `output_lists::write_list` meets its contract: each place passed holds the number of `xs` at that place. Assumes nothing.
use Rattle.std.proofs.Common.{rules, refl, arith}
use Rattle.lists.specs.Laws.TablesLaws.{fill_start, fill_step, fill_length, fill_done}
use Rattle.output_lists.proofs.write_list.Goals as goal

pub loop-i-init : goal.loop-i-init
loop-i-init c = fill_start refl

pub bounds-out-i : goal.bounds-out-i
bounds-out-i c = omega (arith, fill_length c.loop-i.invariant)

pub loop-i-preserved : goal.loop-i-preserved
loop-i-preserved c = fill_step c.loop-i.invariant (search rules) refl

pub shape_of-out : goal.shape_of-out
shape_of-out c = fill_length c.loop-i.invariant

pub returns : goal.returns
returns c = fill_done c.loop-i.invariant (search rules)

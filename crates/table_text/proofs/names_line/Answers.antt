-- `table_text::names_line` meets its contract. The loop's invariant: the first j names are written. Assumes nothing.
use Rattle.std.proofs.Common.{◌≡◌, ◌+◌, append_assoc, arith, rules}
use Rattle.std.proofs.lemmas.Grind.{common_steps}
use Rattle.table_text.specs.TableText.{names, names_line}
use Rattle.table_text.specs.Laws.TableTextLaws.{names_more, length_more, names_short}
use Rattle.table_text.proofs.names_line.Goals as goal

pub loop-j-init : goal.loop-j-init
unfolding names
loop-j-init c = search rules

pub push_name-requires : goal.push_name-requires
push_name-requires c = grind (arith, common_steps, length_more c.args.g (c.args.g + c.args.c) c.loop-j.j, names_short c.args.g (c.args.g + c.args.c) (c.loop-j.j + 1) (omega arith))

pub push-requires : goal.push-requires
push-requires c = grind (arith, common_steps, length_more c.args.g (c.args.g + c.args.c) c.loop-j.j, names_short c.args.g (c.args.g + c.args.c) (c.loop-j.j + 1) (omega arith))

pub loop-j-preserved : goal.loop-j-preserved
loop-j-preserved c = grind (arith, append_assoc, names_more c.args.g (c.args.g + c.args.c) c.loop-j.j)

pub returns : goal.returns
unfolding names_line
returns c = let e : c.loop-j.j ≡ c.args.g + c.args.c = omega arith in grind (arith, e)

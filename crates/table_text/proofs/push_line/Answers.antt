-- `table_text::push_line` meets its contract. The loop's invariant: the first j values are written. Assumes nothing.
use Rattle.std.proofs.Common.{length, take, get_or, append_assoc, arith, rules}
use Rattle.std.proofs.lemmas.Grind.{common_steps}
use Rattle.table_text.specs.TableText.{printed}
use Rattle.table_text.specs.Laws.TableTextLaws.{printed_more, printed_short, decimal_short}
use Rattle.table_text.proofs.push_line.Goals as goal

pub loop-j-init : goal.loop-j-init
unfolding printed
loop-j-init g c = search rules

pub push_decimal-requires : goal.push_decimal-requires
push_decimal-requires g c =
    grind
    (arith, common_steps, printed_short (length c.args.values.now) 0 (take c.loop-j.j c.args.values.now), decimal_short (get_or c.args.values.now c.loop-j.j 0))

pub push-requires : goal.push-requires
push-requires g c =
    grind
    (arith, common_steps, printed_short (length c.args.values.now) 0 (take c.loop-j.j c.args.values.now), decimal_short (get_or c.args.values.now c.loop-j.j 0))

pub loop-j-preserved : goal.loop-j-preserved
loop-j-preserved g c = grind (arith, append_assoc, printed_more)

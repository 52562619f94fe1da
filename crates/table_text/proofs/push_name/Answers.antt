-- `table_text::push_name` meets its contract: the letter, then the number after it. Assumes nothing.
use Rattle.std.proofs.Common.{append_assoc, arith}
use Rattle.std.proofs.lemmas.Grind.{common_steps}
use Rattle.table_text.specs.Laws.TableTextLaws.{name_e, name_r}
use Rattle.table_text.proofs.push_name.Goals as goal

pub push-requires : goal.push-requires
push-requires g c = grind (arith, common_steps, name_e c.args.g c.args.j (omega arith))

pub push_decimal-requires : goal.push_decimal-requires
push_decimal-requires g c = grind (arith, common_steps, name_e c.args.g c.args.j (omega arith))

pub returns-then-j-g : goal.returns-then-j-g
returns-then-j-g g c = grind (arith, append_assoc, name_e c.args.g c.args.j (omega arith))

pub push-requires-else-j-g : goal.push-requires-else-j-g
push-requires-else-j-g g c = grind (arith, common_steps, name_r c.args.g c.args.j (omega arith))

pub push_decimal-requires-else-j-g : goal.push_decimal-requires-else-j-g
push_decimal-requires-else-j-g g c = grind (arith, common_steps, name_r c.args.g c.args.j (omega arith))

pub returns-else-j-g : goal.returns-else-j-g
returns-else-j-g g c = grind (arith, append_assoc, name_r c.args.g c.args.j (omega arith))

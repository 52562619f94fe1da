-- `table_text::push_decimal` meets its contract: no number has more than 20 digits, and all that was written is copied. Assumes nothing.
use Rattle.std.proofs.Common.{arith}
use Rattle.std.proofs.lemmas.Grind.{common_steps}
use Rattle.table_text.specs.Laws.TableTextLaws.{decimal_short}
use Rattle.table_text.proofs.push_decimal.Goals as goal

pub push_digits-requires : goal.push_digits-requires
push_digits-requires g c = grind (arith, common_steps, decimal_short)

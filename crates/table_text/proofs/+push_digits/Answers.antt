-- `table_text::push_digits` meets its contract, by recursion on the number: the last digit is written after those of a tenth. Assumes nothing.
use Rattle.std.proofs.Common.{append_assoc, arith}
use Rattle.std.proofs.lemmas.Grind.{common_steps}
use Rattle.table_text.specs.Laws.TableTextLaws.{decimal_one, decimal_step, length_one, length_step}
use Rattle.table_text.proofs.+push_digits.Goals as goal
use Rattle.table_text.proofs.+push_digits.Goals.{then-n-ge10, else-n-ge10}

pub push_digits-requires : goal.push_digits-requires
push_digits-requires t c = let f = length_step c.args.n (omega arith) (omega arith) in (omega arith, omega (arith, c.requires))

pub push-requires : goal.push-requires
push-requires t c =
    elim c.if-n-ge10.branch [
      | then-n-ge10 w ↦ grind (arith, common_steps, length_step c.args.n (omega arith) (omega arith))
      | else-n-ge10 w ↦ grind (arith, common_steps, length_one c.args.n (omega arith))
    ]

pub returns : goal.returns
returns t c =
    elim c.if-n-ge10.branch [
      | then-n-ge10 w ↦ grind (arith, append_assoc, decimal_step c.args.n (omega arith) (omega arith))
      | else-n-ge10 w ↦ grind (arith, append_assoc, decimal_one c.args.n (omega arith))
    ]

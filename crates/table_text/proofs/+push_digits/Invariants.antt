-- `table_text::push_digits` goes on by a tenth of the number.
use Rattle.table_text.proofs.+push_digits.Given as goal

abbrev pub decreases-push_digits : goal.decreases-push_digits
decreases-push_digits l = l.n

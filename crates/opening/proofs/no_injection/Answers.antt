-- `opening::no_injection` meets its contract: each list is 8 zeros. Assumes nothing.
use mathlib.Core.Path.{refl}
use Rattle.lists.specs.Tables.{table}
use Rattle.record.specs.Book.{no_injection}
use Rattle.record.specs.Stored.{stored_generators}
use Rattle.opening.proofs.no_injection.Goals as goal

pub returns : goal.returns
unfolding stored_generators no_injection table
returns c = refl

-- `opening::no_stocks` meets its contract: each list is 8 or 16 zeros. Assumes nothing.
use mathlib.Core.Path.{refl}
use Rattle.lists.specs.Tables.{table}
use Rattle.record.specs.Book.{no_stocks}
use Rattle.record.specs.Stored.{stored_stocks}
use Rattle.opening.proofs.no_stocks.Goals as goal

pub returns : goal.returns
unfolding stored_stocks no_stocks table
returns c = refl

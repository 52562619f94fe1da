-- `opening::no_consumption` meets its contract: each list is 16 zeros. Assumes nothing.
use mathlib.Core.Path.{refl}
use Rattle.lists.specs.Tables.{table}
use Rattle.record.specs.Book.{no_consumption}
use Rattle.record.specs.Stored.{stored_consumers}
use Rattle.opening.proofs.no_consumption.Goals as goal

pub returns : goal.returns
unfolding stored_consumers no_consumption table
returns c = refl

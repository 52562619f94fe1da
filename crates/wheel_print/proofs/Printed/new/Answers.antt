-- `wheel_print::Printed::new` meets its contract: the text is copied over the start of zeros. Assumes nothing.
use Rattle.std.proofs.Common.{rules}
use Rattle.wheel_print.specs.Laws.PrintingLaws.{shows_text}
use Rattle.wheel_print.proofs.Printed.new.Goals as goal

pub returns : goal.returns
returns c = shows_text (search rules) (search rules) (search rules)

-- `wheel_print::equation` meets its contract: the line of names and that of generator 1. Assumes nothing.
use Rattle.std.proofs.Common.{rules}
use Rattle.lists.specs.Tables.{table}
use Rattle.lists.specs.Pairs.{place}
use Rattle.record.specs.Stored.{generator_at}
use Rattle.wheel_rules.specs.PrintedWords.{bytes}
use Rattle.wheel_rules.specs.Display.{equation_text}
use Rattle.wheel_print.proofs.equation.Goals as goal

pub returns : goal.returns
unfolding equation_text bytes table generator_at place
returns c = search rules

-- `wheel_print::refused` meets its contract: the word and the line of one number. Assumes nothing.
use Rattle.std.proofs.Common.{rules}
use Rattle.lists.specs.Tables.{table}
use Rattle.wheel_rules.specs.PrintedWords.{bytes}
use Rattle.wheel_rules.specs.Display.{refused_text}
use Rattle.wheel_print.proofs.refused.Goals as goal

pub returns : goal.returns
unfolding refused_text bytes table
returns c = search rules

-- `class_bank::give` gives the smaller of what a balance has and what is wanted. Assumes nothing.
use borrow.Author.Rules.{rules}
use Rattle.class_bank.specs.Laws.Serving.{gave_made}
use Rattle.class_bank.proofs.give.Goals as goal

pub returns : goal.returns
returns c = gave_made c.requires (search rules) c.min-x.ensures

-- `opening::agreed_from` meets its contract: each part is the list that `column` reads. Assumes nothing.
use Rattle.agreement_rules.specs.Laws.AgreedParts.{agreed_from}
use Rattle.opening.proofs.agreed_from.Goals as goal

pub returns : goal.returns
unfolding agreed_from
returns c = cc

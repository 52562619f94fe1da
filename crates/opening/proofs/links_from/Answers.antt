-- `opening::links_from` meets its contract: the first half of the list are the links, the second the losses. Assumes nothing.
use Rattle.agreement_rules.specs.Laws.AgreedPartsLaws.{links_from_lem}
use Rattle.opening.proofs.links_from.Goals as goal

pub returns : goal.returns
returns c = links_from_lem _ _ _ c.spread-link.ensures c.spread-loss.ensures

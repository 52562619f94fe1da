-- `opening::terms_from` meets its contract: the numbers given, as wide as the record's. Assumes nothing.
use mathlib.Core.Path.{refl}
use Rattle.agreement_rules.specs.Laws.AgreedParts.{terms_from}
use Rattle.opening.proofs.terms_from.Goals as goal

pub returns : goal.returns
unfolding terms_from
returns c = rw (c.from.ensures, c.from-2.ensures) refl

-- `opening::first_switch` meets its contract: the switch month given, and no closings. Assumes nothing.
use mathlib.Core.Path.{refl}
use Rattle.agreement_rules.specs.Laws.AgreedParts.{first_switch}
use Rattle.opening.proofs.first_switch.Goals as goal

pub returns : goal.returns
unfolding first_switch
returns c = rw c.from-month.ensures refl

-- `opening::zero_record` meets its contract: every part is zeros. Assumes nothing.
use Rattle.agreement_rules.specs.Laws.AgreedPartsLaws.{zero_parts}
use Rattle.opening.proofs.zero_record.Goals as goal

pub returns : goal.returns
returns c =
    zero_parts c.terms_from-terms.ensures c.first_counts-counts.ensures c.no_injection-generators.ensures c.no_consumption-consumers.ensures c.first_switch-switch.ensures c.no_stocks-stocks.ensures

-- The opening that the code's arguments ask for. Assumes nothing.
use Rattle.agreement_rules.specs.Opening.{Opening, asked}
use Rattle.opening_refusal.specs.declared.Asked.{Asked}

abbrev pub opening_asked : Asked → Opening
opening_asked a = asked a.generators a.consumers a.rate a.cycle a.gone a.switch a.generator_list.now a.pair_list.now

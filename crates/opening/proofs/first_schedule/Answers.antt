-- `opening::first_schedule` meets its contract: a list of ones put by rows is rank 1 for each pair, and 0 beyond. Assumes nothing.
use mathlib.Core.Path.{refl}
use Rattle.agreement_rules.specs.Laws.AgreedReadingLaws.{rows_of_128}
use Rattle.agreement_rules.specs.Laws.AgreedPartsLaws.{first_schedule_lem}
use Rattle.opening.proofs.first_schedule.Goals as goal

pub spread-rank-requires : goal.spread-rank-requires
spread-rank-requires c = rows_of_128 _ _ _ refl c.requires.0 c.requires.1

pub returns : goal.returns
returns c = first_schedule_lem _ _ c.requires.0 c.requires.1 c.spread-rank.ensures

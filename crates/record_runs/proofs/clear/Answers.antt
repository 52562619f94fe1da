-- `record_runs::clear` meets its contract: each call gives 0. Assumes nothing.
use Rattle.std.proofs.Common.{rules}
use Rattle.record_runs.specs.Laws.RaiseLaws.{replaced_by}
use Rattle.record_runs.proofs.clear.Goals as goal

pub returns : goal.returns
returns c = replaced_by _ c.replace.ensures (λ i r l gives. search rules)

-- How much less is delivered of one pair than is scheduled at exit. Assumes nothing.
use Rattle.std.specs.Prelude.{ℕ, ◌-◌, if◌then◌else◌}
use Rattle.energy.specs.Energy.{after_loss}
use Rattle.record.specs.Plan.{deemed_kind}

-- Rule 4 less what is delivered, by the generator's kind and the pair's scheduled energy and loss
unfoldable pub gap_of : ℕ → ℕ → ℕ → ℕ → ℕ
gap_of kind scheduled rate delivered = if deemed_kind kind then 0 else after_loss scheduled rate - delivered

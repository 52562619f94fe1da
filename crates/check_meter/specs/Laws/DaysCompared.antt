-- What `compare` promises of accepted days. Assumes nothing.
use Rattle.std.specs.Prelude.{ℕ, List, if◌then◌else◌}
use Rattle.check_meter.specs.CheckMeter.{incomplete, blocks_apart}
use Rattle.check_meter.specs.declared.Comparison.{Comparison}
use Rattle.check_meter.specs.declared.Meter.TheVariants.{Main, Check}

-- what two days give together
abbrev pub comparison : (tolerance : ℕ) (main check : List ℕ) → Comparison
comparison tolerance main check = record { meter = if incomplete main then Check else Main; apart = blocks_apart tolerance main check }

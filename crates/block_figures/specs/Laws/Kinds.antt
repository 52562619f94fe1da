-- A generator's kind as the rules of a block go by it. Assumes nothing.
use Rattle.std.specs.Prelude.{ℕ, if◌then◌else◌}
use Rattle.record.specs.Plan.{deemed_kind}
use Rattle.block_figures.specs.declared.Kind.{Kind}
use Rattle.block_figures.specs.declared.Kind.TheVariants.{Scheduled, Deemed}

-- that of the record's number
abbrev pub kind_of : ℕ → Kind
kind_of number = if deemed_kind number then Deemed else Scheduled

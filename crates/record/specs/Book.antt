-- The book: the figures that the record lists. Generators and consumers are counted from 0. Assumes nothing.
use Rattle.std.specs.Prelude.{ℕ, ◌+◌, Bool}
use Rattle.record.specs.Plan.{Plan}
use Rattle.record.specs.Hours.{hours_apply}
use Rattle.record.specs.declared.GeneratorTerms.{GeneratorTerms}
use Rattle.record.specs.declared.ConsumerTerms.{ConsumerTerms}

-- what is held of one class of hours (F-7): bank and pending by generator, open by consumer
pub record ClassStocks : Type 0 where
  pub bank : ℕ → ℕ
  pub pending : ℕ → ℕ
  pub outstanding : ℕ → ℕ

pub record Book : Type 0 where
  -- the agreement's generators and pairs, and the schedule that stands
  pub plan : Plan
  -- the bank's terms: charge rate, and months of a cycle
  pub rate : ℕ
  pub cycle : ℕ
  -- months gone in the cycle; blocks of the unit, and of the month
  pub gone : ℕ
  pub unitblocks : ℕ
  pub monthblocks : ℕ
  -- the terms of both equations
  pub gen : ℕ → GeneratorTerms
  pub con : ℕ → ConsumerTerms
  -- the switch month of the bank by hours, and the closings done
  pub switch : ℕ
  pub closings : ℕ
  -- by class
  pub hours : ℕ → ClassStocks

-- whether its next closing, and the blocks until then, go by hours
abbrev pub by_hours : Book → Bool
by_hours b = hours_apply b.switch b.closings

-- Injected is split into these (demand 3).
abbrev pub split_of_injected : GeneratorTerms → ℕ
split_of_injected x = x.unaccounted + x.lost + x.setoff + x.inadvertent + x.charge + x.drawn + x.lapsed + x.bank + x.pending

-- Metered is split into these (demand 3).
abbrev pub split_of_metered : ConsumerTerms → ℕ
split_of_metered x = x.setoff + x.shortfall + x.drawn + x.supplied + x.outstanding

-- no energy yet
unfoldable pub no_injection : GeneratorTerms
no_injection = record { injected = 0; unaccounted = 0; lost = 0; setoff = 0; inadvertent = 0; charge = 0; drawn = 0; lapsed = 0; bank = 0; pending = 0 }

unfoldable pub no_consumption : ConsumerTerms
no_consumption = record { metered = 0; setoff = 0; shortfall = 0; drawn = 0; supplied = 0; outstanding = 0 }

unfoldable pub no_stocks : ClassStocks
no_stocks = record { bank = λ g. 0; pending = λ g. 0; outstanding = λ c. 0 }

-- The parts of a record that opening makes of the numbers and lists given. Assumes nothing.
use Rattle.std.specs.Prelude.{ℕ, ◌*◌, ◌&&◌, List, ltb, take, drop, if◌then◌else◌}
use Rattle.lists.specs.Tables.{table}
use Rattle.lists.specs.Pairs.{cell, pairs}
use Rattle.record.specs.declared.Terms.{Terms}
use Rattle.record.specs.declared.Counts.{Counts}
use Rattle.record.specs.declared.Switch.{Switch}
use Rattle.record.specs.declared.Agreed.{Agreed}
use Rattle.record.specs.declared.Links.{Links}
use Rattle.record.specs.declared.Schedule.{Schedule}
use Rattle.agreement_rules.specs.Opening.{first_gone}

unfoldable pub terms_from : (G C rate cycle : ℕ) → Terms
terms_from G C rate cycle = record { generators = G; consumers = C; rate = rate; cycle = cycle }

-- no blocks yet
unfoldable pub first_counts : (gone switch : ℕ) → Counts
first_counts gone switch = record { gone = first_gone switch gone; unitblocks = 0; monthblocks = 0 }

-- no closings yet
unfoldable pub first_switch : ℕ → Switch
first_switch switch = record { month = switch; closings = 0 }

unfoldable pub agreed_from : ℕ → List ℕ → Agreed
agreed_from n xs =
    record { kind = table 8 (λ g. cell n 3 xs g 0); installed = table 8 (λ g. cell n 3 xs g 1); contracted = table 8 (λ g. cell n 3 xs g 2) }

unfoldable pub links_from : ℕ → ℕ → List ℕ → Links
links_from n m xs = record { link = pairs 8 16 (cell n m (take (n * m) xs)); loss = pairs 8 16 (cell n m (drop (n * m) xs)) }

-- no kW, and every rank 1
unfoldable pub first_schedule : ℕ → ℕ → Schedule
first_schedule n m = record { kw = pairs 8 16 (λ g c. 0); rank = pairs 8 16 (λ g c. if ltb g n && ltb c m then 1 else 0) }

-- The loop of `block_delivery::share_rows`: what lasts from turn to turn, and what falls.
use Rattle.lists.specs.Tables.{table}
use Rattle.lists.specs.Laws.TablesLaws.{Filling}
use Rattle.block_rules.specs.Delivery.{unaccounted, part_of}
use Rattle.record_layout.specs.OnBytes.{plan_in}
use Rattle.block_delivery.specs.Laws.DeliveryLent.{entries_in}
use Rattle.block_delivery.proofs.share_rows.Given as goal

abbrev pub invariant-loop-g : goal.invariant-loop-g
invariant-loop-g l =
    Filling l.n (λ i. unaccounted (plan_in l.s) i (entries_in l.s l.entry i)) l.initial.out l.g l.out × Filling 8 (λ i. table 16 (part_of (plan_in l.s) i (entries_in l.s l.entry i))) l.initial.parts l.g l.parts

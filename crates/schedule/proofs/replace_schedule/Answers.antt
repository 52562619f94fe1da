-- `schedule::replace_schedule` meets its contract: both lists of the schedule are replaced. Assumes nothing.
use mathlib.Core.Path.{◌∙◌}
use native.Mathlib.Omega.{arith}
use Rattle.schedule.specs.Laws.ScheduleEntered.{kw_rows, rank_rows, bytes_after}
use Rattle.schedule.proofs.replace_schedule.Goals as goal

pub put_list-requires : goal.put_list-requires
put_list-requires c =
    (record { size = c.requires.whole; placed = omega arith }, kw_rows _ _ _ c.requires)

pub put_list-requires-2 : goal.put_list-requires-2
put_list-requires-2 c =
    (record { size = c.put_list.auto.s ∙ c.requires.whole; placed = omega arith }, rank_rows _ _ _ c.requires)

pub returns : goal.returns
returns c =
    bytes_after _ _ _ c.requires c.put_list.ensures c.put_list-2.ensures (c.put_list-2.auto.s ∙ c.put_list.auto.s ∙ c.requires.whole)
    (λ i. omega (arith, c.slice_known-3-1.given i))

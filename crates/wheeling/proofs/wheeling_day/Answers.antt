-- `wheeling::wheeling_day` meets its contract: the comparison of the days that the bytes hold. Assumes nothing.
use Rattle.std.proofs.Common.{rules}
use Rattle.check_meter_bytes.specs.Laws.DayOnBytesLaws.{day_misfit, day_given, day_refused}
use Rattle.wheeling.proofs.wheeling_day.Goals as goal

pub returns-then-not-fits : goal.returns-then-not-fits
returns-then-not-fits c = rw c.number.ensures (day_misfit _ _ _ _ (λ m k l. search rules))

pub returns-after-both : goal.returns-after-both
returns-after-both c =
    day_given _ _ _ _ (search rules) (search rules) (search rules) c.read.ensures c.read-2.ensures c.in-Ok.ensures.number c.write8.ensures (search rules) (search rules)

pub returns-in-Err : goal.returns-in-Err
returns-in-Err c = rw c.number-in-Err.ensures (day_refused _ _ _ _ (search rules) (search rules) (search rules) _ c.read.ensures c.read-2.ensures c.in-Err.ensures.number)

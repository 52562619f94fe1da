-- `record_runs::row_sum` meets its contract: the chain gives the numbers of the row. Assumes nothing.
use Rattle.std.proofs.Common.{rules, arith, get_or, ◌+◌, ◌*◌}
use Rattle.lists.specs.Laws.RangeLaws.{gives_range, range_fits, range_sum}
use Rattle.record_runs.specs.Laws.RaiseLaws.{row_cap}
use Rattle.record_runs.proofs.row_sum.Goals as goal

pub sum-requires-clause-fits : goal.sum-requires-clause-fits
sum-requires-clause-fits c =
    let a = c.args in
    range_fits (gives_range (λ k. get_or a.xs.now (a.first + (a.g * a.m + k)) 0) c.map.ensures.source c.map.ensures.closure (λ i r q called. search rules))
    (omega (arith, row_cap a.m a.first a.g c.requires.1.1))

pub returns-clause-sum : goal.returns-clause-sum
returns-clause-sum c =
    range_sum (gives_range _ c.map.ensures.source c.map.ensures.closure (λ i r q called. search rules)) c.sum.ensures.ran

pub returns-clause-moderate : goal.returns-clause-moderate
returns-clause-moderate c = omega (arith, returns-clause-sum c, row_cap c.args.m c.args.first c.args.g c.requires.1.1)

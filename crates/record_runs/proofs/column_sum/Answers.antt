-- `record_runs::column_sum` meets its contract: the chain gives the numbers of the column. Assumes nothing.
use Rattle.std.proofs.Common.{rules, arith, get_or, ◌+◌, ◌*◌}
use Rattle.lists.specs.Laws.RangeLaws.{gives_range, range_fits, range_sum}
use Rattle.record_runs.specs.Laws.RaiseLaws.{column_cap}
use Rattle.record_runs.proofs.column_sum.Goals as goal

pub sum-requires-clause-fits : goal.sum-requires-clause-fits
sum-requires-clause-fits c =
    let a = c.args in
    range_fits (gives_range (λ k. get_or a.xs.now (a.first + (k * a.m + a.c)) 0) c.map.ensures.source c.map.ensures.closure (λ i r q called. search rules))
    (omega (arith, column_cap a.n a.m a.first a.c c.requires.1.1.1))

pub returns-clause-sum : goal.returns-clause-sum
returns-clause-sum c =
    range_sum (gives_range _ c.map.ensures.source c.map.ensures.closure (λ i r q called. search rules)) c.sum.ensures.ran

pub returns-clause-moderate : goal.returns-clause-moderate
returns-clause-moderate c = omega (arith, returns-clause-sum c, column_cap c.args.n c.args.m c.args.first c.args.c c.requires.1.1.1)

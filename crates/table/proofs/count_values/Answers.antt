-- `table::count_values` meets its contract: each byte that is no digit ends a value. Assumes nothing.
use Rattle.std.specs.Prelude.{◌≡◌, not, count_by}
use Rattle.std.specs.Char.{is_ascii_digit}
use Rattle.std.proofs.Common.{sym, ◌∙◌, rules}
use Rattle.lists.specs.Tests.{within}
use Rattle.table_scan.specs.Values.{is_digit}
use Rattle.table.specs.Laws.TableScanning.{length_numbers}
use Rattle.table.proofs.count_values.Goals as goal

pub returns : goal.returns
unfolding is_digit within
returns c =
    let e : c.count.result ≡ count_by (λ b. not (is_ascii_digit b)) c.args.s.now = search rules in
    e ∙ sym (length_numbers 0 c.args.s.now)

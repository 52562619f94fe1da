-- `block_totals::kinds` meets its contract: a call reads the kind of its generator. Assumes nothing.
use Rattle.std.proofs.Common.{ℕ, List, rules, ap, get_or, ◌∙◌, ◌+◌, ◌*◌}
use Rattle.lists.specs.Laws.TablesLaws.{get_or_table}
use Rattle.lists.specs.Laws.FromFnLaws.{from_fn_table}
use Rattle.record_places.specs.RecordSize.{words_in}
use Rattle.record_places.specs.Laws.Places.{agreed_at}
use Rattle.block_totals.proofs.kinds.Goals as goal

pub returns : goal.returns
returns c g l =
    let kind : ℕ → ℕ = λ i. get_or (words_in c.args.s.now) (agreed_at + i * 3) 0 in
    ap (λ (xs : List ℕ). get_or xs g 0) (from_fn_table 0 kind c.from_fn.ensures.items (λ i y q few called. (search rules, search rules))) ∙ get_or_table 8 kind g 0 l

-- `output_lists::put_list` meets its contract: the stretch comes back as the first n numbers. Assumes nothing.
use Rattle.output_lists.specs.Laws.ListPutLaws.{lent_list}
use borrow.Author.Rules.{rules}
use Rattle.output_lists.proofs.put_list.Goals as goal

pub returns : goal.returns
returns c = lent_list _ c.write_list.ensures (search rules)

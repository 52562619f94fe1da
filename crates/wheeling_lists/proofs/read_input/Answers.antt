-- `wheeling_lists::read_input` meets its contract: the numbers in an input's bytes, or more than any agreement takes.
use Rattle.std.proofs.Common.{refl}
use Rattle.wheeling_rules.specs.Laws.BytesReadLaws.{count_more, taken_read, taken_all}
use Rattle.wheeling_lists.proofs.read_input.Goals as goal

pub returns-then-n-out : goal.returns-then-n-out
returns-then-n-out c = taken_read _ _ refl c.if-bytes-eq0.true refl c.if-n-out.true c.read.ensures

pub returns : goal.returns
returns c = taken_all _ _ refl (count_more 4 _ c.requires c.else-bytes-eq0.either)

-- `wheeling_lists::room` meets its contract: the count of numbers that an output's bytes have room for.
use Rattle.std.proofs.Common.{refl}
use Rattle.wheeling_rules.specs.Laws.BytesReadLaws.{count_more, room_whole, room_all}
use Rattle.wheeling_lists.proofs.room.Goals as goal

pub returns-then-n-most : goal.returns-then-n-most
returns-then-n-most c = room_whole _ c.if-bytes-eq0.true refl c.if-n-most.true

pub returns : goal.returns
returns c = room_all _ (count_more 8 _ c.requires c.else-bytes-eq0.either)

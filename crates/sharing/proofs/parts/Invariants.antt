-- The loop of `sharing::parts`: what lasts from turn to turn, and what falls.
use Rattle.sharing.specs.Laws.ShareLaws.{Sharing}
use Rattle.sharing.proofs.parts.Given as goal

abbrev pub invariant-loop-c : goal.invariant-loop-c
invariant-loop-c l = Sharing l.k l.all l.kw l.c l.out l.sum l.last

-- `soundness::consumer_terms` meets its contract: each term is read at its place.
use Rattle.soundness.specs.Laws.PlacesHeldLaws.{consumer_held}
use Rattle.soundness.proofs.consumer_terms.Goals as goal

pub returns : goal.returns
returns c =
    consumer_held _ _ c.requires.1
    (λ i. record {
      metered = c.number_at.ensures i;
      setoff = c.number_at-2.ensures i;
      shortfall = c.number_at-3.ensures i;
      drawn = c.number_at-4.ensures i;
      supplied = c.number_at-5.ensures i;
      outstanding = c.number_at-6.ensures i;
    })

-- `soundness::generator_terms` meets its contract: each term is read at its place.
use Rattle.soundness.specs.Laws.PlacesHeldLaws.{generator_held}
use Rattle.soundness.proofs.generator_terms.Goals as goal

pub returns : goal.returns
returns c =
    generator_held _ _ c.requires.1
    (λ i. record {
      injected = c.number_at.ensures i;
      unaccounted = c.number_at-2.ensures i;
      lost = c.number_at-3.ensures i;
      setoff = c.number_at-4.ensures i;
      inadvertent = c.number_at-5.ensures i;
      charge = c.number_at-6.ensures i;
      drawn = c.number_at-7.ensures i;
      lapsed = c.number_at-8.ensures i;
      bank = c.number_at-9.ensures i;
      pending = c.number_at-10.ensures i;
    })

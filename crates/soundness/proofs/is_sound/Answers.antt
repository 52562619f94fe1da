-- `soundness::is_sound` meets its contract: the tests of the parts make up `sound`, and where the counts fail so does the whole.
use mathlib.Core.Bool.{true}
use mathlib.Core.Path.{◌≡◌, ◌∙◌, sym}
use Rattle.sound_items.specs.Laws.SoundTests.{counts_test, CountsFit, counts_fit}
use Rattle.soundness.specs.Laws.PlacesHeldLaws.{sound_held, unsound_held}
use Rattle.soundness.proofs.is_sound.Goals as goal

pub agreed_all_sound-requires : goal.agreed_all_sound-requires
agreed_all_sound-requires c =
    let passed : let a = c.args in counts_test a.terms a.counts ≡ true = sym c.counts_sound.ensures ∙ c.if-counts_sound.true in
    let fit : let a = c.args in CountsFit a.terms.generators a.terms.consumers a.counts.unitblocks = counts_fit _ _ passed in
    (c.requires.whole, fit.consumers_fit)

pub pairs_sound-requires : goal.pairs_sound-requires
pairs_sound-requires c =
    let passed : let a = c.args in counts_test a.terms a.counts ≡ true = sym c.counts_sound.ensures ∙ c.if-counts_sound.true in
    let fit : let a = c.args in CountsFit a.terms.generators a.terms.consumers a.counts.unitblocks = counts_fit _ _ passed in
    (c.requires.whole, (fit.generators_fit, fit.consumers_fit))

pub generators_sound-requires : goal.generators_sound-requires
generators_sound-requires c =
    let passed : let a = c.args in counts_test a.terms a.counts ≡ true = sym c.counts_sound.ensures ∙ c.if-counts_sound.true in
    let fit : let a = c.args in CountsFit a.terms.generators a.terms.consumers a.counts.unitblocks = counts_fit _ _ passed in
    (c.requires.whole, fit.blocks_fit)

pub consumers_sound-requires : goal.consumers_sound-requires
consumers_sound-requires c =
    let passed : let a = c.args in counts_test a.terms a.counts ≡ true = sym c.counts_sound.ensures ∙ c.if-counts_sound.true in
    let fit : let a = c.args in CountsFit a.terms.generators a.terms.consumers a.counts.unitblocks = counts_fit _ _ passed in
    (c.requires.whole, fit.blocks_fit)

pub returns-then-counts_sound : goal.returns-then-counts_sound
returns-then-counts_sound c =
    let passed : let a = c.args in counts_test a.terms a.counts ≡ true = sym c.counts_sound.ensures ∙ c.if-counts_sound.true in
    sound_held _ c.requires passed
    c.agreed_all_sound.ensures
    c.pairs_sound.ensures
    c.generators_sound.ensures
    c.consumers_sound.ensures
    c.hours_sound.ensures

pub returns-else-counts_sound : goal.returns-else-counts_sound
returns-else-counts_sound c = unsound_held _ c.requires (sym c.counts_sound.ensures ∙ c.if-counts_sound.false)

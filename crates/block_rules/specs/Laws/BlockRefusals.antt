-- The refusals of a block as the code tests them. Assumes nothing.
use Rattle.std.specs.Prelude.{ℕ, ◌≡◌, refl, Bool, true, false, ◌&&◌, ◌||◌, not, List, [], ◌∷◌, leb, ltb, length, get_or}
use Rattle.std.proofs.Common.{sym, eqb-true}
use Rattle.std.proofs.Math.Dec.{eqb}
use Rattle.lists.specs.Tests.{some}
use Rattle.lists.specs.Laws.TestsLaws.{some_same, and_left, and_right}
use Rattle.lists.specs.Pairs.{place}
use Rattle.lists.specs.Laws.PairsLaws.{place_in}
use Rattle.lists.specs.Refusals.{first_of}
use Rattle.energy.specs.Limits.{most_reading, most_month_blocks, most_unit_blocks}
use Rattle.record.specs.Stored.{figures, plan_of}
use Rattle.record.specs.Sound.{sound}
use Rattle.record.specs.Called.{number_on}
use Rattle.record.specs.Laws.CalledLaws.{number_sound}
use Rattle.record.specs.declared.Record.{Record}
use Rattle.record.specs.declared.Terms.{Terms}
use Rattle.record.specs.declared.Counts.{Counts}
use Rattle.block_rules.specs.Block.{block_length, block_number, block_refusal, block_rule}

unfoldable pub over_limit : List ℕ → Bool
over_limit xs = some (length xs) (λ i. ltb most_reading (get_or xs i 0))

over_places : (xs : List ℕ) (n : ℕ) → length xs ≡ n → over_limit xs ≡ some n (λ i. ltb most_reading (place n xs i))
unfolding over_limit
over_places xs n e = rw e (some_same n _ _ (λ i l. rw (place_in n xs i l)))

module _ (n m month blocks : ℕ) (entry exit : List ℕ) (size : ℕ) where
  abbrev sized : Bool
  sized = eqb (length entry) n && eqb (length exit) m && eqb size (block_length n m)

  -- the tests as the code makes them, in their order
  abbrev tested : ℕ
  tested = first_of ((2, not sized) ∷ (10, over_limit entry || over_limit exit) ∷ (11, leb most_month_blocks month) ∷ (12, leb most_unit_blocks blocks) ∷ [])

  pub number_tested : block_number entry exit n m month blocks size ≡ tested
  unfolding block_number first_of
  number_tested = go sized refl
    where
      go : (t : Bool) → sized ≡ t → block_number entry exit n m month blocks size ≡ tested
      go true e =
          let y = eqb (length entry) n in
          let z = eqb (length exit) m in
          let yz = and_left (y && z) (eqb size (block_length n m)) e in
          rw (e, over_places entry n (eqb-true _ _ (and_left y z yz)), over_places exit m (eqb-true _ _ (and_right y z yz)))
      go false e = rw e

-- on a stored record, its terms and counts being read apart
pub record_refusal : (r : Record) {t : Terms} {n : Counts} (entry exit : List ℕ) (size : ℕ) → t ≡ r.terms → n ≡ r.counts → sound (figures r) ≡ true →
    block_number entry exit t.generators t.consumers n.monthblocks n.unitblocks size ≡ number_on (block_rule entry exit size) r
unfolding figures plan_of block_rule block_refusal
record_refusal r entry exit size e f s = rw (e, f) (sym (number_sound (block_rule entry exit size) r s))

-- A pair's figures of the plan, where the record has them, by the places that code reads. Assumes nothing.
use Rattle.std.specs.Prelude.{ℕ, ◌+◌, ◌*◌, ◌<◌, ◌≡◌, List, get_or}
use Rattle.std.proofs.Common.{ap, ◌∙◌, arith}
use Rattle.lists.specs.Pairs.{cell}
use Rattle.lists.specs.Laws.PairsLaws.{cell_in}
use Rattle.record.specs.Stored.{plan_of}
use Rattle.record_layout.specs.Laws.FigurePlaces.{link_place, loss_place, kw_place, rank_place}
use Rattle.record_layout.specs.OnBytes.{plan_in, record_in}
use Rattle.record_places.specs.RecordSize.{words_in}
use Rattle.record_places.specs.Laws.Places.{link_at, loss_at, kw_at, rank_at}

module _ (s : List ℕ) where
  abbrev at : ℕ → ℕ
  at k = get_or (words_in s) k 0

  -- a pair's figure, where the record has the list from place o on
  pair_at_lem : (o : ℕ) (list : List ℕ) → ((k : ℕ) → k < 128 → get_or list k 0 ≡ at (o + k)) → (g c : ℕ) → g < 8 → c < 16 → cell 8 16 list g c ≡ at (o + g * 16 + c)
  pair_at_lem o list stands g c h k =
      let e : o + (g * 16 + c) ≡ o + g * 16 + c = omega arith in
      cell_in 8 16 list g c h k ∙ stands (g * 16 + c) (omega arith) ∙ ap at e

  pub link_at_lem : (g c : ℕ) → g < 8 → c < 16 → (plan_in s).link g c ≡ at (link_at + g * 16 + c)
  unfolding plan_of
  link_at_lem = pair_at_lem link_at (record_in s).links.link (link_place (words_in s))

  pub loss_at_lem : (g c : ℕ) → g < 8 → c < 16 → (plan_in s).loss g c ≡ at (loss_at + g * 16 + c)
  unfolding plan_of
  loss_at_lem = pair_at_lem loss_at (record_in s).links.loss (loss_place (words_in s))

  pub kw_at_lem : (g c : ℕ) → g < 8 → c < 16 → (plan_in s).kw g c ≡ at (kw_at + g * 16 + c)
  unfolding plan_of
  kw_at_lem = pair_at_lem kw_at (record_in s).schedule.kw (kw_place (words_in s))

  pub rank_at_lem : (g c : ℕ) → g < 8 → c < 16 → (plan_in s).rank g c ≡ at (rank_at + g * 16 + c)
  unfolding plan_of
  rank_at_lem = pair_at_lem rank_at (record_in s).schedule.rank (rank_place (words_in s))

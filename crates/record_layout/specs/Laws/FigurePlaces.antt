-- The number at a place is the figure of the record that stands there; places as code reaches them. Assumes nothing.
use Prim.Native.Nat.{ℕ, zero, suc, ◌+◌, ◌*◌, ◌<◌}
use Rattle.std.specs.Prelude.{◌≡◌, refl, List, get_or, drop}
use Rattle.std.proofs.Common.{sym, ◌∙◌, arith, get_or-take, get_or-drop}
use Rattle.std.proofs.Math.Path.{ap}
use Rattle.lists.specs.Laws.TablesLaws.{get_or_table}
use Rattle.lists.specs.Pairs.{cell}
use Rattle.lists.specs.Laws.PairsLaws.{place_in, cell_in}
use Rattle.record.specs.Book.{ClassStocks}
use Rattle.record.specs.Stored.{class_at, hours_of}
use Rattle.record.specs.RecordWords.{record_of}
use Rattle.record.specs.declared.Agreed.{Agreed}
use Rattle.record.specs.declared.Links.{Links}
use Rattle.record.specs.declared.Schedule.{Schedule}
use Rattle.record.specs.declared.Generators.{Generators}
use Rattle.record.specs.declared.Consumers.{Consumers}
use Rattle.record_layout.specs.Laws.Layout.{run, column_of, terms_at, counts_at_lem, agreed_at_lem, links_at, schedule_at, generators_at, consumers_at, switch_at_lem, stocks_read, offpeak_at, normal_at_lem, peak_at_lem}
use Rattle.record_places.specs.Laws.Places.{generator_count_at, consumer_count_at, rate_at, cycle_at, gone_at, unit_blocks_at, month_blocks_at, agreed_at, link_at, loss_at, kw_at, rank_at, injected_at, metered_at, switch_month_at, closings_at, off_peak_at}

module _ (ws : List ℕ) where
  run_at : (n at i : ℕ) → i < n → get_or (run ws n at) i 0 ≡ get_or ws (at + i) 0
  run_at n at i h = get_or-take n (drop at ws) i 0 h ∙ get_or-drop at ws i 0

  -- a run that stands `by` places behind another
  run_behind : (n at by i : ℕ) → i < n → get_or (run ws n (at + by)) i 0 ≡ get_or ws (at + i + by) 0
  run_behind n at by i h = let e : at + by + i ≡ at + i + by = omega arith in run_at n (at + by) i h ∙ ap (λ (k : ℕ). get_or ws k 0) e

  -- ---- terms and counts

  pub terms_places : (record_of ws).terms ≡ record { generators = get_or ws generator_count_at 0; consumers = get_or ws consumer_count_at 0; rate = get_or ws rate_at 0; cycle = get_or ws cycle_at 0 }
  terms_places =
      terms_at ws ∙
      (λ i. record {
        generators = run_at 4 0 0 (omega arith) i;
        consumers = run_at 4 0 1 (omega arith) i;
        rate = run_at 4 0 2 (omega arith) i;
        cycle = run_at 4 0 3 (omega arith) i;
      })

  pub counts_places : (record_of ws).counts ≡ record { gone = get_or ws gone_at 0; unitblocks = get_or ws unit_blocks_at 0; monthblocks = get_or ws month_blocks_at 0 }
  counts_places =
      counts_at_lem ws ∙
      (λ i. record { gone = run_at 3 4 0 (omega arith) i; unitblocks = run_at 3 4 1 (omega arith) i; monthblocks = run_at 3 4 2 (omega arith) i })

  -- ---- kind, installed and contracted of each generator, side by side

  column_at : (k g at : ℕ) → k < 3 → g < 8 → agreed_at + (g * 3 + k) ≡ at → get_or (column_of (run ws 24 agreed_at) k) g 0 ≡ get_or ws at 0
  column_at k g at l h e =
      get_or_table 8 (λ g. cell 8 3 (run ws 24 agreed_at) g k) g 0 h ∙ cell_in 8 3 (run ws 24 agreed_at) g k h l ∙ run_at 24 agreed_at (g * 3 + k) (omega arith) ∙ ap (λ (i : ℕ). get_or ws i 0) e

  pub kind_place : (g : ℕ) → g < 8 → get_or (record_of ws).agreed.kind g 0 ≡ get_or ws (agreed_at + g * 3) 0
  kind_place g h = ap (λ (x : Agreed). get_or x.kind g 0) (sym (agreed_at_lem ws (run ws 24 agreed_at) refl)) ∙ column_at 0 g (agreed_at + g * 3) (omega arith) h (omega arith)

  pub installed_place : (g : ℕ) → g < 8 → get_or (record_of ws).agreed.installed g 0 ≡ get_or ws (agreed_at + g * 3 + 1) 0
  installed_place g h = ap (λ (x : Agreed). get_or x.installed g 0) (sym (agreed_at_lem ws (run ws 24 agreed_at) refl)) ∙ column_at 1 g (agreed_at + g * 3 + 1) (omega arith) h (omega arith)

  pub contracted_place : (g : ℕ) → g < 8 → get_or (record_of ws).agreed.contracted g 0 ≡ get_or ws (agreed_at + g * 3 + 2) 0
  contracted_place g h = ap (λ (x : Agreed). get_or x.contracted g 0) (sym (agreed_at_lem ws (run ws 24 agreed_at) refl)) ∙ column_at 2 g (agreed_at + g * 3 + 2) (omega arith) h (omega arith)

  -- ---- the pair lists

  pub link_place : (i : ℕ) → i < 128 → get_or (record_of ws).links.link i 0 ≡ get_or ws (link_at + i) 0
  link_place i h = ap (λ (x : Links). get_or x.link i 0) (links_at ws) ∙ run_at 128 link_at i h

  pub loss_place : (i : ℕ) → i < 128 → get_or (record_of ws).links.loss i 0 ≡ get_or ws (loss_at + i) 0
  loss_place i h = ap (λ (x : Links). get_or x.loss i 0) (links_at ws) ∙ run_at 128 loss_at i h

  pub kw_place : (i : ℕ) → i < 128 → get_or (record_of ws).schedule.kw i 0 ≡ get_or ws (kw_at + i) 0
  kw_place i h = ap (λ (x : Schedule). get_or x.kw i 0) (schedule_at ws) ∙ run_at 128 kw_at i h

  pub rank_place : (i : ℕ) → i < 128 → get_or (record_of ws).schedule.rank i 0 ≡ get_or ws (rank_at + i) 0
  rank_place i h = ap (λ (x : Schedule). get_or x.rank i 0) (schedule_at ws) ∙ run_at 128 rank_at i h

  -- ---- the totals of a generator, 8 places apart

  pub generator_injected_place : (g : ℕ) → g < 8 → get_or (record_of ws).generators.injected g 0 ≡ get_or ws (injected_at + g) 0
  generator_injected_place g h = ap (λ (x : Generators). get_or x.injected g 0) (generators_at ws) ∙ run_at 8 injected_at g h

  pub generator_unaccounted_place : (g : ℕ) → g < 8 → get_or (record_of ws).generators.unaccounted g 0 ≡ get_or ws (injected_at + g + 8) 0
  generator_unaccounted_place g h = ap (λ (x : Generators). get_or x.unaccounted g 0) (generators_at ws) ∙ run_behind 8 injected_at 8 g h

  pub generator_lost_place : (g : ℕ) → g < 8 → get_or (record_of ws).generators.lost g 0 ≡ get_or ws (injected_at + g + 16) 0
  generator_lost_place g h = ap (λ (x : Generators). get_or x.lost g 0) (generators_at ws) ∙ run_behind 8 injected_at 16 g h

  pub generator_setoff_place : (g : ℕ) → g < 8 → get_or (record_of ws).generators.setoff g 0 ≡ get_or ws (injected_at + g + 24) 0
  generator_setoff_place g h = ap (λ (x : Generators). get_or x.setoff g 0) (generators_at ws) ∙ run_behind 8 injected_at 24 g h

  pub generator_inadvertent_place : (g : ℕ) → g < 8 → get_or (record_of ws).generators.inadvertent g 0 ≡ get_or ws (injected_at + g + 32) 0
  generator_inadvertent_place g h = ap (λ (x : Generators). get_or x.inadvertent g 0) (generators_at ws) ∙ run_behind 8 injected_at 32 g h

  pub generator_charge_place : (g : ℕ) → g < 8 → get_or (record_of ws).generators.charge g 0 ≡ get_or ws (injected_at + g + 40) 0
  generator_charge_place g h = ap (λ (x : Generators). get_or x.charge g 0) (generators_at ws) ∙ run_behind 8 injected_at 40 g h

  pub generator_drawn_place : (g : ℕ) → g < 8 → get_or (record_of ws).generators.drawn g 0 ≡ get_or ws (injected_at + g + 48) 0
  generator_drawn_place g h = ap (λ (x : Generators). get_or x.drawn g 0) (generators_at ws) ∙ run_behind 8 injected_at 48 g h

  pub generator_lapsed_place : (g : ℕ) → g < 8 → get_or (record_of ws).generators.lapsed g 0 ≡ get_or ws (injected_at + g + 56) 0
  generator_lapsed_place g h = ap (λ (x : Generators). get_or x.lapsed g 0) (generators_at ws) ∙ run_behind 8 injected_at 56 g h

  pub generator_bank_place : (g : ℕ) → g < 8 → get_or (record_of ws).generators.bank g 0 ≡ get_or ws (injected_at + g + 64) 0
  generator_bank_place g h = ap (λ (x : Generators). get_or x.bank g 0) (generators_at ws) ∙ run_behind 8 injected_at 64 g h

  pub generator_pending_place : (g : ℕ) → g < 8 → get_or (record_of ws).generators.pending g 0 ≡ get_or ws (injected_at + g + 72) 0
  generator_pending_place g h = ap (λ (x : Generators). get_or x.pending g 0) (generators_at ws) ∙ run_behind 8 injected_at 72 g h

  -- ---- the totals of a consumer, 16 places apart

  pub consumer_metered_place : (c : ℕ) → c < 16 → get_or (record_of ws).consumers.metered c 0 ≡ get_or ws (metered_at + c) 0
  consumer_metered_place c h = ap (λ (x : Consumers). get_or x.metered c 0) (consumers_at ws) ∙ run_at 16 metered_at c h

  pub consumer_setoff_place : (c : ℕ) → c < 16 → get_or (record_of ws).consumers.setoff c 0 ≡ get_or ws (metered_at + c + 16) 0
  consumer_setoff_place c h = ap (λ (x : Consumers). get_or x.setoff c 0) (consumers_at ws) ∙ run_behind 16 metered_at 16 c h

  pub consumer_shortfall_place : (c : ℕ) → c < 16 → get_or (record_of ws).consumers.shortfall c 0 ≡ get_or ws (metered_at + c + 32) 0
  consumer_shortfall_place c h = ap (λ (x : Consumers). get_or x.shortfall c 0) (consumers_at ws) ∙ run_behind 16 metered_at 32 c h

  pub consumer_drawn_place : (c : ℕ) → c < 16 → get_or (record_of ws).consumers.drawn c 0 ≡ get_or ws (metered_at + c + 48) 0
  consumer_drawn_place c h = ap (λ (x : Consumers). get_or x.drawn c 0) (consumers_at ws) ∙ run_behind 16 metered_at 48 c h

  pub consumer_supplied_place : (c : ℕ) → c < 16 → get_or (record_of ws).consumers.supplied c 0 ≡ get_or ws (metered_at + c + 64) 0
  consumer_supplied_place c h = ap (λ (x : Consumers). get_or x.supplied c 0) (consumers_at ws) ∙ run_behind 16 metered_at 64 c h

  pub consumer_outstanding_place : (c : ℕ) → c < 16 → get_or (record_of ws).consumers.outstanding c 0 ≡ get_or ws (metered_at + c + 80) 0
  consumer_outstanding_place c h = ap (λ (x : Consumers). get_or x.outstanding c 0) (consumers_at ws) ∙ run_behind 16 metered_at 80 c h

  -- ---- the switch and the closings done

  pub switch_places : (record_of ws).switch ≡ record { month = get_or ws switch_month_at 0; closings = get_or ws closings_at 0 }
  switch_places = switch_at_lem ws ∙ (λ i. record { month = run_at 2 switch_month_at 0 (omega arith) i; closings = run_at 2 switch_month_at 1 (omega arith) i })

  -- ---- the classes of hours, 32 places apart

  class_at_lem : (k : ℕ) → k < 3 → hours_of (record_of ws) k ≡ class_at (stocks_read ws (off_peak_at + k * 32))
  unfolding hours_of
  class_at_lem zero h = ap class_at (offpeak_at ws)
  class_at_lem (suc zero) h = ap class_at (normal_at_lem ws)
  class_at_lem (suc (suc zero)) h = ap class_at (peak_at_lem ws)
  class_at_lem (suc (suc (suc k))) h = absurd (omega arith)

  pub class_bank_place : (k g : ℕ) → k < 3 → g < 8 → (hours_of (record_of ws) k).bank g ≡ get_or ws (off_peak_at + k * 32 + g) 0
  unfolding class_at
  class_bank_place k g l h = ap (λ (t : ClassStocks). t.bank g) (class_at_lem k l) ∙ place_in 8 _ g h ∙ run_at 8 (off_peak_at + k * 32) g h

  pub class_pending_place : (k g : ℕ) → k < 3 → g < 8 → (hours_of (record_of ws) k).pending g ≡ get_or ws (off_peak_at + k * 32 + g + 8) 0
  unfolding class_at
  class_pending_place k g l h = ap (λ (t : ClassStocks). t.pending g) (class_at_lem k l) ∙ place_in 8 _ g h ∙ run_behind 8 (off_peak_at + k * 32) 8 g h

  pub class_open_place : (k c : ℕ) → k < 3 → c < 16 → (hours_of (record_of ws) k).outstanding c ≡ get_or ws (off_peak_at + k * 32 + c + 16) 0
  unfolding class_at
  class_open_place k c l h = ap (λ (t : ClassStocks). t.outstanding c) (class_at_lem k l) ∙ place_in 16 _ c h ∙ run_behind 16 (off_peak_at + k * 32) 16 c h

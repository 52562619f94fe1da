-- Where the record's parts stand among its numbers. Assumes nothing.
use Rattle.std.specs.Prelude.{ℕ, zero, suc, ◌+◌, ◌*◌, ◌/◌, ◌%◌, ◌<◌, ◌≡◌, refl, length, take, drop, set}
use Rattle.std.proofs.Math.Path.{sym, ap}
use Rattle.std.proofs.Common.{◌∙◌, drop-drop, get_or-take, get_or-drop}
use mathlib.Core.List.{List, [], ◌∷◌, ◌++◌, append_assoc, append-nil}
use native.Mathlib.Omega.{arith}
use Rattle.std.proofs.Math.ListN.{get_or}
use Rattle.lists.specs.Tables.{table}
use Rattle.lists.specs.Laws.TablesLaws.{Filling, fill_step}
use Rattle.lists.specs.Pairs.{cell, pairs, joined}
use Rattle.lists.specs.Laws.PairsLaws.{place_in, row_of, column_of_lem}
use Rattle.codec.specs.Bytes.{encode}
use Rattle.codec.specs.Laws.BytesPut.{Put, put_then, put_all}
use Rattle.record.specs.RecordWords.{agreed_of, runs, run_lengths, total, words, cut, from_runs, record_of}
use Rattle.record.specs.declared.Record.{Record}
use Rattle.record.specs.declared.Terms.{Terms}
use Rattle.record.specs.declared.Counts.{Counts}
use Rattle.record.specs.declared.Agreed.{Agreed}
use Rattle.record.specs.declared.Links.{Links}
use Rattle.record.specs.declared.Schedule.{Schedule}
use Rattle.record.specs.declared.Generators.{Generators}
use Rattle.record.specs.declared.Switch.{Switch}
use Rattle.record.specs.declared.Stocks.{Stocks}
use Rattle.record.specs.declared.Consumers.{Consumers}
use Rattle.record_places.specs.RecordSize.{record_numbers, record_bytes}
use Rattle.record_places.specs.Laws.Places.{generator_count_at, gone_at, agreed_at, link_at, loss_at, kw_at, rank_at, injected_at, unaccounted_at, lost_at, generator_set_off_at, inadvertent_at, charge_at, generator_drawn_at, lapsed_at, bank_at, pending_at, metered_at, consumer_set_off_at, shortfall_at, consumer_drawn_at, supplied_at, outstanding_at, switch_month_at, off_peak_at, normal_at, peak_at}

-- n numbers from place `at` on
abbrev pub run : List ℕ → ℕ → ℕ → List ℕ
run ws n at = take n (drop at ws)

-- number k of each of 8 rows of 3
abbrev pub column_of : List ℕ → ℕ → List ℕ
column_of rows k = table 8 (λ g. cell 8 3 rows g k)

-- a run of a list that is cut stands behind those before it
cut_at : (ns ws : List ℕ) (j : ℕ) → get_or (cut ns ws) j [] ≡ take (get_or ns j 0) (drop (total (take j ns)) ws)
unfolding cut total
cut_at [] ws j = refl
cut_at (n ∷ ns) ws zero = refl
cut_at (n ∷ ns) ws (suc j) = cut_at ns (drop n ws) j ∙ ap (take (get_or ns j 0)) (drop-drop (total (take j ns)) n ws)

module _ (ws : List ℕ) where
  -- the first run holds the terms and the counts
  in_head : (n at i : ℕ) → i < n → at + i < 7 → get_or (take 7 ws) (at + i) 0 ≡ get_or (take n (drop at ws)) i 0
  in_head n at i h l = get_or-take 7 ws (at + i) 0 l ∙ sym (get_or-take n (drop at ws) i 0 h ∙ get_or-drop at ws i 0)

  pub terms_at : (record_of ws).terms ≡ record { generators = get_or (run ws 4 generator_count_at) 0 0; consumers = get_or (run ws 4 generator_count_at) 1 0; rate = get_or (run ws 4 generator_count_at) 2 0; cycle = get_or (run ws 4 generator_count_at) 3 0 }
  unfolding record_of from_runs run_lengths cut
  terms_at =
      λ i. record {
        generators = in_head 4 0 0 (omega arith) (omega arith) i;
        consumers = in_head 4 0 1 (omega arith) (omega arith) i;
        rate = in_head 4 0 2 (omega arith) (omega arith) i;
        cycle = in_head 4 0 3 (omega arith) (omega arith) i;
      }

  pub counts_at_lem : (record_of ws).counts ≡ record { gone = get_or (run ws 3 gone_at) 0 0; unitblocks = get_or (run ws 3 gone_at) 1 0; monthblocks = get_or (run ws 3 gone_at) 2 0 }
  unfolding record_of from_runs run_lengths cut
  counts_at_lem =
      λ i. record {
        gone = in_head 3 4 0 (omega arith) (omega arith) i;
        unitblocks = in_head 3 4 1 (omega arith) (omega arith) i;
        monthblocks = in_head 3 4 2 (omega arith) (omega arith) i;
      }

  pub agreed_at_lem : (rows : List ℕ) → rows ≡ run ws 24 agreed_at → record { kind = column_of rows 0; installed = column_of rows 1; contracted = column_of rows 2 } ≡ (record_of ws).agreed
  unfolding record_of from_runs run_lengths cut
  agreed_at_lem rows e = λ i. record { kind = column_of (e i) 0; installed = column_of (e i) 1; contracted = column_of (e i) 2 }

  pub links_at : (record_of ws).links ≡ record { link = run ws 128 link_at; loss = run ws 128 loss_at }
  unfolding record_of from_runs run_lengths total
  links_at = λ i. record { link = cut_at run_lengths ws 2 i; loss = cut_at run_lengths ws 3 i }

  pub schedule_at : (record_of ws).schedule ≡ record { kw = run ws 128 kw_at; rank = run ws 128 rank_at }
  unfolding record_of from_runs run_lengths total
  schedule_at = λ i. record { kw = cut_at run_lengths ws 4 i; rank = cut_at run_lengths ws 5 i }

  pub generators_at : (record_of ws).generators ≡
      record {
        injected = run ws 8 injected_at;
        unaccounted = run ws 8 unaccounted_at;
        lost = run ws 8 lost_at;
        setoff = run ws 8 generator_set_off_at;
        inadvertent = run ws 8 inadvertent_at;
        charge = run ws 8 charge_at;
        drawn = run ws 8 generator_drawn_at;
        lapsed = run ws 8 lapsed_at;
        bank = run ws 8 bank_at;
        pending = run ws 8 pending_at;
      }
  unfolding record_of from_runs run_lengths total
  generators_at =
      λ i. record {
        injected = cut_at run_lengths ws 6 i;
        unaccounted = cut_at run_lengths ws 7 i;
        lost = cut_at run_lengths ws 8 i;
        setoff = cut_at run_lengths ws 9 i;
        inadvertent = cut_at run_lengths ws 10 i;
        charge = cut_at run_lengths ws 11 i;
        drawn = cut_at run_lengths ws 12 i;
        lapsed = cut_at run_lengths ws 13 i;
        bank = cut_at run_lengths ws 14 i;
        pending = cut_at run_lengths ws 15 i;
      }

  pub consumers_at : (record_of ws).consumers ≡
      record {
        metered = run ws 16 metered_at;
        setoff = run ws 16 consumer_set_off_at;
        shortfall = run ws 16 shortfall_at;
        drawn = run ws 16 consumer_drawn_at;
        supplied = run ws 16 supplied_at;
        outstanding = run ws 16 outstanding_at;
      }
  unfolding record_of from_runs run_lengths total
  consumers_at =
      λ i. record {
        metered = cut_at run_lengths ws 16 i;
        setoff = cut_at run_lengths ws 17 i;
        shortfall = cut_at run_lengths ws 18 i;
        drawn = cut_at run_lengths ws 19 i;
        supplied = cut_at run_lengths ws 20 i;
        outstanding = cut_at run_lengths ws 21 i;
      }

  in_pair : (i : ℕ) → i < 2 → get_or (get_or (cut run_lengths ws) 22 []) i 0 ≡ get_or (run ws 2 switch_month_at) i 0
  unfolding run_lengths total
  in_pair i h = ap (λ (l : List ℕ). get_or l i 0) (cut_at run_lengths ws 22)

  pub switch_at_lem : (record_of ws).switch ≡ record { month = get_or (run ws 2 switch_month_at) 0 0; closings = get_or (run ws 2 switch_month_at) 1 0 }
  unfolding record_of from_runs
  switch_at_lem = λ i. record { month = in_pair 0 (omega arith) i; closings = in_pair 1 (omega arith) i }

  -- bank, pending and open of a class, which start at place `at`
  abbrev pub stocks_read : ℕ → Stocks
  stocks_read at = record { bank = run ws 8 at; pending = run ws 8 (at + 8); outstanding = run ws 16 (at + 16) }

  pub offpeak_at : (record_of ws).offpeak ≡ stocks_read off_peak_at
  unfolding record_of from_runs run_lengths total
  offpeak_at = λ i. record { bank = cut_at run_lengths ws 23 i; pending = cut_at run_lengths ws 24 i; outstanding = cut_at run_lengths ws 25 i }

  pub normal_at_lem : (record_of ws).normal ≡ stocks_read normal_at
  unfolding record_of from_runs run_lengths total
  normal_at_lem = λ i. record { bank = cut_at run_lengths ws 26 i; pending = cut_at run_lengths ws 27 i; outstanding = cut_at run_lengths ws 28 i }

  pub peak_at_lem : (record_of ws).peak ≡ stocks_read peak_at
  unfolding record_of from_runs run_lengths total
  peak_at_lem = λ i. record { bank = cut_at run_lengths ws 29 i; pending = cut_at run_lengths ws 30 i; outstanding = cut_at run_lengths ws 31 i }

-- the numbers of each part, in the record's order
abbrev pub terms_run : Terms → List ℕ
terms_run t = t.generators ∷ t.consumers ∷ t.rate ∷ t.cycle ∷ []

abbrev pub counts_run : Counts → List ℕ
counts_run t = t.gone ∷ t.unitblocks ∷ t.monthblocks ∷ []

abbrev pub agreed_run : Agreed → List ℕ
agreed_run t = pairs 8 3 (agreed_of t)

abbrev pub links_run : Links → List ℕ
links_run t = joined (t.link ∷ t.loss ∷ [])

abbrev pub schedule_run : Schedule → List ℕ
schedule_run t = joined (t.kw ∷ t.rank ∷ [])

abbrev pub generators_run : Generators → List ℕ
generators_run t =
    joined (t.injected ∷ t.unaccounted ∷ t.lost ∷ t.setoff ∷ t.inadvertent ∷ t.charge ∷ t.drawn ∷ t.lapsed ∷ t.bank ∷ t.pending ∷ [])

abbrev pub consumers_run : Consumers → List ℕ
consumers_run t = joined (t.metered ∷ t.setoff ∷ t.shortfall ∷ t.drawn ∷ t.supplied ∷ t.outstanding ∷ [])

abbrev pub switch_run : Switch → List ℕ
switch_run t = t.month ∷ t.closings ∷ []

abbrev pub stocks_run : Stocks → List ℕ
stocks_run t = joined (t.bank ∷ t.pending ∷ t.outstanding ∷ [])

pub words_parts : (r : Record) → words r ≡
    terms_run r.terms ++ (counts_run r.counts ++ (agreed_run r.agreed ++ (links_run r.links ++
    (schedule_run r.schedule ++ (generators_run r.generators ++ (consumers_run r.consumers ++
    (switch_run r.switch ++ (stocks_run r.offpeak ++ (stocks_run r.normal ++ stocks_run r.peak)))))))))
unfolding words runs joined
words_parts r = simp append_assoc

-- ---- a part stored

-- The record's bytes s became t: the numbers ws stand in it from place `from` up to place `to`, behind what stood before them.
pub record Laid (from to : ℕ) (ws s t : List ℕ) : Type 0 where
  pub put : Put 8 from to ws s t
  pub size : length t ≡ record_bytes

-- a run of so many numbers
pub laid_run : {at n : ℕ} {ws s t : List ℕ} → length ws ≡ n → Laid at (at + length ws) ws s t → Laid at (at + n) ws s t
laid_run e p = rw e at p

pub laid_then : {from mid to : ℕ} {xs ys s t u : List ℕ} → Laid from mid xs s t → Laid mid to ys t u → Laid from to (xs ++ ys) s u
laid_then p q = record { put = put_then p.put q.put; size = q.size }

pub laid_last : {from to : ℕ} {xs s t : List ℕ} → Laid from to xs s t → Laid from to (xs ++ []) s t
laid_last {from} {to} {xs} p = rw append-nil p

pub laid_all : {ws s t : List ℕ} → Laid 0 record_numbers ws s t → t ≡ encode 8 ws
laid_all p = put_all p.put p.size

-- ---- kind, installed and contracted side by side

abbrev pub side_by_side : Agreed → ℕ → ℕ
side_by_side t k = agreed_of t (k / 3) (k % 3)

module _ (t : Agreed) where
  at_row : (g j k : ℕ) → k ≡ g * 3 + j → j < 3 → side_by_side t k ≡ agreed_of t g j
  at_row g j k e l = rw (e, row_of 3 g j l, column_of_lem 3 g j l)

  pub row_step : {l n : List ℕ} {g : ℕ} → Filling 24 (side_by_side t) l (g * 3) n → g < 8 →
      Filling 24 (side_by_side t) l ((g + 1) * 3)
      (set (set (set n (g * 3) (get_or t.kind g 0)) (g * 3 + 1) (get_or t.installed g 0)) (g * 3 + 2) (get_or t.contracted g 0))
  unfolding agreed_of
  row_step {l} {n} {g} f h =
      let kind : get_or t.kind g 0 ≡ side_by_side t (g * 3) = sym (at_row g 0 (g * 3) (omega arith) (omega arith) ∙ place_in 8 t.kind g h) in
      let installed : get_or t.installed g 0 ≡ side_by_side t (g * 3 + 1) = sym (at_row g 1 (g * 3 + 1) (omega arith) (omega arith) ∙ place_in 8 t.installed g h) in
      let contracted : get_or t.contracted g 0 ≡ side_by_side t (g * 3 + 2) = sym (at_row g 2 (g * 3 + 2) (omega arith) (omega arith) ∙ place_in 8 t.contracted g h) in
      let second : g * 3 + 1 + 1 ≡ g * 3 + 2 = omega arith in
      let third : g * 3 + 2 + 1 ≡ (g + 1) * 3 = omega arith in
      rw third at (fill_step (rw second at (fill_step (fill_step f (omega arith) kind) (omega arith) installed)) (omega arith) contracted)

-- A record read from its numbers is stored again as it stands. Assumes nothing.
use Rattle.std.specs.Prelude.{ℕ, ◌≤◌, ◌<◌, ◌≡◌, List, []}
use Rattle.std.proofs.Common.{sym, ap, ◌∙◌, arith}
use Rattle.std.proofs.Math.ListN.{length, get_or}
use Rattle.lists.specs.Laws.TablesLaws.{length_table}
use Rattle.record.specs.Stored.{figures, stored}
use Rattle.record.specs.Laws.Shape.{Shape, record_kept}
use Rattle.record.specs.Laws.SoundLaws.{Facts}
use Rattle.record.specs.RecordWords.{runs, run_lengths, total, words, cut, from_runs, record_of}
use Rattle.record.specs.Laws.RecordWordsLaws.{record_of_runs}
use Rattle.record.specs.Book.{Book}
use Rattle.energy.specs.Limits.{most_figure}
use Rattle.record_layout.specs.Laws.LayoutLaws.{runs_back, run_length, words_of_record, words_low}
use Rattle.record_places.specs.RecordSize.{record_numbers}

module _ (ws : List ℕ) (e : length ws ≡ record_numbers) where
  pub record_shape : Shape (record_of ws)
  unfolding record_of from_runs run_lengths cut total
  record_shape =
      let size : (j : ℕ) → j < 32 → length (get_or (cut run_lengths ws) j []) ≡ get_or run_lengths j 0 = run_length run_lengths ws e in
      record {
        agreed = record { kind = length_table 8 _; installed = length_table 8 _; contracted = length_table 8 _ };
        links = record { link = size 2 (omega arith); loss = size 3 (omega arith) };
        schedule = record { kw = size 4 (omega arith); rank = size 5 (omega arith) };
        generators =
            record {
              injected = size 6 (omega arith);
              unaccounted = size 7 (omega arith);
              lost = size 8 (omega arith);
              setoff = size 9 (omega arith);
              inadvertent = size 10 (omega arith);
              charge = size 11 (omega arith);
              drawn = size 12 (omega arith);
              lapsed = size 13 (omega arith);
              bank = size 14 (omega arith);
              pending = size 15 (omega arith);
            };
        consumers =
            record {
              metered = size 16 (omega arith);
              setoff = size 17 (omega arith);
              shortfall = size 18 (omega arith);
              drawn = size 19 (omega arith);
              supplied = size 20 (omega arith);
              outstanding = size 21 (omega arith);
            };
        offpeak = record { bank = size 23 (omega arith); pending = size 24 (omega arith); outstanding = size 25 (omega arith) };
        normal = record { bank = size 26 (omega arith); pending = size 27 (omega arith); outstanding = size 28 (omega arith) };
        peak = record { bank = size 29 (omega arith); pending = size 30 (omega arith); outstanding = size 31 (omega arith) };
      }

  pub read_kept : stored (figures (record_of ws)) ≡ record_of ws
  read_kept = record_kept (record_of ws) record_shape

  -- Where some of its runs are replaced so that they are those of another book's record, it becomes that record.
  pub changed_record : (change : List (List ℕ) → List (List ℕ)) (after : Book) → change (runs (stored (figures (record_of ws)))) ≡ runs (stored after) →
      from_runs (change (cut run_lengths ws)) ≡ stored after
  changed_record change after same =
      ap (λ (xss : List (List ℕ)). from_runs (change xss)) (sym (runs_back ws e) ∙ ap runs (sym read_kept)) ∙ ap from_runs same ∙ record_of_runs after

  pub numbers_low : Facts (figures (record_of ws)) → (i : ℕ) → get_or ws i 0 ≤ most_figure
  numbers_low f i =
      let same : words (stored (figures (record_of ws))) ≡ ws = ap words read_kept ∙ words_of_record ws e in
      rw same at (words_low (figures (record_of ws)) f i)

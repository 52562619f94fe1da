-- The record has as many numbers as its size says, and a stored record is read back from them. Assumes nothing.
use Rattle.std.specs.Prelude.{ℕ, ◌+◌, ◌<◌, ◌≡◌, refl, List, [], ◌∷◌, length}
use Rattle.std.proofs.Math.Path.{ap}
use Rattle.std.proofs.Common.{◌∙◌, arith, length-append, take_at, drop_at}
use Rattle.lists.specs.Tables.{table}
use Rattle.lists.specs.Laws.TablesLaws.{length_table, get_or_table, table_same}
use Rattle.lists.specs.Pairs.{place, cell, pairs, joined}
use Rattle.lists.specs.Laws.PairsLaws.{length_pairs, get_or_pairs, cell_in, place_in}
use Rattle.record.specs.Book.{Book}
use Rattle.record.specs.Stored.{stored, stored_generators, stored_consumers, stored_stocks}
use Rattle.record.specs.RecordWords.{agreed_of, runs, run_lengths, total, words, cut, from_runs, record_of}
use Rattle.record_places.specs.RecordSize.{record_numbers}
use Rattle.record_places.specs.Laws.Places.{generator_count_at, agreed_at, link_at, loss_at, kw_at, rank_at, injected_at, unaccounted_at, lost_at, generator_set_off_at, inadvertent_at, charge_at, generator_drawn_at, lapsed_at, bank_at, pending_at, metered_at, consumer_set_off_at, shortfall_at, consumer_drawn_at, supplied_at, outstanding_at, switch_month_at, off_peak_at, normal_at, peak_at}

-- the record's runs have as many numbers as its size says
pub words_count : total run_lengths ≡ record_numbers
unfolding total run_lengths
words_count = refl

-- where runs of these lengths start, the first at `at`
unfoldable pub starts : ℕ → List ℕ → List ℕ
starts at [] = []
starts at (n ∷ ns) = at ∷ starts (at + n) ns

-- each list of the record starts where its name says
pub run_starts : starts 0 run_lengths ≡
    generator_count_at ∷ agreed_at ∷ link_at ∷ loss_at ∷ kw_at ∷ rank_at ∷ injected_at ∷ unaccounted_at ∷ lost_at ∷ generator_set_off_at ∷ inadvertent_at ∷
    charge_at ∷ generator_drawn_at ∷ lapsed_at ∷ bank_at ∷ pending_at ∷ metered_at ∷ consumer_set_off_at ∷ shortfall_at ∷ consumer_drawn_at ∷ supplied_at ∷ outstanding_at ∷
    switch_month_at ∷ off_peak_at ∷ (off_peak_at + 8) ∷ (off_peak_at + 16) ∷ normal_at ∷ (normal_at + 8) ∷ (normal_at + 16) ∷ peak_at ∷ (peak_at + 8) ∷ (peak_at + 16) ∷ []
unfolding starts run_lengths
run_starts = refl

-- runs of the given lengths
abbrev pub Sized : List ℕ → List (List ℕ) → Type 0
Sized [] [] = Unit {0}
Sized [] (xs ∷ xss) = ⊥
Sized (n ∷ ns) [] = ⊥
Sized (n ∷ ns) (xs ∷ xss) = (length xs ≡ n) × Sized ns xss

pub cut_joined : (ns : List ℕ) (xss : List (List ℕ)) → Sized ns xss → cut ns (joined xss) ≡ xss
unfolding cut joined
cut_joined [] [] h = refl
cut_joined [] (xs ∷ xss) h = absurd h
cut_joined (n ∷ ns) [] h = absurd h
cut_joined (n ∷ ns) (xs ∷ xss) h =
    rw (take_at xs (joined xss) n h.0, drop_at xs (joined xss) n h.0) (ap (λ (l : List (List ℕ)). xs ∷ l) (cut_joined ns xss h.1))

pub length_runs : (ns : List ℕ) (xss : List (List ℕ)) → Sized ns xss → length (joined xss) ≡ total ns
unfolding joined total
length_runs [] [] h = refl
length_runs [] (xs ∷ xss) h = absurd h
length_runs (n ∷ ns) [] h = absurd h
length_runs (n ∷ ns) (xs ∷ xss) h = omega (arith, length-append xs (joined xss), h.0, length_runs ns xss h.1)

module _ (b : Book) where
  pub stored_runs : Sized run_lengths (runs (stored b))
  unfolding run_lengths runs stored stored_generators stored_consumers stored_stocks
  stored_runs = (refl, (length_pairs 8 3 _, (length_pairs 8 16 _, (length_pairs 8 16 _, (length_pairs 8 16 _, (length_pairs 8 16 _, (length_table 8 _, (length_table 8 _, (length_table 8 _, (length_table 8 _, (length_table 8 _, (length_table 8 _, (length_table 8 _, (length_table 8 _, (length_table 8 _, (length_table 8 _, (length_table 16 _, (length_table 16 _, (length_table 16 _, (length_table 16 _, (length_table 16 _, (length_table 16 _, (refl, (length_table 8 _, (length_table 8 _, (length_table 16 _, (length_table 8 _, (length_table 8 _, (length_table 16 _, (length_table 8 _, (length_table 8 _, (length_table 16 _, tt))))))))))))))))))))))))))))))))

  pub length_words : length (words (stored b)) ≡ record_numbers
  unfolding words
  length_words = length_runs run_lengths (runs (stored b)) stored_runs ∙ words_count

  -- one of the three numbers of a generator, read back
  read_agreed : (k : ℕ) (f : ℕ → ℕ) → k < 3 → ((g : ℕ) → g < 8 → agreed_of (stored b).agreed g k ≡ f g) → table 8 (λ g. cell 8 3 (pairs 8 3 (agreed_of (stored b).agreed)) g k) ≡ table 8 f
  read_agreed k f l h =
      table_same 8 _ f (λ g m. cell_in 8 3 (pairs 8 3 (agreed_of (stored b).agreed)) g k m l ∙ get_or_pairs 8 3 (agreed_of (stored b).agreed) g k m l ∙ h g m)

  at_stored : (f : ℕ → ℕ) (g : ℕ) → g < 8 → place 8 (table 8 f) g ≡ f g
  at_stored f g h = place_in 8 (table 8 f) g h ∙ get_or_table 8 f g 0 h

  pub record_of_runs : from_runs (runs (stored b)) ≡ stored b
  unfolding from_runs runs stored agreed_of
  record_of_runs =
      λ i. record {
        terms = (stored b).terms;
        counts = (stored b).counts;
        agreed =
            record {
              kind = read_agreed 0 b.plan.kind (omega arith) (at_stored b.plan.kind) i;
              installed = read_agreed 1 b.plan.installed (omega arith) (at_stored b.plan.installed) i;
              contracted = read_agreed 2 b.plan.contracted (omega arith) (at_stored b.plan.contracted) i;
            };
        links = (stored b).links;
        schedule = (stored b).schedule;
        generators = (stored b).generators;
        consumers = (stored b).consumers;
        switch = (stored b).switch;
        offpeak = (stored b).offpeak;
        normal = (stored b).normal;
        peak = (stored b).peak;
      }

  pub record_of_words : record_of (words (stored b)) ≡ stored b
  unfolding record_of words
  record_of_words = ap from_runs (cut_joined run_lengths (runs (stored b)) stored_runs) ∙ record_of_runs

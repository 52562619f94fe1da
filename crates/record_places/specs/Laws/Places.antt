-- Where each number of the record's terms and counts stands and each of its lists starts, counted in numbers: the names that contracts and proofs
-- use for the constants of the code. Crate record ties them to the runs of the record (run_starts). Assumes nothing.
use Rattle.std.specs.Prelude.{ℕ}

-- The terms and the counts, a number each.
abbrev pub generator_count_at : ℕ
generator_count_at = 0

abbrev pub consumer_count_at : ℕ
consumer_count_at = 1

abbrev pub rate_at : ℕ
rate_at = 2

abbrev pub cycle_at : ℕ
cycle_at = 3

abbrev pub gone_at : ℕ
gone_at = 4

abbrev pub unit_blocks_at : ℕ
unit_blocks_at = 5

abbrev pub month_blocks_at : ℕ
month_blocks_at = 6

-- Kind, installed and contracted of each generator, side by side.
abbrev pub agreed_at : ℕ
agreed_at = 7

-- Pair lists, 8 rows of 16.
abbrev pub link_at : ℕ
link_at = 31

abbrev pub loss_at : ℕ
loss_at = 159

abbrev pub kw_at : ℕ
kw_at = 287

abbrev pub rank_at : ℕ
rank_at = 415

-- Totals by generator, 8 each.
abbrev pub injected_at : ℕ
injected_at = 543

abbrev pub unaccounted_at : ℕ
unaccounted_at = 551

abbrev pub lost_at : ℕ
lost_at = 559

abbrev pub generator_set_off_at : ℕ
generator_set_off_at = 567

abbrev pub inadvertent_at : ℕ
inadvertent_at = 575

abbrev pub charge_at : ℕ
charge_at = 583

abbrev pub generator_drawn_at : ℕ
generator_drawn_at = 591

abbrev pub lapsed_at : ℕ
lapsed_at = 599

abbrev pub bank_at : ℕ
bank_at = 607

abbrev pub pending_at : ℕ
pending_at = 615

-- Totals by consumer, 16 each.
abbrev pub metered_at : ℕ
metered_at = 623

abbrev pub consumer_set_off_at : ℕ
consumer_set_off_at = 639

abbrev pub shortfall_at : ℕ
shortfall_at = 655

abbrev pub consumer_drawn_at : ℕ
consumer_drawn_at = 671

abbrev pub supplied_at : ℕ
supplied_at = 687

abbrev pub outstanding_at : ℕ
outstanding_at = 703

-- The switch month and the closings done, a number each.
abbrev pub switch_month_at : ℕ
switch_month_at = 719

abbrev pub closings_at : ℕ
closings_at = 720

-- Where the bank of each class of hours starts; its pending follows 8 places on, its open 16.
abbrev pub off_peak_at : ℕ
off_peak_at = 721

abbrev pub normal_at : ℕ
normal_at = 753

abbrev pub peak_at : ℕ
peak_at = 785

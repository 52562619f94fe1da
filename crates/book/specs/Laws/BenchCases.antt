-- Document 01, "Bench cases": P1 to P10, every figure that the paper gives, P1 to P3 and P9 worked out again for document 02's F-3; and cases of
-- document 02's F-2, F-3 and F-7, as one theorem on the rules. Assumes nothing.
use Rattle.std.specs.Prelude.{ℕ, ◌+◌, true, false, ◌&&◌, List, [], ◌∷◌, ◌++◌, map, ◌≡◌}
use Rattle.lists.specs.Tables.{table}
use Rattle.block_rules.specs.Delivery.{part_of, loss_of, delivered}
use Rattle.record.specs.Hours.{classes, hours_apply}
use Rattle.record.specs.Book.{Book}
use Rattle.record.specs.Sound.{sound}
use Rattle.agreement_rules.specs.Opening.{Opening, opening_refusal, opened}
use Rattle.closing_rules.specs.Closing.{bank_left, supplied_of}
use Rattle.book.specs.AgreementA.{agreement_a, schedule_a}
use Rattle.book.specs.BookCalls.{Call, schedule, block, closing, book_after, BookAnswer, book_answers}
use Rattle.book.specs.Laws.HoursCases.{switched, open_added, to_off_peak, to_normal, to_peak, fifteen_each, peak_of_the_first, peak_or_normal, all_classes}

-- an accepted call with this output
abbrev accepted : List ℕ → BookAnswer
accepted xs = record { number = 0; output = xs }

-- the readings table of agreement A: its first line, and its second
abbrev first_line : Call
first_line = block (70_001 ∷ []) (20_000 ∷ 60_000 ∷ []) 11

abbrev second_line : Call
second_line = block (30_000 ∷ []) (5_000 ∷ 0 ∷ []) 11

abbrev zero_block : Call
zero_block = block (0 ∷ []) (0 ∷ 0 ∷ []) 11

-- n generators, all linked to one consumer
unfoldable pub one_consumer : ℕ → List ℕ → List ℕ → Opening
one_consumer n generators losses = record { G = n; C = 1; rate = 1_000; cycle = 2; gone = 0; switch = 0; generators = generators; pairs = table n (λ g. 1) ++ losses }

-- P4 and P5: kind 0, one consumer, 40 kW, at a loss of 1,000
unfoldable pub one_scheduled : ℕ → Opening
one_scheduled loss = one_consumer 1 (0 ∷ 40 ∷ 40 ∷ []) (loss ∷ [])

-- P6 and P7: two of kind 0, loss 0
unfoldable pub two_scheduled : Opening
two_scheduled = one_consumer 2 (0 ∷ 40 ∷ 40 ∷ 0 ∷ 40 ∷ 40 ∷ []) (0 ∷ 0 ∷ [])

-- P8 and P9: wind
unfoldable pub wind : ℕ → Opening
wind loss = one_consumer 1 (1 ∷ 40 ∷ 40 ∷ []) (loss ∷ [])

-- P10: document 003, slot 50
unfoldable pub slot50 : Opening
slot50 = one_consumer 3 (0 ∷ 20_000 ∷ 20_000 ∷ 0 ∷ 44_000 ∷ 44_000 ∷ 3 ∷ 320_000 ∷ 320_000 ∷ []) (0 ∷ 0 ∷ 1_000 ∷ [])

-- one pair's kW
abbrev schedule_one : ℕ → Call
schedule_one kw = schedule (kw ∷ []) (1 ∷ [])

-- ---- F-2

-- two of one kind that may be scheduled at 40 or 60 kW each, loss 0
unfoldable pub two_of_sixty : ℕ → Opening
two_of_sixty kind = one_consumer 2 (kind ∷ 60 ∷ 60 ∷ kind ∷ 60 ∷ 60 ∷ []) (0 ∷ 0 ∷ [])

abbrev forty_and_sixty : Call
forty_and_sixty = schedule (40 ∷ 60 ∷ []) (1 ∷ 1 ∷ [])

abbrev sixty_and_forty : Call
sixty_and_forty = schedule (60 ∷ 40 ∷ []) (1 ∷ 1 ∷ [])

-- of wind: 10,000 pending of each, 12,000 open
abbrev both_pending : Book
both_pending = book_after (opened (two_of_sixty 1)) (forty_and_sixty ∷ block (10_000 ∷ 10_000 ∷ []) (0 ∷ []) 11 ∷ block (0 ∷ 0 ∷ []) (12_000 ∷ []) 11 ∷ [])

-- ---- F-3

-- of a reading of wind with this loss rate and one consumer: the loss, and what is delivered
abbrev lost_and_delivered : ℕ → ℕ → List ℕ
lost_and_delivered loss e = let p = (book_after (opened (wind loss)) (schedule_one 1 ∷ [])).plan in loss_of p 0 e 0 ∷ delivered p 0 e 0 ∷ []

-- ---- F-7

-- the schedule and both lines under agreement A, whatever its bank terms
abbrev lines_a : List Call
lines_a = schedule_a ∷ first_line ∷ second_line ∷ []

-- agreement A of cycle 12 with 3 months gone and switch month 2, after these calls
abbrev changing : List Call → Book
changing ks = book_after (opened (switched 12 3 2)) ks

-- its first month, closed, and its second
abbrev two_months : List Call
two_months = lines_a ++ (closing 9 ∷ lines_a)

-- A block's output is loss, set off, underdrawn and shortfall by pair, unaccounted by generator, remainder by consumer; a
-- closing's is drawn by pair, charge, lapsed and bank by generator, open and supplied by consumer.
pub record BenchCases : Type 0 where
  -- no number applies to any of these openings
  pub all_opened :
      opening_refusal agreement_a + opening_refusal (one_scheduled 1_000) + opening_refusal two_scheduled + opening_refusal (wind 0) + opening_refusal (wind 1) +
      opening_refusal slot50 + opening_refusal (two_of_sixty 0) + opening_refusal (two_of_sixty 1) +
      opening_refusal (wind 5_000) + opening_refusal (wind 4_999) + opening_refusal (wind 1_000) + opening_refusal (one_scheduled 19) + opening_refusal (one_scheduled 20) ≡
      0
  -- F-7: agreement A has switch month 0, so no closing of it goes by hours
  pub never_by_hours : (closings : ℕ) → hours_apply agreement_a.switch closings ≡ false
  -- P1: parts 23,333 and 46,668, losses 2,333 each (2,333.3 and 2,333.4), remainders 0 and 15,665
  pub P1_parts : table 2 (part_of (book_after (opened agreement_a) (schedule_a ∷ [])).plan 0 70_001) ≡ 23_333 ∷ 46_668 ∷ []
  pub P1 :
      book_answers (opened agreement_a) (schedule_a ∷ first_line ∷ []) ≡
      accepted [] ∷ accepted (2_333 ∷ 2_333 ∷ 20_000 ∷ 44_335 ∷ 1_000 ∷ 0 ∷ 0 ∷ 0 ∷ 0 ∷ 0 ∷ 15_665 ∷ []) ∷ []
  -- P2: pending 24,000; charge 2,400, drawn 15,665, bank 5,935; and the printed line
  pub P2_pending : ((book_after (opened agreement_a) (schedule_a ∷ first_line ∷ second_line ∷ [])).gen 0).pending ≡ 24_000
  -- P3: a zero block and a second closing: 5,935 lapse
  pub P2_P3 :
      book_answers (book_after (opened agreement_a) (schedule_a ∷ first_line ∷ second_line ∷ [])) (closing 9 ∷ zero_block ∷ closing 9 ∷ []) ≡
      accepted (0 ∷ 15_665 ∷ 2_400 ∷ 0 ∷ 5_935 ∷ 0 ∷ 15_665 ∷ 0 ∷ 0 ∷ []) ∷
      accepted (0 ∷ 0 ∷ 0 ∷ 0 ∷ 0 ∷ 0 ∷ 0 ∷ 0 ∷ 0 ∷ 0 ∷ 0 ∷ []) ∷
      accepted (0 ∷ 0 ∷ 0 ∷ 5_935 ∷ 0 ∷ 0 ∷ 0 ∷ 0 ∷ 0 ∷ []) ∷
      []
  pub printed :
      (book_after (opened agreement_a) (schedule_a ∷ first_line ∷ second_line ∷ closing 9 ∷ [])).gen 0 ≡
      record {
        injected = 100_001;
        unaccounted = 0;
        lost = 6_666;
        setoff = 69_335;
        inadvertent = 0;
        charge = 2_400;
        drawn = 15_665;
        lapsed = 0;
        bank = 5_935;
        pending = 0;
      }
  -- P4: E 7,000, R 10,000: set off 6,300, shortfall 2,700, remainder 1,000
  pub P4 :
      book_answers (opened (one_scheduled 1_000)) (schedule_one 40 ∷ block (7_000 ∷ []) (10_000 ∷ []) 6 ∷ []) ≡
      accepted [] ∷ accepted (700 ∷ 6_300 ∷ 0 ∷ 2_700 ∷ 0 ∷ 1_000 ∷ []) ∷ []
  -- P5: E 12,000, R 4,000: unaccounted 2,000, inadvertent 5,000
  pub P5 :
      book_answers (opened (one_scheduled 1_000)) (schedule_one 40 ∷ block (12_000 ∷ []) (4_000 ∷ []) 6 ∷ []) ≡
      accepted [] ∷ accepted (1_000 ∷ 4_000 ∷ 5_000 ∷ 0 ∷ 2_000 ∷ 0 ∷ []) ∷ []
  pub P5_inadvertent : ((book_after (opened (one_scheduled 1_000)) (schedule_one 40 ∷ block (12_000 ∷ []) (4_000 ∷ []) 6 ∷ [])).gen 0).inadvertent ≡ 5_000
  -- P6: 40 kW and E 10,000 each, R 12,000, ranks 2, 1: set off 2,000 and 10,000
  pub P6 :
      book_answers (opened two_scheduled) (schedule (40 ∷ 40 ∷ []) (2 ∷ 1 ∷ []) ∷ block (10_000 ∷ 10_000 ∷ []) (12_000 ∷ []) 11 ∷ []) ≡
      accepted [] ∷ accepted (0 ∷ 0 ∷ 2_000 ∷ 10_000 ∷ 8_000 ∷ 0 ∷ 0 ∷ 0 ∷ 0 ∷ 0 ∷ 0 ∷ []) ∷ []
  -- P7: ranks 1, 1: 10,000 and 2,000
  pub P7 :
      book_answers (opened two_scheduled) (schedule (40 ∷ 40 ∷ []) (1 ∷ 1 ∷ []) ∷ block (10_000 ∷ 10_000 ∷ []) (12_000 ∷ []) 11 ∷ []) ≡
      accepted [] ∷ accepted (0 ∷ 0 ∷ 10_000 ∷ 2_000 ∷ 0 ∷ 8_000 ∷ 0 ∷ 0 ∷ 0 ∷ 0 ∷ 0 ∷ []) ∷ []
  -- F-2, P7 with 40 and 60 kW: the larger first, 2,000 and 10,000
  pub larger_set_off :
      book_answers (opened (two_of_sixty 0)) (forty_and_sixty ∷ block (10_000 ∷ 10_000 ∷ []) (12_000 ∷ []) 11 ∷ []) ≡
      accepted [] ∷ accepted (0 ∷ 0 ∷ 2_000 ∷ 10_000 ∷ 8_000 ∷ 0 ∷ 0 ∷ 0 ∷ 0 ∷ 0 ∷ 0 ∷ []) ∷ []
  -- E 4,000 each, 6,000 and 11,000 below what is scheduled: the 4,000 that are then still wanted are the larger's shortfall
  pub larger_shortfall :
      book_answers (opened (two_of_sixty 0)) (forty_and_sixty ∷ block (4_000 ∷ 4_000 ∷ []) (12_000 ∷ []) 11 ∷ []) ≡
      accepted [] ∷ accepted (0 ∷ 0 ∷ 4_000 ∷ 4_000 ∷ 0 ∷ 0 ∷ 0 ∷ 4_000 ∷ 0 ∷ 0 ∷ 0 ∷ []) ∷ []
  -- drawing, of 9,000 each after the charge: 3,000 and 9,000
  pub larger_drawn : book_answers both_pending (closing 10 ∷ []) ≡ accepted (3_000 ∷ 9_000 ∷ 1_000 ∷ 1_000 ∷ 0 ∷ 0 ∷ 6_000 ∷ 0 ∷ 12_000 ∷ 0 ∷ []) ∷ []
  -- the schedule that stands at the closing counts: 60 and 40 kW after the blocks, 9,000 and 3,000
  pub drawn_by_the_last_schedule :
      book_answers both_pending (sixty_and_forty ∷ closing 10 ∷ []) ≡
      accepted [] ∷ accepted (9_000 ∷ 3_000 ∷ 1_000 ∷ 1_000 ∷ 0 ∷ 0 ∷ 0 ∷ 6_000 ∷ 12_000 ∷ 0 ∷ []) ∷ []
  -- P8: wind with no kW, E 500: unaccounted 500
  pub P8 :
      book_answers (opened (wind 0)) (schedule_one 0 ∷ block (500 ∷ []) (0 ∷ []) 6 ∷ []) ≡
      accepted [] ∷ accepted (0 ∷ 0 ∷ 0 ∷ 0 ∷ 500 ∷ 0 ∷ []) ∷ []
  -- P9: p = 1, loss 1: 0.0001 is no watt-hour to the nearest, so d = 1
  pub P9 :
      book_answers (opened (wind 1)) (schedule_one 1 ∷ block (1 ∷ []) (0 ∷ []) 6 ∷ []) ≡
      accepted [] ∷ accepted (0 ∷ 0 ∷ 1 ∷ 0 ∷ 0 ∷ 0 ∷ []) ∷ []
  pub P9_part : part_of (book_after (opened (wind 1)) (schedule_one 1 ∷ [])).plan 0 1 0 ≡ 1
  pub P9_delivered : delivered (book_after (opened (wind 1)) (schedule_one 1 ∷ [])).plan 0 1 0 ≡ 1
  -- F-3: halves go up, of small and of large parts
  pub half_up :
      map (lost_and_delivered 5_000) (1 ∷ 3 ∷ 5 ∷ 199_999_999 ∷ []) ≡
      (1 ∷ 0 ∷ []) ∷ (2 ∷ 1 ∷ []) ∷ (3 ∷ 2 ∷ []) ∷ (100_000_000 ∷ 99_999_999 ∷ []) ∷ []
  -- what is below a half goes down: 0.4999; 0.4 beside 0.5, 19,999,999.4 beside 19,999,999.5
  pub below_half_down : lost_and_delivered 4_999 1 ≡ 0 ∷ 1 ∷ []
  pub tenths :
      map (lost_and_delivered 1_000) (4 ∷ 5 ∷ 199_999_994 ∷ 199_999_995 ∷ []) ≡
      (0 ∷ 4 ∷ []) ∷ (1 ∷ 4 ∷ []) ∷ (19_999_999 ∷ 179_999_995 ∷ []) ∷ (20_000_000 ∷ 179_999_995 ∷ []) ∷ []
  -- rule 4 with it, of 1 kW and E 0: at 19 the loss on 250 is 0.475, and 250 are short; at 20 it is 0.5, and 249 are
  pub at_exit_below_half :
      book_answers (opened (one_scheduled 19)) (schedule_one 1 ∷ block (0 ∷ []) (300 ∷ []) 6 ∷ []) ≡ accepted [] ∷ accepted (0 ∷ 0 ∷ 0 ∷ 250 ∷ 0 ∷ 50 ∷ []) ∷ []
  pub at_exit_half :
      book_answers (opened (one_scheduled 20)) (schedule_one 1 ∷ block (0 ∷ []) (300 ∷ []) 6 ∷ []) ≡ accepted [] ∷ accepted (0 ∷ 0 ∷ 0 ∷ 249 ∷ 0 ∷ 51 ∷ []) ∷ []
  -- the charge still rounds up: 10 % of 11 is 1.1, and 2 are charged
  pub charge_up :
      book_answers (book_after (opened (wind 0)) (schedule_one 1 ∷ block (11 ∷ []) (0 ∷ []) 6 ∷ [])) (closing 6 ∷ []) ≡ accepted (0 ∷ 2 ∷ 0 ∷ 9 ∷ 0 ∷ 0 ∷ []) ∷ []
  -- P10: remainder 38,000,000
  pub P10 :
      book_answers (opened slot50)
      (schedule (20_000 ∷ 44_000 ∷ 320_000 ∷ []) (1 ∷ 2 ∷ 3 ∷ []) ∷ block (5_000_000 ∷ 11_000_000 ∷ 80_000_000 ∷ []) (126_000_000 ∷ []) 16 ∷ []) ≡
      accepted [] ∷
      accepted (0 ∷ 0 ∷ 8_000_000 ∷ 5_000_000 ∷ 11_000_000 ∷ 72_000_000 ∷ 0 ∷ 0 ∷ 0 ∷ 0 ∷ 0 ∷ 0 ∷ 0 ∷ 0 ∷ 0 ∷ 38_000_000 ∷ []) ∷
      []
  -- F-7. Slots 20, 21, 36, 37, 68, 69, 76, 77, 92, 93 and 96 of a day, then slots 1 and 21 of the next: the block that is entered where the
  -- month holds one less.
  pub slots :
      map open_added (19 ∷ 20 ∷ 35 ∷ 36 ∷ 67 ∷ 68 ∷ 75 ∷ 76 ∷ 91 ∷ 92 ∷ 95 ∷ 96 ∷ 116 ∷ []) ≡
      to_normal ∷ to_peak ∷ to_peak ∷ to_off_peak ∷ to_off_peak ∷ to_normal ∷ to_normal ∷ to_peak ∷ to_peak ∷ to_normal ∷ to_normal ∷ to_normal ∷ to_peak ∷ []
  -- the books of the next four cases are sound
  pub held_sound : sound fifteen_each && sound peak_of_the_first && sound peak_or_normal && sound all_classes ≡ true
  -- The charge is rounded up for each class: 10 % of 15 is 1.5, so 2 + 2 + 2 = 6; on the sum of 45 it would be 5. 13 + 13 + 13 = 39 lapse.
  pub charge_by_class : book_answers fifteen_each (closing 6 ∷ []) ≡ accepted (0 ∷ 6 ∷ 39 ∷ 0 ∷ 0 ∷ 0 ∷ []) ∷ []
  -- One generator after another gives of the class, then of peak: generator 1 gives its peak, and generator 2's normal lapses. Were all normal
  -- given first, generator 2 would give, and generator 1's peak would lapse.
  pub peak_of_the_first_lem : book_answers peak_of_the_first (closing 10 ∷ []) ≡ accepted (10 ∷ 0 ∷ 0 ∷ 0 ∷ 0 ∷ 10 ∷ 0 ∷ 0 ∷ 10 ∷ 0 ∷ []) ∷ []
  -- Each consumer in turn settles its classes: consumer 1 draws the peak, and consumer 2's normal is supplied. Were one class after another
  -- settled for all consumers, normal would come first, and consumer 2 would draw.
  pub consumer_by_consumer : book_answers peak_or_normal (closing 9 ∷ []) ≡ accepted (10 ∷ 0 ∷ 0 ∷ 0 ∷ 0 ∷ 10 ∷ 10 ∷ 0 ∷ 10 ∷ []) ∷ []
  -- Charge 5 + 10 + 20 = 35 leaves 45, 90 and 180. Off-peak draws 45, then 55 of peak; nobody wants normal; peak draws the 125 that are left:
  -- 225 are drawn. 90 of normal lapse, and 180 - 125 = 55 of peak are supplied: by hours a linked pair may have both, in two classes.
  pub all_classes_lem : book_answers all_classes (closing 6 ∷ []) ≡ accepted (225 ∷ 35 ∷ 90 ∷ 0 ∷ 280 ∷ 55 ∷ []) ∷ []
  pub all_classes_left : table classes (λ k. bank_left all_classes k 0) ≡ 0 ∷ 90 ∷ 0 ∷ []
  pub all_classes_supplied : table classes (λ k. supplied_of all_classes k 0) ≡ 0 ∷ 0 ∷ 55 ∷ []
  -- Change-over, in the middle of a cycle: the first closing goes by the former rules, as P2, and P2's bank lapses in it. The lines are slots 1
  -- and 2, normal: the second closing goes by hours with the same figures, and lapses as every such one.
  pub change_over :
      book_answers (changing lines_a) (closing 9 ∷ []) ++ book_answers (changing two_months) (closing 9 ∷ []) ≡
      accepted (0 ∷ 15_665 ∷ 2_400 ∷ 5_935 ∷ 0 ∷ 0 ∷ 15_665 ∷ 0 ∷ 0 ∷ []) ∷
      accepted (0 ∷ 15_665 ∷ 2_400 ∷ 5_935 ∷ 0 ∷ 0 ∷ 15_665 ∷ 0 ∷ 0 ∷ []) ∷
      []
  -- months gone before the first closing, after it, and after the second
  pub change_over_gone : map (λ ks. (changing ks).gone) (lines_a ∷ (lines_a ++ (closing 9 ∷ [])) ∷ (two_months ++ (closing 9 ∷ [])) ∷ []) ≡ 3 ∷ 0 ∷ 0 ∷ []
  -- pending by class before the first closing, and before the second
  pub change_over_pending : map (λ ks. table classes (λ k. ((changing ks).hours k).pending 0)) (lines_a ∷ two_months ∷ []) ≡ (0 ∷ 0 ∷ 0 ∷ []) ∷ (0 ∷ 24_000 ∷ 0 ∷ []) ∷ []
  -- with switch month 3 the first closing keeps the bank, and 4 months are gone
  pub switch_later : book_answers (book_after (opened (switched 12 3 3)) lines_a) (closing 9 ∷ []) ≡ accepted (0 ∷ 15_665 ∷ 2_400 ∷ 0 ∷ 5_935 ∷ 0 ∷ 15_665 ∷ 0 ∷ 0 ∷ []) ∷ []
  pub switch_later_gone : (book_after (opened (switched 12 3 3)) (lines_a ++ (closing 9 ∷ []))).gone ≡ 4
  -- of 1 month gone, opening with switch month 1 keeps none, with any other the one given
  pub opened_gone : map (λ switch. (opened (switched 2 1 switch)).gone) (0 ∷ 1 ∷ 2 ∷ []) ≡ 1 ∷ 0 ∷ 1 ∷ []
  -- the switch month is at most 1,200; months gone not below the cycle come first
  pub opened_switch : map opening_refusal (switched 2 1 1_200 ∷ switched 2 1 1_201 ∷ switched 2 2 1_201 ∷ switched 2 2 1 ∷ []) ≡ 0 ∷ 19 ∷ 6 ∷ 6 ∷ []

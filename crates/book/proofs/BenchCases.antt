-- The bench cases of `specs/Laws/BenchCases` hold: each is computed. Assumes nothing.
use Rattle.book.specs.AgreementA.{agreement_a}
use Rattle.std.specs.Prelude.{refl}
use Rattle.lists.specs.Sums.{sum}
use Rattle.lists.specs.Tables.{table}
use Rattle.lists.specs.Tests.{all, some, within}
use Rattle.lists.specs.Pairs.{place, cell, pairs, joined}
use Rattle.lists.specs.Refusals.{first_of}
use Rattle.energy.specs.Energy.{portion_up, loss_on}
use Rattle.sharing.specs.Share.{part}
use Rattle.order_rules.specs.Order.{span, insert, sort, only, ahead, in_order}
use Rattle.order_rules.specs.Settle.{lower, settle, given, kept, unmet}
use Rattle.record.specs.Plan.{deemed, scheduled, order, suppliers}
use Rattle.block_rules.specs.Delivery.{counted_of, counted, unaccounted, part_of, loss_of, delivered, at_exit}
use Rattle.block_rules.specs.Settlement.{set_off, after_set_off, underdrawn, shortfall, remainder, block_lists, block_output}
use Rattle.record.specs.Hours.{slot_after, class_of_slot, hours_apply, before_switch}
use Rattle.record.specs.Book.{no_injection, no_consumption, no_stocks}
use Rattle.record.specs.Sound.{counts_sound, agreed_sound, pair_sound, generator_sound, consumer_sound, switch_sound, classes_sound, bank_total, pending_total, open_total, generator_hours, consumer_hours, sound}
use Rattle.agreement_rules.specs.Opening.{kind_of, installed_of, contracted_of, link_of, rate_of_loss, sizes_fit, terms_fit, first_gone, opening_refusal, opened}
use Rattle.agreement_rules.specs.Schedule.{new_kw, new_rank, schedule_refusal, after_schedule, schedule_rule}
use Rattle.block_rules.specs.Block.{adds_to, generator_after_block, consumer_after_block, class_after_block, after_block, block_length, entry_of, exit_of, block_number, block_refusal, block_rule}
use Rattle.closing_rules.specs.Drawing.{stock_at, drawn_at, missing_at}
use Rattle.closing_rules.specs.Closing.{cycle_ends, lapse_due, sources_of, undivided, stocks_of, taken_up, charge_of, credited, serving, stock, want, drawn_of, bank_left, supplied_of, charge, drawn, supplied, bank_before_lapse, lapses, gone_after, lapsed, bank_after, generator_after_closing, consumer_after_closing, after_closing, closing_lists, closing_output, closing_length, closing_number, closing_refusal, closing_rule}
use Rattle.book.specs.BookCalls.{rule_of, next, book_after, book_answers}
use Rattle.book.specs.Laws.HoursCases.{switched, hourly, holding}
use Rattle.book.specs.Laws.BenchCases.{one_consumer, one_scheduled, two_scheduled, wind, slot50, two_of_sixty, BenchCases}

pub bench_cases : BenchCases
unfolding agreement_a one_consumer one_scheduled two_scheduled wind slot50 two_of_sixty sum table all some within place cell pairs joined first_of portion_up loss_on part span insert sort only ahead in_order lower settle given kept unmet deemed scheduled order suppliers counted_of counted unaccounted part_of loss_of delivered at_exit set_off after_set_off underdrawn shortfall remainder block_lists block_output no_injection no_consumption kind_of installed_of contracted_of link_of rate_of_loss sizes_fit terms_fit opening_refusal opened new_kw new_rank schedule_refusal after_schedule schedule_rule generator_after_block consumer_after_block after_block block_length entry_of exit_of block_number block_refusal block_rule slot_after class_of_slot hours_apply before_switch no_stocks adds_to class_after_block first_gone stock_at drawn_at missing_at cycle_ends lapse_due sources_of undivided stocks_of taken_up charge_of credited serving stock want drawn_of bank_left supplied_of charge drawn supplied bank_before_lapse lapses gone_after lapsed bank_after generator_after_closing consumer_after_closing after_closing closing_lists closing_output closing_length closing_number closing_refusal closing_rule rule_of next book_after book_answers switched hourly holding counts_sound agreed_sound pair_sound generator_sound consumer_sound switch_sound classes_sound bank_total pending_total open_total generator_hours consumer_hours sound
bench_cases =
    record {
      all_opened = refl;
      never_by_hours = λ closings. refl;
      P1_parts = refl;
      P1 = refl;
      P2_pending = refl;
      P2_P3 = refl;
      printed = refl;
      P4 = refl;
      P5 = refl;
      P5_inadvertent = refl;
      P6 = refl;
      P7 = refl;
      larger_set_off = refl;
      larger_shortfall = refl;
      larger_drawn = refl;
      drawn_by_the_last_schedule = refl;
      P8 = refl;
      P9 = refl;
      P9_part = refl;
      P9_delivered = refl;
      half_up = refl;
      below_half_down = refl;
      tenths = refl;
      at_exit_below_half = refl;
      at_exit_half = refl;
      charge_up = refl;
      P10 = refl;
      slots = refl;
      held_sound = refl;
      charge_by_class = refl;
      peak_of_the_first_lem = refl;
      consumer_by_consumer = refl;
      all_classes_lem = refl;
      all_classes_left = refl;
      all_classes_supplied = refl;
      change_over = refl;
      change_over_gone = refl;
      change_over_pending = refl;
      switch_later = refl;
      switch_later_gone = refl;
      opened_gone = refl;
      opened_switch = refl;
    }

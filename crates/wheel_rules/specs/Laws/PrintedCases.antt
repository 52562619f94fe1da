-- Document 01's printed example, and refusals of each kind, as one theorem on what is printed. Assumes nothing.
use Rattle.std.specs.Prelude.{◌≡◌, refl}
use Rattle.lists.specs.Sums.{sum}
use Rattle.lists.specs.Tables.{table}
use Rattle.lists.specs.Tests.{all, some, within}
use Rattle.lists.specs.Pairs.{place, cell, pairs, joined}
use Rattle.lists.specs.Refusals.{first_of}
use Rattle.energy.specs.Energy.{portion_up, loss_on}
use Rattle.sharing.specs.Share.{part}
use Rattle.order_rules.specs.Order.{span, insert, sort, only, ahead, in_order}
use Rattle.order_rules.specs.Settle.{lower, settle, given, kept, unmet}
use Rattle.record.specs.Plan.{deemed, scheduled, order, suppliers}
use Rattle.block_rules.specs.Delivery.{counted_of, counted, unaccounted, part_of, loss_of, delivered, at_exit}
use Rattle.block_rules.specs.Settlement.{set_off, after_set_off, underdrawn, shortfall, remainder, block_lists, block_output}
use Rattle.record.specs.Hours.{slot_after, class_of_slot, hours_apply, before_switch}
use Rattle.record.specs.Book.{no_injection, no_consumption, no_stocks}
use Rattle.agreement_rules.specs.Opening.{kind_of, installed_of, contracted_of, link_of, rate_of_loss, sizes_fit, terms_fit, first_gone, opening_refusal, opened}
use Rattle.agreement_rules.specs.Schedule.{new_kw, new_rank, schedule_refusal, after_schedule, schedule_rule}
use Rattle.block_rules.specs.Block.{adds_to, generator_after_block, consumer_after_block, class_after_block, after_block, block_length, entry_of, exit_of, block_number, block_refusal, block_rule}
use Rattle.closing_rules.specs.Drawing.{stock_at, drawn_at, missing_at}
use Rattle.closing_rules.specs.Closing.{cycle_ends, lapse_due, sources_of, undivided, stocks_of, taken_up, charge_of, credited, serving, stock, want, drawn_of, bank_left, supplied_of, charge, drawn, supplied, bank_before_lapse, lapses, gone_after, lapsed, bank_after, generator_after_closing, consumer_after_closing, after_closing, closing_lists, closing_output, closing_length, closing_number, closing_refusal, closing_rule}
use Rattle.book.specs.BookCalls.{rule_of, next, book_after, book_answers}
use Rattle.book.specs.AgreementA.{agreement_a}
use Rattle.table_text.specs.TableText.{digits, decimal, separator_after, printed, name, names, names_line}
use Rattle.table_scan.specs.Values.{is_digit}
use Rattle.table.specs.Table.{in_range, same, starts_with_names, later_lines, numbers, values, all_fit, well_formed, read_number}
use Rattle.wheel_rules.specs.PrintedWords.{bytes}
use Rattle.wheel_rules.specs.Display.{table_number, blocks, calls, first_refused, call_number, last_book, refused_text, equation_text, account_text, display}

pub record Cases : Type 0 where
  pub example :
      display (bytes "E1,R1,R2\n70001,20000,60000\n30000,5000,0\n") ≡
      bytes "generator,injected,unaccounted,loss,setoff,inadvertent,charge,drawn,lapsed,bank,pending\n1,100001,0,6666,69335,0,2400,15665,0,5935,0\n"
  -- parts 5 and 10, of which half a watt-hour each is lost: 1 and 1; 13 are pending, and the charge of 1.3 is 2
  pub halves :
      display (bytes "E1,R1,R2\n15,0,0\n") ≡
      bytes "generator,injected,unaccounted,loss,setoff,inadvertent,charge,drawn,lapsed,bank,pending\n1,15,0,2,0,0,2,0,0,11,0\n"
  -- no value lines, so no block: the closing is refused
  pub no_lines : display (bytes "E1,R1,R2\n") ≡ bytes "refused 13\n"
  -- a reading over the limit on the second line
  pub over_limit : display (bytes "E1,R1,R2\n1,2,3\n200000001,0,0\n") ≡ bytes "refused 10\n"
  -- the table is read first: such a reading before a malformed line
  pub malformed : display (bytes "E1,R1,R2\n200000001,0,0\n07,5,0\n") ≡ bytes "refused 15\n"
  pub other_names : display (bytes "E1,R2\n") ≡ bytes "refused 14\n"

pub cases : Cases
unfolding bytes table_number blocks calls first_refused call_number last_book refused_text equation_text account_text display digits decimal separator_after printed name names names_line in_range same starts_with_names later_lines is_digit numbers values all_fit well_formed read_number agreement_a sum table all some within place cell pairs joined first_of portion_up loss_on part span insert sort only ahead in_order lower settle given kept unmet deemed scheduled order suppliers counted_of counted unaccounted part_of loss_of delivered at_exit set_off after_set_off underdrawn shortfall remainder block_lists block_output no_injection no_consumption kind_of installed_of contracted_of link_of rate_of_loss sizes_fit terms_fit opening_refusal opened new_kw new_rank schedule_refusal after_schedule schedule_rule generator_after_block consumer_after_block after_block block_length entry_of exit_of block_number block_refusal block_rule slot_after class_of_slot hours_apply before_switch no_stocks adds_to class_after_block first_gone stock_at drawn_at missing_at cycle_ends lapse_due sources_of undivided stocks_of taken_up charge_of credited serving stock want drawn_of bank_left supplied_of charge drawn supplied bank_before_lapse lapses gone_after lapsed bank_after generator_after_closing consumer_after_closing after_closing closing_lists closing_output closing_length closing_number closing_refusal closing_rule rule_of next book_after book_answers
cases = record { example = refl; halves = refl; no_lines = refl; over_limit = refl; malformed = refl; other_names = refl }

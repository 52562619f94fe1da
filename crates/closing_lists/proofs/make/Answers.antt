-- `closing_lists::make` meets its contract: the steps on what was read give the output of the rules. Assumes nothing.
use mathlib.Core.Path.{ap, ◌∙◌}
use mathlib.Core.List.{◌++◌}
use native.Mathlib.Omega.{arith}
use borrow.Author.Rules.{rules}
use Rattle.bank.specs.Laws.BankLaws.{credit_size}
use Rattle.closing_lists.specs.Laws.ClosingAccepted.{draw_ready, output_long, drawn_small, lists_are}
use Rattle.closing_lists.specs.Laws.ClosingReading.{steps_read}
use Rattle.closing_lists.proofs.make.Goals as goal

pub overflow_mul-n : goal.overflow_mul-n
overflow_mul-n c = omega (arith, drawn_small _ _ c.requires.1.1.1 c.requires.0.terms_are)

pub split_at_mut-drawn-requires : goal.split_at_mut-drawn-requires
split_at_mut-drawn-requires c = omega (arith, output_long _ _ c.requires.1.1.1 c.requires.0.terms_are)

pub draw_all-supplied-requires : goal.draw_all-supplied-requires
draw_all-supplied-requires c =
    let ready = draw_ready _ _ c.requires.1.1.1 c.requires.0.terms_are in
    (c.requires.0.whole, (ready, (credit_size (search rules) c.credited-credit.ensures, c.split_at_mut-drawn.ensures.front_len)))

pub write_lists-requires : goal.write_lists-requires
write_lists-requires c =
    let ready = draw_ready _ _ c.requires.1.1.1 c.requires.0.terms_are in
    let long = output_long _ _ c.requires.1.1.1 c.requires.0.terms_are in
    record { size = omega (arith, c.split_at_mut-drawn.ensures.back_len, long); rows = ready.G_high; columns = ready.C_high }

pub returns : goal.returns
returns c =
    let read = steps_read _ c.requires.0 c.requires.1.0 c.load_list-held.ensures c.load_list-pending.ensures c.load_list-outstanding.ensures in
    ap (λ xs. c.draw_all-supplied.new.drawn ++ xs) c.write_lists.ensures ∙
    lists_are _ _ c.requires.1.1.1 read c.requires.1.1.0 (search rules) c.credited-credit.ensures c.draw_all-supplied.ensures c.lapse_due.ensures c.lapsed-lapse.ensures.balance
    c.lapsed-lapse.ensures.lapsed

-- `closing_by_hours::make` meets its contract: the steps on what was read give the output of the rules. Assumes nothing.
use mathlib.Core.Path.{refl, ap, ◌∙◌}
use mathlib.Core.List.{◌++◌}
use native.Mathlib.Omega.{arith}
use Rattle.closing_by_hours.specs.Laws.ByGenerator.{summed}
use Rattle.closing_by_hours.specs.Laws.HoursMade.{n_high, m_high, drawn_small, output_long, draw_ready, charge_adds, charges, lapsed_adds, lists_are}
use Rattle.closing_by_hours.proofs.make.Goals as goal

pub overflow_mul-count : goal.overflow_mul-count
overflow_mul-count c = let p = c.requires in omega (arith, n_high _ _ _ p.0 p.1.0 p.1.1.0 p.1.1.1)

pub of_classes-held-requires : goal.of_classes-held-requires
of_classes-held-requires c = let p = c.requires in (p.0, (omega arith, omega (arith, n_high _ _ _ p.0 p.1.0 p.1.1.0 p.1.1.1)))

pub of_classes-pending-requires : goal.of_classes-pending-requires
of_classes-pending-requires c = let p = c.requires in (p.0, (omega arith, omega (arith, n_high _ _ _ p.0 p.1.0 p.1.1.0 p.1.1.1)))

pub overflow_mul-n : goal.overflow_mul-n
overflow_mul-n c = let p = c.requires in omega (arith, drawn_small _ _ _ p.0 p.1.0 p.1.1.0 p.1.1.1)

pub split_at_mut-drawn-requires : goal.split_at_mut-drawn-requires
split_at_mut-drawn-requires c = let p = c.requires in omega (arith, output_long _ _ _ p.0 p.1.0 p.1.1.0 p.1.1.1)

pub draw_all-supplied-requires : goal.draw_all-supplied-requires
draw_all-supplied-requires c =
    let p = c.requires in
    (draw_ready _ _ _ p.0 p.1.0 p.1.1.0 p.1.1.1 c.of_classes-held.ensures c.of_classes-pending.ensures c.credited-credit.ensures, c.split_at_mut-drawn.ensures.front_len)

pub write_sums-requires : goal.write_sums-requires
write_sums-requires c =
    let p = c.requires in
    let long = output_long _ _ _ p.0 p.1.0 p.1.1.0 p.1.1.1 in
    let few = n_high _ _ _ p.0 p.1.0 p.1.1.0 p.1.1.1 in
    let narrow = m_high _ _ _ p.0 p.1.0 p.1.1.0 p.1.1.1 in
    let charged = charge_adds _ _ _ p.0 p.1.0 p.1.1.0 p.1.1.1 c.of_classes-held.ensures c.of_classes-pending.ensures c.credited-credit.ensures in
    let lapses = lapsed_adds _ _ _ p.0 p.1.0 p.1.1.0 p.1.1.1 c.draw_all-supplied.ensures in
    (record { size = omega (arith, c.split_at_mut-drawn.ensures.back_len, long); rows = few; columns = narrow }, (charged, rw c.lapsed-lapse.ensures.lapsed lapses))

pub returns : goal.returns
returns c =
    let p = c.requires in
    let charged = charges _ _ _ p.0 p.1.0 p.1.1.0 p.1.1.1 c.of_classes-held.ensures c.of_classes-pending.ensures c.credited-credit.ensures refl in
    let lapsed = ap (λ xs. summed xs c.args.terms.generators) c.lapsed-lapse.ensures.lapsed in
    ap (λ xs. c.draw_all-supplied.new.drawn ++ xs) c.write_sums.ensures ∙
    lists_are _ _ _ p.0 p.1.0 p.1.1.0 p.1.1.1 c.draw_all-supplied.ensures _ charged lapsed c.load_list-outstanding.ensures

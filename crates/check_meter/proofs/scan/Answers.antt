-- `check_meter::scan` goes through both days. Assumes nothing.
use Rattle.std.proofs.Common.{rules, arith, length, ◌≤◌, ◌<◌, length-append, ◌∙◌}
use Rattle.std.proofs.lemmas.Slice.Zip.{zip_turn, zip_end}
use Rattle.check_meter.specs.CheckMeter.{day_blocks}
use Rattle.check_meter.specs.Laws.DaysScanned.{scan_start, scan_step, scan_done}
use Rattle.check_meter.proofs.scan.Goals as goal

pub loop-x-init : goal.loop-x-init
loop-x-init c = scan_start

pub loop-x-preserved : goal.loop-x-preserved
loop-x-preserved c =
    let turn = zip_turn c.args.main.now c.args.check.now _ _ _ c.next.new.self _ (search rules) (search rules) c.loop-x.yielded_by _ c.in-Some.is c.next.ensures.steps in
    let l : length c.loop-x.yielded < day_blocks = omega (arith, turn.0, c.requires.main_whole) in
    rw length-append (scan_step c.loop-x.invariant l (turn.2 0) (turn.3 0) (c.from.ensures ∙ rw c.further_apart.ensures))

pub returns : goal.returns
returns c =
    let l = zip_end c.args.main.now c.args.check.now _ _ _ c.next.new.self _ (search rules) (search rules) c.loop-x.yielded_by c.in-None.is c.next.ensures.steps in
    let h : day_blocks ≤ length c.loop-x.yielded = omega (arith, l, c.requires.main_whole, c.requires.check_whole) in
    scan_done c.loop-x.invariant h c.requires.main_whole c.requires.check_whole

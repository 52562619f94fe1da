-- `sound_items::switch_sound` meets its contract: it is the definition of `switch_sound`, with the sum tested for having wrapped. Assumes nothing.
use Rattle.std.proofs.Common.{Bool, not, ◌&&◌, ◌||◌, eqb, leb, ap, rules}
use Rattle.energy.specs.Limits.{most_switch}
use Rattle.record.specs.Sound.{switch_sound}
use Rattle.sound_items.specs.Laws.HoursTests.{sum_within}
use Rattle.sound_items.proofs.switch_sound.Goals as goal

pub returns : goal.returns
unfolding switch_sound
returns c =
    let a = c.args in
    ap (λ (t : Bool). (leb a.t.month most_switch && t) && (not a.hours || eqb a.n.gone 0))
    (sum_within a.t.closings a.n.monthblocks a.n.unitblocks (search rules) (search rules) (search rules) c.wrapping_add_u64-sum.ensures.value)

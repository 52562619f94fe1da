-- What an accepted block publishes for the closing of its month, told by its output and the figures before and after: no rule of a
-- block is in it. Assumes nothing.
use Rattle.std.specs.Prelude.{ℕ, ◌+◌, ◌<◌, ◌≡◌, ◌&&◌, List, eqb, if◌then◌else◌}
use Rattle.record.specs.Plan.{deemed_kind}
use Rattle.record.specs.Hours.{slot_after, class_of_slot}
use Rattle.record.specs.Book.{Book, by_hours}
use Rattle.block.specs.BlockAnswer.{underdrawn_in, remainder_in}

module _ (b : Book) (out : List ℕ) where
  -- what it adds: underdrawn energy to the pending of a deemed kind, the remainder to open
  abbrev pub pending_given : ℕ → ℕ
  pending_given g = if deemed_kind (b.plan.kind g) then underdrawn_in b.plan.G b.plan.C out g else 0

  abbrev pub open_given : ℕ → ℕ
  open_given c = remainder_in b.plan.G b.plan.C out c

-- by hours as much to class k, if that is the class of its slot
abbrev pub given_to_class : Book → (k given : ℕ) → ℕ
given_to_class b k given = if by_hours b && eqb k (class_of_slot (slot_after b.monthblocks)) then given else 0

pub record Published (b : Book) (out : List ℕ) (b' : Book) : Type 0 where
  pub plan_is : b'.plan ≡ b.plan
  pub month_is : b'.monthblocks ≡ b.monthblocks + 1
  pub pending_is : (g : ℕ) → g < b.plan.G → (b'.gen g).pending ≡ (b.gen g).pending + pending_given b out g
  pub open_is : (c : ℕ) → c < b.plan.C → (b'.con c).outstanding ≡ (b.con c).outstanding + open_given b out c
  pub hours_is : by_hours b' ≡ by_hours b
  pub class_pending_is : (k g : ℕ) → g < b.plan.G → (b'.hours k).pending g ≡ (b.hours k).pending g + given_to_class b k (pending_given b out g)
  pub class_open_is : (k c : ℕ) → c < b.plan.C → (b'.hours k).outstanding c ≡ (b.hours k).outstanding c + given_to_class b k (open_given b out c)

-- Document 01, "Block": rules 1 to 4, what the entry reading of one generator delivers; the loss of rule 3, "and rule 4 with it", is that of
-- document 02, F-3. Assumes nothing.
use Rattle.std.specs.Prelude.{ℕ, ◌-◌, min, eqb, if◌then◌else◌}
use Rattle.energy.specs.Energy.{quarter_hour, loss_on, after_loss}
use Rattle.sharing.specs.Share.{part}
use Rattle.record.specs.Plan.{Plan, deemed_kind, deemed, scheduled}

-- Rule 1: what counts of the reading e of a generator of this kind with A kW scheduled.
unfoldable pub counted_of : (kind A e : ℕ) → ℕ
counted_of kind A e = if eqb A 0 then 0 else (if deemed_kind kind then e else min e (quarter_hour A))

-- Rule 4: what is scheduled of generator g for consumer c, as it arrives at exit.
abbrev pub scheduled_at_exit : Plan → ℕ → ℕ → ℕ
scheduled_at_exit p g c = after_loss (quarter_hour (p.kw g c)) (p.loss g c)

-- for generator g and its entry reading e
module _ (p : Plan) (g e : ℕ) where
  -- Rule 1: document 01's K.
  unfoldable pub counted : ℕ
  counted = counted_of (p.kind g) (scheduled p g) e

  -- What does not count (10.4).
  unfoldable pub unaccounted : ℕ
  unaccounted = e - counted

  -- Rule 2: document 01's p, the part of consumer c.
  unfoldable pub part_of : ℕ → ℕ
  part_of c = part p.C (p.kw g) counted c

  -- Rule 3: the loss on the part, and document 01's d, what is delivered.
  unfoldable pub loss_of : ℕ → ℕ
  loss_of c = loss_on (part_of c) (p.loss g c)

  unfoldable pub delivered : ℕ → ℕ
  delivered c = part_of c - loss_of c

  -- Rule 4: document 01's q, what is scheduled at exit.
  unfoldable pub at_exit : ℕ → ℕ
  at_exit c = if deemed p g then delivered c else scheduled_at_exit p g c

-- The contracts of the parts of a call: laying the values, reading the later lines. Assumes nothing.
use Rattle.std.specs.Prelude.{◌≡◌, true, List, ℕ, ◌/◌, ◌≤◌, ◌<◌, ltb, length, if◌then◌else◌, Result, Ok, Err}
use Rattle.refusal.specs.declared.Refusal.{Refusal}
use Rattle.refusal.specs.declared.Refusal.TheVariants.{WrongLine, NoRoom}
use Rattle.table.specs.Table.{well_formed, numbers, from_start}

-- the lines s are checked, and their values fit out
pub record Writable (w : ℕ) (s out : List ℕ) : Type 0 where
  pub some : 0 < w
  pub formed : well_formed w s ≡ true
  pub room : length (numbers 0 s) ≤ length out

-- reading the lines s of w values on out gave r and left last in its place
pub record LinesMeet (w : ℕ) (s out : List ℕ) (r : Result ℕ Refusal) (last : List ℕ) : Type 0 where
  pub answer :
      r
      ≡ (if well_formed w s
      then if ltb (length out) (length (numbers 0 s)) then Err NoRoom else Ok (length (numbers 0 s) / w)
      else Err WrongLine)
  pub output :
      last
      ≡ (if well_formed w s
      then if ltb (length out) (length (numbers 0 s)) then out else from_start (numbers 0 s) out
      else out)

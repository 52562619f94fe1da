-- What reading the text gave. Assumes nothing.
use Rattle.std.specs.Prelude.{ℕ, ◌*◌, ◌≤◌, ◌≡◌, List, take, Result, Ok, Err}
use Rattle.refusal.specs.declared.Refusal.{Refusal}
use Rattle.refusal.specs.Numbers.{number_of}
use Rattle.table.specs.Table.{values}
use Rattle.wheel_rules.specs.Display.{space, table_number}

-- The table's number; where it is 0, the values of k lines, three a line, stand at the start of last.
unfoldable pub InputRead : List ℕ → Result ℕ Refusal → List ℕ → Type 0
InputRead text (Ok k) last = (table_number text ≡ 0) × ((k * 3 ≤ space) × (take (k * 3) last ≡ values 1 2 text))
InputRead text (Err e) last = table_number text ≡ number_of e

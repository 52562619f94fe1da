-- Words as they are printed. Assumes nothing.
use Rattle.std.specs.Prelude.{ℕ, List}
use Prim.Native.Char.{code}
use Prim.Native.String.{String, len, char_at}
use Rattle.lists.specs.Tables.{table}

-- The bytes of a word whose characters have one byte each
unfoldable pub bytes : String → List ℕ
bytes s = table (len s) (λ i. code (char_at s i))

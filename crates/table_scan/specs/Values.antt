-- The values of the readings table (document 01): their digits and their limit. Assumes nothing.
use Rattle.std.specs.Prelude.{Bool, ℕ}
use Rattle.lists.specs.Tests.{within}

-- The digits 0 to 9 are the bytes 48 to 57
unfoldable pub is_digit : ℕ → Bool
is_digit b = within 48 57 b

-- A value is 'at most 4,294,967,295'
abbrev pub largest : ℕ
largest = 4294967295

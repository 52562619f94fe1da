-- Document 01, "The record", and document 02, F-7: how many numbers it has, how many bytes, and the numbers that bytes hold. Assumes nothing.
use Rattle.std.specs.Prelude.{ℕ, ◌*◌, List}
use Rattle.codec.specs.Bytes.{decode}

-- words_count of crate record: as many as its runs have
abbrev pub record_numbers : ℕ
record_numbers = 817

-- 6,536: every number has 8 bytes
abbrev pub record_bytes : ℕ
record_bytes = 8 * record_numbers

-- the numbers that a record's bytes hold
abbrev pub words_in : List ℕ → List ℕ
words_in bytes = decode 8 record_numbers bytes

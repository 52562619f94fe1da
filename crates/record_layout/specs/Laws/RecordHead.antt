-- What a call reads once, at the head of the record's bytes, and hands down: the terms and the counts. Assumes nothing.
use Rattle.std.specs.Prelude.{ℕ, List, ◌≡◌, length}
use Rattle.record.specs.declared.Terms.{Terms}
use Rattle.record.specs.declared.Counts.{Counts}
use Rattle.record_places.specs.RecordSize.{record_bytes}
use Rattle.record_layout.specs.OnBytes.{record_in}

-- the bytes are a record's, and these are its terms and its counts
pub record HeadRead (bytes : List ℕ) (terms : Terms) (counts : Counts) : Type 0 where
  pub whole : length bytes ≡ record_bytes
  pub terms_are : terms ≡ (record_in bytes).terms
  pub counts_are : counts ≡ (record_in bytes).counts

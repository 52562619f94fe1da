-- What an accepted block may rely on. Assumes nothing.
use Rattle.std.specs.Prelude.{ℕ, ◌+◌, ◌*◌, ◌≤◌, ◌≡◌, List, length}
use Rattle.std.proofs.Common.{sym, ◌∙◌}
use Rattle.energy.specs.Limits.{most_generators, most_consumers}
use Rattle.output_lists.specs.Laws.Bounds.{Moderate}
use Rattle.block_rules.specs.Laws.Deliverable.{Deliverable}
use Rattle.record.specs.Laws.Orderable.{Orderable}
use Rattle.record.specs.Stored.{plan_of, figures}
use Rattle.record.specs.Laws.SoundLaws.{Facts, orderable}
use Rattle.record.specs.Called.{number_on}
use Rattle.record.specs.Laws.CalledLaws.{accepted_sound, number_sound, record_facts}
use Rattle.record.specs.declared.Record.{Record}
use Rattle.block_rules.specs.Block.{block_length, entry_of, exit_of, block_rule}
use Rattle.block_rules.specs.Laws.Enterable.{Enterable}
use Rattle.block_rules.proofs.BlockLaws.{accepted_enterable}
use Rattle.block_rules.proofs.BlockRoom.{output_moderate}
use Rattle.block_rules.proofs.BlockSettleable.{settleable}

module _ (r : Record) (entry exit : List ℕ) (size : ℕ) (z : number_on (block_rule entry exit size) r ≡ 0) where
  pub facts : Facts (figures r)
  facts = record_facts r (accepted_sound (block_rule entry exit size) r z)

  pub enterable : Enterable entry exit size (figures r)
  unfolding block_rule
  enterable = accepted_enterable entry exit (figures r) size (sym (number_sound (block_rule entry exit size) r (accepted_sound (block_rule entry exit size) r z)) ∙ z)

  pub generators_few : (plan_of r).G ≤ most_generators
  unfolding figures
  generators_few = facts.counts.G_high

  pub consumers_few : (plan_of r).C ≤ most_consumers
  unfolding figures
  consumers_few = facts.counts.C_high

  pub entry_size : length entry ≡ (plan_of r).G
  unfolding figures
  entry_size = enterable.entry_size

  pub exit_size : length exit ≡ (plan_of r).C
  unfolding figures
  exit_size = enterable.exit_size

  pub output_size : size ≡ 4 * ((plan_of r).G * (plan_of r).C) + (plan_of r).G + (plan_of r).C
  unfolding figures block_length
  output_size = enterable.output_size

  pub orderable_here : Orderable (plan_of r)
  unfolding figures
  orderable_here = orderable (figures r) facts

  pub deliverable : Deliverable (plan_of r) (entry_of entry exit (figures r))
  unfolding figures
  deliverable = (settleable entry exit size (figures r) facts enterable).entries

  -- every number of the output fits its 8 bytes
  pub block_output_moderate : Moderate ((block_rule entry exit size).output (figures r))
  unfolding block_rule figures
  block_output_moderate = output_moderate r (entry_of entry exit (figures r)) (exit_of entry exit (figures r)) facts enterable.entry_most enterable.exit_most

-- Every accepted block publishes its answer: by rule 8, and by where rules 1 to 7 stand in the output. Assumes nothing.
use Rattle.std.specs.Prelude.{ℕ, ◌<◌, ◌≡◌, refl, List, length}
use Rattle.lists.specs.Laws.SumsLaws.{sum_cong}
use Rattle.record.specs.Plan.{deemed}
use Rattle.record.specs.Book.{Book}
use Rattle.record.specs.Stored.{figures}
use Rattle.record.specs.Laws.CalledLaws.{accepted_output, accepted_figures}
use Rattle.record.specs.declared.Record.{Record}
use Rattle.record.specs.declared.Answer.{Answer}
use Rattle.block_rules.specs.Settlement.{remainder, block_output}
use Rattle.block_rules.specs.Block.{pending_added, adds_to, generator_after_block, consumer_after_block, after_block, block_rule, Blocked}
use Rattle.block_rules.specs.Laws.OutputPlaces.{output_back}
use Rattle.block_rules.proofs.BlockLaws.{block_keeps}
use Rattle.block_rules.proofs.BlockClasses.{class_after}
use Rattle.block.specs.BlockAnswer.{underdrawn_in, remainder_in}
use Rattle.block.specs.Laws.Published.{pending_given, open_given, Published}

module _ (b : Book) (E R : ℕ → ℕ) where
  abbrev out : List ℕ
  out = block_output b.plan E R

  pending_given_lem : (g : ℕ) → g < b.plan.G → pending_added b.plan E R g ≡ pending_given b out g
  unfolding deemed underdrawn_in
  pending_given_lem g l = rw (sum_cong b.plan.C _ _ (λ c. (output_back b.plan E R).under_is g c l))

  open_given_lem : (c : ℕ) → c < b.plan.C → remainder b.plan E c (R c) ≡ open_given b out c
  unfolding remainder_in
  open_given_lem c l = rw ((output_back b.plan E R).left_is c l)

  by_rule_lem : Published b (block_output b.plan E R) (after_block b E R)
  unfolding after_block generator_after_block consumer_after_block adds_to
  by_rule_lem =
      record {
        plan_is = refl;
        month_is = refl;
        pending_is = λ g l. rw (pending_given_lem g l);
        open_is = λ c l. rw (open_given_lem c l);
        hours_is = refl;
        class_pending_is = λ k g l. rw (← (pending_given_lem g l)) (class_after b E R (λ x. x.pending g) (pending_added b.plan E R g) (λ x. refl) k);
        class_open_is = λ k c l. rw (← (open_given_lem c l)) (class_after b E R (λ x. x.outstanding c) (remainder b.plan E c (R c)) (λ x. refl) k);
      }

pub block_publishes : {r : Record} (entry exit : List ℕ) {lent : List ℕ} {a : Answer} {out' : List ℕ} → Blocked r entry exit lent a out' → a.number ≡ 0 → Published (figures r) out' (figures a.after)
unfolding block_rule
block_publishes {r} entry exit {lent} d z =
    rw (accepted_output d z, accepted_figures d (block_keeps entry exit (length lent)) z) (by_rule_lem (figures r) _ _)

-- What the steps of an accepted closing read of the bytes. Assumes nothing.
use Rattle.std.specs.Prelude.{ℕ, ◌≡◌, List}
use Rattle.std.proofs.Common.{sym, ap, ◌∙◌}
use Rattle.record.specs.declared.Terms.{Terms}
use Rattle.record.specs.declared.Counts.{Counts}
use Rattle.record.specs.declared.Switch.{Switch}
use Rattle.record.specs.declared.Generators.{Generators}
use Rattle.record.specs.declared.Consumers.{Consumers}
use Rattle.record_layout.specs.Laws.Layout.{run, generators_at, consumers_at}
use Rattle.record_layout.specs.Laws.RecordHead.{HeadRead}
use Rattle.record_layout.specs.OnBytes.{record_in}
use Rattle.closing_lists.specs.Laws.ClosingAccepted.{StepsRead}
use Rattle.record_places.specs.RecordSize.{words_in}
use Rattle.record_places.specs.Laws.Places.{bank_at, pending_at, outstanding_at}

pub steps_read : (s : List ℕ) {terms : Terms} {counts : Counts} {switch : Switch} {held pending outstanding : List ℕ} → HeadRead s terms counts → switch ≡ (record_in s).switch →
    held ≡ run (words_in s) 8 bank_at → pending ≡ run (words_in s) 8 pending_at → outstanding ≡ run (words_in s) 16 outstanding_at →
    StepsRead (record_in s) terms counts switch held pending outstanding
steps_read s head switched held pending outstanding =
    let ws = words_in s in
    record {
      terms_are = head.terms_are;
      counts_are = head.counts_are;
      switch_is = switched;
      held_is = held ∙ ap (λ (x : Generators). x.bank) (sym (generators_at ws));
      pending_is = pending ∙ ap (λ (x : Generators). x.pending) (sym (generators_at ws));
      open_is = outstanding ∙ ap (λ (x : Consumers). x.outstanding) (sym (consumers_at ws));
    }

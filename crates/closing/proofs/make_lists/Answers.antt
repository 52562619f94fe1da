-- `closing::make_lists` meets its contract, by the two cases of its test. Assumes nothing.
use mathlib.Core.Path.{◌≡◌, sym, ◌∙◌}
use Rattle.record.specs.Hours.{hours_apply}
use Rattle.record.specs.Book.{by_hours}
use Rattle.record.specs.Stored.{figures}
use Rattle.record_layout.specs.OnBytes.{book_in}
use Rattle.closing.proofs.make_lists.Goals as goal

pub make-requires : goal.make-requires
unfolding figures
make-requires c =
    let told : c.apply.result ≡ by_hours (book_in c.args.s.now) = let e = c.requires.1.0 in c.apply.ensures ∙ (λ i. hours_apply (e i).month (e i).closings) in
    let p = c.requires in
    (p.0.whole, (p.0.terms_are, (sym told ∙ c.if-apply.true, p.1.1)))

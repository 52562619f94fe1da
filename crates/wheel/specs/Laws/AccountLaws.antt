-- What is printed for the calls of a table's values. Assumes nothing.
use Rattle.std.specs.Prelude.{ℕ, ◌≡◌, List}
use Rattle.std.proofs.Math.Path.{ap}
use borrow.Author.Tests.{ne_eqb}
use Rattle.refusal.specs.declared.Refusal.{Refusal}
use Rattle.refusal.specs.Numbers.{number_of}
use Rattle.refusal.specs.Laws.NumbersLaws.{number_not_0}
use Rattle.record.specs.Book.{Book}
use Rattle.record.specs.Stored.{figures, generator_at}
use Rattle.record.specs.declared.Record.{Record}
use Rattle.wheel_rules.specs.Display.{call_number, last_book, refused_text, equation_text, account_text}
use Rattle.wheel_print.specs.Printing.{Shows}
use Rattle.wheel_print.specs.declared.Printed.{Printed}
use Rattle.wheel_month.specs.Laws.Carried.{Holds}

module _ (vs : List ℕ) {p : Printed} where
  pub shows_refusal : (e : Refusal) → number_of e ≡ call_number vs → Shows p (refused_text (number_of e)) → Shows p (account_text vs)
  unfolding account_text
  shows_refusal e q s = rw (← q, ne_eqb (number_of e) 0 (number_not_0 e)) s

  pub shows_equation : {after : Record} → 0 ≡ call_number vs → Holds after (last_book vs) → Shows p (equation_text (generator_at after.generators 0)) → Shows p (account_text vs)
  unfolding account_text figures
  shows_equation {after} q h s =
      let e : generator_at after.generators ≡ (last_book vs).gen = ap (λ (b : Book). b.gen) h.is in
      rw (← q, ← e) s

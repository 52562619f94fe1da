-- What is printed for what was read. Assumes nothing.
use Rattle.std.specs.Prelude.{ℕ, ◌*◌, List, take, Ok, Err}
use Rattle.std.proofs.Common.{eq-eqb, ne_eqb}
use Rattle.refusal.specs.declared.Refusal.{Refusal}
use Rattle.refusal.specs.Numbers.{number_of}
use Rattle.refusal.specs.Laws.NumbersLaws.{number_not_0}
use Rattle.wheel_rules.specs.Display.{table_number, account_text, refused_text, display}
use Rattle.wheel_input.specs.Laws.Input.{InputRead}
use Rattle.wheel_print.specs.Printing.{Shows}
use Rattle.wheel_print.specs.declared.Printed.{Printed}

module _ (text last : List ℕ) {p : Printed} where
  pub shows_refused : (e : Refusal) → InputRead text (Err e) last → Shows p (refused_text (number_of e)) → Shows p (display text)
  unfolding InputRead display
  shows_refused e h s = rw (h, ne_eqb (number_of e) 0 (number_not_0 e)) s

  pub shows_account : (k : ℕ) → InputRead text (Ok k) last → Shows p (account_text (take (k * 3) last)) → Shows p (display text)
  unfolding InputRead display
  shows_account k h s = rw (eq-eqb (table_number text) 0 h.0, ← h.1.1) s

-- `wheel_input::read` meets its contract, by the text's length and the reader's answer. Assumes nothing.
use Rattle.std.proofs.Common.{◌≡◌, Err, rules}
use Rattle.std.proofs.lemmas.Bool.{false≢true}
use Rattle.refusal.specs.declared.Refusal.TheVariants.{WrongNames}
use Rattle.wheel_input.specs.Laws.InputLaws.{input_short, input_long, input_names}
use Rattle.wheel_input.proofs.read.Goals as goal
use Rattle.wheel_input.proofs.read.Goals.{then-text-le65536-via-then-text-le65536, then-text-le65536-via-else-text-le65536+then-eq}

pub returns-then-text-le65536 : goal.returns-then-text-le65536
returns-then-text-le65536 c =
    elim c.then-text-le65536.branch [
      | then-text-le65536-via-then-text-le65536 w ↦ input_short c.requires _ c.read_table-read.ensures w.if-text-le65536.true
      | then-text-le65536-via-else-text-le65536+then-eq w ↦
          let e : c.read_table-read.result ≡ Err WrongNames = search rules in
          rw e (input_names c.requires (rw e at c.read_table-read.ensures))
    ]

pub returns : goal.returns
returns c = input_long c.requires _ c.read_table-read.ensures (λ e. false≢true (rw e at c.if-eq.ensures)) c.if-text-le65536.false

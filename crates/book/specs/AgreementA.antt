-- Document 01, "Readings table": agreement A and its schedule; document 02, F-7: 'Agreement A has switch month 0.' Assumes nothing.
use Rattle.std.specs.Prelude.{[], ◌∷◌}
use Rattle.agreement_rules.specs.Opening.{Opening}
use Rattle.book.specs.BookCalls.{Call, schedule}

-- G = 1, C = 2; kind 1, 1,000, 800; links 1, losses 1,000 and 500; rate 1,000, cycle 2, gone 0; switch month 0
unfoldable pub agreement_a : Opening
agreement_a =
    record {
      G = 1;
      C = 2;
      rate = 1_000;
      cycle = 2;
      gone = 0;
      switch = 0;
      generators = 1 ∷ 1_000 ∷ 800 ∷ [];
      pairs = 1 ∷ 1 ∷ 1_000 ∷ 500 ∷ [];
    }

-- schedule 100 and 200 kW, ranks 1
abbrev pub schedule_a : Call
schedule_a = schedule (100 ∷ 200 ∷ []) (1 ∷ 1 ∷ [])

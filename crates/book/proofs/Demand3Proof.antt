-- Demand 3 holds: the theorem `demand_3`, and that its lists of calls exist. Assumes nothing.
use Rattle.std.specs.Prelude.{ℕ, zero, suc, ◌+◌, ◌≤◌, ◌<◌, ◌≡◌, refl, Bool, true, false, List, [], ◌∷◌, map, eqb, length, take, if◌then◌else◌}
use Rattle.std.proofs.Common.{sym, ◌∙◌, subst₂, eqb-true, eq-eqb}
use Rattle.std.proofs.Math.Path.{ap, subst}
use Rattle.std.proofs.Math.Logic.{inl, inr, ⊎_elim}
use native.Mathlib.Omega.{arith}
use Rattle.lists.specs.Sums.{sum}
use Rattle.lists.specs.Laws.SumsLaws.{sum_cong, sum_zero}
use Rattle.lists.specs.Pairs.{place}
use Rattle.lists.specs.Laws.PairsLaws.{place_in}
use Rattle.energy.specs.Limits.{most_figure}
use Rattle.record.specs.Plan.{Plan}
use Rattle.record.specs.Book.{Book, no_injection, no_consumption}
use Rattle.record.specs.Stored.{generator_at, consumer_at, plan_of, figures, stored, zeros}
use Rattle.record.specs.Sound.{sound}
use Rattle.record.specs.Laws.SoundLaws.{Facts, facts_cut, injected_most, metered_most}
use Rattle.record.specs.Laws.StoredLaws.{figures_stored}
use Rattle.record.specs.Called.{number_on, record_after, output_after, Called}
use Rattle.record.specs.Laws.CalledLaws.{Keeps, stays_sound, stored_sound, stored_number, stored_record, stored_output, called}
use Rattle.record.specs.declared.Record.{Record}
use Rattle.agreement_rules.specs.Opening.{Opening, link_of, opening_refusal, opened, Opened, Permitted}
use Rattle.agreement_rules.specs.Laws.OpeningLaws.{permitted_accepted, opened_facts}
use Rattle.agreement_rules.specs.Schedule.{after_schedule, schedule_rule}
use Rattle.agreement_rules.specs.Laws.ScheduleLaws.{schedule_keeps}
use Rattle.block_rules.specs.Block.{after_block, entry_of, exit_of, block_rule}
use Rattle.block_rules.proofs.BlockLaws.{block_keeps, block_setoff, block_drawn}
use Rattle.closing_rules.specs.Closing.{after_closing, closing_output, closing_length, closing_rule, bank_before_lapse, supplied}
use Rattle.closing_rules.proofs.ClosingLaws.{closing_keeps, closing_setoff, closing_drawn, before_lapse_is, none_idle, none_idle_class}
use Rattle.closing_rules.proofs.ClosingOutput.{closing_length_lem, lapsed_at_lem, bank_at_lem, supplied_at_lem}
use Rattle.book.specs.BookCalls.{Call, schedule, block, closing, rule_of, next, book_after, book_answers}
use Rattle.book.specs.Trace.{Ask, ask_schedule, ask_block, ask_closing, call_of, lent_of, Given, Done, Trace, trace_none, trace_one, last_record}
use Rattle.book.specs.Demand3.{at, bank_in, supplied_in, Match, Matches, match_none, match_one, NoIdleBank, NotIdleIn, NoIdleBanks, idle_none, idle_one, Demand3, Claim}

-- ---- what holds of the book at every moment

-- what is in the equations of two parties is the same on both sides
pub record Crossed (b : Book) : Type 0 where
  pub set_off : sum b.plan.G (λ g. (b.gen g).setoff) ≡ sum b.plan.C (λ c. (b.con c).setoff)
  pub drawn : sum b.plan.G (λ g. (b.gen g).drawn) ≡ sum b.plan.C (λ c. (b.con c).drawn)

-- the agreement does not change
pub record Agreement (o : Opening) (p : Plan) : Type 0 where
  pub G_is : p.G ≡ o.G
  pub C_is : p.C ≡ o.C
  pub link_is : p.link ≡ link_of o

pub record Kept (o : Opening) (b : Book) : Type 0 where
  pub facts : Facts b
  pub crossed : Crossed b
  pub agreement : Agreement o b.plan

-- what an accepted call makes of a book keeps what soundness says
pub call_keeps : (k : Call) → Keeps (rule_of k)
unfolding rule_of
call_keeps (schedule kws ranks) = schedule_keeps kws ranks
call_keeps (block entry exit size) = block_keeps entry exit size
call_keeps (closing size) = closing_keeps size

-- every call keeps soundness from any sound record, whether a list of calls reaches it or not
pub every_call_stays_sound : (k : Call) (r : Record) → sound (figures r) ≡ true → sound (figures (record_after (rule_of k) r)) ≡ true
every_call_stays_sound k r e = stays_sound (rule_of k) r (call_keeps k) e

call_crosses : (k : Call) (b : Book) → Crossed b → Crossed ((rule_of k).after b)
unfolding rule_of schedule_rule after_schedule block_rule after_block closing_rule after_closing
call_crosses (schedule kws ranks) b h = record { set_off = h.set_off; drawn = h.drawn }
call_crosses (block entry exit size) b h =
    record { set_off = block_setoff b (entry_of entry exit b) (exit_of entry exit b) h.set_off; drawn = block_drawn b (entry_of entry exit b) (exit_of entry exit b) h.drawn }
call_crosses (closing size) b h = record { set_off = closing_setoff b h.set_off; drawn = closing_drawn b h.drawn }

call_agreement : (o : Opening) (k : Call) (b : Book) → Agreement o b.plan → Agreement o ((rule_of k).after b).plan
unfolding rule_of schedule_rule after_schedule block_rule after_block closing_rule after_closing
call_agreement o (schedule kws ranks) b h = record { G_is = h.G_is; C_is = h.C_is; link_is = h.link_is }
call_agreement o (block entry exit size) b h = h
call_agreement o (closing size) b h = h

pub next_kept : (o : Opening) (b : Book) (k : Call) → Kept o b → Kept o (next b k)
unfolding next
next_kept o b k h = go (eqb ((rule_of k).refusal b) 0) refl
  where
    go : (t : Bool) → eqb ((rule_of k).refusal b) 0 ≡ t → Kept o (if t then (rule_of k).after b else b)
    go true e =
        record {
          facts = call_keeps k b h.facts (eqb-true ((rule_of k).refusal b) 0 e);
          crossed = call_crosses k b h.crossed;
          agreement = call_agreement o k b h.agreement;
        }
    go false e = h

pub book_kept : (o : Opening) (b : Book) (ks : List Call) → Kept o b → Kept o (book_after b ks)
unfolding book_after
book_kept o b [] h = h
book_kept o b (k ∷ ks) h = book_kept o (next b k) ks (next_kept o b k h)

pub opened_kept : (o : Opening) → Permitted o → Kept o (opened o)
unfolding opened no_injection no_consumption
opened_kept o p =
    record {
      facts = opened_facts o p;
      crossed = record { set_off = nothing; drawn = nothing };
      agreement = record { G_is = refl; C_is = refl; link_is = refl };
    }
  where
    nothing : sum o.G (λ g. 0) ≡ sum o.C (λ c. 0)
    nothing = sum_zero o.G (λ g. 0) (λ g l. refl) ∙ sym (sum_zero o.C (λ c. 0) (λ c l. refl))

-- ---- one call

pub call_of_lem : (r : Record) (a : Ask) (w : Given) → Done r a w → Called (rule_of (call_of a)) r (lent_of a) w.answer.number w.answer.after w.out
unfolding Done rule_of call_of lent_of
call_of_lem r (ask_schedule kws ranks) w d = record { number_is = d.0.number_is; record_is = d.0.record_is; output_is = d.1 ∙ d.0.output_is }
call_of_lem r (ask_block entry exit lent) w d = d
call_of_lem r (ask_closing lent) w d = d

module _ (o : Opening) (b : Book) (h : Kept o b) (a : Ask) (w : Given) (d : Done (stored b) a w) where
  c : Called (rule_of (call_of a)) (stored b) (lent_of a) w.answer.number w.answer.after w.out
  c = call_of_lem (stored b) a w d

  match : Match a w (record { number = (rule_of (call_of a)).refusal b; output = (rule_of (call_of a)).output b })
  match =
      record {
        number_is = c.number_is ∙ stored_number (rule_of (call_of a)) b h.facts;
        output_is = c.output_is ∙ stored_output (rule_of (call_of a)) b h.facts (lent_of a);
      }

  record_next : w.answer.after ≡ stored (next b (call_of a))
  unfolding next
  record_next = c.record_is ∙ stored_record (rule_of (call_of a)) b h.facts

-- ---- no idle bank

module _ (o : Opening) (b : Book) (h : Kept o b) where
  linked : (g c : ℕ) → link_of o g c ≡ 1 → b.plan.link g c ≡ 1
  linked g c e = ap (λ (f : ℕ → ℕ → ℕ). f g c) h.agreement.link_is ∙ e

  bank_in_lem : (g : ℕ) → g < o.G → bank_in o (closing_output b) g ≡ bank_before_lapse b g
  bank_in_lem g l =
      let k : g < b.plan.G = omega (arith, h.agreement.G_is) in
      rw (← h.agreement.G_is, ← h.agreement.C_is) (omega (arith, lapsed_at_lem b g k, bank_at_lem b g k, before_lapse_is b g))

  supplied_in_lem : (c : ℕ) → c < o.C → supplied_in o (closing_output b) c ≡ supplied b c
  supplied_in_lem c l = rw (← h.agreement.G_is, ← h.agreement.C_is) (supplied_at_lem b c (omega (arith, h.agreement.C_is)))

  closing_idle : NoIdleBank o b (closing_output b)
  unfolding closing_length bank_before_lapse supplied
  closing_idle =
      record {
        size = rw (← h.agreement.G_is, ← h.agreement.C_is) (closing_length_lem b);
        bank_is = bank_in_lem;
        supplied_is = supplied_in_lem;
        none_idle = λ old g c l m e. ⊎_elim (λ z. inl (bank_in_lem g l ∙ z)) (λ z. inr (supplied_in_lem c m ∙ z)) (none_idle b old g c (omega arith) (omega arith) (linked g c e));
        none_idle_class = λ hours g c k l m n e. none_idle_class b g c k (omega arith) (omega arith) n (linked g c e);
      }

  not_idle : (a : Ask) (w : Given) → Done (stored b) a w → NotIdleIn o b (call_of a) w.out
  unfolding NotIdleIn call_of rule_of closing_rule
  not_idle (ask_schedule kws ranks) w d = tt
  not_idle (ask_block entry exit lent) w d = tt
  not_idle (ask_closing lent) w d =
      λ z. subst (NoIdleBank o b) (sym (accepted (ask_closing lent) w d z)) closing_idle
    where
      accepted : (a : Ask) (w : Given) → Done (stored b) a w → (rule_of (call_of a)).refusal b ≡ 0 → w.out ≡ (rule_of (call_of a)).output b
      accepted a w d z = (match o b h a w d).output_is ∙ rw (eq-eqb ((rule_of (call_of a)).refusal b) 0 z)

-- ---- from the figures to the places of the record

module _ (o : Opening) (r : Record) (h : Kept o (figures r)) where
  G8 : o.G ≤ 8
  unfolding figures plan_of
  G8 = omega (arith, h.agreement.G_is, h.facts.counts.G_high)

  C16 : o.C ≤ 16
  unfolding figures plan_of
  C16 = omega (arith, h.agreement.C_is, h.facts.counts.C_high)

  generator_equation : (g : ℕ) → g < o.G →
      let x = r.generators in
      at x.injected g ≡ at x.unaccounted g + at x.lost g + at x.setoff g + at x.inadvertent g + at x.charge g + at x.drawn g + at x.lapsed g + at x.bank g + at x.pending g
  unfolding figures generator_at
  generator_equation g l =
      let x = r.generators in
      let k : g < 8 = omega (arith, G8) in
      omega (
        arith,
        (h.facts.gen g).equation,
        place_in 8 x.injected g k,
        place_in 8 x.unaccounted g k,
        place_in 8 x.lost g k,
        place_in 8 x.setoff g k,
        place_in 8 x.inadvertent g k,
        place_in 8 x.charge g k,
        place_in 8 x.drawn g k,
        place_in 8 x.lapsed g k,
        place_in 8 x.bank g k,
        place_in 8 x.pending g k,
      )

  consumer_equation : (c : ℕ) → c < o.C →
      let x = r.consumers in
      at x.metered c ≡ at x.setoff c + at x.shortfall c + at x.drawn c + at x.supplied c + at x.outstanding c
  unfolding figures consumer_at
  consumer_equation c l =
      let x = r.consumers in
      let k : c < 16 = omega (arith, C16) in
      omega (
        arith,
        (h.facts.con c).equation,
        place_in 16 x.metered c k,
        place_in 16 x.setoff c k,
        place_in 16 x.shortfall c k,
        place_in 16 x.drawn c k,
        place_in 16 x.supplied c k,
        place_in 16 x.outstanding c k,
      )

  -- totals that agree on the figures agree on the record's places
  cross : (xs ys : List ℕ) → sum (figures r).plan.G (place 8 xs) ≡ sum (figures r).plan.C (place 16 ys) → sum o.G (at xs) ≡ sum o.C (at ys)
  cross xs ys e =
      sum_cong o.G (at xs) (place 8 xs) (λ g l. sym (place_in 8 xs g (omega (arith, G8)))) ∙
      subst₂ (λ (n m : ℕ). sum n (place 8 xs) ≡ sum m (place 16 ys)) h.agreement.G_is h.agreement.C_is e ∙
      sum_cong o.C (place 16 ys) (at ys) (λ c l. place_in 16 ys c (omega (arith, C16)))

  cross_set_off : sum o.G (at r.generators.setoff) ≡ sum o.C (at r.consumers.setoff)
  unfolding figures generator_at consumer_at
  cross_set_off = cross r.generators.setoff r.consumers.setoff h.crossed.set_off

  cross_drawn : sum o.G (at r.generators.drawn) ≡ sum o.C (at r.consumers.drawn)
  unfolding figures generator_at consumer_at
  cross_drawn = cross r.generators.drawn r.consumers.drawn h.crossed.drawn

  injected_at_most : (g : ℕ) → g < o.G → at r.generators.injected g ≤ most_figure
  unfolding figures generator_at
  injected_at_most g l = omega (arith, injected_most (figures r) h.facts g, place_in 8 r.generators.injected g (omega (arith, G8)))

  metered_at_most : (c : ℕ) → c < o.C → at r.consumers.metered c ≤ most_figure
  unfolding figures consumer_at
  metered_at_most c l = omega (arith, metered_most (figures r) h.facts c, place_in 16 r.consumers.metered c (omega (arith, C16)))

-- ---- a list of calls

follows : (o : Opening) (b : Book) → Kept o b → (r : Record) → r ≡ stored b → {as' : List Ask} {ws : List Given} → Trace r as' ws →
    Matches as' ws (book_answers b (map call_of as')) × ((last_record r ws ≡ stored (book_after b (map call_of as'))) × NoIdleBanks o b (map call_of as') ws)
unfolding book_answers book_after last_record
follows o b h r q trace_none = (match_none, (q, idle_none))
follows o b h r q (trace_one {a = a} {w = w} d rest) =
    let d' : Done (stored b) a w = subst (λ (x : Record). Done x a w) q d in
    let ih = follows o (next b (call_of a)) (next_kept o b (call_of a) h) w.answer.after (record_next o b h a w d') rest in
    (match_one (match o b h a w d') ih.0, (ih.1.0, idle_one (not_idle o b h a w d') ih.1.1))

trace_take : (n : ℕ) {r : Record} {as' : List Ask} {ws : List Given} → Trace r as' ws → Trace r (take n as') (take n ws)
trace_take zero t = trace_none
trace_take (suc n) trace_none = trace_none
trace_take (suc n) (trace_one d rest) = trace_one d (trace_take n rest)

module _ (o : Opening) (p : Permitted o) (number : ℕ) (r₀ : Record) (start : Opened o number r₀) where
  accepted : number ≡ 0
  accepted = start.number_is ∙ permitted_accepted o p

  pub starts : r₀ ≡ stored (opened o)
  starts = start.record_is ∙ rw (eq-eqb (opening_refusal o) 0 (permitted_accepted o p))

  module _ (asks : List Ask) (ws : List Given) (t : Trace r₀ asks ws) where
    r : Record
    r = last_record r₀ ws

    book : Book
    book = book_after (opened o) (map call_of asks)

    kept : Kept o book
    unfolding book
    kept = book_kept o (opened o) (map call_of asks) (opened_kept o p)

    both : Matches asks ws (book_answers (opened o) (map call_of asks)) × ((last_record r₀ ws ≡ stored book) × NoIdleBanks o (opened o) (map call_of asks) ws)
    unfolding book
    both = follows o (opened o) (opened_kept o p) r₀ starts t

    figures_are : figures (last_record r₀ ws) ≡ book
    figures_are = ap figures both.1.0 ∙ figures_stored book (facts_cut book kept.facts)

    kept_record : Kept o (figures (last_record r₀ ws))
    kept_record = subst (Kept o) (sym figures_are) kept

    demand : Demand3 o asks ws (last_record r₀ ws)
    unfolding book r
    demand =
        record {
          answers = both.0;
          record_is = both.1.0;
          record_sound = ap (λ (x : Record). sound (figures x)) both.1.0 ∙ stored_sound book kept.facts;
          generators = λ g l. generator_equation o r kept_record g l;
          consumers = λ c l. consumer_equation o r kept_record c l;
          set_off = cross_set_off o r kept_record;
          drawn = cross_drawn o r kept_record;
          no_idle_bank = both.1.1;
          injected_most = λ g l. injected_at_most o r kept_record g l;
          metered_most = λ c l. metered_at_most o r kept_record c l;
        }

pub demand_3 : Claim
demand_3 o p number r₀ start =
    (accepted o p number r₀ start, λ asks ws t. (demand o p number r₀ start asks ws t, λ n. demand o p number r₀ start (take n asks) (take n ws) (trace_take n t)))

-- ---- no list of calls is ruled out

no_output : (kws ranks : List ℕ) (r : Record) → [] ≡ output_after (schedule_rule kws ranks) r []
unfolding output_after schedule_rule
no_output kws ranks r = go (eqb (number_on (schedule_rule kws ranks) r) 0)
  where
    go : (t : Bool) → ◌≡◌ {A = List ℕ} [] (if t then [] else [])
    go true = refl
    go false = refl

pub given : (r : Record) (a : Ask) → (w : Given) × Done r a w
unfolding Done
given r (ask_schedule kws ranks) =
    let rule = schedule_rule kws ranks in
    (record { answer = record { number = number_on rule r; after = record_after rule r }; out = [] }, (record { number_is = refl; record_is = refl; output_is = no_output kws ranks r }, refl))
given r (ask_block entry exit lent) =
    let rule = block_rule entry exit (length lent) in
    (record { answer = record { number = number_on rule r; after = record_after rule r }; out = output_after rule r lent }, called rule r lent)
given r (ask_closing lent) =
    let rule = closing_rule (length lent) in
    (record { answer = record { number = number_on rule r; after = record_after rule r }; out = output_after rule r lent }, called rule r lent)

pub every_list : (r : Record) (asks : List Ask) → (ws : List Given) × Trace r asks ws
every_list r [] = ([], trace_none)
every_list r (a ∷ as') =
    let first = given r a in
    let rest = every_list first.0.answer.after as' in
    (first.0 ∷ rest.0, trace_one first.1 rest.1)

pub every_opening : (o : Opening) → (number : ℕ) × (r : Record) × Opened o number r
every_opening o = (opening_refusal o, (if eqb (opening_refusal o) 0 then stored (opened o) else zeros), record { number_is = refl; record_is = refl })

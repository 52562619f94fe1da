-- A schedule on the record that bytes hold: its number, and its lists in the former ones' place. Assumes nothing.
use Rattle.std.specs.Prelude.{ℕ, ◌*◌, ◌≡◌, true, length}
use Rattle.std.proofs.Math.Path.{refl, sym, ap}
use Rattle.std.proofs.Common.{◌∙◌, arith}
use mathlib.Core.List.{List, []}
use Rattle.std.proofs.Math.ListN.{get_or, set}
use Rattle.lists.specs.Tables.{table}
use Rattle.lists.specs.Laws.TablesLaws.{is_table}
use Rattle.lists.specs.Pairs.{cell, pairs}
use Rattle.lists.specs.Laws.PairsLaws.{length_pairs}
use Rattle.codec.specs.Bytes.{encode}
use Rattle.codec.specs.Laws.BytesLaws.{Below, length_decode}
use Rattle.record.specs.Called.{number_on}
use Rattle.record.specs.Laws.CalledLaws.{number_sound, record_facts, accepted_sound}
use Rattle.record.specs.Laws.Shape.{Shape}
use Rattle.record.specs.Sound.{sound}
use Rattle.record.specs.Stored.{plan_of, figures, stored}
use Rattle.record.specs.RecordWords.{runs, run_lengths, total, words, cut, from_runs, record_of}
use Rattle.record.specs.declared.Record.{Record}
use Rattle.record.specs.declared.Terms.{Terms}
use Rattle.record.specs.declared.Counts.{Counts}
use Rattle.record.specs.declared.Agreed.{Agreed}
use Rattle.record.specs.declared.Links.{Links}
use Rattle.record_layout.specs.Laws.RecordKept.{changed_record, record_shape}
use Rattle.record_layout.specs.Laws.Layout.{run, links_at}
use Rattle.record_layout.specs.Laws.LayoutLaws.{bytes_of_record}
use Rattle.record_layout.specs.Laws.RecordHead.{HeadRead}
use Rattle.record_layout.specs.OnBytes.{record_in, CalledOn, book_in}
use Rattle.record_layout.specs.Laws.OnBytesLaws.{on_accepted}
use Rattle.record_layout.specs.Laws.NumbersRaised.{from}
use Rattle.record_layout.specs.Laws.NumbersReplaced.{replaced, list_replaced}
use Rattle.agreement_rules.specs.Laws.AgreedReading.{RowsAt}
use Rattle.agreement_rules.specs.Laws.AgreedRefusals.{refusal_on}
use Rattle.agreement_rules.specs.Laws.AgreedRefusalsLaws.{refusal_figures}
use Rattle.agreement_rules.specs.Schedule.{after_schedule, schedule_rule, new_kw, new_rank}
use Rattle.agreement_rules.specs.Laws.ScheduleLaws.{Schedulable, accepted_schedulable}
use Rattle.record_runs.specs.Laws.Raise.{Replaced}
use Rattle.schedule.specs.Laws.ScheduleAccepted.{Accepted}
use Rattle.record_places.specs.RecordSize.{record_numbers, record_bytes, words_in}
use Rattle.record_places.specs.Laws.Places.{link_at, kw_at, rank_at}

-- a pair list is what stands at its 128 places
whole_list : (n m : ℕ) (xs : List ℕ) → table 128 (λ i. get_or (pairs 8 16 (cell n m xs)) i 0) ≡ pairs 8 16 (cell n m xs)
whole_list n m xs = sym (is_table 0 128 _ (pairs 8 16 (cell n m xs)) (length_pairs 8 16 (cell n m xs)) (λ i l. refl))

module _ (s kws ranks : List ℕ) where
  abbrev ws : List ℕ
  ws = words_in s

  abbrev r : Record
  r = record_in s

  -- the number of a schedule on a sound record, by what was read of it
  pub number_read : {t : Terms} {a : Agreed} {link : List ℕ} {x : ℕ} → sound (figures r) ≡ true → t ≡ r.terms → a ≡ r.agreed → link ≡ run ws 128 link_at →
      x ≡ refusal_on a link t.generators t.consumers kws ranks → x ≡ number_on (schedule_rule kws ranks) r
  unfolding schedule_rule
  number_read e terms agreed link x =
      x ∙ rw (terms, agreed, link ∙ ap (λ (l : Links). l.link) (sym (links_at ws))) (refusal_figures r kws ranks ∙ sym (number_sound (schedule_rule kws ranks) r e))

  -- ---- an accepted schedule

  pub accepted_here : {t : Terms} {n : Counts} → HeadRead s t n → number_on (schedule_rule kws ranks) r ≡ 0 → Accepted s t.generators t.consumers kws ranks
  accepted_here h z =
      record { whole = h.whole; n_is = ap (λ (t : Terms). t.generators) h.terms_are; m_is = ap (λ (t : Terms). t.consumers) h.terms_are; number_is = z }

  module _ {n m : ℕ} (h : Accepted s n m kws ranks) where
    sound_is : sound (figures r) ≡ true
    sound_is = accepted_sound (schedule_rule kws ranks) r h.number_is

    schedulable : Schedulable kws ranks (figures r)
    unfolding schedule_rule
    schedulable = accepted_schedulable kws ranks (figures r) (sym (number_sound (schedule_rule kws ranks) r sound_is) ∙ h.number_is)

    rows : (xs : List ℕ) → length xs ≡ r.terms.generators * r.terms.consumers → RowsAt xs 0 n m
    unfolding figures plan_of
    rows xs size =
        let counts = (record_facts r sound_is).counts in
        rw (h.n_is, h.m_is) (record { fits = omega arith; few_rows = counts.G_high; few = counts.C_high })

    pub kw_rows : RowsAt kws 0 n m
    unfolding figures plan_of
    kw_rows = rows kws schedulable.kws_size

    pub rank_rows : RowsAt ranks 0 n m
    unfolding figures plan_of
    rank_rows = rows ranks schedulable.ranks_size

    abbrev kw : List ℕ
    kw = pairs 8 16 (cell n m kws)

    abbrev rank : List ℕ
    rank = pairs 8 16 (cell n m ranks)

    shape : Shape r
    shape = record_shape ws (length_decode 8 record_numbers s)

    runs_after : cut run_lengths (replaced (from rank_at) 128 (λ i. get_or rank i 0) (replaced (from kw_at) 128 (λ i. get_or kw i 0) ws)) ≡ set (set (cut run_lengths ws) 4 kw) 5 rank
    unfolding record_of from_runs run_lengths cut total
    runs_after =
        let one = list_replaced 128 128 ws 4 r.schedule.kw (λ i. get_or kw i 0) (λ i. get_or kw i 0) (omega arith) refl shape.schedule.kw refl refl (λ i l. refl) (λ i h l. absurd (omega arith)) in
        list_replaced 128 128 _ 5 r.schedule.rank (λ i. get_or rank i 0) (λ i. get_or rank i 0) (omega arith) refl shape.schedule.rank one refl (λ i l. refl) (λ i h l. absurd (omega arith)) ∙
        rw (whole_list n m kws, whole_list n m ranks)

    record_after_lem : record_of (replaced (from rank_at) 128 (λ i. get_or rank i 0) (replaced (from kw_at) 128 (λ i. get_or kw i 0) ws)) ≡ stored (after_schedule kws ranks (figures r))
    unfolding record_of runs stored after_schedule new_kw new_rank figures plan_of
    record_after_lem =
        ap from_runs runs_after ∙
        rw (h.n_is, h.m_is)
        (changed_record ws (length_decode 8 record_numbers s)
        (λ xss. set (set xss 4 (pairs 8 16 (cell r.terms.generators r.terms.consumers kws))) 5 (pairs 8 16 (cell r.terms.generators r.terms.consumers ranks)))
        (after_schedule kws ranks (figures r)) refl)

    -- the bytes in which both lists are replaced are those of the record that the rules store
    pub bytes_after : {t u : List ℕ} → Replaced (from kw_at) 128 (λ i. get_or kw i 0) s t → Replaced (from rank_at) 128 (λ i. get_or rank i 0) t u → length u ≡ record_bytes → Below 256 u →
        u ≡ encode 8 (words (stored (after_schedule kws ranks (book_in s))))
    bytes_after {t} {u} one two size low =
        sym (bytes_of_record u size low) ∙ rw (two.is, one.is) (ap (λ (x : Record). encode 8 (words x)) record_after_lem)

  -- ---- the call

  pub schedule_accepted : {s' : List ℕ} → number_on (schedule_rule kws ranks) r ≡ 0 → s' ≡ encode 8 (words (stored (after_schedule kws ranks (book_in s)))) →
      CalledOn (schedule_rule kws ranks) s [] 0 s' []
  unfolding schedule_rule
  schedule_accepted z e = on_accepted _ s [] refl z e refl

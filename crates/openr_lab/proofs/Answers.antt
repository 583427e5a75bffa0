-- The answer to a scenario, from the record of its run.
use Rattle.std.proofs.Common.{◌≡◌, Bool, ℕ, List, [], Option, Some, None, Err, refl, sym, ◌∙◌, ap, subst}
use Rattle.net_laboratory.specs.Scenario.{Laboratory}
use Rattle.net_laboratory.specs.declared.schedule.Schedule.{Schedule}
use Rattle.net_laboratory.specs.declared.schedule.Turn.{Turn}
use Rattle.net_record.specs.declared.record.Record.{Record}
use Rattle.net_record.specs.Ends.{EndsDrained}
use Rattle.net_record.specs.Given.{run_given}
use Rattle.net_record.specs.Given.GivenFault.{BadTurn, OverBudget}
use Rattle.net_record.specs.Rounds.{round_robin}
use Rattle.net_record.specs.Records.{record_of, IsSettled, IsUnsettled, IsRecordOf}
use Rattle.net_record.specs.Run.{run as run_of, schedule_of}
use Rattle.net_record.specs.Tells.{RecordTells}
use Rattle.net_answers.specs.Recorded.{RecordAnswers}
use Rattle.net_agree.specs.Recorded.{RecordAgrees}
use Rattle.net_world.specs.Given.{IsGivenRecord}
use Rattle.net_report.specs.Report.{report}
use Rattle.openr_lab.specs.Answer.{answer_after, answer_by_rounds, answer_after_given, answer_given, unsettled_line, bad_turn_line}
use Rattle.openr_lab.specs.Ends.{IsSettledBy, last_by, IsReplay, IsUnsettledBy, IsUnsettledRun, IsBadTurn}

-- ---- round robin

-- a run that settled every phase
pub answer_settled : (lab : Laboratory) (trace : Bool) (done : Record) (text : List ℕ) → IsSettled (round_robin lab) done → text ≡ report done lab trace
    → record { status = 0; text = text; run = Some done } ≡ answer_by_rounds trace lab
unfolding answer_by_rounds
answer_settled lab trace done text settled e =
    ap (λ t. record { status = 0; text = t; run = Some done }) e
    ∙ ap (λ o. answer_after o done lab trace) (sym settled.settled)
    ∙ ap (λ d. answer_after (round_robin lab).unsettled d lab trace) settled.all

-- a run that left a phase unsettled
pub answer_unsettled : (lab : Laboratory) (trace : Bool) (settle : ℕ) (done : Record) (text : List ℕ) → IsUnsettled (round_robin lab) settle done → text ≡ unsettled_line settle
    → record { status = 4; text = text; run = Some done } ≡ answer_by_rounds trace lab
unfolding answer_by_rounds
answer_unsettled lab trace settle done text unsettled e =
    ap (λ t. record { status = 4; text = t; run = Some done }) e
    ∙ ap (λ o. answer_after o done lab trace) (sym unsettled.unsettled)
    ∙ ap (λ d. answer_after (round_robin lab).unsettled d lab trace) unsettled.all

pub rounds_replayed : (lab : Laboratory) (trace : Bool) (done : Record) (text : List ℕ) → lab.turns ≡ None → IsSettled (round_robin lab) done
    → EndsDrained lab (round_robin lab).last.world → IsRecordOf (run_of lab (schedule_of done.turns)) done → RecordTells lab done → RecordAnswers lab done → RecordAgrees lab done
    → text ≡ report done lab trace → IsReplay lab trace text (Some done)
rounds_replayed lab trace done text none settled drained is_run tells answers agrees e = record {
  done = done;
  recorded = refl;
  settled = subst (λ given. IsSettledBy given lab done) (sym none) settled;
  drained = subst (λ given. EndsDrained lab (last_by given lab)) (sym none) drained;
  is_run = is_run;
  tells = tells;
  answers = answers;
  agrees = agrees;
  report = e;
}

pub rounds_unsettled : (lab : Laboratory) (settle : ℕ) (done : Record) (text : List ℕ) → lab.turns ≡ None → IsUnsettled (round_robin lab) settle done → RecordTells lab done → RecordAnswers lab done → RecordAgrees lab done
    → text ≡ unsettled_line settle → IsUnsettledRun lab text (Some done)
rounds_unsettled lab settle done text none rounds tells answers agrees e = record {
  phase = settle;
  unsettled = subst (λ given. IsUnsettledBy given lab settle (Some done)) (sym none) (record { done = done; recorded = refl; rounds = rounds; tells = tells; answers = answers; agrees = agrees });
  named = e;
}

pub ruleset answer_steps = (answer_settled, answer_unsettled, rounds_replayed, rounds_unsettled)

-- ---- given turns

pub given_settled : (lab : Laboratory) (turns : List Turn) (trace : Bool) (done : Record) (text : List ℕ) → IsGivenRecord (run_given lab turns) done → text ≡ report done lab trace
    → record { status = 0; text = text; run = Some done } ≡ answer_given trace lab turns
unfolding answer_given
given_settled lab turns trace done text given e =
    ap (λ t. record { status = 0; text = t; run = Some done }) e
    ∙ ap (λ f. answer_after_given f done lab trace) (sym given.settled)
    ∙ ap (λ d. answer_after_given (run_given lab turns).fault d lab trace) given.all

pub given_over : (lab : Laboratory) (turns : List Turn) (trace : Bool) (settle : ℕ) (text : List ℕ) → (run_given lab turns).fault ≡ Some (OverBudget settle) → text ≡ unsettled_line settle
    → record { status = 4; text = text; run = None } ≡ answer_given trace lab turns
unfolding answer_given
given_over lab turns trace settle text over e =
    ap (λ t. record { status = 4; text = t; run = None }) e
    ∙ ap (λ f. answer_after_given f (record_of (run_given lab turns).last []) lab trace) (sym over)

pub given_bad : (lab : Laboratory) (turns : List Turn) (trace : Bool) (index : ℕ) (text : List ℕ) → (run_given lab turns).fault ≡ Some (BadTurn index) → text ≡ bad_turn_line index
    → record { status = 8; text = text; run = None } ≡ answer_given trace lab turns
unfolding answer_given
given_bad lab turns trace index text bad e =
    ap (λ t. record { status = 8; text = t; run = None }) e
    ∙ ap (λ f. answer_after_given f (record_of (run_given lab turns).last []) lab trace) (sym bad)

pub given_replayed : (lab : Laboratory) (schedule : Schedule) (trace : Bool) (done : Record) (text : List ℕ) → lab.turns ≡ Some schedule → IsGivenRecord (run_given lab schedule.turns) done
    → schedule_of done.turns ≡ schedule.turns → EndsDrained lab (run_given lab schedule.turns).last → IsRecordOf (run_of lab (schedule_of done.turns)) done → RecordTells lab done
    → RecordAnswers lab done → RecordAgrees lab done → text ≡ report done lab trace → IsReplay lab trace text (Some done)
given_replayed lab schedule trace done text gives given did drained is_run tells answers agrees e = record {
  done = done;
  recorded = refl;
  settled = subst (λ turns. IsSettledBy turns lab done) (sym gives) (given, did);
  drained = subst (λ turns. EndsDrained lab (last_by turns lab)) (sym gives) drained;
  is_run = is_run;
  tells = tells;
  answers = answers;
  agrees = agrees;
  report = e;
}

pub given_unsettled : (lab : Laboratory) (schedule : Schedule) (settle : ℕ) (text : List ℕ) → lab.turns ≡ Some schedule → (run_given lab schedule.turns).fault ≡ Some (OverBudget settle)
    → text ≡ unsettled_line settle → IsUnsettledRun lab text None
given_unsettled lab schedule settle text gives over e = record {
  phase = settle;
  unsettled = subst (λ turns. IsUnsettledBy turns lab settle None) (sym gives) (record { over = over; no_record = refl });
  named = e;
}

pub given_bad_turn : (lab : Laboratory) (schedule : Schedule) (index : ℕ) (text : List ℕ) → lab.turns ≡ Some schedule → (run_given lab schedule.turns).fault ≡ Some (BadTurn index)
    → run_of lab schedule.turns ≡ Err index → text ≡ bad_turn_line index → IsBadTurn lab text None
given_bad_turn lab schedule index text gives first bad e =
    record { schedule = schedule; given = gives; index = index; bad = bad; first = first; named = e; no_record = refl }

pub ruleset given_steps = (given_settled, given_over, given_bad, given_replayed, given_unsettled, given_bad_turn)

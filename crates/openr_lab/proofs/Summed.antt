-- The answer of mode gen, from the record of the grid's run.
use Rattle.std.proofs.Common.{◌≡◌, ℕ, List, Option, Some, None, false, refl, sym, ◌∙◌, ap, subst}
use Rattle.net_laboratory.specs.Scenario.{Laboratory}
use Rattle.net_laboratory.specs.declared.show.Show.TheVariants.{Routes}
use Rattle.net_grid.specs.Grid.{grid_scenario}
use Rattle.net_record.specs.declared.record.Record.{Record}
use Rattle.net_record.specs.Ends.{EndsDrained}
use Rattle.net_record.specs.Rounds.{round_robin}
use Rattle.net_record.specs.Records.{IsSettled, IsUnsettled, IsRecordOf}
use Rattle.net_record.specs.Run.{run as run_of, schedule_of}
use Rattle.net_record.specs.Tells.{RecordTells}
use Rattle.net_answers.specs.Recorded.{RecordAnswers}
use Rattle.net_agree.specs.Recorded.{RecordAgrees}
use Rattle.net_report.specs.Report.{report}
use Rattle.net_report.specs.Summary.{summary}
use Rattle.openr_lab.specs.Answer.{answer_summed, answer_grid, grid_of, unsettled_line}
use Rattle.openr_lab.specs.Ends.{IsReplay, IsSummed, IsUnsettledRun}
use Rattle.openr_lab.proofs.Answers.{rounds_replayed, rounds_unsettled}

-- a grid gives no turns
no_turns : (size : ℕ) → (grid_of size).turns ≡ None
unfolding grid_scenario
no_turns size = refl

settled_at : (size : ℕ) (done : Record) (text : List ℕ) → IsSettled (round_robin (grid_of size)) done → text ≡ summary done (grid_of size) size
    → record { status = 0; text = text; run = Some done } ≡ answer_grid size
unfolding answer_grid
settled_at size done text settled e =
    ap (λ t. record { status = 0; text = t; run = Some done }) e
    ∙ ap (λ o. answer_summed o done size) (sym settled.settled)
    ∙ ap (λ d. answer_summed (round_robin (grid_of size)).unsettled d size) settled.all

left_at : (size settle : ℕ) (done : Record) (text : List ℕ) → IsUnsettled (round_robin (grid_of size)) settle done → text ≡ unsettled_line settle
    → record { status = 4; text = text; run = Some done } ≡ answer_grid size
unfolding answer_grid
left_at size settle done text unsettled e =
    ap (λ t. record { status = 4; text = t; run = Some done }) e
    ∙ ap (λ o. answer_summed o done size) (sym unsettled.unsettled)
    ∙ ap (λ d. answer_summed (round_robin (grid_of size)).unsettled d size) unsettled.all

-- the same of a laboratory that is a grid

pub grid_settled : (lab : Laboratory) (size : ℕ) (done : Record) (text : List ℕ) → lab ≡ grid_of size → IsSettled (round_robin lab) done → text ≡ summary done lab size
    → record { status = 0; text = text; run = Some done } ≡ answer_grid size
grid_settled lab size done text is settled e = settled_at size done text (subst (λ l. IsSettled (round_robin l) done) is settled) (e ∙ ap (λ l. summary done l size) is)

pub grid_left : (lab : Laboratory) (size settle : ℕ) (done : Record) (text : List ℕ) → lab ≡ grid_of size → IsUnsettled (round_robin lab) settle done → text ≡ unsettled_line settle
    → record { status = 4; text = text; run = Some done } ≡ answer_grid size
grid_left lab size settle done text is unsettled e = left_at size settle done text (subst (λ l. IsUnsettled (round_robin l) settle done) is unsettled) e

pub grid_summed : (lab : Laboratory) (size : ℕ) (done : Record) (text : List ℕ) → lab ≡ grid_of size → IsSettled (round_robin lab) done → EndsDrained lab (round_robin lab).last.world
    → IsRecordOf (run_of lab (schedule_of done.turns)) done → RecordTells lab done → RecordAnswers lab done → RecordAgrees lab done → text ≡ summary done lab size → IsSummed size text (Some done)
grid_summed lab size done text is settled drained is_run tells answers agrees e = record {
  done = done;
  recorded = refl;
  replay = subst (λ l. IsReplay l false (report done l false) (Some done)) is
      (rounds_replayed lab false done (report done lab false) (ap (λ (l : Laboratory). l.turns) is ∙ no_turns size) settled drained is_run tells answers agrees refl);
  summed = e ∙ ap (λ l. summary done l size) is;
}

pub grid_unsettled : (lab : Laboratory) (size settle : ℕ) (done : Record) (text : List ℕ) → lab ≡ grid_of size → IsUnsettled (round_robin lab) settle done → RecordTells lab done
    → RecordAnswers lab done → RecordAgrees lab done → text ≡ unsettled_line settle → IsUnsettledRun (grid_of size) text (Some done)
grid_unsettled lab size settle done text is rounds tells answers agrees e =
    subst (λ l. IsUnsettledRun l text (Some done)) is (rounds_unsettled lab settle done text (ap (λ (l : Laboratory). l.turns) is ∙ no_turns size) rounds tells answers agrees e)

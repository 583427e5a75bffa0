-- The turns that round robin did, given to the same laboratory, have the same report.
use Rattle.std.proofs.Common.{◌≡◌, Bool, ℕ, List, [], ◌∷◌, ◌++◌, Option, Some, None, refl, sym, ◌∙◌, ap}
use Rattle.std.specs.Prelude.{codes, filter_map}
use Rattle.std.specs.List.{flat_map, enumerate_from}
use Rattle.net_laboratory.specs.Scenario.{Laboratory}
use Rattle.net_laboratory.specs.declared.schedule.Turn.{Turn}
use Rattle.net_record.specs.World.{WorldState}
use Rattle.net_record.specs.Given.{GivenEnded, run_given, RoundsAreGiven}
use Rattle.net_record.specs.Rounds.{round_robin}
use Rattle.net_record.specs.Records.{record_of}
use Rattle.net_record.specs.Run.{schedule_of}
use Rattle.net_report.specs.Report.{line, Shown, settle_show, shown_after, phase_text, report}
use Rattle.openr_lab.specs.declared.answer.Answer.{Answer}
use Rattle.openr_lab.specs.Answer.{answer_after, answer_by_rounds, answer_after_given, answer_given, with_turns, RoundsAreAnsweredAgain}

-- a run depends on the turns that it is under, and not on those that the laboratory gives
same_run : (lab : Laboratory) (given turns : List Turn) → run_given (with_turns lab given) turns ≡ run_given lab turns
unfolding run_given
same_run lab given turns = refl

-- a phase's text tells nothing of marks, nor of the turns that the laboratory gives
same_phase : (w : WorldState) (marks : List ℕ) (lab : Laboratory) (given : List Turn) (trace : Bool) (numbered : ℕ × Shown)
    → phase_text (record_of w []) (with_turns lab given) trace numbered ≡ phase_text (record_of w marks) lab trace numbered
unfolding phase_text
same_phase w marks lab given trace numbered = refl

same_phases : (w : WorldState) (marks : List ℕ) (lab : Laboratory) (given : List Turn) (trace : Bool) (phases : List (ℕ × Shown))
    → flat_map (phase_text (record_of w []) (with_turns lab given) trace) phases ≡ flat_map (phase_text (record_of w marks) lab trace) phases
same_phases w marks lab given trace [] = refl
same_phases w marks lab given trace (first ∷ later) =
    ap (λ text. text ++ flat_map (phase_text (record_of w []) (with_turns lab given) trace) later) (same_phase w marks lab given trace first)
    ∙ ap (λ text. phase_text (record_of w marks) lab trace first ++ text) (same_phases w marks lab given trace later)

-- and so does a report
same_report : (w : WorldState) (marks : List ℕ) (lab : Laboratory) (given : List Turn) (trace : Bool) → report (record_of w []) (with_turns lab given) trace ≡ report (record_of w marks) lab trace
unfolding report
same_report w marks lab given trace =
    ap (λ text. text ++ line (codes "end")) (same_phases w marks lab given trace (enumerate_from 1 (shown_after 0 (filter_map settle_show lab.commands) w.settles)))

-- the answer to a run under given turns that ended in a world
answer_in : (trace : Bool) (lab : Laboratory) (turns : List Turn) (last : WorldState) → run_given lab turns ≡ record { fault = None; last = last }
    → answer_given trace lab turns ≡ record { status = 0; text = report (record_of last []) lab trace; run = Some (record_of last []) }
unfolding answer_given
answer_in trace lab turns last e = ap (λ (g : GivenEnded). answer_after_given g.fault (record_of g.last []) lab trace) e

-- the text of a run by rounds that settled every phase
text_settled : (trace : Bool) (lab : Laboratory) → (round_robin lab).unsettled ≡ None
    → (answer_by_rounds trace lab).text ≡ report (record_of (round_robin lab).last.world (round_robin lab).last.marks) lab trace
unfolding answer_by_rounds
text_settled trace lab e = ap (λ o. (answer_after o (record_of (round_robin lab).last.world (round_robin lab).last.marks) lab trace).text) e

pub again : RoundsAreGiven → RoundsAreAnsweredAgain
again law trace lab settled =
    let last = (round_robin lab).last in
    let turns = schedule_of last.world.turns in
    let given = with_turns lab turns in
    let answer = answer_in trace given turns last.world (same_run lab turns turns ∙ law lab settled) in (
      ap (λ (a : Answer). a.status) answer,
      ap (λ (a : Answer). a.text) answer ∙ same_report last.world last.marks lab turns trace ∙ sym (text_settled trace lab settled),
    )

-- What the record of a run tells of answers and of routes, under any legal schedule.
use Rattle.std.proofs.Common.{◌≡◌, ◌≤◌, ℕ, List, [], ◌∷◌, ◌++◌, Bool, true, false, ◌&&◌, not, cond, length, get_or, take, refl, sym, ap, ◌∙◌, subst}
use Rattle.std.specs.Prelude.{IsTrue, All, Some, nat_le, slice_get}
use Rattle.std.proofs.lemmas.Bool.{and_parts, leb-true}
use Rattle.std.proofs.lemmas.List.Elements.{All-head, All-tail}
use Rattle.or_base.specs.declared.entry.JournalEntry.{JournalEntry}
use Rattle.net_laboratory.specs.Scenario.{Laboratory}
use Rattle.net_laboratory.specs.Sound.{is_sound}
use Rattle.net_laboratory.specs.declared.schedule.Turn.{Turn}
use Rattle.net_record.specs.declared.phase.Phase.{Phase}
use Rattle.net_record.specs.declared.record.Record.{Record}
use Rattle.net_record.specs.Phases.{phases}
use Rattle.net_record.specs.Actors.{is_in_range}
use Rattle.net_record.specs.Answers.{desks_asked}
use Rattle.net_record.specs.Records.{journals_of, record_of}
use Rattle.net_record.specs.World.{WorldState, start, turn, range, waiting, is_empty, is_drained, settle}
use Rattle.net_record.specs.Run.{begin, is_legal}
use Rattle.net_record.specs.Reached.{IsReached}
use Rattle.net_record.specs.Reached.IsReached.{starts, turns, settles}
use Rattle.net_record.proofs.Grown.{fronts_same}
use Rattle.net_answers.specs.Answered.{asks_for_routes}
use Rattle.net_answers.specs.Recorded.{RecordAnswers, RecordsAnswer}
use Rattle.net_answers.proofs.Attentive.{IsWithin}
use Rattle.net_answers.proofs.Asks.{AsksNone, PhaseAsksNone, phases_ask_none}
use Rattle.net_answers.proofs.Following.{follow_reached}
use Rattle.net_answers.proofs.RunsHeld.{Holds, hold_start, hold_turn, hold_issue, hold_settle}
use Rattle.net_answers.proofs.RunsRouted.{routed_reached}

legal_within : (w : WorldState) (t : Turn) → is_legal w t ≡ true → IsWithin (range w t.lane) t.at
legal_within w t legal =
    let may = range w t.lane in
    let parts = and_parts (not (is_empty (waiting w t.lane))) (is_in_range may t.at) legal in
    let ends = and_parts (nat_le may.least t.at) (nat_le t.at may.most) parts.1 in
    (leb-true may.least t.at ends.0, leb-true t.at may.most ends.1)

-- the desks that are asked in the first of these phases
abbrev asked_first : List Phase → List ℕ
asked_first [] = []
asked_first (phase ∷ later) = desks_asked phase.issues

-- the phases that are left ask for no route where none does
left_ask_none : (lab : Laboratory) {w : WorldState} {later : List Phase} → IsReached lab w later → asks_for_routes lab ≡ false → All PhaseAsksNone later
left_ask_none lab starts unasked = phases_ask_none lab unasked
left_ask_none lab (turns w phase later t before legal) unasked = left_ask_none lab before unasked
left_ask_none lab (settles w phase later before drained) unasked = All-tail PhaseAsksNone phase later (left_ask_none lab before unasked)

hold_begin : (lab : Laboratory) (w : WorldState) (later : List Phase) → (asks_for_routes lab ≡ false → All PhaseAsksNone later) → Holds lab [] w
    → Holds lab (asked_first later) (begin w later)
hold_begin lab w [] none h = h
hold_begin lab w (phase ∷ later) none h = hold_issue lab w phase.issues (λ unasked. All-head PhaseAsksNone phase later (none unasked)) h

hold_reached : (lab : Laboratory) → IsTrue (is_sound lab) → {w : WorldState} {later : List Phase} → IsReached lab w later → Holds lab (asked_first later) w
hold_reached lab sound starts = hold_begin lab (start lab) (phases lab) (phases_ask_none lab) (hold_start lab)
hold_reached lab sound (turns w phase later t before legal) =
    hold_turn lab (desks_asked phase.issues) w t.lane t.at (legal_within w t legal) (follow_reached lab sound before) (hold_reached lab sound before)
hold_reached lab sound (settles w phase later before drained) =
    hold_begin lab (settle phase.moment (desks_asked phase.issues) phase.shows_routes w) later (λ unasked. All-tail PhaseAsksNone phase later (left_ask_none lab before unasked))
    (hold_settle lab phase.moment (desks_asked phase.issues) phase.shows_routes w drained (follow_reached lab sound before) (hold_reached lab sound before))

record_answers : (lab : Laboratory) (w : WorldState) (later : List Phase) (marks : List ℕ) → IsTrue (is_sound lab) → IsReached lab w later
    → RecordAnswers lab (record_of w marks)
record_answers lab w later marks sound reached =
    let held = (hold_reached lab sound reached).held in
    record {
      answers = held.answered (journals_of w.actors) (fronts_same (journals_of w.actors));
      current = held.current;
      routes = routed_reached lab sound reached;
    }

pub records_answer : RecordsAnswer
records_answer lab done sound run = subst (RecordAnswers lab) (sym run.is) (record_answers lab run.world run.later done.marks sound run.reached)

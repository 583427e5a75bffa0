-- Round robin and a run under given turns come to worlds of a run, as far as they come.
use Rattle.std.proofs.Common.{◌≡◌, ℕ, ◌+◌, List, [], ◌∷◌, Bool, true, false, ◌||◌, not, length, refl, sym, ap, subst, arith}
use Rattle.std.proofs.lemmas.Bool.{leb-false}
use Rattle.or_base.specs.declared.item.Stamped.{Stamped}
use Rattle.net_laboratory.specs.Limits.{most_turns}
use Rattle.net_laboratory.specs.Scenario.{Laboratory}
use Rattle.net_laboratory.specs.declared.schedule.Turn.{Turn}
use Rattle.net_record.specs.declared.phase.Phase.{Phase}
use Rattle.net_record.specs.declared.record.Record.{Record}
use Rattle.net_record.specs.Roles.{roles}
use Rattle.net_record.specs.Phases.{phases}
use Rattle.net_record.specs.Answers.{desks_asked}
use Rattle.net_record.specs.World.{WorldState, start, waiting, turn, is_drained, issue, settle}
use Rattle.net_record.specs.Budget.{is_over}
use Rattle.net_record.specs.Rounds.{Marked, longest, phase_of, settle_after, round_robin}
use Rattle.net_record.specs.Run.{begin}
use Rattle.net_record.specs.Given.{RoundsAreReached, GivenIsReached}
use Rattle.net_record.specs.Reached.{IsReached}
use Rattle.net_record.specs.Reached.IsReached.{starts, turns, settles}
use Rattle.net_record.proofs.Counted.{rounds_from}
use Rattle.net_record.proofs.RoundTurns.{IsReady, turn_on, ready_turn, legal}
use Rattle.net_record.proofs.RoundRuns.{goes_on, drained-or, ready_world_of, ready_issue, ready_settle}
use Rattle.net_record.proofs.Kept.{TurnsKeep, keep_rounds_of}
use Rattle.net_record.proofs.FewTurns.{HasFewTurns, few_turn, few_settle, few_robin}
use Rattle.net_record.proofs.GivenKept.{GivenKeep, HasItsRecord, record_begun, its_own, as_begun, keep_run_given}

few_begun : (w : WorldState) (phases : List Phase) → HasFewTurns w → HasFewTurns (begin w phases)
few_begun w phases few = omega (arith, ap (λ (done : Record). length done.turns) (record_begun w phases []), few)

-- ---- given turns

record IsReachedWithin (lab : Laboratory) (w : WorldState) (later : List Phase) (left : List Turn) : Type 0 where
  reached : IsReached lab w later
  few : HasFewTurns w

given_reach : (lab : Laboratory) → GivenKeep (IsReachedWithin lab)
given_reach lab = record {
  turns = λ w phase later t left may unspent h. record {
    reached = turns w phase later t h.reached may;
    few = few_turn w t.lane t.at (λ waits. leb-false most_turns (length w.turns) unspent) h.few;
  };
  settles = λ w phase later left drained h.
      let asked = desks_asked phase.issues in
      record {
        reached = settles w phase later h.reached drained;
        few = few_begun (settle phase.moment asked phase.shows_routes w) later (few_settle phase.moment asked phase.shows_routes w h.few);
      };
}

pub given_is_reached : GivenIsReached
given_is_reached lab given =
    let at_start : IsReachedWithin lab (begin (start lab) (phases lab)) (phases lab) given = record { reached = starts; few = few_begun (start lab) (phases lab) (omega arith) } in
    let end = (keep_run_given (IsReachedWithin lab) (given_reach lab) lab given at_start).recorded in
    record {
      world = end.world;
      later = end.later;
      reached = end.holds.reached;
      few = omega (arith, ap (λ (done : Record). length done.turns) (end.same []), end.holds.few);
      is = end.same [];
    }

-- ---- round robin

no_turn : (w : WorldState) (lane at : ℕ) → waiting w lane ≡ [] → turn w lane at ≡ w
unfolding turn
no_turn w lane at none = rw none refl

robin_reached : (lab : Laboratory) (phase : Phase) (later : List Phase) (w : WorldState) (lane : ℕ) → IsReady w → IsReached lab w (phase ∷ later)
    → IsReached lab (turn w lane (longest w lane)) (phase ∷ later)
robin_reached lab phase later w lane ready h = by_items (waiting w lane) refl where
  by_items : (items : List Stamped) → waiting w lane ≡ items → IsReached lab (turn w lane (longest w lane)) (phase ∷ later)
  by_items [] e = subst (λ v. IsReached lab v (phase ∷ later)) (sym (no_turn w lane (longest w lane) e)) h
  by_items (s ∷ others) e = turns w phase later (turn_on w lane) h (legal w lane ready (record { item = s; others = others; is = e }))

-- what the rounds of a phase keep
record IsInPhase (lab : Laboratory) (phase : Phase) (later : List Phase) (w : WorldState) : Type 0 where
  ready : IsReady w
  reached : IsReached lab w (phase ∷ later)

rounds_keep : (lab : Laboratory) (phase : Phase) (later : List Phase) → TurnsKeep (IsInPhase lab phase later)
rounds_keep lab phase later w lane within h = record { ready = ready_turn w lane h.ready; reached = robin_reached lab phase later w lane h.ready h.reached }

abbrev IsOnTheWay : Laboratory → WorldState → List Phase → List Turn → Type 0
IsOnTheWay lab w later left = IsReached lab w later

abbrev RoundsReach : Laboratory → List Phase → Type 0
RoundsReach lab phases =
    (number : ℕ) (m : Marked) → IsReady m.world → IsReached lab (begin m.world phases) phases → HasItsRecord (IsOnTheWay lab) (rounds_from number m phases).last.world

phase_reached : (lab : Laboratory) (unsettled over : Bool) (number : ℕ) (phase : Phase) (done : Marked) (later : List Phase) → is_over done.world || not (is_drained done.world) ≡ unsettled
    → IsInPhase lab phase later done.world → RoundsReach lab later → HasItsRecord (IsOnTheWay lab) (goes_on unsettled over number done (settle_after phase done) later).last.world
phase_reached lab true over number phase done later e h others = its_own (IsOnTheWay lab) done.world (phase ∷ later) [] h.reached
phase_reached lab false over number phase done later e h others =
    by_test over (settles done.world phase later h.reached (drained-or (is_over done.world) (is_drained done.world) e)) where
      next : Marked
      next = settle_after phase done

      by_test : (over : Bool) → IsReached lab (begin next.world later) later → HasItsRecord (IsOnTheWay lab) (goes_on false over number done next later).last.world
      by_test true reached = as_begun (IsOnTheWay lab) next.world later [] reached
      by_test false reached = others (number + 1) next (ready_settle phase.moment (desks_asked phase.issues) phase.shows_routes done.world h.ready) reached

rounds_reach : (lab : Laboratory) (phases : List Phase) → RoundsReach lab phases
rounds_reach lab [] number m ready reached = its_own (IsOnTheWay lab) m.world [] [] reached
rounds_reach lab (phase ∷ later) number m ready reached =
    let begun : Marked = record { world = issue m.world phase.issues; marks = m.marks } in
    let done = phase_of m phase in
    let here = keep_rounds_of (IsInPhase lab phase later) (rounds_keep lab phase later) begun phase.rounds (record { ready = ready_issue m.world phase.issues ready; reached = reached }) in
    phase_reached lab (is_over done.world || not (is_drained done.world)) (is_over (settle_after phase done).world) number phase done later refl here (rounds_reach lab later)

robin_recorded : (lab : Laboratory) → HasItsRecord (IsOnTheWay lab) (round_robin lab).last.world
unfolding round_robin
robin_recorded lab = rounds_reach lab (phases lab) 1 (record { world = start lab; marks = [] }) (ready_world_of lab.kind (roles lab)) starts

pub rounds_are_reached : RoundsAreReached
rounds_are_reached lab =
    let end = robin_recorded lab in
    record { world = end.world; later = end.later; reached = end.holds; few = few_robin lab; is = end.same (round_robin lab).last.marks }

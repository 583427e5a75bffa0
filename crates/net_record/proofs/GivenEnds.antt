-- Where a run under given turns settles every phase, it did just these turns, no item waits, and each phase has its settle.
use Rattle.std.proofs.Common.{◌≡◌, ℕ, ◌+◌, List, [], ◌∷◌, ◌++◌, true, length, sym, ap, ◌∙◌, arith, append_assoc}
use Rattle.std.proofs.lemmas.List.{append-nil}
use Rattle.net_laboratory.specs.declared.schedule.Turn.{Turn}
use Rattle.net_record.specs.declared.phase.Phase.{Phase}
use Rattle.net_record.specs.declared.record.Record.{Record}
use Rattle.net_record.specs.Roles.{roles}
use Rattle.net_record.specs.Wires.{wires}
use Rattle.net_record.specs.Phases.{phases}
use Rattle.net_record.specs.Answers.{desks_asked}
use Rattle.net_record.specs.World.{WorldState, start, is_drained, settle}
use Rattle.net_record.specs.Run.{begin, schedule_of}
use Rattle.net_record.specs.Given.{run_given, GivenAreDone}
use Rattle.net_record.specs.Ends.{GivenEndsDrained}
use Rattle.net_record.specs.Wired.{IsWired}
use Rattle.net_record.proofs.Turns.{wired_turn}
use Rattle.net_record.proofs.RoundRuns.{wired_world_of, wired_settle, turns-settle}
use Rattle.net_record.proofs.Drained.{settles-turn, settles-settle, drained-settle, none_wait}
use Rattle.net_record.proofs.GivenRounds.{wired_begin, legal_scheduled}
use Rattle.net_record.proofs.GivenKept.{GivenKeep, record_begun, keep_run_given}

-- ---- the turns done, and those that are left, are all that were given

record HasGiven (all : List Turn) (w : WorldState) (later : List Phase) (left : List Turn) : Type 0 where
  wired : IsWired w
  is : schedule_of w.turns ++ left ≡ all

given_turns : (all : List Turn) → GivenKeep (HasGiven all)
given_turns all = record {
  turns = λ w phase later t left legal unspent h. record {
    wired = wired_turn w t.lane t.at h.wired;
    is = ap (λ ts. ts ++ left) (legal_scheduled w t h.wired legal) ∙ append_assoc (schedule_of w.turns) (t ∷ []) left ∙ h.is;
  };
  settles = λ w phase later left drained h.
      let asked = desks_asked phase.issues in
      let next = settle phase.moment asked phase.shows_routes w in
      record {
        wired = wired_begin next later (wired_settle phase.moment asked phase.shows_routes w h.wired);
        is = ap (λ (done : Record). schedule_of done.turns ++ left) (record_begun next later []) ∙ ap (λ ts. schedule_of ts ++ left) (turns-settle phase.moment asked phase.shows_routes w) ∙ h.is;
      };
}

pub given_are_done : GivenAreDone
given_are_done lab turns settled =
    let at_start : HasGiven turns (begin (start lab) (phases lab)) (phases lab) turns = record {
      wired = wired_begin (start lab) (phases lab) (wired_world_of lab.kind (roles lab));
      is = ap (λ (done : Record). schedule_of done.turns ++ turns) (record_begun (start lab) (phases lab) []);
    } in
    let end = (keep_run_given (HasGiven turns) (given_turns turns) lab turns at_start).settled settled in
    sym (append-nil (schedule_of (run_given lab turns).last.turns)) ∙ end.is

-- ---- the settles done, and those of the phases that are left, are as many as the phases

abbrev IsDrainedBehind : List Phase → WorldState → Type 0
IsDrainedBehind [] w = is_drained w ≡ true
IsDrainedBehind (phase ∷ later) w = Unit {0}

record HasSettled (count : ℕ) (w : WorldState) (later : List Phase) (left : List Turn) : Type 0 where
  drained : IsDrainedBehind later w
  settles : length w.settles + length later ≡ count

drained_begun : (w : WorldState) (later : List Phase) → is_drained w ≡ true → IsDrainedBehind later (begin w later)
drained_begun w [] drained = drained
drained_begun w (phase ∷ later) drained = tt

settles_begun : (w : WorldState) (later : List Phase) → length (begin w later).settles ≡ length w.settles
settles_begun w later = ap (λ (done : Record). length done.settles) (record_begun w later [])

given_settles : (count : ℕ) → GivenKeep (HasSettled count)
given_settles count = record {
  turns = λ w phase later t left legal unspent h. record { drained = tt; settles = omega (arith, ap length (settles-turn w t.lane t.at), h.settles) };
  settles = λ w phase later left drained h.
      let asked = desks_asked phase.issues in
      let next = settle phase.moment asked phase.shows_routes w in
      record {
        drained = drained_begun next later (drained-settle phase.moment asked phase.shows_routes w ∙ drained);
        settles = omega (arith, settles_begun next later, settles-settle phase.moment asked phase.shows_routes w, h.settles);
      };
}

pub given_ends_drained : GivenEndsDrained
given_ends_drained lab turns settled =
    let count = length (phases lab) in
    let at_start : HasSettled count (begin (start lab) (phases lab)) (phases lab) turns = record {
      drained = drained_begun (start lab) (phases lab) (none_wait (length (wires (roles lab))));
      settles = omega (arith, settles_begun (start lab) (phases lab));
    } in
    let end = (keep_run_given (HasSettled count) (given_settles count) lab turns at_start).settled settled in
    record { drained = end.drained; settles = omega (arith, end.settles) }

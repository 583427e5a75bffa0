-- What each turn keeps is kept by rounds, and what issues and settles keep too, by a run by rounds.
use Rattle.std.proofs.Common.{◌≡◌, ℕ, zero, suc, ◌+◌, List, [], ◌∷◌, Bool, true, false, cond, ◌||◌, not, length, map, refl}
use Rattle.or_actor.specs.declared.output.Output.{Output}
use Rattle.net_laboratory.specs.Scenario.{Laboratory}
use Rattle.net_record.specs.declared.phase.Phase.{Phase}
use Rattle.net_record.specs.Phases.{phases}
use Rattle.net_record.specs.Answers.{desks_asked}
use Rattle.net_record.specs.World.{WorldState, start, turn, is_drained, issue, settle}
use Rattle.net_record.specs.Budget.{is_over}
use Rattle.net_record.specs.Rounds.{Marked, longest, turns_on, round, after_round, rounds_of, phase_of, settle_after, round_robin}
use Rattle.net_record.proofs.Counted.{round_from, rounds_from}
use Rattle.net_record.proofs.RoundRuns.{goes_on, drained-or}

-- a turn is done only where the budget isn't exceeded
abbrev pub TurnsKeep : (WorldState → Type 0) → Type 0
TurnsKeep P = (w : WorldState) (lane : ℕ) → is_over w ≡ false → P w → P (turn w lane (longest w lane))

-- a settle is done only where no item waits
pub record RunsKeep (P : WorldState → Type 0) : Type 0 where
  pub turns : TurnsKeep P
  pub issues : (w : WorldState) (issues : List Output) → P w → P (issue w issues)
  pub settles : (moment : ℕ) (asked : List ℕ) (shows : Bool) (w : WorldState) → is_drained w ≡ true → P w → P (settle moment asked shows w)

-- ---- rounds

module _ (P : WorldState → Type 0) (keep : TurnsKeep P) where
  keep_turns_if : (over : Bool) (w v : WorldState) → P w → (over ≡ false → P v) → P (cond over w v)
  keep_turns_if true w v h next = h
  keep_turns_if false w v h next = next refl

  keep_turns_on : (w : WorldState) (lane count : ℕ) → P w → P (turns_on w lane count)
  keep_turns_on w lane zero h = h
  keep_turns_on w lane (suc count) h =
      let v = turn w lane (longest w lane) in
      keep_turns_if (is_over w) w (turns_on v lane count) h (λ within. keep_turns_on v lane count (keep w lane within h))

  keep_round_from : (w : WorldState) (lane : ℕ) (counts : List ℕ) → P w → P (round_from w lane counts)
  keep_round_from w lane [] h = h
  keep_round_from w lane (count ∷ counts) h =
      let v = turns_on w lane count in
      keep_round_from v (lane + 1) counts (keep_turns_on w lane count h)

  keep_round : (w : WorldState) → P w → P (round w)
  unfolding round
  keep_round w h = keep_round_from w 0 (map length w.lanes) h

  keep_rounds_if : (stop : Bool) (m n : Marked) → P m.world → P n.world → P (cond stop m n).world
  keep_rounds_if true m n h next = h
  keep_rounds_if false m n h next = next

  -- the rounds of a phase
  pub keep_rounds_of : (m : Marked) (count : ℕ) → P m.world → P (rounds_of m count).world
  keep_rounds_of m zero h = h
  keep_rounds_of m (suc count) h =
      keep_rounds_if (is_drained m.world || is_over m.world) m (rounds_of (after_round m) count) h
      (keep_rounds_of (after_round m) count (keep_round m.world h))

-- ---- a run

module _ (P : WorldState → Type 0) (keep : RunsKeep P) where
  keep_phase_of : (m : Marked) (phase : Phase) → P m.world → P (phase_of m phase).world
  keep_phase_of m phase h =
      keep_rounds_of P keep.turns (record { world = issue m.world phase.issues; marks = m.marks }) phase.rounds (keep.issues m.world phase.issues h)

  keep_goes_on : (unsettled over : Bool) (number : ℕ) (phase : Phase) (done : Marked) (phases : List Phase) → is_over done.world || not (is_drained done.world) ≡ unsettled
      → P done.world → (P (settle_after phase done).world → P (rounds_from (number + 1) (settle_after phase done) phases).last.world)
      → P (goes_on unsettled over number done (settle_after phase done) phases).last.world
  keep_goes_on true over number phase done phases e h others = h
  keep_goes_on false true number phase done phases e h others =
      keep.settles phase.moment (desks_asked phase.issues) phase.shows_routes done.world (drained-or (is_over done.world) (is_drained done.world) e) h
  keep_goes_on false false number phase done phases e h others =
      others (keep.settles phase.moment (desks_asked phase.issues) phase.shows_routes done.world (drained-or (is_over done.world) (is_drained done.world) e) h)

  keep_rounds_from : (number : ℕ) (m : Marked) (phases : List Phase) → P m.world → P (rounds_from number m phases).last.world
  keep_rounds_from number m [] h = h
  keep_rounds_from number m (phase ∷ phases) h =
      let done = phase_of m phase in
      let next = settle_after phase done in
      keep_goes_on (is_over done.world || not (is_drained done.world)) (is_over next.world) number phase done phases refl (keep_phase_of m phase h)
      (keep_rounds_from (number + 1) next phases)

  pub keep_round_robin : (lab : Laboratory) → P (start lab) → P (round_robin lab).last.world
  unfolding round_robin
  keep_round_robin lab h = keep_rounds_from 1 (record { world = start lab; marks = [] }) (phases lab) h

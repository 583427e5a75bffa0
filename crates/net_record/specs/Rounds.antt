use Rattle.std.specs.Prelude.{ℕ, zero, suc, List, [], ◌∷◌, ◌++◌, length, map, fold, Option, Some, None, ◌||◌, not, if◌then◌else◌}
use Rattle.std.specs.List.{enumerate_from}
use Rattle.net_laboratory.specs.Scenario.{Laboratory}
use Rattle.net_record.specs.declared.phase.Phase.{Phase}
use Rattle.net_record.specs.Phases.{phases}
use Rattle.net_record.specs.Answers.{desks_asked}
use Rattle.net_record.specs.World.{WorldState, start, turn, range, is_drained, issue, settle}
use Rattle.net_record.specs.Budget.{is_over}

-- the length that the turn of a lane finds in a round: the greatest that it may find
abbrev pub longest : WorldState → ℕ → ℕ
longest w lane = (range w lane).most

-- so many turns of a lane, or fewer where the budget is exceeded
abbrev pub turns_on : WorldState → ℕ → ℕ → WorldState
turns_on w lane zero = w
turns_on w lane (suc count) = if is_over w then w else turns_on (turn w lane (longest w lane)) lane count

-- of each of these lanes, which are given with their numbers, so many turns
abbrev pub turns_on_lanes : WorldState → List (ℕ × ℕ) → WorldState
turns_on_lanes w lanes = fold (λ v lane. turns_on v lane.0 lane.1) w lanes

-- A round of round robin: of each lane, in order, as many turns as items wait on it as the round begins. What is put
-- on a lane in the round waits for the next. A round ends early where the budget is exceeded.
unfoldable pub round : WorldState → WorldState
round w = turns_on_lanes w (enumerate_from 0 (map length w.lanes))

-- a world, and how many turns were done as each round ended
pub record Marked : Type 0 where
  pub world : WorldState
  pub marks : List ℕ

abbrev pub after_round : Marked → Marked
after_round m = let w = round m.world in record { world = w; marks = m.marks ++ length w.turns ∷ [] }

-- rounds until no item waits or the budget is exceeded, at most so many
abbrev pub rounds_of : Marked → ℕ → Marked
rounds_of m zero = m
rounds_of m (suc count) = if is_drained m.world || is_over m.world then m else rounds_of (after_round m) count

-- how a run by rounds ends; where a phase didn't settle, with its number
pub record RoundsEnded : Type 0 where
  pub unsettled : Option ℕ
  pub last : Marked

-- the rounds of a phase
abbrev pub phase_of : Marked → Phase → Marked
phase_of m phase = rounds_of (record { world = issue m.world phase.issues; marks = m.marks }) phase.rounds

-- what a settle makes of the rounds of a phase
abbrev pub settle_after : Phase → Marked → Marked
settle_after phase m = record { world = settle phase.moment (desks_asked phase.issues) phase.shows_routes m.world; marks = m.marks }

-- The rounds of phases, which are given with their numbers. A phase is unsettled where an item still waits after its last round or
-- the budget is exceeded, also by its settle, and nothing is done after it.
abbrev pub rounds_of_phases : Marked → List (ℕ × Phase) → RoundsEnded
rounds_of_phases m [] = record { unsettled = None; last = m }
rounds_of_phases m (numbered ∷ later) =
    let done = phase_of m numbered.1 in
    let next = settle_after numbered.1 done in
    if is_over done.world || not (is_drained done.world) then record { unsettled = Some numbered.0; last = done }
    else if is_over next.world then record { unsettled = Some numbered.0; last = next }
    else rounds_of_phases next later

-- the run of a laboratory by round robin, its phases numbered from 1
unfoldable pub round_robin : Laboratory → RoundsEnded
round_robin lab = rounds_of_phases (record { world = start lab; marks = [] }) (enumerate_from 1 (phases lab))

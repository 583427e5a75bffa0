use Rattle.std.specs.Prelude.{◌≡◌, ℕ, List, [], ◌∷◌, length, map, Bool, true, false, not, ◌&&◌, if◌then◌else◌, Result, Ok, Err, None}
use Rattle.or_base.specs.TurnDone.{TurnDone}
use Rattle.net_laboratory.specs.Scenario.{Laboratory}
use Rattle.net_laboratory.specs.declared.schedule.Turn.{Turn}
use Rattle.net_record.specs.declared.phase.Phase.{Phase}
use Rattle.net_record.specs.Phases.{phases}
use Rattle.net_record.specs.Actors.{is_in_range}
use Rattle.net_record.specs.Answers.{desks_asked}
use Rattle.net_record.specs.World.{WorldState, start, turn, range, waiting, is_empty, is_drained, issue, settle}
use Rattle.net_record.specs.Rounds.{round_robin}

-- a world, and the phases that aren't settled; the first of these has begun
pub record Progress : Type 0 where
  pub world : WorldState
  pub unsettled : List Phase

-- the first of the phases begins
abbrev pub begin : WorldState → List Phase → WorldState
begin w [] = w
begin w (phase ∷ phases) = issue w phase.issues

-- A phase ends at the first moment when no item waits. Its settle is done then, and the next phase begins.
abbrev pub advance : WorldState → List Phase → Progress
advance w [] = record { world = w; unsettled = [] }
advance w (phase ∷ phases) =
    if is_drained w then advance (begin (settle phase.moment (desks_asked phase.issues) phase.shows_routes w) phases) phases else record { world = w; unsettled = phase ∷ phases }

-- A turn is legal where an item waits on its lane and its length is one that it may find: only a desk finds a length, and
-- that of every other turn is 0.
abbrev pub is_legal : WorldState → Turn → Bool
is_legal w t = not (is_empty (waiting w t.lane)) && is_in_range (range w t.lane) t.at

abbrev pub is_open : List Phase → Bool
is_open [] = false
is_open (phase ∷ phases) = true

-- The world after these turns. The first turn that isn't legal or comes after the last settle ends the run, and so
-- does their end before the last settle: the answer is then the number of turns done.
abbrev pub run_from : Progress → List Turn → Result WorldState ℕ
run_from p [] = if is_open p.unsettled then Err (length p.world.turns) else Ok p.world
run_from p (t ∷ ts) =
    if is_open p.unsettled && is_legal p.world t
    then run_from (advance (turn p.world t.lane t.at) p.unsettled) ts
    else Err (length p.world.turns)

-- the run of a laboratory under a schedule
unfoldable pub run : Laboratory → List Turn → Result WorldState ℕ
run lab turns = run_from (advance (begin (start lab) (phases lab)) (phases lab)) turns

-- the turns of a schedule that were done
abbrev pub schedule_of : List TurnDone → List Turn
schedule_of turns = map (λ t. record { lane = t.lane; at = t.at }) turns

-- where round robin settles every phase, it ends in the world of the run under the schedule of its own turns
abbrev pub RoundsAreARun : Type 0
RoundsAreARun =
    (lab : Laboratory) → (round_robin lab).unsettled ≡ None
    → run lab (schedule_of (round_robin lab).last.world.turns) ≡ Ok (round_robin lab).last.world

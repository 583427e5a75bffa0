-- A run under given turns, within the budget.
use Rattle.std.specs.Prelude.{◌≡◌, ℕ, ◌+◌, List, [], ◌∷◌, length, Option, Some, None, Result, Ok, Err, Bool, not, ◌&&◌, if◌then◌else◌}
use Rattle.net_laboratory.specs.Scenario.{Laboratory}
use Rattle.net_laboratory.specs.declared.schedule.Turn.{Turn}
use Rattle.net_record.specs.declared.phase.Phase.{Phase}
use Rattle.net_record.specs.Phases.{phases}
use Rattle.net_record.specs.Answers.{desks_asked}
use Rattle.net_record.specs.World.{WorldState, start, turn, is_drained, settle}
use Rattle.net_record.specs.Budget.{is_too_heavy, has_spent_turns}
use Rattle.net_record.specs.Run.{Progress, begin, is_legal, is_open, run, schedule_of}
use Rattle.net_record.specs.Rounds.{round_robin}
use Rattle.net_record.specs.Records.{record_of}
use Rattle.net_record.specs.Reached.{IsOfARun}

-- why a run under given turns came to no settle of its last phase
pub data GivenFault : Type 0 where
  -- the turn with this index isn't legal, comes after the last settle, or is missing before it
  BadTurn : ℕ → GivenFault
  -- in the phase with this number, or by the settle that ends it, the budget is exceeded
  OverBudget : ℕ → GivenFault

-- how a run under given turns ends, and the world to which it comes
pub record GivenEnded : Type 0 where
  pub fault : Option GivenFault
  pub last : WorldState

-- What a turn or the start of a run comes to, with the settles that are due then: the run goes on from there, or the budget is
-- exceeded in the phase with this number.
pub data Stage : Type 0 where
  GoesOn : Progress → Stage
  Exceeds : ℕ → WorldState → Stage

abbrev pub is_heavy : WorldState → Bool
is_heavy w = is_too_heavy w.turns w.settles

-- The settles of the phases that end while no item waits. A settle by which too much was done is the last.
abbrev pub settles_within : WorldState → List Phase → Stage
settles_within w [] = GoesOn (record { world = w; unsettled = [] })
settles_within w (phase ∷ phases) =
    let next = settle phase.moment (desks_asked phase.issues) phase.shows_routes w in
    if not (is_drained w) then GoesOn (record { world = w; unsettled = phase ∷ phases })
    else if is_heavy next then Exceeds (length next.settles) next
    else settles_within (begin next phases) phases

-- a turn of the phase that has begun, and the settles that are due then
abbrev pub turn_within : Progress → Turn → Stage
turn_within p t =
    let next = turn p.world t.lane t.at in
    if is_heavy next then Exceeds (length next.settles + 1) next else settles_within next p.unsettled

-- The run of these turns. A turn that isn't legal or comes after the last settle ends it, with its index, and so does
-- their end before the last settle. It ends too where the budget is exceeded: too much was done, or a turn is legal and no
-- further one may be done.
abbrev pub given_from : Stage → List Turn → GivenEnded
given_from (Exceeds phase w) turns = record { fault = Some (OverBudget phase); last = w }
given_from (GoesOn p) [] = record { fault = if is_open p.unsettled then Some (BadTurn (length p.world.turns)) else None; last = p.world }
given_from (GoesOn p) (t ∷ ts) =
    if not (is_open p.unsettled && is_legal p.world t) then record { fault = Some (BadTurn (length p.world.turns)); last = p.world }
    else if has_spent_turns p.world.turns then record { fault = Some (OverBudget (length p.world.settles + 1)); last = p.world }
    else given_from (turn_within p t) ts

-- the run of a laboratory under given turns
unfoldable pub run_given : Laboratory → List Turn → GivenEnded
run_given lab turns = given_from (settles_within (begin (start lab) (phases lab)) (phases lab)) turns

-- Where the budget isn't exceeded, it is the run of the same turns without a budget.
abbrev pub IsWithoutBudget : GivenEnded → Result WorldState ℕ → Type 0
IsWithoutBudget ended run = (ended.fault ≡ None → run ≡ Ok ended.last) × ((index : ℕ) → ended.fault ≡ Some (BadTurn index) → run ≡ Err index)

abbrev pub GivenIsARun : Type 0
GivenIsARun = (lab : Laboratory) (turns : List Turn) → IsWithoutBudget (run_given lab turns) (run lab turns)

-- Where round robin settles every phase, the run under the turns that it did ends as it did.
abbrev pub RoundsAreGiven : Type 0
RoundsAreGiven =
    (lab : Laboratory) → (round_robin lab).unsettled ≡ None
    → run_given lab (schedule_of (round_robin lab).last.world.turns) ≡ record { fault = None; last = (round_robin lab).last.world }

-- Where it settles every phase, the turns that it did are those that were given.
abbrev pub GivenAreDone : Type 0
GivenAreDone = (lab : Laboratory) (turns : List Turn) → (run_given lab turns).fault ≡ None → schedule_of (run_given lab turns).last.turns ≡ turns

-- Round robin and a run under given turns are runs, as far as they come.
abbrev pub RoundsAreReached : Type 0
RoundsAreReached = (lab : Laboratory) → IsOfARun lab (record_of (round_robin lab).last.world (round_robin lab).last.marks)

abbrev pub GivenIsReached : Type 0
GivenIsReached = (lab : Laboratory) (turns : List Turn) → IsOfARun lab (record_of (run_given lab turns).last [])

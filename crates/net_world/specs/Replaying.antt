-- A run under given turns in parts: its settles, its turns, and how it ends.
use Rattle.std.specs.Prelude.{◌≡◌, ℕ, List, [], ◌∷◌, Option, Some, None, option_map, Bool, not, ◌&&◌}
use Rattle.net_laboratory.specs.declared.schedule.Turn.{Turn}
use Rattle.net_record.specs.declared.phase.Phase.{Phase}
use Rattle.net_record.specs.Actors.{is_in_range}
use Rattle.net_record.specs.Answers.{desks_asked}
use Rattle.net_record.specs.World.{WorldState, range, waiting, is_empty, is_drained, settle}
use Rattle.net_record.specs.Run.{Progress, begin, is_open}
use Rattle.net_record.specs.Given.{GivenFault, GivenEnded, Stage, given_from}
use Rattle.net_record.specs.Given.GivenFault.{BadTurn, OverBudget}
use Rattle.net_record.specs.Given.Stage.{GoesOn, Exceeds}
use Rattle.net_world.specs.declared.given.TurnFault.{TurnFault}
use Rattle.net_world.specs.declared.given.TurnFault.TheVariants.{Bad, Over}

-- an item waits on the lane, and its turn may find this length
abbrev pub may_find : WorldState → ℕ → ℕ → Bool
may_find w lane at = not (is_empty (waiting w lane)) && is_in_range (range w lane) at

-- a phase has begun, and no item waits
abbrev pub is_due : Progress → Bool
is_due p = is_open p.unsettled && is_drained p.world

-- the first of these phases is settled
abbrev pub settled_first : WorldState → List Phase → Progress
settled_first w [] = record { world = w; unsettled = [] }
settled_first w (phase ∷ phases) = record { world = settle phase.moment (desks_asked phase.issues) phase.shows_routes w; unsettled = phases }

-- the first of the phases begins
abbrev pub begun : Progress → Progress
begun p = record { world = begin p.world p.unsettled; unsettled = p.unsettled }

-- the run goes on from here, or the budget was exceeded in the phase with this number
abbrev pub stage_of : Option ℕ → Progress → Stage
stage_of None p = GoesOn p
stage_of (Some phase) p = Exceeds phase p.world

abbrev pub fault_of : TurnFault → GivenFault
fault_of (Bad index) = BadTurn index
fault_of (Over phase) = OverBudget phase

-- the run ended here
abbrev pub ended : Option TurnFault → Progress → GivenEnded
ended fault p = record { fault = option_map fault_of fault; last = p.world }

-- the run goes on from here with these turns, or ended
abbrev pub after_turn : Option TurnFault → Progress → List Turn → GivenEnded
after_turn None p later = given_from (GoesOn p) later
after_turn (Some fault) p later = ended (Some fault) p

-- this came of a turn, whatever turns come later
pub record IsAfterTurn (before : Progress) (t : Turn) (fault : Option TurnFault) (after : Progress) : Type 0 where
  pub later : (turns : List Turn) → after_turn fault after turns ≡ given_from (GoesOn before) (t ∷ turns)

-- the turn that is missing after so many, where a phase is left
abbrev pub missing : List Phase → ℕ → Option TurnFault
missing [] count = None
missing (phase ∷ phases) count = Some (Bad count)

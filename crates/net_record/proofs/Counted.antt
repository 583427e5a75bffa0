-- The lanes of a round and the phases of a run, numbered from a number on: the form that inductions over them take.
use Rattle.std.proofs.Common.{ℕ, List}
use Rattle.std.specs.List.{enumerate_from}
use Rattle.net_record.specs.declared.phase.Phase.{Phase}
use Rattle.net_record.specs.World.{WorldState}
use Rattle.net_record.specs.Rounds.{Marked, RoundsEnded, turns_on_lanes, rounds_of_phases}

-- so many turns of each lane, from this one on
abbrev pub round_from : WorldState → ℕ → List ℕ → WorldState
round_from w lane counts = turns_on_lanes w (enumerate_from lane counts)

-- the rounds of phases, of which the first has this number
abbrev pub rounds_from : ℕ → Marked → List Phase → RoundsEnded
rounds_from number m phases = rounds_of_phases m (enumerate_from number phases)

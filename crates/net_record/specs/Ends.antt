use Rattle.std.specs.Prelude.{◌≡◌, List, length, true, None}
use Rattle.net_laboratory.specs.Scenario.{Laboratory}
use Rattle.net_laboratory.specs.declared.schedule.Turn.{Turn}
use Rattle.net_record.specs.Phases.{phases}
use Rattle.net_record.specs.World.{WorldState, is_drained}
use Rattle.net_record.specs.Rounds.{round_robin}
use Rattle.net_record.specs.Given.{run_given}

-- no item waits in the world, and each phase of the laboratory has its settle
pub record EndsDrained (lab : Laboratory) (last : WorldState) : Type 0 where
  pub drained : is_drained last ≡ true
  pub settles : length last.settles ≡ length (phases lab)

-- so it is where round robin settles every phase
abbrev pub SettledRoundsEndDrained : Type 0
SettledRoundsEndDrained = (lab : Laboratory) → (round_robin lab).unsettled ≡ None → EndsDrained lab (round_robin lab).last.world

-- and where a run under given turns does
abbrev pub GivenEndsDrained : Type 0
GivenEndsDrained = (lab : Laboratory) (turns : List Turn) → (run_given lab turns).fault ≡ None → EndsDrained lab (run_given lab turns).last

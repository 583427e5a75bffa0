-- How a run under given turns ends.
use Rattle.std.specs.Prelude.{◌≡◌, ℕ, [], Some, None, Result, Err}
use Rattle.net_record.specs.declared.record.Record.{Record}
use Rattle.net_record.specs.Given.{GivenEnded}
use Rattle.net_record.specs.Given.GivenFault.{BadTurn as NamesTurn, OverBudget as NamesPhase}
use Rattle.net_record.specs.Records.{record_of}
use Rattle.net_record.specs.World.{WorldState}
use Rattle.net_world.specs.declared.fault.ReplayFault.{ReplayFault}
use Rattle.net_world.specs.declared.fault.ReplayFault.TheVariants.{BadTurn, Unsettled, NoMemory}

-- the record is that of a run under given turns that settled every phase; it has no marks
pub record IsGivenRecord (ended : GivenEnded) (done : Record) : Type 0 where
  pub settled : ended.fault ≡ None
  pub all : done ≡ record_of ended.last []

-- the fault is that of a run under given turns
abbrev pub IsGivenFault : GivenEnded → ReplayFault → Type 0
IsGivenFault ended (BadTurn index) = ended.fault ≡ Some (NamesTurn index)
IsGivenFault ended (Unsettled settle) = ended.fault ≡ Some (NamesPhase settle)
IsGivenFault ended NoMemory = Unit {0}

-- a turn that it names as bad is the one at which the run of the same turns without a budget ends
abbrev pub NamesBadTurn : Result WorldState ℕ → ReplayFault → Type 0
NamesBadTurn run (BadTurn index) = run ≡ Err index
NamesBadTurn run (Unsettled settle) = Unit {0}
NamesBadTurn run NoMemory = Unit {0}

use Rattle.net_laboratory.specs.Scenario.{Laboratory}
use Rattle.net_record.specs.Rounds.{RoundsEnded}
use Rattle.net_record.specs.Records.{IsUnsettled}
use Rattle.net_record.specs.Tells.{RecordTells}
use Rattle.net_answers.specs.Recorded.{RecordAnswers}
use Rattle.net_agree.specs.Recorded.{RecordAgrees}
use Rattle.net_world.specs.declared.fault.RunFault.{RunFault}
use Rattle.net_world.specs.declared.fault.RunFault.TheVariants.{Unsettled, NoMemory}

-- the fault is that of a run by rounds: it names the phase that is unsettled, and has the record up to there
abbrev pub IsFaultOf : RoundsEnded → RunFault → Type 0
IsFaultOf ended (Unsettled settle done) = IsUnsettled ended settle done
IsFaultOf ended NoMemory = Unit {0}

-- what the record of an unsettled run tells
abbrev pub FaultTells : Laboratory → RunFault → Type 0
FaultTells lab (Unsettled settle done) = RecordTells lab done
FaultTells lab NoMemory = Unit {0}

-- its answers and routes are what its journals tell
abbrev pub FaultAnswers : Laboratory → RunFault → Type 0
FaultAnswers lab (Unsettled settle done) = RecordAnswers lab done
FaultAnswers lab NoMemory = Unit {0}

-- the stores of its record agree at its settles
abbrev pub FaultAgrees : Laboratory → RunFault → Type 0
FaultAgrees lab (Unsettled settle done) = RecordAgrees lab done
FaultAgrees lab NoMemory = Unit {0}

-- What the readers answer is what the definitions give, unless memory runs out.
use Rattle.std.specs.Prelude.{◌≡◌, Result, Ok, Err, ⊤}
use Rattle.net_scenario.specs.declared.statement.Statement.{Statement}
use Rattle.net_scenario.specs.declared.fault.FaultKind.{FaultKind}
use Rattle.net_scenario.specs.declared.fault.LineRefusal.{LineRefusal}
use Rattle.net_scenario.specs.declared.fault.LineRefusal.TheVariants as refusal
use Rattle.net_scenario.specs.declared.fault.ScenarioFault.{ScenarioFault}
use Rattle.net_scenario.specs.declared.fault.ReadRefusal.{ReadRefusal}
use Rattle.net_scenario.specs.declared.fault.ReadRefusal.TheVariants as whole
use Rattle.net_laboratory.specs.Scenario.{Laboratory}
use Rattle.net_scenario.specs.Seen.{Seen}

-- of one line
abbrev pub Gives : Result Statement LineRefusal → Result Statement FaultKind → Type 0
Gives (Ok statement) read = read ≡ Ok statement
Gives (Err (refusal.Fault kind)) read = read ≡ Err kind
Gives (Err refusal.NoMemory) read = Unit {0}

-- of one line, which changes what is seen
abbrev pub GivesSeen : Seen → Result ⊤ ReadRefusal → Result Seen ScenarioFault → Type 0
GivesSeen seen (Ok _) read = read ≡ Ok seen
GivesSeen seen (Err (whole.Fault fault)) read = read ≡ Err fault
GivesSeen seen (Err whole.NoMemory) read = Unit {0}

-- of the whole
abbrev pub GivesScenario : Result Laboratory ReadRefusal → Result Laboratory ScenarioFault → Type 0
GivesScenario (Ok scenario) read = read ≡ Ok scenario
GivesScenario (Err (whole.Fault fault)) read = read ≡ Err fault
GivesScenario (Err whole.NoMemory) read = Unit {0}

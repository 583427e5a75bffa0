-- The faults of a line, each with its number and its name.
use Rattle.std.specs.Prelude.{ℕ, List, codes}
use Rattle.net_scenario.specs.declared.fault.FaultKind.{FaultKind}
use Rattle.net_scenario.specs.declared.fault.FaultKind.TheVariants as fault

abbrev pub fault_number : FaultKind → ℕ
fault_number fault.NotText = 1
fault_number fault.BadJson = 2
fault_number fault.NoLab = 3
fault_number fault.UnknownCommand = 4
fault_number fault.MissingField = 5
fault_number fault.BadField = 6
fault_number fault.UnknownName = 7
fault_number fault.RepeatedName = 8
fault_number fault.TwoOwners = 9
fault_number fault.TooMany = 10
fault_number fault.TooLong = 11
fault_number fault.BadPrefix = 12
fault_number fault.BadScript = 13
fault_number fault.WrongKind = 14

abbrev pub fault_name : FaultKind → List ℕ
fault_name fault.NotText = codes "NotText"
fault_name fault.BadJson = codes "BadJson"
fault_name fault.NoLab = codes "NoLab"
fault_name fault.UnknownCommand = codes "UnknownCommand"
fault_name fault.MissingField = codes "MissingField"
fault_name fault.BadField = codes "BadField"
fault_name fault.UnknownName = codes "UnknownName"
fault_name fault.RepeatedName = codes "RepeatedName"
fault_name fault.TwoOwners = codes "TwoOwners"
fault_name fault.TooMany = codes "TooMany"
fault_name fault.TooLong = codes "TooLong"
fault_name fault.BadPrefix = codes "BadPrefix"
fault_name fault.BadScript = codes "BadScript"
fault_name fault.WrongKind = codes "WrongKind"

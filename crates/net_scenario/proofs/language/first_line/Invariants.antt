use Rattle.std.proofs.Common.{◌-◌, length}
use Rattle.net_scenario.proofs.Cuts.{IsFront}
use Rattle.net_scenario.proofs.language.first_line.Given as goal

abbrev pub invariant-loop-count : goal.invariant-loop-count
invariant-loop-count l = IsFront l.bytes l.count

abbrev pub decreases-loop-count : goal.decreases-loop-count
decreases-loop-count l = length l.bytes - l.count

use Rattle.std.proofs.Common.{◌≡◌, length}
use Rattle.or_prefix.specs.Reading.{pieces}
use Rattle.or_prefix.proofs.GroupSteps.{groups_after}
use Rattle.or_prefix.proofs.v6.read_groups.Given as goal

-- what is left gives what all of it gives
abbrev pub invariant-loop-group : goal.invariant-loop-group
invariant-loop-group l = groups_after l.groups.bits l.groups.count (pieces 58 l.rest) ≡ groups_after 0 0 (pieces 58 l.text)

abbrev pub decreases-loop-group : goal.decreases-loop-group
decreases-loop-group l = length l.rest

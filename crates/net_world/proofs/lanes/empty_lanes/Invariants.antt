use Rattle.std.proofs.Common.{◌≡◌, [], replicate}
use Rattle.net_world.proofs.lanes.empty_lanes.Given as goal

abbrev pub invariant-loop-lane : goal.invariant-loop-lane
invariant-loop-lane l = l.lanes.items ≡ replicate l._lane []

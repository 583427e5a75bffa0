use Rattle.std.proofs.Common.{◌≡◌, ℕ, ◌++◌, ◌<◌, length, map}
use Rattle.std.specs.Prelude.{All}
use Rattle.net_world.specs.Busy.{busy_at}
use Rattle.net_world.proofs.lanes.busy_of.Given as goal

-- the lanes so far and those that are left, which are there
abbrev pub invariant-loop-lane : goal.invariant-loop-lane
invariant-loop-lane l = record {
  found : l.found.items ++ map (busy_at l.lanes) l.lane-iterator ≡ map (busy_at l.lanes) l.busy.keys;
  there : All (λ (n : ℕ). n < length l.lanes) l.lane-iterator;
}

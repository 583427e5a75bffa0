use Rattle.std.proofs.Common.{◌≡◌}
use Rattle.prefix_manager.specs.Aggregates.{counted_over}
use Rattle.prefix_manager.proofs.aggregate.counted.Given as goal

-- the routes that are left
abbrev pub invariant-loop-route : goal.invariant-loop-route
invariant-loop-route l = counted_over l.counted l.route-iterator ≡ counted_over (record { prefix = l.fn.prefix; least = l.least; count = 0 }) l.routed.keys

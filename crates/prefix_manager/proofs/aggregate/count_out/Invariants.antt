use Rattle.std.proofs.Common.{◌≡◌, ◌++◌, map, take, drop}
use Rattle.prefix_manager.specs.Aggregates.{counted_out}
use Rattle.prefix_manager.proofs.aggregate.count_out.Given as goal

-- those that were counted, and those that are left
abbrev pub invariant-loop-aggregate : goal.invariant-loop-aggregate
invariant-loop-aggregate l =
    take l.aggregate-index l.aggregates ++ map (counted_out l.prefix) (drop l.aggregate-index l.aggregates) ≡ map (counted_out l.prefix) l.initial.aggregates

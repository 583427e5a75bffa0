use Rattle.std.proofs.Common.{◌≡◌, fold, drop}
use Rattle.prefix_manager.specs.Aggregates.{with_counted}
use Rattle.prefix_manager.proofs.advertising.with_aggregates.Given as goal

-- the aggregates that are left
abbrev pub invariant-loop-aggregate : goal.invariant-loop-aggregate
invariant-loop-aggregate l = fold with_counted l.all.entries (drop l.aggregate-index l.aggregates) ≡ fold with_counted l.entries.entries l.aggregates

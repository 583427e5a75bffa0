use Rattle.std.proofs.Common.{◌≡◌, ◌++◌}
use Rattle.std.specs.Vec.Iter.{into_iter_items}
use Rattle.net_record.specs.World.{with_routes}
use Rattle.net_record.proofs.stores.with_routes.Given as goal

-- the marks so far and those that are left, with the routes that are left
abbrev pub invariant-loop-mark : goal.invariant-loop-mark
invariant-loop-mark l = l.told.items ++ with_routes (into_iter_items l.mark-iterator) (into_iter_items l.routes) ≡ with_routes (into_iter_items l.initial.mark-iterator) (into_iter_items l.initial.routes)

use Rattle.std.proofs.Common.{◌≡◌, ◌++◌, drop}
use Rattle.net_record.specs.World.{all_routes}
use Rattle.net_record.proofs.stores.all_routes.Given as goal

-- the routes so far and those of the actors that are left
abbrev pub invariant-loop-actor : goal.invariant-loop-actor
invariant-loop-actor l = l.all.items ++ all_routes (drop l.actor-index l.actors) ≡ all_routes l.actors

use Rattle.std.proofs.Common.{◌≡◌, ◌++◌, drop}
use Rattle.net_record.specs.World.{all_fibs}
use Rattle.net_record.proofs.stores.all_fibs.Given as goal

-- the Fibs so far and those of the actors that are left
abbrev pub invariant-loop-actor : goal.invariant-loop-actor
invariant-loop-actor l = l.all.items ++ all_fibs (drop l.actor-index l.actors) ≡ all_fibs l.actors

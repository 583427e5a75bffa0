use Rattle.std.proofs.Common.{◌≡◌, max, drop}
use Rattle.net_record.specs.World.{greatest_clock}
use Rattle.net_world.proofs.clocks.greatest_clock.Given as goal

-- the greatest so far, and that of the actors that are left
abbrev pub invariant-loop-actor : goal.invariant-loop-actor
invariant-loop-actor l = max l.greatest (greatest_clock (drop l.actor-index l.actors)) ≡ greatest_clock l.actors

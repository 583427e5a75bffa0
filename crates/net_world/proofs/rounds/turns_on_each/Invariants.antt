use Rattle.std.proofs.Common.{◌≡◌}
use Rattle.std.specs.Vec.Iter.{into_iter_items}
use Rattle.net_world.specs.Busy.{turns_on_each}
use Rattle.net_world.proofs.rounds.turns_on_each.Given as goal

-- what is left of the round gives what all of it gives
abbrev pub invariant-loop-busy : goal.invariant-loop-busy
invariant-loop-busy l = turns_on_each l.world (into_iter_items l.busy-iterator) ≡ turns_on_each l.fn.world (into_iter_items l.initial.busy-iterator)

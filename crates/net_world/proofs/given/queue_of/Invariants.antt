use Rattle.std.proofs.Common.{◌≡◌, ◌++◌}
use Rattle.std.specs.Vec.Iter.{into_iter_items}
use Rattle.net_world.proofs.given.queue_of.Given as goal

-- those that are left stand behind those so far
abbrev pub invariant-loop-phase : goal.invariant-loop-phase
invariant-loop-phase l = l.queue.items ++ into_iter_items l.phase-iterator ≡ into_iter_items l.initial.phase-iterator

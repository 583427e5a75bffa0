use Rattle.std.proofs.Common.{◌≡◌, ◌++◌, length, map, take, drop}
use Rattle.net_record.specs.Actors.{actor_after_settle}
use Rattle.net_world.proofs.clocks.settle_each.Given as goal

-- the actors so far are settled, and those that are left have yet to be
abbrev pub invariant-loop-number : goal.invariant-loop-number
invariant-loop-number l = record {
  len : length l.actors.items ≡ length l.fn.actors.items;
  settled : take l.number l.actors.items ++ map (actor_after_settle l.clock l.counts) (drop l.number l.actors.items) ≡ map (actor_after_settle l.clock l.counts) l.fn.actors.items;
}

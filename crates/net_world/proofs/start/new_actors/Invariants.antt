use Rattle.std.proofs.Common.{◌≡◌, map, take}
use Rattle.net_record.specs.Actors.{new_actor}
use Rattle.net_world.proofs.start.new_actors.Given as goal

abbrev pub invariant-loop-role : goal.invariant-loop-role
invariant-loop-role l = l.actors.items ≡ map (new_actor l.kind) (take l.role-index l.all)

use Rattle.std.proofs.Common.{rules}
use Rattle.net_world.proofs.Soundness.{sound_start}
use Rattle.net_world.proofs.Weighed.{weighs_nothing}
use Rattle.net_world.proofs.world.World.new.Goals as goal

pub invariant_of-result : goal.invariant_of-result
invariant_of-result c = record {
  sound =
      sound_start c.args.scenario.now.kind c.in_ok-wiring.wiring c.in_ok-all.all.items c.in_ok-lanes.lanes c.in_ok-actors.actors.items c.new-turns.result.items c.new-settles.result.items
      (search rules) (search rules) (search rules) (search rules) (search rules) (search rules);
  weighed = weighs_nothing c.new-turns.result.items c.new-settles.result.items (search rules) (search rules);
}

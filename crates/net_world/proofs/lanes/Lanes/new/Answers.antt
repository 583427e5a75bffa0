use Rattle.std.proofs.Common.{rules}
use Rattle.net_world.proofs.Busied.{busy_none}
use Rattle.net_world.proofs.lanes.Lanes.new.Goals as goal

pub invariant_of-result : goal.invariant_of-result
invariant_of-result c = busy_none c.args.count c.in_ok-empty_lanes.field-0.items c.new.result.keys (search rules) (search rules)

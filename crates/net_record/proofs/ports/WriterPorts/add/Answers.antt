use Rattle.std.proofs.Common.{rules}
use Rattle.std.specs.BTreeMap.{get}
use Rattle.std.specs.Ordering.{nat_cmp}
use Rattle.net_record.proofs.Ported.{lane_more}
use Rattle.net_record.proofs.ports.WriterPorts.add.Goals as goal

pub invariant_of-self-2 : goal.invariant_of-self-2
invariant_of-self-2 c =
    lane_more c.self.inside.ports.items c.push_reserved.new.self.items c.args.port (get nat_cmp c.self.inside.lanes) (get nat_cmp c.add_lane.new.lanes)
    (search rules) c.self.invariant c.in_ok-add_lane.ensures.ok

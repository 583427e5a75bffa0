use Rattle.std.proofs.Common.{◌≡◌, ◌<◌, [], length, set, refl, ◌∙◌, rules}
use Rattle.std.proofs.lemmas.List.{get_or_read}
use Rattle.net_world.proofs.Busied.{busy_put, busy_back}
use Rattle.net_world.proofs.lanes.Lanes.put_on.Goals as goal

pub invariant_of-self-in-Err : goal.invariant_of-self-in-Err
invariant_of-self-in-Err c =
    let i = c.self.inside in
    let within : c.args.lane < length i.lanes.items = search rules in
    let same : c.put.new.self ≡ c.index_mut-items.result.now = search rules in
    busy_back i.lanes.items (set i.lanes.items c.args.lane c.put.new.self) i.busy.keys c.mark.new.busy.keys c.unmark.new.busy.keys c.args.lane c.put.new.self c.args.item
    c.is_lane_empty-was_empty.result c.self.invariant within (same ∙ get_or_read i.lanes.items c.args.lane c.index_mut-items.result.now within (search rules) [])
    (search rules) (search rules) (search rules) refl

pub invariant_of-self-in_default : goal.invariant_of-self-in_default
invariant_of-self-in_default c =
    let i = c.self.inside in
    let within : c.args.lane < length i.lanes.items = search rules in
    busy_put i.lanes.items (set i.lanes.items c.args.lane c.put.new.self) i.busy.keys c.mark.new.busy.keys c.args.lane c.index_mut-items.result.now c.put.new.self c.args.item
    c.is_lane_empty-was_empty.result c.self.invariant within (get_or_read i.lanes.items c.args.lane c.index_mut-items.result.now within (search rules) [])
    (search rules) (search rules) (search rules) refl

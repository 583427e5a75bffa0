use Rattle.std.proofs.Common.{◌≡◌, [], false, get_or, set, refl, ap, ◌∙◌, rules}
use Rattle.net_record.specs.World.{is_empty}
use Rattle.std.proofs.lemmas.Bool.{not-true}
use Rattle.net_world.proofs.Busied.{busy_taken}
use Rattle.net_world.proofs.Soundness.{within_waiting}
use Rattle.net_world.proofs.lanes.Lanes.take.Goals as goal

pub invariant_of-self : goal.invariant_of-self
invariant_of-self c =
    let i = c.self.inside in
    let waits : is_empty (get_or i.lanes.items c.args.lane []) ≡ false =
    ap (λ ls. is_empty (get_or ls c.args.lane [])) c.self.view_is ∙ not-true (is_empty (get_or c.args.self.now c.args.lane [])) c.requires
    in
    busy_taken i.lanes.items (set i.lanes.items c.args.lane c.take-taken.new.self) i.busy.keys c.unmark.new.busy.keys c.args.lane c.take-taken.new.self c.is_empty-is_empty.result c.self.invariant
    (within_waiting i.lanes.items c.args.lane waits) waits (search rules) (search rules) refl

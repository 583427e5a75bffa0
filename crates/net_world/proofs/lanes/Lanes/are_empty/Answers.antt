use Rattle.std.proofs.Common.{ap, ◌∙◌}
use Rattle.std.specs.List.{list_all}
use Rattle.net_record.specs.World.{is_empty}
use Rattle.net_world.proofs.Busied.{empty_by}
use Rattle.net_world.proofs.lanes.Lanes.are_empty.Goals as goal

pub returns : goal.returns
returns c =
    let i = c.self.inside in
    empty_by i.lanes.items i.busy.keys c.is_empty.result c.self.invariant c.is_empty.ensures ∙ ap (list_all is_empty) c.self.view_is

use Rattle.std.proofs.Common.{ap, ◌∙◌}
use Rattle.net_record.specs.World.{WorldState}
use Rattle.net_record.specs.Given.{is_heavy}
use Rattle.net_world.proofs.Weighed.{heavy_by}
use Rattle.net_world.proofs.world.World.is_heavy.Goals as goal

pub returns : goal.returns
returns c =
    let i = c.self.inside in
    let w : WorldState = record { wires = i.wiring; lanes = i.lanes; actors = i.actors.items; turns = i.turns.items; settles = i.settles.items } in
    heavy_by w i.weight c.self.invariant.weighed ∙ ap is_heavy c.self.view_is

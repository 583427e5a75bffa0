use Rattle.std.proofs.Common.{ap, ◌∙◌, rules}
use Rattle.net_record.specs.Wires.{lane_of}
use Rattle.net_record.proofs.Ported.{lane_found}
use Rattle.net_record.proofs.ports.Wiring.lane.Goals as goal

pub returns-in-Some : goal.returns-in-Some
returns-in-Some c =
    let i = c.self.inside in
    lane_found i.wires.items i.ports.items c.args.writer c.args.port c.in-Some.own.now c.lane.result c.self.invariant (search rules) (search rules)
    ∙ ap (λ ws. lane_of ws c.args.writer c.args.port) c.self.view_is

use Rattle.std.proofs.Common.{◌≡◌, [], arith}
use Rattle.std.proofs.lemmas.Grind.{common_steps}
use Rattle.net_report.proofs.Hops.{routes_left, no_routes_left}
use Rattle.net_report.proofs.text.routes_text.Goals as goal

pub returns : goal.returns
returns c =
    let none : routes_left c.loop-node.node-iterator ≡ [] = no_routes_left c.loop-node.node-iterator c.next.new.self c.next.result c.in-None.is c.next.ensures.steps in
    grind (arith, common_steps)

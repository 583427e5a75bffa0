use Rattle.std.proofs.Common.{◌≡◌, ◌≤◌, length, rules}
use Rattle.ls_records.specs.Change.{known_after}
use Rattle.decision_core.specs.History.{TellRoutes, route_then}
use Rattle.decision_core.specs.Scratch.{routes_over}
use Rattle.ls_routes.specs.Routes.{route_to}
use Rattle.decision_core.proofs.Kept.{told_then}
use Rattle.decision_core.proofs.decision.DecisionModule.route_at.Goals as goal

pub returns : goal.returns
returns c =
    let i = c.self.inside in
    let s = c.args.self.now in
    let is : (c.in-Some.routing ≡ known_after s.me s.taken) × TellRoutes i.history s.me s.taken = search rules in
    let since : i.history.since ≤ c.args.at = search rules in
    let within : c.args.at ≤ length s.taken = search rules in
    let found : c.in_ok-route_then.field-0 ≡ route_then i.history.replaced c.args.at c.args.prefix.now (route_to (routes_over c.in-Some.routing) c.args.prefix.now) = search rules in
    told_then s c.in-Some.routing i.history c.args.at c.args.prefix.now c.in_ok-route_then.field-0 is.0 is.1 since within found

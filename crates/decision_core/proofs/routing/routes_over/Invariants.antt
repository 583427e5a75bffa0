use Rattle.std.proofs.Common.{◌≡◌, [], drop}
use Rattle.ls_routes.specs.Routes.{routes_changed}
use Rattle.decision_core.specs.Scratch.{route_for}
use Rattle.decision_core.proofs.routing.routes_over.Given as goal

-- the routes so far, with those to the prefixes that are left
abbrev pub invariant-loop-prefix : goal.invariant-loop-prefix
invariant-loop-prefix l =
    routes_changed (route_for l.records) l.routes (drop l.prefix-index l.prefix-items) ≡ routes_changed (route_for l.records) [] l.prefix-items

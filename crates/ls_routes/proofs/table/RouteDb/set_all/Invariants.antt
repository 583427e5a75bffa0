use Rattle.std.proofs.Common.{◌≡◌, fold, drop}
use Rattle.ls_routes.specs.Routes.{with_route}
use Rattle.ls_routes.proofs.table.RouteDb.set_all.Given as goal

-- the routes that are left
abbrev pub invariant-loop-route : goal.invariant-loop-route
invariant-loop-route l = fold with_route l.self (drop l.route-index l.routes) ≡ fold with_route l.fn.self l.routes

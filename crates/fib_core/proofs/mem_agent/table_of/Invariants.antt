use Rattle.std.proofs.Common.{◌≡◌, [], fold, drop}
use Rattle.ls_routes.specs.Routes.{with_route}
use Rattle.fib_core.proofs.mem_agent.table_of.Given as goal

-- the routes that are left
abbrev pub invariant-loop-route : goal.invariant-loop-route
invariant-loop-route l = fold with_route l.table (drop l.route-index l.routes) ≡ fold with_route [] l.routes

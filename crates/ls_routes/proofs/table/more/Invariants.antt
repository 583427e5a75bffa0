use Rattle.std.proofs.Common.{◌≡◌, ◌++◌, map}
use Rattle.std.specs.Prelude.{not}
use Rattle.std.specs.List.{filter}
use Rattle.or_base.specs.declared.prefix.Prefix.{Prefix}
use Rattle.or_base.specs.declared.route.Route.{Route}
use Rattle.ls_routes.specs.Routes.{route_to, stands_in}
use Rattle.ls_routes.proofs.table.more.Given as goal

-- the routes so far, and those that are left
abbrev pub invariant-loop-prefix : goal.invariant-loop-prefix
invariant-loop-prefix l =
    l.set.items ++ filter (λ r. not (stands_in (route_to l.others r.prefix) r)) (map (λ (e : Prefix × Route). e.1) l._prefix-iterator)
    ≡ filter (λ r. not (stands_in (route_to l.others r.prefix) r)) (map (λ (e : Prefix × Route). e.1) l.routes.entries)

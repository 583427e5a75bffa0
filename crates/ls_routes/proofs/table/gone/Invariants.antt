use Rattle.std.proofs.Common.{◌≡◌, ◌++◌, map}
use Rattle.std.specs.Prelude.{is_none}
use Rattle.std.specs.List.{filter}
use Rattle.or_base.specs.declared.prefix.Prefix.{Prefix}
use Rattle.or_base.specs.declared.route.Route.{Route}
use Rattle.ls_routes.specs.Routes.{route_to}
use Rattle.ls_routes.proofs.table.gone.Given as goal

-- the prefixes so far, and those of the routes that are left
abbrev pub invariant-loop-prefix : goal.invariant-loop-prefix
invariant-loop-prefix l =
    l.del.items ++ filter (λ p. is_none (route_to l.others p)) (map (λ (e : Prefix × Route). e.0) l.prefix-iterator)
    ≡ filter (λ p. is_none (route_to l.others p)) (map (λ (e : Prefix × Route). e.0) l.routes.entries)

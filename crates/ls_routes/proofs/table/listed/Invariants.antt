use Rattle.std.proofs.Common.{◌≡◌, ◌++◌, map}
use Rattle.or_base.specs.declared.prefix.Prefix.{Prefix}
use Rattle.or_base.specs.declared.route.Route.{Route}
use Rattle.ls_routes.proofs.table.listed.Given as goal

-- the routes so far, and those that are left
abbrev pub invariant-loop-prefix : goal.invariant-loop-prefix
invariant-loop-prefix l = l.list.items ++ map (λ (e : Prefix × Route). e.1) l._prefix-iterator ≡ map (λ (e : Prefix × Route). e.1) l.routes.entries

use Rattle.std.proofs.Common.{◌≡◌, fold, drop}
use Rattle.ls_routes.specs.Routes.{without_route}
use Rattle.ls_routes.proofs.table.RouteDb.remove_all.Given as goal

-- the prefixes that are left
abbrev pub invariant-loop-prefix : goal.invariant-loop-prefix
invariant-loop-prefix l = fold without_route l.self (drop l.prefix-index l.prefixes) ≡ fold without_route l.fn.self l.prefixes

use Rattle.std.proofs.Common.{◌≡◌, fold, map, drop}
use Rattle.or_base.specs.declared.route.Route.{Route}
use Rattle.prefix_manager.specs.PrefixManager.{with_route}
use Rattle.prefix_manager.proofs.advertising.AdvertisedPrefixes.add_routes.Given as goal

-- the routes that are left
abbrev pub invariant-loop-route : goal.invariant-loop-route
invariant-loop-route l =
    fold with_route l.self (map (λ (r : Route). r.prefix) (drop l.route-index l.routes)) ≡ fold with_route l.fn.self (map (λ (r : Route). r.prefix) l.routes)

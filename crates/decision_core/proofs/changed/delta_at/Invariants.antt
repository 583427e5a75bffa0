use Rattle.std.proofs.Common.{◌≡◌, ◌++◌, drop}
use Rattle.std.specs.List.{filter, filter_map}
use Rattle.ls_routes.specs.Routes.{route_to, is_gone, route_set}
use Rattle.decision_core.specs.Scratch.{route_for}
use Rattle.decision_core.proofs.changed.delta_at.Given as goal

-- what changes so far, with what changes at the places that are left
abbrev pub invariant-loop-prefix : goal.invariant-loop-prefix
invariant-loop-prefix l =
    (l.del.items ++ filter (λ p. is_gone (route_to l.routes p) (route_for l.records p)) (drop l.prefix-index l.places)
    ≡ filter (λ p. is_gone (route_to l.routes p) (route_for l.records p)) l.places)
    × (l.set.items ++ filter_map (λ p. route_set (route_to l.routes p) (route_for l.records p)) (drop l.prefix-index l.places)
    ≡ filter_map (λ p. route_set (route_to l.routes p) (route_for l.records p)) l.places)

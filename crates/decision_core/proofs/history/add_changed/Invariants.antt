use Rattle.std.proofs.Common.{◌≡◌, ◌++◌, drop, map}
use Rattle.or_base.specs.declared.route.Route.{Route}
use Rattle.decision_core.specs.History.{replaced_at}
use Rattle.decision_core.proofs.history.add_changed.Given as goal

-- the routes so far, and those that are left
abbrev pub invariant-loop-route : goal.invariant-loop-route
invariant-loop-route l = l.replaced.items ++ replaced_at l.entries l.routes (map (λ (r : Route). r.prefix) (drop l.route-index l.changed)) ≡ l.fn.replaced.items ++ replaced_at l.entries l.routes (map (λ (r : Route). r.prefix) l.changed)

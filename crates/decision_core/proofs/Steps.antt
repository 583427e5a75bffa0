-- What a turn of Decision cites.
use Rattle.std.proofs.Common.{◌≡◌, ◌≤◌, ℕ, [], ◌∷◌, Bool, true, false, cond, length, refl, ap}
use Rattle.std.proofs.lemmas.List.{take_all}
use Rattle.or_base.specs.declared.item.Item.{Item}
use Rattle.or_base.specs.declared.item.Item.TheVariants.{Entry, Routes}
use Rattle.or_base.specs.declared.prefix.Prefix.{Prefix}
use Rattle.or_base.specs.declared.route.Delta.{Delta}
use Rattle.or_actor.specs.Fits.{have_small_links}
use Rattle.or_actor.specs.Ports.{fib_port, prefix_manager_port}
use Rattle.or_actor.specs.declared.output.Output.TheVariants.{To}
use Rattle.ls_routes.specs.Routes.{route_to, delta_between}
use Rattle.decision_core.specs.Scratch.{scratch}
use Rattle.decision_core.specs.Decision.{DecisionState, is_no_change, with_entry, decision_step, routes_of, route_at}

small_told : (delta : Delta) (none : Bool)
    → have_small_links (cond none [] (To prefix_manager_port (Routes delta) ∷ To fib_port (Routes delta) ∷ [])) ≡ true
small_told delta true = refl
small_told delta false = refl

-- Decision names no link
pub small_step : (s : DecisionState) (item : Item) → have_small_links (decision_step s item).1 ≡ true
unfolding decision_step
small_step s (Entry entry) = let delta = delta_between (routes_of s) (routes_of (with_entry s entry)) in small_told delta (is_no_change delta)
small_step s _ = refl

-- over as many entries as were taken, or more, the route is that over all
pub whole_at : (s : DecisionState) (at : ℕ) (prefix : Prefix) → length s.taken ≤ at → route_at s at prefix ≡ route_to (routes_of s) prefix
whole_at s at prefix all = ap (λ taken. route_to (scratch s.me taken) prefix) (take_all at s.taken all)

-- The change between two tables leads from the one to the other.
use Rattle.std.proofs.Common.{◌≡◌, List, [], ◌∷◌, Bool, true, false, cond, Option, Some, None, fold, map, refl, sym, ◌∙◌, ap}
use Rattle.std.specs.declared.cmp.Ordering.TheVariants.{Less}
use Rattle.std.specs.Ordering.{is_eq}
use Rattle.std.specs.Prelude.{is_none, not}
use Rattle.std.specs.List.{AllByRecursion, filter}
use Rattle.std.specs.List.Sorted.{IsStrictlySortedBy}
use Rattle.std.specs.BTreeMap.{is_at}
use Rattle.or_base.specs.Prefixes.{prefix_cmp}
use Rattle.or_base.specs.declared.prefix.Prefix.{Prefix}
use Rattle.or_base.specs.declared.route.Delta.{Delta}
use Rattle.or_base.specs.declared.route.Route.{Route}
use Rattle.ls_routes.specs.Laws.{DeltasLeadOn, NoDeltaIsSameTable}
use Rattle.ls_routes.specs.Routes.{IsTable, IsDelta, route_to, with_route, without_route, applied, route_among, is_gone, route_set, is_same_route, stands_in, delta_between}
use Rattle.ls_routes.proofs.Order.{prefix_total, prefix_exact}
use Rattle.ls_routes.proofs.Entries.{same_entries}
use Rattle.ls_routes.proofs.Tables.{prefix_from_test, prefix_back, route_to_with, route_to_removed, rises_removed, rises_set, found_own}
use Rattle.ls_routes.proofs.SameRoutes.{same_routes_are_equal}
use Rattle.ls_routes.proofs.Deltas.{prefixes_of, delta_between_is}

-- the one, or the other where there is none
abbrev over : Option Route → Option Route → Option Route
over None other = other
over (Some r) other = Some r

apart_if : (t : Bool) (r : Route) (rest : Option Route) → t ≡ false → rest ≡ cond t (Some r) rest
apart_if true r rest e = cc
apart_if false r rest e = refl

-- behind routes that come after it, a route isn't found
none_among : (p : Prefix) (routes : List Route) (q : Prefix) → is_at (prefix_cmp q) p ≡ true → AllByRecursion (λ k. prefix_cmp p k ≡ Less) (prefixes_of routes) → route_among routes q ≡ None
none_among p [] q at later = refl
none_among p (r ∷ routes) q at later =
    let apart : is_at (prefix_cmp q) r.prefix ≡ false = ap (λ k. is_at (prefix_cmp k) r.prefix) (prefix_from_test q p at) ∙ ap is_eq later.0 in
    ap (λ t. cond t (Some r) (route_among routes q)) apart ∙ none_among p routes q at later.1

over_more : (here : Bool) (r : Route) (later other : Option Route) → (here ≡ true → later ≡ None) → over later (cond here (Some r) other) ≡ over (cond here (Some r) later) other
over_more true r later other none = ap (λ found. over found (Some r)) (none refl)
over_more false r later other none = refl

pub route_to_set : (t : List (Prefix × Route)) (routes : List Route) (p : Prefix) → IsStrictlySortedBy prefix_cmp (prefixes_of routes)
    → route_to (fold with_route t routes) p ≡ over (route_among routes p) (route_to t p)
unfolding IsStrictlySortedBy
route_to_set t [] p rises = refl
route_to_set t (r ∷ routes) p rises =
    route_to_set (with_route t r) routes p rises.1
    ∙ ap (λ found. over (route_among routes p) found) (route_to_with t r p ∙ ap (λ here. cond here (Some r) (route_to t p)) (prefix_back p r.prefix))
    ∙ over_more (is_at (prefix_cmp p) r.prefix) r (route_among routes p) (route_to t p) (λ at. none_among r.prefix routes p at rises.0)

same_or_set : (same : Bool) (q r : Route) → (same ≡ true → q ≡ r) → over (cond same None (Some r)) (Some q) ≡ Some r
same_or_set true q r equal = ap Some (equal refl)
same_or_set false q r equal = refl

-- what goes and what comes at one prefix leads from the route before to the route after
leads_at : (before after : Option Route) → ((q r : Route) → before ≡ Some q → after ≡ Some r → q.prefix ≡ r.prefix)
    → over (route_set before after) (cond (is_gone before after) None before) ≡ after
leads_at None None own = refl
leads_at None (Some r) own = refl
leads_at (Some q) None own = refl
leads_at (Some q) (Some r) own = same_or_set (is_same_route q r) q r (same_routes_are_equal q r (own q r refl refl))

found_applied : (old new : List (Prefix × Route)) (delta : Delta) (p : Prefix) → IsTable old → IsTable new → IsDelta old new delta
    → route_to (applied old delta) p ≡ route_to new p
unfolding applied
found_applied old new delta p table table' is =
    route_to_set (fold without_route old delta.del) delta.set p is.set_rises
    ∙ ap (λ found. over (route_among delta.set p) found) (route_to_removed old delta.del p table.by_prefix)
    ∙ (λ i. over (is.comes p i) (cond (is.goes p i) None (route_to old p)))
    ∙ leads_at (route_to old p) (route_to new p) (λ q r was is'. found_own old p q table.own was ∙ sym (found_own new p r table'.own is'))

applied_rises : (old : List (Prefix × Route)) (delta : Delta) → IsTable old → IsStrictlySortedBy prefix_cmp (map (λ (e : Prefix × Route). e.0) (applied old delta))
unfolding applied
applied_rises old delta table = rises_set (fold without_route old delta.del) delta.set (rises_removed old delta.del table.by_prefix)

-- every delta leads on
pub delta_leads_on : (old new : List (Prefix × Route)) (delta : Delta) → IsTable old → IsTable new → IsDelta old new delta → applied old delta ≡ new
delta_leads_on old new delta table table' is =
    same_entries prefix_total prefix_exact (applied old delta) new (applied_rises old delta table) table'.by_prefix (λ p. found_applied old new delta p table table' is)

pub deltas_lead_on : DeltasLeadOn
deltas_lead_on old new table table' = delta_leads_on old new (delta_between old new) table table' (delta_between_is old new table table')

nothing_applied : (old : List (Prefix × Route)) → applied old (record { del = []; set = [] }) ≡ old
unfolding applied
nothing_applied old = refl

pub no_delta_is_same_table : NoDeltaIsSameTable
no_delta_is_same_table old new table table' nothing = sym (nothing_applied old) ∙ ap (applied old) (sym nothing) ∙ deltas_lead_on old new table table'

-- the same of what a walk over both tables gives
pub given_leads_on : (old new before after : List (Prefix × Route)) (del : List Prefix) (set : List Route) → IsTable old → IsTable new → before ≡ old → after ≡ new
    → del ≡ filter (λ p. is_none (route_to new p)) (map (λ (e : Prefix × Route). e.0) before)
    → set ≡ filter (λ r. not (stands_in (route_to old r.prefix) r)) (map (λ (e : Prefix × Route). e.1) after)
    → applied old (record { del = del; set = set }) ≡ new
unfolding delta_between
given_leads_on old new before after del set table table' is is' del_is set_is =
    let all_del = del_is ∙ ap (λ es. filter (λ p. is_none (route_to new p)) (map (λ (e : Prefix × Route). e.0) es)) is in
    let all_set = set_is ∙ ap (λ es. filter (λ r. not (stands_in (route_to old r.prefix) r)) (map (λ (e : Prefix × Route). e.1) es)) is' in
    (λ i. applied old (record { del = all_del i; set = all_set i })) ∙ deltas_lead_on old new table table'

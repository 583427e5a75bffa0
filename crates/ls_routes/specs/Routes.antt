-- Tables of routes, in the order of prefixes, and what changes between two of them.
use Rattle.std.specs.Prelude.{◌≡◌, ℕ, List, [], ◌∷◌, fold, map, Option, Some, None, is_none, is_some, Bool, true, false, not, ◌&&◌, ◌==◌, if◌then◌else◌}
use Rattle.std.specs.List.{AllByRecursion, filter, filter_map, find, list_all, list_any}
use Rattle.std.specs.List.Sorted.{IsStrictlySortedBy}
use Rattle.std.specs.Map.{keys_of, lookup, remove_entry}
use Rattle.std.specs.BTreeMap.{insert_entry, is_at}
use Rattle.std.specs.Cmp.Lexicographic.{pointwise}
use Rattle.std.specs.Ordering.{is_lt}
use Rattle.std.specs.Str.{bytes_eq}
use Rattle.or_base.specs.Prefixes.{prefix_cmp}
use Rattle.or_base.specs.declared.prefix.Prefix.{Prefix}
use Rattle.or_base.specs.declared.route.Delta.{Delta}
use Rattle.or_base.specs.declared.route.Route.{Route}

-- A table is a list of its routes with their prefixes, in the order of prefixes, each once.

-- the route is to the prefix under which it stands
abbrev pub HasOwnPrefix : Prefix × Route → Type 0
HasOwnPrefix e = e.1.prefix ≡ e.0

-- the prefixes rise, and each route stands under its own prefix
pub record IsTable (table : List (Prefix × Route)) : Type 0 where
  pub by_prefix : IsStrictlySortedBy prefix_cmp (keys_of table)
  pub own : AllByRecursion HasOwnPrefix table

-- the same as a test
abbrev pub is_table : List (Prefix × Route) → Bool
is_table [] = true
is_table (e ∷ table) = is_at (prefix_cmp e.1.prefix) e.0 && list_all (λ later. is_lt (prefix_cmp e.0 later)) (keys_of table) && is_table table

-- the route to exactly this prefix
abbrev pub route_to : List (Prefix × Route) → Prefix → Option Route
route_to table prefix = lookup (is_at (prefix_cmp prefix)) table

abbrev pub without_route : List (Prefix × Route) → Prefix → List (Prefix × Route)
without_route table prefix = remove_entry (is_at (prefix_cmp prefix)) table

abbrev pub with_route : List (Prefix × Route) → Route → List (Prefix × Route)
with_route table route = insert_entry prefix_cmp table route.prefix route

-- the deleted prefixes go, and then each route takes the place of the one to its prefix
unfoldable pub applied : List (Prefix × Route) → Delta → List (Prefix × Route)
applied table delta = fold with_route (fold without_route table delta.del) delta.set

-- the route takes the place of the one to the prefix, or nothing does
abbrev pub route_changed : List (Prefix × Route) → Prefix → Option Route → List (Prefix × Route)
route_changed table prefix None = without_route table prefix
route_changed table prefix (Some route) = with_route table route

-- to each of these prefixes the route that `chosen` gives, or none
abbrev pub routes_changed : (Prefix → Option Route) → List (Prefix × Route) → List Prefix → List (Prefix × Route)
routes_changed chosen table places = fold (λ t p. route_changed t p (chosen p)) table places

-- ---- what changes

-- the names are the same, in the same order
abbrev pub are_same_names : List (List ℕ) → List (List ℕ) → Bool
are_same_names = pointwise bytes_eq

-- routes to one prefix are the same
abbrev pub is_same_route : Route → Route → Bool
is_same_route r s = r.cost == s.cost && are_same_names r.hops s.hops

abbrev pub stands_in : Option Route → Route → Bool
stands_in None r = false
stands_in (Some old) r = is_same_route old r

-- the prefixes whose routes go, and the routes that are new or changed, both in the order of prefixes
unfoldable pub delta_between : List (Prefix × Route) → List (Prefix × Route) → Delta
delta_between old new = record {
  del = filter (λ p. is_none (route_to new p)) (map (λ e. e.0) old);
  set = filter (λ r. not (stands_in (route_to old r.prefix) r)) (map (λ e. e.1) new);
}

-- ---- what changes at one prefix, by the routes to it before and after

-- there was a route, and there is none
abbrev pub is_gone : Option Route → Option Route → Bool
is_gone before after = is_some before && is_none after

-- the route after, if it is new or changed
abbrev pub route_set : Option Route → Option Route → Option Route
route_set before None = None
route_set before (Some route) = if stands_in before route then None else Some route

-- what changes at these prefixes
abbrev pub delta_at : (Prefix → Option Route) → (Prefix → Option Route) → List Prefix → Delta
delta_at before after places = record {
  del = filter (λ p. is_gone (before p) (after p)) places;
  set = filter_map (λ p. route_set (before p) (after p)) places;
}

-- the prefix is one of these
abbrev pub is_listed : List Prefix → Prefix → Bool
is_listed prefixes prefix = list_any (is_at (prefix_cmp prefix)) prefixes

-- the route to exactly this prefix, of a list of routes
abbrev pub route_among : List Route → Prefix → Option Route
route_among routes prefix = find (λ r. is_at (prefix_cmp prefix) r.prefix) routes

-- the prefixes are exactly those whose routes go, the routes exactly those that are new or changed, and both rise
pub record IsDelta (old new : List (Prefix × Route)) (delta : Delta) : Type 0 where
  pub del_rises : IsStrictlySortedBy prefix_cmp delta.del
  pub set_rises : IsStrictlySortedBy prefix_cmp (map (λ r. r.prefix) delta.set)
  pub goes : (p : Prefix) → is_listed delta.del p ≡ is_gone (route_to old p) (route_to new p)
  pub comes : (p : Prefix) → route_among delta.set p ≡ route_set (route_to old p) (route_to new p)

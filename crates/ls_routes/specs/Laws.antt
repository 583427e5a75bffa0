-- Laws of tables and of what changes between them.
use Rattle.std.specs.Prelude.{◌≡◌, List, [], Option, Some, true, false}
use Rattle.std.specs.Bool.{Decides}
use Rattle.std.specs.List.Sorted.{IsStrictlySortedBy}
use Rattle.or_base.specs.Prefixes.{prefix_cmp}
use Rattle.or_base.specs.declared.prefix.Prefix.{Prefix}
use Rattle.or_base.specs.declared.route.Delta.{Delta}
use Rattle.or_base.specs.declared.route.Route.{Route}
use Rattle.ls_routes.specs.Routes.{IsTable, is_table, IsDelta, route_to, applied, routes_changed, is_same_route, is_listed, delta_between, delta_at}

-- the test is true of exactly the tables
abbrev pub TablesAreTested : Type 0
TablesAreTested = (table : List (Prefix × Route)) → Decides (is_table table) (IsTable table)

-- two routes to one prefix that are the same are equal
abbrev pub SameRoutesAreEqual : Type 0
SameRoutesAreEqual = (r s : Route) → r.prefix ≡ s.prefix → is_same_route r s ≡ true → r ≡ s

-- two tables with the same route to each prefix are one
abbrev pub EqualLookupsAreOneTable : Type 0
EqualLookupsAreOneTable = (s t : List (Prefix × Route)) → IsTable s → IsTable t → ((p : Prefix) → route_to s p ≡ route_to t p) → s ≡ t

-- the change from one table to another, applied to the one, gives the other
abbrev pub DeltasLeadOn : Type 0
DeltasLeadOn = (old new : List (Prefix × Route)) → IsTable old → IsTable new → applied old (delta_between old new) ≡ new

-- from a table to itself nothing changes
abbrev pub SameTableHasNoDelta : Type 0
SameTableHasNoDelta = (t : List (Prefix × Route)) → IsTable t → delta_between t t ≡ record { del = []; set = [] }

-- tables between which nothing changes are one
abbrev pub NoDeltaIsSameTable : Type 0
NoDeltaIsSameTable = (old new : List (Prefix × Route)) → IsTable old → IsTable new → delta_between old new ≡ record { del = []; set = [] } → old ≡ new

-- the change has exactly the prefixes whose routes go and the routes that are new or changed, and no other delta has
pub record DeltasAreThese : Type 0 where
  pub these : (old new : List (Prefix × Route)) → IsTable old → IsTable new → IsDelta old new (delta_between old new)
  pub alone : (old new : List (Prefix × Route)) (delta : Delta) → IsTable old → IsTable new → IsDelta old new delta → delta_between old new ≡ delta

-- where tables differ at no prefix but these, the change at these is the whole change
abbrev pub PlacesGiveTheDelta : Type 0
PlacesGiveTheDelta =
    (old new : List (Prefix × Route)) (places : List Prefix) → IsTable old → IsTable new → IsStrictlySortedBy prefix_cmp places
    → ((p : Prefix) → is_listed places p ≡ false → route_to old p ≡ route_to new p)
    → delta_between old new ≡ delta_at (route_to old) (route_to new) places

-- A table in which each of these prefixes has been given the route that `chosen` gives, or none, is the table whose routes to
-- these prefixes are the chosen ones, and to all others the old ones.
abbrev pub RoutesAtAreThese : Type 0
RoutesAtAreThese =
    (chosen : Prefix → Option Route) (old new : List (Prefix × Route)) (places : List Prefix) → IsTable old → IsTable new
    → ((p : Prefix) (r : Route) → chosen p ≡ Some r → r.prefix ≡ p)
    → ((p : Prefix) → is_listed places p ≡ true → route_to new p ≡ chosen p)
    → ((p : Prefix) → is_listed places p ≡ false → route_to new p ≡ route_to old p)
    → routes_changed chosen old places ≡ new

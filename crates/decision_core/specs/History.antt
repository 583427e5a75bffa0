-- The routes that others replaced: what the route to a prefix was over fewer entries.
use Rattle.std.specs.Prelude.{◌≡◌, ℕ, ◌≤◌, ◌<◌, List, ◌++◌, map, take, length, Option, Bool, ◌&&◌, nat_le}
use Rattle.std.specs.List.{AllByRecursion, find}
use Rattle.std.specs.Option.{option_map_or}
use Rattle.or_base.specs.Prefixes.{is_same_prefix}
use Rattle.or_base.specs.declared.entry.JournalEntry.{JournalEntry}
use Rattle.or_base.specs.declared.prefix.Prefix.{Prefix}
use Rattle.or_base.specs.declared.route.Delta.{Delta}
use Rattle.or_base.specs.declared.route.Route.{Route}
use Rattle.ls_routes.specs.Routes.{route_to}
use Rattle.decision_core.specs.Scratch.{scratch}
use Rattle.decision_core.specs.declared.history.ReplacedRoute.{ReplacedRoute}

-- the routes that were replaced since so many entries had been taken, the earliest first
pub record HistoryState : Type 0 where
  pub since : ℕ
  pub replaced : List ReplacedRoute

-- the most routes that are kept; past them all are forgotten
abbrev pub most_replaced : ℕ
most_replaced = 1024

-- ---- what the route was

-- the route to the prefix was replaced when so many entries, or more, had been taken
abbrev pub is_replaced_since : ℕ → Prefix → ReplacedRoute → Bool
is_replaced_since at prefix r = nat_le at r.entries && is_same_prefix r.prefix prefix

-- the first route to the prefix that was replaced since
abbrev pub first_since : List ReplacedRoute → ℕ → Prefix → Option ReplacedRoute
first_since replaced at prefix = find (is_replaced_since at prefix) replaced

-- the route to the prefix over so many entries, where this is the route now
abbrev pub route_then : List ReplacedRoute → ℕ → Prefix → Option Route → Option Route
route_then replaced at prefix now = option_map_or (λ r. r.route) (first_since replaced at prefix) now

-- ---- more that is replaced

-- the routes to these prefixes, which are replaced when so many entries have been taken
abbrev pub replaced_at : ℕ → List (Prefix × Route) → List Prefix → List ReplacedRoute
replaced_at entries routes prefixes = map (λ p. record { entries = entries; prefix = p; route = route_to routes p }) prefixes

-- with all routes that the change replaces
abbrev pub with_change : HistoryState → ℕ → List (Prefix × Route) → Delta → HistoryState
with_change h entries routes delta = record {
  since = h.since;
  replaced = h.replaced ++ replaced_at entries routes delta.del ++ replaced_at entries routes (map (λ r. r.prefix) delta.set);
}

-- ---- what they tell

-- Of each number of entries, from `since` to all that were taken, they tell the routes from scratch over the first so many.
pub record TellRoutes (h : HistoryState) (me : List ℕ) (taken : List JournalEntry) : Type 0 where
  pub earlier : AllByRecursion (λ r. r.entries < length taken) h.replaced
  pub tell : (at : ℕ) (prefix : Prefix) → h.since ≤ at → at ≤ length taken
      → route_to (scratch me (take at taken)) prefix ≡ route_then h.replaced at prefix (route_to (scratch me taken) prefix)

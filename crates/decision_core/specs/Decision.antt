-- Decision: the entries of its store's journal that it was told of, its routes, and its turn.
use Rattle.std.specs.Prelude.{ℕ, List, [], ◌∷◌, ◌++◌, length, take, Option, Some, None, Bool, ◌&&◌, ◌==◌, nat_lt, if◌then◌else◌}
use Rattle.or_base.specs.declared.entry.JournalEntry.{JournalEntry}
use Rattle.or_base.specs.declared.item.Item.{Item}
use Rattle.or_base.specs.declared.item.Item.TheVariants.{Entry, Routes}
use Rattle.or_base.specs.declared.prefix.Prefix.{Prefix}
use Rattle.or_base.specs.declared.route.Delta.{Delta}
use Rattle.or_base.specs.declared.route.Route.{Route as RouteValue}
use Rattle.or_base.specs.declared.asked.Told.{Told}
use Rattle.or_base.specs.declared.asked.Told.TheVariants.{Behind, Nothing, Route}
use Rattle.or_actor.specs.Ports.{fib_port, prefix_manager_port}
use Rattle.or_actor.specs.declared.output.Output.{Output}
use Rattle.or_actor.specs.declared.output.Output.TheVariants.{To}
use Rattle.ls_routes.specs.Routes.{route_to, delta_between}
use Rattle.decision_core.specs.Scratch.{scratch}

-- Decision of a node: the node, and the entries that it took, in order
pub record DecisionState : Type 0 where
  pub me : List ℕ
  pub taken : List JournalEntry

abbrev pub new_decision : List ℕ → DecisionState
new_decision me = record { me = me; taken = [] }

-- its routes are those from scratch over all that it took
abbrev pub routes_of : DecisionState → List (Prefix × RouteValue)
routes_of s = scratch s.me s.taken

-- the route to exactly this prefix, from scratch over the first so many of the entries that it took
abbrev pub route_at : DecisionState → ℕ → Prefix → Option RouteValue
route_at s at prefix = route_to (scratch s.me (take at s.taken)) prefix

-- ---- answers

-- what a route tells whoever asked for it
abbrev pub route_told : Option RouteValue → Told
route_told None = Nothing
route_told (Some route) = Route route

-- What is answered to a question for the route to exactly this prefix, of whoever has seen so many entries of the journal: that
-- Decision is behind, with the number that it took, exactly where these are fewer; else its route.
unfoldable pub answer : DecisionState → Prefix → ℕ → Told
answer s prefix seen = if nat_lt (length s.taken) seen then Behind (length s.taken) else route_told (route_to (routes_of s) prefix)

-- ---- the turn

-- Decision that took an entry more
abbrev pub with_entry : DecisionState → JournalEntry → DecisionState
with_entry s entry = record { me = s.me; taken = s.taken ++ entry ∷ [] }

-- nothing changes
abbrev pub is_no_change : Delta → Bool
is_no_change delta = length delta.del == 0 && length delta.set == 0

-- a change of the routes is told to PrefixManager and to Fib, unless nothing changes
abbrev pub told_routes : Delta → List Output
told_routes delta = if is_no_change delta then [] else To prefix_manager_port (Routes delta) ∷ To fib_port (Routes delta) ∷ []

-- One turn: an entry is taken, and what changes from the routes before it to those after it is told. Every other item changes nothing.
unfoldable pub decision_step : DecisionState → Item → DecisionState × List Output
decision_step s (Entry entry) = let after = with_entry s entry in (after, told_routes (delta_between (routes_of s) (routes_of after)))
decision_step s item = (s, [])

-- Links, from the databases that nodes report: which adjacencies are two-way links, and which of these a node may use.
use Rattle.std.specs.Prelude.{ℕ, List, [], ◌∷◌, map, Option, Bool, false, ◌&&◌, ◌||◌, not, if◌then◌else◌}
use Rattle.std.specs.List.{filter, flat_map, list_any}
use Rattle.std.specs.Map.{lookup}
use Rattle.std.specs.Option.{option_map_or}
use Rattle.std.specs.BTreeMap.{is_at}
use Rattle.std.specs.Ordering.{is_lt}
use Rattle.std.specs.Str.{bytes_eq}
use Rattle.or_base.specs.Order.{bytes_cmp}
use Rattle.or_base.specs.declared.database.AdjDb.{AdjDb}
use Rattle.or_base.specs.declared.database.Adjacency.{Adjacency}
use Rattle.ls_graph.specs.declared.arc.Arc.{Arc}

-- ---- databases

-- the database of a node, if there is one, among those of all nodes, by name
abbrev pub database_of : List (List ℕ × AdjDb) → List ℕ → Option AdjDb
database_of databases node = lookup (is_at (bytes_cmp node)) databases

-- ---- two-way links

-- an adjacency of the first node and one of the second are the two ends of one link: each names the other's node and interface
abbrev pub are_two_ways : List ℕ → Adjacency → List ℕ → Adjacency → Bool
are_two_ways x a y b = bytes_eq a.other y && bytes_eq b.other x && bytes_eq a.other_if b.own_if && bytes_eq b.other_if a.own_if

-- the node at the other end reports the link too, and takes traffic over it
abbrev pub is_answered : List (List ℕ × AdjDb) → List ℕ → Adjacency → Bool
is_answered databases x a =
    option_map_or (λ db. list_any (λ b. are_two_ways x a a.other b && not b.overload) db.adjacencies) (database_of databases a.other) false

-- the node carries traffic that begins at `me`: it is `me`, or takes transit traffic
abbrev pub carries : List ℕ → List ℕ → AdjDb → Bool
carries me x db = bytes_eq x me || not db.overload

-- `me` may use the adjacency of the node x: it is a two-way link to another node, which takes traffic at both ends, and x carries it
unfoldable pub is_usable : List ℕ → List (List ℕ × AdjDb) → List ℕ → AdjDb → Adjacency → Bool
is_usable me databases x db a = not (bytes_eq a.other x) && is_answered databases x a && not a.overload && carries me x db

-- ---- arcs

abbrev pub arc_of : List ℕ → Adjacency → Arc
arc_of x a = record { from = x; own_if = a.own_if; to = a.other; other_if = a.other_if; metric = a.metric }

-- arcs in the order of their interfaces, with one more
abbrev pub with_arc : List Arc → Arc → List Arc
with_arc [] a = a ∷ []
with_arc (first ∷ rest) a = if is_lt (bytes_cmp a.own_if first.own_if) then a ∷ first ∷ rest else first ∷ with_arc rest a

abbrev pub by_interface : List Arc → List Arc
by_interface [] = []
by_interface (a ∷ arcs) = with_arc (by_interface arcs) a

-- the usable arcs that leave a node, in the order of its interfaces
abbrev pub arcs_from : List ℕ → List (List ℕ × AdjDb) → List ℕ × AdjDb → List Arc
arcs_from me databases e = by_interface (map (arc_of e.0) (filter (is_usable me databases e.0 e.1) e.1.adjacencies))

-- All arcs that `me` may use, in the order of the nodes that they leave and of the interfaces there.
unfoldable pub usable_arcs : List ℕ → List (List ℕ × AdjDb) → List Arc
usable_arcs me databases = flat_map (arcs_from me databases) databases

-- The definitions on small cases: a line of nodes a, b and c.
use Rattle.std.proofs.Common.{◌≡◌, ℕ, List, [], ◌∷◌, Bool, true, false, refl}
use Rattle.or_base.specs.declared.database.AdjDb.{AdjDb}
use Rattle.or_base.specs.declared.database.Adjacency.{Adjacency}
use Rattle.ls_graph.specs.declared.arc.Arc.{Arc}
use Rattle.ls_graph.specs.Arcs.{usable_arcs, is_usable}

abbrev a : List ℕ
a = 97 ∷ []

abbrev b : List ℕ
b = 98 ∷ []

abbrev c : List ℕ
c = 99 ∷ []

-- the interface of one node to another has both names
abbrev between : List ℕ → List ℕ → List ℕ
between (x ∷ xs) (y ∷ ys) = x ∷ y ∷ []
between xs ys = []

abbrev link : List ℕ → List ℕ → ℕ → Bool → Adjacency
link x y metric overload = record { other = y; own_if = between x y; other_if = between y x; metric = metric; overload = overload }

abbrev node : List ℕ → Bool → List Adjacency → List ℕ × AdjDb
node x overload adjacencies = (x, record { node = x; overload = overload; adjacencies = adjacencies })

abbrev arc : List ℕ → List ℕ → ℕ → Arc
arc x y metric = record { from = x; own_if = between x y; to = y; other_if = between y x; metric = metric }

-- each direction has the metric of the node that it leaves, in the order of nodes and interfaces
both_ways : usable_arcs a (node a false (link a b 1 false ∷ []) ∷ node b false (link b c 4 false ∷ link b a 3 false ∷ []) ∷ node c false (link c b 5 false ∷ []) ∷ [])
    ≡ arc a b 1 ∷ arc b a 3 ∷ arc b c 4 ∷ arc c b 5 ∷ []
unfolding usable_arcs is_usable
both_ways = refl

-- a link that one end alone reports isn't used, whether the other node reports nothing or something else
one_end : usable_arcs a (node a false (link a b 1 false ∷ []) ∷ node b false (link b c 1 false ∷ []) ∷ []) ≡ []
unfolding usable_arcs is_usable
one_end = refl

-- interfaces that don't match are no link
other_interfaces : usable_arcs a (node a false (link a b 1 false ∷ []) ∷ node b false (record { other = a; own_if = c; other_if = between a b; metric = 1; overload = false } ∷ []) ∷ [])
    ≡ []
unfolding usable_arcs is_usable
other_interfaces = refl

-- an overloaded link is used in neither direction, whichever end says so
overloaded_link : usable_arcs a (node a false (link a b 1 true ∷ []) ∷ node b false (link b a 1 false ∷ link b c 1 false ∷ []) ∷ node c false (link c b 1 false ∷ []) ∷ [])
    ≡ arc b c 1 ∷ arc c b 1 ∷ []
unfolding usable_arcs is_usable
overloaded_link = refl

-- an overloaded node carries no transit, and its own traffic still
overloaded_node : usable_arcs a (node a true (link a b 1 false ∷ []) ∷ node b true (link b a 1 false ∷ link b c 1 false ∷ []) ∷ node c false (link c b 1 false ∷ []) ∷ [])
    ≡ arc a b 1 ∷ arc c b 1 ∷ []
unfolding usable_arcs is_usable
overloaded_node = refl

-- a link from a node to itself isn't used
to_itself : usable_arcs a (node a false (record { other = a; own_if = b; other_if = b; metric = 1; overload = false } ∷ []) ∷ []) ≡ []
unfolding usable_arcs is_usable
to_itself = refl

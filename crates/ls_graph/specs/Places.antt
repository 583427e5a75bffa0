-- Places of arcs: which arc is at one place, from the arcs themselves or from the databases, and what changes there.
use Rattle.std.specs.Prelude.{◌≡◌, ℕ, ◌<◌, ◌≤◌, List, [], ◌∷◌, length, Option, Some, None, Result, Ok, Err, true, ◌||◌, ◌==◌, if◌then◌else◌}
use Rattle.std.specs.List.{find, flat_map, list_any, HoldsAt, AllWithin}
use Rattle.std.specs.List.Sorted.{IsStrictlySortedBy}
use Rattle.std.specs.BTreeMap.{is_at}
use Rattle.std.specs.Ordering.{ordering_then}
use Rattle.std.specs.Str.{bytes_eq}
use Rattle.std.specs.declared.cmp.Ordering.{Ordering}
use Rattle.std.specs.declared.cmp.Ordering.TheVariants.{Less, Equal, Greater}
use Rattle.or_base.specs.Order.{bytes_cmp}
use Rattle.or_base.specs.declared.database.AdjDb.{AdjDb}
use Rattle.or_base.specs.declared.database.Adjacency.{Adjacency}
use Rattle.ls_graph.specs.declared.arc.Arc.{Arc}
use Rattle.ls_graph.specs.declared.change.LinkChange.{LinkChange}
use Rattle.ls_graph.specs.Arcs.{database_of, is_usable, arc_of}
use Rattle.ls_graph.specs.Changes.{is_same_link}

-- a place is the name of a node and one of its interfaces
abbrev pub Place : Type 0
Place = List ℕ × List ℕ

abbrev pub place_of : Arc → Place
place_of a = (a.from, a.own_if)

-- places are compared by their nodes, then by their interfaces
abbrev pub pair_cmp : List ℕ × List ℕ → List ℕ × List ℕ → Ordering
pair_cmp p q = ordering_then (bytes_cmp p.0 q.0) (bytes_cmp p.1 q.1)

-- the arc at a place, if there is one
abbrev pub arc_in : List Arc → List ℕ × List ℕ → Option Arc
arc_in [] p = None
arc_in (a ∷ arcs) p = if is_at (pair_cmp p) (place_of a) then Some a else arc_in arcs p

-- ---- the arc at a place, from the databases

-- the adjacency over an interface
abbrev pub adjacency_over : List Adjacency → List ℕ → Option Adjacency
adjacency_over adjacencies interface = find (λ a. bytes_eq a.own_if interface) adjacencies

-- the adjacency of the node x as an arc, if `me` may use it
abbrev pub arc_if_usable : List ℕ → List (List ℕ × AdjDb) → List ℕ → AdjDb → Option Adjacency → Option Arc
arc_if_usable me databases x db None = None
arc_if_usable me databases x db (Some a) = if is_usable me databases x db a then Some (arc_of x a) else None

-- the arc that leaves the node by the interface, where this is the node's database
abbrev pub arc_over : List ℕ → List (List ℕ × AdjDb) → List ℕ × List ℕ → Option AdjDb → Option Arc
arc_over me databases p None = None
arc_over me databases p (Some db) = arc_if_usable me databases p.0 db (adjacency_over db.adjacencies p.1)

-- the arc at a place that `me` may use, if there is one
abbrev pub arc_at : List ℕ → List (List ℕ × AdjDb) → List ℕ × List ℕ → Option Arc
arc_at me databases p = arc_over me databases p (database_of databases p.0)

-- ---- what changes at a place

abbrev pub gone : Arc → LinkChange
gone a = record { arc = a; old = Some a.metric; new = None }

abbrev pub arrived : Arc → LinkChange
arrived b = record { arc = b; old = None; new = Some b.metric }

-- one arc stands where another stood
abbrev pub replaced : Arc → Arc → List LinkChange
replaced a b =
    if is_same_link a b then (if a.metric == b.metric then [] else record { arc = b; old = Some a.metric; new = Some b.metric } ∷ [])
    else gone a ∷ arrived b ∷ []

abbrev pub changes_at : Option Arc → Option Arc → List LinkChange
changes_at None None = []
changes_at None (Some b) = arrived b ∷ []
changes_at (Some a) None = gone a ∷ []
changes_at (Some a) (Some b) = replaced a b

-- what changes at these places from some arcs to those that `me` may use
abbrev pub changes_among : List Arc → List ℕ → List (List ℕ × AdjDb) → List (List ℕ × List ℕ) → List LinkChange
changes_among in_force me databases places = flat_map (λ p. changes_at (arc_in in_force p) (arc_at me databases p)) places

-- ---- the places at which a change of one node's database can change an arc

-- the two ends of a link as the node x reports it
abbrev pub ends_of : List ℕ → Adjacency → List (List ℕ × List ℕ)
ends_of x a = (x, a.own_if) ∷ (a.other, a.other_if) ∷ []

abbrev pub ends_in : List ℕ → Option AdjDb → List (List ℕ × List ℕ)
ends_in x None = []
ends_in x (Some db) = flat_map (ends_of x) db.adjacencies

-- ---- where a search for a place ends

-- the arc of the place is found at an index, or there is none, and the index is how many arcs are before it
abbrev pub IsFoundAt : List Arc → List ℕ × List ℕ → Result ℕ ℕ → Type 0
IsFoundAt arcs p (Ok i) = (i < length arcs) × HoldsAt (λ b. pair_cmp (place_of b) p ≡ Equal) arcs i
IsFoundAt arcs p (Err i) =
    (i ≤ length arcs) × AllWithin (λ b. pair_cmp (place_of b) p ≡ Less) arcs 0 i × AllWithin (λ b. pair_cmp (place_of b) p ≡ Greater) arcs i (length arcs)

-- ---- sets of places

-- the places after are those before and the listed ones
pub record AreJoined (before listed after : List (List ℕ × List ℕ)) : Type 0 where
  pub at : (p : List ℕ × List ℕ) → list_any (is_at (pair_cmp p)) after ≡ (list_any (is_at (pair_cmp p)) before || list_any (is_at (pair_cmp p)) listed)

-- the places are in order, and the ends of all links that the node reports, before or after, are among them
pub record CoverEnds (node : List ℕ) (before after : Option AdjDb) (places : List (List ℕ × List ℕ)) : Type 0 where
  pub ordered : IsStrictlySortedBy pair_cmp places
  pub old : (p : List ℕ × List ℕ) → list_any (is_at (pair_cmp p)) (ends_in node before) ≡ true → list_any (is_at (pair_cmp p)) places ≡ true
  pub new : (p : List ℕ × List ℕ) → list_any (is_at (pair_cmp p)) (ends_in node after) ≡ true → list_any (is_at (pair_cmp p)) places ≡ true

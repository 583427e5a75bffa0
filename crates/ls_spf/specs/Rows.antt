-- What is known while the rows of a table are made, in the order of costs.
use Rattle.std.specs.List.{filter}
use Rattle.std.specs.Prelude.{◌≡◌, ℕ, ◌<◌, List, [], Option, Some, None, Bool, true, false, ◌&&◌}
use Rattle.std.specs.Str.{bytes_eq}
use Rattle.std.specs.Option.{option_map_or}
use Rattle.std.specs.Ordering.{nat_cmp}
use Rattle.std.specs.Cmp.Lexicographic.{slice_cmp}
use Rattle.std.specs.BTreeMap.{BTreeMap, get}
use Rattle.std.specs.BTreeSet.{BTreeSet, contains}
use Rattle.ls_graph.specs.declared.arc.Arc.{Arc}
use Rattle.ls_spf.specs.declared.table.PathRow.{PathRow}
use Rattle.ls_spf.specs.Least.{least_cost, add_up_to}
use Rattle.ls_spf.specs.Table.{right_row, tight_arcs}

-- the set has the name
abbrev pub is_in : BTreeSet (List ℕ) → List ℕ → Bool
is_in names q = contains (slice_cmp nat_cmp) names q

-- the row that a map has for a node
abbrev pub row_in : BTreeMap (List ℕ) PathRow → List ℕ → Option PathRow
row_in rows q = get (slice_cmp nat_cmp) rows q

-- the costs are the least
abbrev pub AreLeast : List Arc → List ℕ → (List ℕ → Option ℕ) → Type 0
AreLeast arcs me costs = (q : List ℕ) → costs q ≡ least_cost arcs me q

-- by these costs, the arc is the last of a least walk to the node that it leads to
abbrev pub is_tight : (List ℕ → Option ℕ) → Arc → Bool
is_tight costs a = add_up_to (costs a.to) a.metric (costs a.from)

-- of these arcs, those that are tight and lead to the node
abbrev pub tight_to : (List ℕ → Option ℕ) → List ℕ → List Arc → List Arc
tight_to costs q arcs = filter (λ a. bytes_eq a.to q && is_tight costs a) arcs

-- the arcs that a map has for a node; none without an entry
abbrev pub arcs_in : {V : Type 0} → BTreeMap (List ℕ) V → (V → List Arc) → List ℕ → List Arc
arcs_in all items q = option_map_or items (get (slice_cmp nat_cmp) all q) []

-- the tight arcs are there for each node that waits
abbrev pub HaveTight : List Arc → List ℕ → (List ℕ → List Arc) → (ℕ → List ℕ → Bool) → Type 0
HaveTight arcs me tight waiting = (n : ℕ) (q : List ℕ) → waiting n q ≡ true → tight q ≡ tight_arcs arcs me q n

-- the rows of nodes that cost less than so much are right
abbrev pub AreRightBelow : List Arc → List ℕ → (List ℕ → Option PathRow) → ℕ → Type 0
AreRightBelow arcs me rows cost = (q : List ℕ) (n : ℕ) → n < cost → least_cost arcs me q ≡ Some n → rows q ≡ Some (right_row arcs me q n)

-- What waits does so at its least cost, each other node that walks reach has its right row, and no node that they don't reach has one.
pub record AreRightBut (arcs : List Arc) (me : List ℕ) (rows : List ℕ → Option PathRow) (waiting : ℕ → List ℕ → Bool) : Type 0 where
  pub least : (n : ℕ) (q : List ℕ) → waiting n q ≡ true → least_cost arcs me q ≡ Some n
  pub right : (n : ℕ) (q : List ℕ) → least_cost arcs me q ≡ Some n → waiting n q ≡ false → rows q ≡ Some (right_row arcs me q n)
  pub none : (q : List ℕ) → least_cost arcs me q ≡ None → rows q ≡ None

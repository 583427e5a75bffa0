-- What the search for least costs knows, and how it changes.
use Rattle.std.specs.Prelude.{◌≡◌, ℕ, ◌+◌, ◌*◌, ◌^◌, ◌≤◌, ◌==◌, ◌⊎◌, List, [], ◌∷◌, length, Option, Some, None, Bool, true, false, not, nat_lt, if◌then◌else◌}
use Rattle.std.specs.List.{Contains}
use Rattle.std.specs.Option.{option_map_or}
use Rattle.std.specs.Str.{bytes_eq}
use Rattle.std.specs.Ordering.{nat_cmp, ordering_then, is_lt, is_le}
use Rattle.std.specs.Cmp.Lexicographic.{slice_cmp}
use Rattle.std.specs.BTreeMap.{BTreeMap, get}
use Rattle.std.specs.BTreeSet.{BTreeSet, contains}
use Rattle.or_base.specs.Order.{bytes_cmp}
use Rattle.ls_graph.specs.declared.arc.Arc.{Arc}
use Rattle.ls_spf.specs.Local.{IsRelaxed}

-- ---- the map of costs, and the set of what waits

-- the cost that the map has for a node
abbrev pub cost_in : BTreeMap (List ℕ) ℕ → List ℕ → Option ℕ
cost_in costs q = get (slice_cmp nat_cmp) costs q

-- the set has the node at this cost
abbrev pub waits_in : BTreeSet (ℕ × List ℕ) → ℕ → List ℕ → Bool
waits_in waiting n q = contains (λ (x y : ℕ × List ℕ). ordering_then (nat_cmp x.0 y.0) (slice_cmp nat_cmp x.1 y.1)) waiting (n, q)

-- ---- the arcs that leave a node, among arcs in order

-- the arc leaves a node that stands before this one
abbrev pub is_before : List ℕ → Arc → Bool
is_before node a = is_lt (bytes_cmp a.from node)

-- the arc leaves this node or one that stands before it
abbrev pub is_up_to : List ℕ → Arc → Bool
is_up_to node a = is_le (bytes_cmp a.from node)

-- ---- a node is seen at a cost

-- this is the known cost
abbrev pub is_known : Option ℕ → ℕ → Bool
is_known None n = false
is_known (Some m) n = m == n

-- the cost is less than the known one
abbrev pub is_news : Option ℕ → ℕ → Bool
is_news None c = true
is_news (Some m) c = nat_lt c m

-- what waits does so at its cost
abbrev pub WaitRightly : (List ℕ → Option ℕ) → (ℕ → List ℕ → Bool) → Type 0
WaitRightly costs waiting = (n : ℕ) (q : List ℕ) → waiting n q ≡ true → costs q ≡ Some n

-- costs once the node y was seen at the cost c
abbrev pub costs_after : (List ℕ → Option ℕ) → List ℕ → ℕ → List ℕ → Option ℕ
costs_after costs y c q = if is_news (costs y) c then (if bytes_eq y q then Some c else costs q) else costs q

-- what waits then
abbrev pub waiting_after : (List ℕ → Option ℕ) → (ℕ → List ℕ → Bool) → List ℕ → ℕ → ℕ → List ℕ → Bool
waiting_after costs waiting y c n q = if is_news (costs y) c then (if bytes_eq y q then c == n else waiting n q) else waiting n q

-- ---- what is left to do

-- a node is settled where it has a cost and doesn't wait at it
abbrev pub is_settled : (List ℕ → Option ℕ) → (ℕ → List ℕ → Bool) → List ℕ → Bool
is_settled costs waiting q = option_map_or (λ n. not (waiting n q)) (costs q) false

-- how many of these arcs lead to nodes that aren't settled
abbrev pub unsettled : (List ℕ → Bool) → List Arc → ℕ
unsettled settled [] = 0
unsettled settled (a ∷ arcs) = (if settled a.to then 0 else 1) + unsettled settled arcs

-- what is left at most: a node is counted by the arcs that lead to it, and `me` once more
abbrev pub ahead : List Arc → List ℕ → (List ℕ → Option ℕ) → (ℕ → List ℕ → Bool) → ℕ
ahead arcs me costs waiting = unsettled (is_settled costs waiting) arcs + (if is_settled costs waiting me then 0 else 1)

-- ---- the search

-- some arc leads to the node from one with a cost, and the two add up to no more than m
pub record IsSupported (arcs : List Arc) (costs : List ℕ → Option ℕ) (node : List ℕ) (m : ℕ) : Type 0 where
  pub arc : Arc
  pub among : Contains arcs arc
  pub to : arc.to ≡ node
  pub start : ℕ
  pub from : costs arc.from ≡ Some start
  pub sum : start + arc.metric ≤ m

-- Nodes of costs up to `last` are settled. Of the arcs that leave settled nodes, those of `rest` are still to be looked at.
pub record IsSearch (arcs : List Arc) (me : List ℕ) (costs : List ℕ → Option ℕ) (waiting : ℕ → List ℕ → Bool) (last : ℕ) (rest : List Arc) : Type 0 where
  pub here : costs me ≡ Some 0
  pub supported : (v : List ℕ) (m : ℕ) → costs v ≡ Some m → (v ≡ me) ⊎ IsSupported arcs costs v m
  pub rightly : WaitRightly costs waiting
  pub waits_above : (n : ℕ) (q : List ℕ) → waiting n q ≡ true → last ≤ n
  pub settled_below : (n : ℕ) (q : List ℕ) → costs q ≡ Some n → waiting n q ≡ false → n ≤ last
  pub relaxed : (a : Arc) (n : ℕ) → Contains arcs a → costs a.from ≡ Some n → waiting n a.from ≡ false → IsRelaxed costs a n ⊎ Contains rest a
  pub small : (v : List ℕ) (m : ℕ) → costs v ≡ Some m → m + 2 ^ 31 * ahead arcs me costs waiting ≤ 2 ^ 31 * (length arcs + 1)

-- The node x was settled at the cost `last`, the arcs of `rest` leave it, and no more than `most` is left to do.
pub record IsSettling (arcs : List Arc) (me : List ℕ) (costs : List ℕ → Option ℕ) (waiting : ℕ → List ℕ → Bool) (last : ℕ) (x : List ℕ) (most : ℕ) (rest : List Arc) : Type 0 where
  pub search : IsSearch arcs me costs waiting last rest
  pub leave : (a : Arc) → Contains rest a → Contains arcs a × (a.from ≡ x)
  pub settled : costs x ≡ Some last
  pub waits_no_more : waiting last x ≡ false
  pub left : ahead arcs me costs waiting ≤ most
  pub room : last + 2 ^ 31 + 2 ^ 31 * ahead arcs me costs waiting ≤ 2 ^ 31 * (length arcs + 1)

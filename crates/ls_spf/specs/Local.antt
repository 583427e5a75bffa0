-- What is seen of costs and hops at each arc and at each node alone, and is enough for them to be least.
use Rattle.std.specs.Prelude.{◌≡◌, ℕ, ◌+◌, ◌≤◌, List, [], ◌∷◌, Option, Some, ◌⊎◌, if◌then◌else◌}
use Rattle.std.specs.List.{Contains}
use Rattle.std.specs.Str.{bytes_eq}
use Rattle.ls_graph.specs.declared.arc.Arc.{Arc}

-- each arc costs something
abbrev pub HaveCosts : List Arc → Type 0
HaveCosts arcs = (a : Arc) → Contains arcs a → 1 ≤ a.metric

-- the arc leads to the node from one with a cost, and the two add up to m
pub record IsTight (arcs : List Arc) (costs : List ℕ → Option ℕ) (node : List ℕ) (m : ℕ) (a : Arc) : Type 0 where
  pub among : Contains arcs a
  pub to : a.to ≡ node
  pub start : ℕ
  pub from : costs a.from ≡ Some start
  pub sum : start + a.metric ≡ m

-- where the arc leaves a node of cost n, that to which it leads has a cost too, which is no more than by this arc
pub record IsRelaxed (costs : List ℕ → Option ℕ) (a : Arc) (n : ℕ) : Type 0 where
  pub end : ℕ
  pub to : costs a.to ≡ Some end
  pub least : end ≤ n + a.metric

-- `me` costs nothing, no arc makes a node cheaper, and each other node with a cost has a tight arc that leads to it
pub record AreLocal (arcs : List Arc) (me : List ℕ) (costs : List ℕ → Option ℕ) : Type 0 where
  pub here : costs me ≡ Some 0
  pub relaxed : (a : Arc) (n : ℕ) → Contains arcs a → costs a.from ≡ Some n → IsRelaxed costs a n
  pub supported : (node : List ℕ) (m : ℕ) → costs node ≡ Some m → (node ≡ me) ⊎ ((a : Arc) × IsTight arcs costs node m a)

-- the hops that an arc hands on: its own interface where it leaves `me`, else those of the node that it leaves
abbrev pub handed_on : List ℕ → (List ℕ → List (List ℕ)) → Arc → List (List ℕ)
handed_on me hops a = if bytes_eq a.from me then a.own_if ∷ [] else hops a.from

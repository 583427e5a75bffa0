-- Walks over arcs, and which of them are least.
use Rattle.std.specs.Prelude.{◌≡◌, ◌≤◌, ℕ, ◌+◌, List, [], ◌∷◌}
use Rattle.std.specs.List.{Contains}
use Rattle.ls_graph.specs.declared.arc.Arc.{Arc}

-- the list is a walk over these arcs from x to y: the first leaves x, each later one the node to which the one before it leads
abbrev pub IsWalk : List Arc → List ℕ → List Arc → List ℕ → Type 0
IsWalk arcs x [] y = x ≡ y
IsWalk arcs x (a ∷ walk) y = Contains arcs a × (a.from ≡ x) × IsWalk arcs a.to walk y

-- the sum of the metrics
abbrev pub cost : List Arc → ℕ
cost [] = 0
cost (a ∷ walk) = a.metric + cost walk

-- some walk from x to y costs so much, and none costs less
pub record IsLeast (arcs : List Arc) (x y : List ℕ) (n : ℕ) : Type 0 where
  pub walk : List Arc
  pub is_walk : IsWalk arcs x walk y
  pub costs : cost walk ≡ n
  pub none_less : (other : List Arc) → IsWalk arcs x other y → n ≤ cost other

-- no walk leads from x to y
abbrev pub HasNoWalk : List Arc → List ℕ → List ℕ → Type 0
HasNoWalk arcs x y = (walk : List Arc) → IsWalk arcs x walk y → ⊥

-- some walk from x to y that costs so much begins by the interface
pub record BeginsBy (arcs : List Arc) (x y : List ℕ) (n : ℕ) (interface : List ℕ) : Type 0 where
  pub first : Arc
  pub walk : List Arc
  pub is_walk : IsWalk arcs x (first ∷ walk) y
  pub costs : cost (first ∷ walk) ≡ n
  pub named : first.own_if ≡ interface

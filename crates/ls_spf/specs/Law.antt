-- What least costs and first interfaces are in words.
use Rattle.std.specs.Prelude.{◌≡◌, ℕ, List, Option, Some, ◌↔◌, MatchOption}
use Rattle.std.specs.List.{Contains, flat_map}
use Rattle.ls_graph.specs.declared.arc.Arc.{Arc}
use Rattle.ls_spf.specs.Walk.{IsLeast, HasNoWalk, BeginsBy}
use Rattle.ls_spf.specs.Least.{least_cost, first_interfaces}
use Rattle.ls_spf.specs.Local.{HaveCosts, AreLocal, handed_on}
use Rattle.ls_spf.specs.Table.{tight_arcs}

-- some walk has the least cost, and none costs less; where there is no least cost there is no walk
abbrev pub CostsAreLeast : Type 0
CostsAreLeast = (arcs : List Arc) (x y : List ℕ) → MatchOption (least_cost arcs x y) (HasNoWalk arcs x y) (λ n. IsLeast arcs x y n)

-- the interfaces are those by which some least walk begins, and no others
abbrev pub InterfacesAreFirst : Type 0
InterfacesAreFirst =
    (arcs : List Arc) (x y interface : List ℕ) (m : ℕ) → least_cost arcs x y ≡ Some m → (Contains (first_interfaces arcs x y) interface ↔ BeginsBy arcs x y m interface)

-- costs that are right at each arc and node alone are the least
abbrev pub LocalIsLeast : Type 0
LocalIsLeast =
    (arcs : List Arc) (me : List ℕ) (costs : List ℕ → Option ℕ) → HaveCosts arcs → AreLocal arcs me costs → (node : List ℕ) → costs node ≡ least_cost arcs me node

-- and the least costs are right at each arc and node alone
abbrev pub LeastIsLocal : Type 0
LeastIsLocal = (arcs : List Arc) (me : List ℕ) → AreLocal arcs me (least_cost arcs me)

-- an interface that is a hop of each node exactly where a tight arc hands it on is a hop exactly where a least walk begins by it
abbrev pub UnionIsFirst : Type 0
UnionIsFirst =
    (arcs : List Arc) (me : List ℕ) (hops : List ℕ → List (List ℕ)) → HaveCosts arcs → (interface : List ℕ)
    → ((node : List ℕ) (m : ℕ) → least_cost arcs me node ≡ Some m
    → (Contains (hops node) interface ↔ Contains (flat_map (handed_on me hops) (tight_arcs arcs me node m)) interface))
    → (node : List ℕ) (m : ℕ) → least_cost arcs me node ≡ Some m → (Contains (hops node) interface ↔ Contains (first_interfaces arcs me node) interface)

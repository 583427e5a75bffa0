-- The costs of least walks, and the interfaces by which they begin, as functions of the arcs. What they are in words is `specs/Law.antt`.
use Rattle.std.specs.Prelude.{ℕ, zero, suc, ◌+◌, ◌==◌, min, List, [], ◌∷◌, length, map, Option, Some, None, option_map, Bool, false, ◌&&◌, if◌then◌else◌}
use Rattle.std.specs.List.{filter}
use Rattle.std.specs.Str.{bytes_eq}
use Rattle.ls_graph.specs.declared.arc.Arc.{Arc}

-- the lesser of two costs, of which each may be missing
abbrev pub lesser : Option ℕ → Option ℕ → Option ℕ
lesser None o = o
lesser (Some m) None = Some m
lesser (Some m) (Some n) = Some (min m n)

-- the least cost of one of these arcs that leaves x, with what follows it
abbrev pub least_first : List Arc → List ℕ → (Arc → Option ℕ) → Option ℕ
least_first [] x after = None
least_first (a ∷ arcs) x after = lesser (if bytes_eq a.from x then option_map (λ n. a.metric + n) (after a) else None) (least_first arcs x after)

-- the walk without arcs costs nothing
abbrev pub staying : List ℕ → List ℕ → Option ℕ
staying x y = if bytes_eq x y then Some 0 else None

-- the least cost of a walk from x to y of at most so many arcs
abbrev pub least_within : ℕ → List Arc → List ℕ → List ℕ → Option ℕ
least_within zero arcs x y = staying x y
least_within (suc n) arcs x y = lesser (staying x y) (least_first arcs x (λ a. least_within n arcs a.to y))

-- The least cost of a walk from x to y, if there is a walk. A least walk has no more arcs than there are.
unfoldable pub least_cost : List Arc → List ℕ → List ℕ → Option ℕ
least_cost arcs x y = least_within (length arcs) arcs x y

-- an arc and what follows it cost this together
abbrev pub add_up_to : Option ℕ → ℕ → Option ℕ → Bool
add_up_to None metric after = false
add_up_to (Some m) metric None = false
add_up_to (Some m) metric (Some n) = metric + n == m

-- a least walk from x to y begins by the arc
abbrev pub begins_least : List Arc → List ℕ → List ℕ → Arc → Bool
begins_least arcs x y a = bytes_eq a.from x && add_up_to (least_cost arcs x y) a.metric (least_cost arcs a.to y)

-- the interfaces by which the least walks from x to y begin, in the order of the arcs
unfoldable pub first_interfaces : List Arc → List ℕ → List ℕ → List (List ℕ)
first_interfaces arcs x y = map (λ a. a.own_if) (filter (begins_least arcs x y) arcs)

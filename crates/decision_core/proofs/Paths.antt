-- What a right table of paths tells of a node.
use Rattle.std.proofs.Common.{◌≡◌, ℕ, List, [], ◌∷◌, Bool, true, false, ◌&&◌, Option, Some, None, map, cond, refl, sym, ap, ◌∙◌, option_map}
use Rattle.std.specs.List.{filter}
use Rattle.std.specs.Option.{option_map_or}
use Rattle.std.specs.Str.{bytes_eq}
use Rattle.ls_graph.specs.declared.arc.Arc.{Arc}
use Rattle.ls_spf.specs.declared.table.PathRow.{PathRow}
use Rattle.ls_spf.specs.Least.{least_cost, add_up_to, begins_least, first_interfaces}
use Rattle.ls_spf.specs.Table.{row_of, hops_of, right_row, IsRight}

cost_in_row : (arcs : List Arc) (me node : List ℕ) (least : Option ℕ) → option_map (λ (r : PathRow). r.cost) (option_map (right_row arcs me node) least) ≡ least
cost_in_row arcs me node None = refl
cost_in_row arcs me node (Some n) = refl

-- the cost of a least walk to it
pub cost_told : (arcs : List Arc) (me : List ℕ) (rows : List (List ℕ × PathRow)) (node : List ℕ) → IsRight arcs me rows
    → option_map (λ (r : PathRow). r.cost) (row_of rows node) ≡ least_cost arcs me node
cost_told arcs me rows node right = ap (option_map (λ (r : PathRow). r.cost)) (right.row node) ∙ cost_in_row arcs me node (least_cost arcs me node)

and_false : (b : Bool) → b && false ≡ false
and_false true = refl
and_false false = refl

-- where no walk leads to the node, none begins
none_begin : (arcs : List Arc) (x y : List ℕ) (some : List Arc) → least_cost arcs x y ≡ None → filter (begins_least arcs x y) some ≡ []
none_begin arcs x y [] e = refl
none_begin arcs x y (a ∷ some) e =
    let none : begins_least arcs x y a ≡ false =
    ap (λ least. bytes_eq a.from x && add_up_to least a.metric (least_cost arcs a.to y)) e ∙ and_false (bytes_eq a.from x) in
    ap (λ b. cond b (a ∷ filter (begins_least arcs x y) some) (filter (begins_least arcs x y) some)) none ∙ none_begin arcs x y some e

hops_in_row : (arcs : List Arc) (me node : List ℕ) (least : Option ℕ) → least_cost arcs me node ≡ least
    → option_map_or (λ (r : PathRow). r.hops) (option_map (right_row arcs me node) least) [] ≡ first_interfaces arcs me node
unfolding first_interfaces
hops_in_row arcs me node None e = ap (map (λ (a : Arc). a.own_if)) (sym (none_begin arcs me node arcs e))
hops_in_row arcs me node (Some n) e = refl

-- the interfaces by which least walks to it begin
pub hops_told : (arcs : List Arc) (me : List ℕ) (rows : List (List ℕ × PathRow)) (node : List ℕ) → IsRight arcs me rows → hops_of rows node ≡ first_interfaces arcs me node
hops_told arcs me rows node right =
    ap (λ row. option_map_or (λ (r : PathRow). r.hops) row []) (right.row node) ∙ hops_in_row arcs me node (least_cost arcs me node) refl

pub ruleset paths_tell = (cost_told, hops_told)

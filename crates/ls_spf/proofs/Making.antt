-- The row of a node, where those of cheaper nodes are right.
use Rattle.std.proofs.Common.{Bool, true, false, ◌≡◌, ℕ, ◌<◌, List, [], ◌∷◌, map, ◌&&◌, Option, Some, refl, sym, ◌∙◌, ap, subst, ◌↔◌}
use Rattle.std.specs.List.{Contains, filter, flat_map, list_any, AllByRecursion}
use Rattle.std.specs.List.Sorted.{IsStrictlySortedBy}
use Rattle.std.specs.Option.{option_map_or}
use Rattle.std.specs.Ordering.{ordering_then}
use Rattle.std.specs.Cmp.{both_ways}
use Rattle.std.specs.Set.{is_member}
use Rattle.std.specs.Str.{bytes_eq}
use Rattle.std.specs.declared.cmp.Ordering.TheVariants.{Less, Equal}
use Rattle.std.proofs.lemmas.Cmp.{nat_list_cmp_total, tied_itself}
use Rattle.std.proofs.lemmas.List.Elements.{filter_agree}
use Rattle.std.proofs.lemmas.List.Kept.{IsStrictlySortedBy-filter}
use Rattle.std.proofs.lemmas.Map.Lookups.{btree_set_from_contains, exact_bytes}
use Rattle.std.proofs.lemmas.Map.Made.{is_member-Decides}
use Rattle.std.proofs.lemmas.Slice.Eq.{bytes_eq-Decides}
use Rattle.or_base.specs.Order.{bytes_cmp}
use Rattle.or_base.proofs.Members.{Contains-first, Contains-later}
use Rattle.ls_graph.specs.declared.arc.Arc.{Arc}
use Rattle.ls_spf.specs.declared.table.PathRow.{PathRow}
use Rattle.ls_spf.specs.Least.{least_cost, first_interfaces, begins_least, add_up_to}
use Rattle.ls_spf.specs.Local.{handed_on}
use Rattle.ls_spf.specs.Table.{AreArcs, place_cmp, tight_arcs, ends_least, row_of, hops_of, right_row}
use Rattle.ls_spf.specs.Rows.{is_tight, tight_to, AreLeast, AreRightBelow}
use Rattle.ls_spf.proofs.Listed.{found_in_filter, both_true}
use Rattle.ls_spf.proofs.Hops.{union_at}
use Rattle.ls_spf.proofs.Steps.{names_in, eq_back}

-- ---- tight arcs

tight_alike : (arcs : List Arc) (me : List ℕ) (costs : List ℕ → Option ℕ) (node : List ℕ) (cost : ℕ) → AreLeast arcs me costs → least_cost arcs me node ≡ Some cost
    → (a : Arc) (b : Bool) → bytes_eq a.to node ≡ b → (b && is_tight costs a) ≡ (b && ends_least arcs me cost a)
tight_alike arcs me costs node cost least is a true e =
    ap (λ o. add_up_to o a.metric (costs a.from)) (ap costs ((bytes_eq-Decides a.to node).0 e) ∙ (least node ∙ is)) ∙ ap (λ o. add_up_to (Some cost) a.metric o) (least a.from)
tight_alike arcs me costs node cost least is a false e = refl

pub tight_are : (arcs : List Arc) (me : List ℕ) (costs : List ℕ → Option ℕ) (node : List ℕ) (cost : ℕ) → AreLeast arcs me costs → least_cost arcs me node ≡ Some cost
    → tight_to costs node arcs ≡ tight_arcs arcs me node cost
tight_are arcs me costs node cost least is =
    filter_agree (λ a. bytes_eq a.to node && is_tight costs a) (λ a. bytes_eq a.to node && ends_least arcs me cost a)
    (λ a. tight_alike arcs me costs node cost least is a (bytes_eq a.to node) refl) arcs

-- ---- lists in order with the same names

pub same_names : (xs ys : List (List ℕ)) → IsStrictlySortedBy bytes_cmp xs → IsStrictlySortedBy bytes_cmp ys
    → ((q : List ℕ) → list_any (λ x. bytes_eq x q) xs ≡ list_any (λ x. bytes_eq x q) ys) → xs ≡ ys
same_names xs ys s t same =
    btree_set_from_contains nat_list_cmp_total (record { keys = xs }) (record { keys = ys }) s t (λ q. sym (names_in xs q) ∙ (same q ∙ names_in ys q)) exact_bytes

-- what has the same names is named alike
asked_back : (xs : List (List ℕ)) (q : List ℕ) → list_any (λ x. bytes_eq x q) xs ≡ is_member bytes_eq xs q
asked_back [] q = refl
asked_back (x ∷ xs) q = let e = eq_back x q in let r = asked_back xs q in cc

pub named_alike : (xs ys : List (List ℕ)) (q : List ℕ) → Contains xs q ↔ Contains ys q → list_any (λ x. bytes_eq x q) xs ≡ list_any (λ x. bytes_eq x q) ys
named_alike xs ys q h =
    let x = is_member-Decides bytes_eq-Decides xs q in
    let y = is_member-Decides bytes_eq-Decides ys q in
    asked_back xs q ∙ (both_ways (is_member bytes_eq xs q) (is_member bytes_eq ys q) (λ e. y.1 (h.0 (x.0 e))) (λ e. x.1 (h.1 (y.0 e))) ∙ sym (asked_back ys q))

-- ---- the first interfaces are in order

-- arcs that leave one node are in the order of their interfaces
interface_order : (x : List ℕ) (i j : List ℕ) (a b : Arc) → a.from ≡ x → b.from ≡ x → place_cmp a b ≡ Less → bytes_cmp a.own_if b.own_if ≡ Less
interface_order x i j a b from to l =
    let same : bytes_cmp a.from b.from ≡ Equal = ap (λ z. bytes_cmp z b.from) (from ∙ sym to) ∙ tied_itself nat_list_cmp_total b.from in
    sym (ap (λ o. ordering_then o (bytes_cmp a.own_if b.own_if)) same) ∙ l

interfaces_after : (x : List ℕ) (a : Arc) (arcs : List Arc) → a.from ≡ x → ((b : Arc) → Contains arcs b → b.from ≡ x)
    → AllByRecursion (λ b. place_cmp a b ≡ Less) arcs → AllByRecursion (λ i. bytes_cmp a.own_if i ≡ Less) (map (λ (b : Arc). b.own_if) arcs)
interfaces_after x a [] from all h = tt
interfaces_after x a (b ∷ arcs) from all h =
    (interface_order x a.own_if b.own_if a b from (all b (Contains-first b arcs)) h.0, interfaces_after x a arcs from (λ c i. all c (Contains-later b arcs c i)) h.1)

interfaces_in_order : (x : List ℕ) (arcs : List Arc) → ((b : Arc) → Contains arcs b → b.from ≡ x) → IsStrictlySortedBy place_cmp arcs
    → IsStrictlySortedBy bytes_cmp (map (λ (b : Arc). b.own_if) arcs)
unfolding IsStrictlySortedBy
interfaces_in_order x [] all s = tt
interfaces_in_order x (a ∷ arcs) all s =
    (interfaces_after x a arcs (all a (Contains-first a arcs)) (λ c i. all c (Contains-later a arcs c i)) s.0, interfaces_in_order x arcs (λ c i. all c (Contains-later a arcs c i)) s.1)

pub first_in_order : (arcs : List Arc) (x y : List ℕ) → IsStrictlySortedBy place_cmp arcs → IsStrictlySortedBy bytes_cmp (first_interfaces arcs x y)
unfolding first_interfaces
first_in_order arcs x y s =
    interfaces_in_order x (filter (begins_least arcs x y) arcs)
    (λ a i. let f = found_in_filter (begins_least arcs x y) arcs a i in
    (bytes_eq-Decides a.from x).0 (both_true (bytes_eq a.from x) (add_up_to (least_cost arcs x y) a.metric (least_cost arcs a.to y)) f.1).0)
    (IsStrictlySortedBy-filter place_cmp (begins_least arcs x y) arcs s)

-- ---- hops

module _ (arcs : List Arc) (me node : List ℕ) (cost : ℕ) (are : AreArcs arcs) (is : least_cost arcs me node ≡ Some cost) (rows : List (List ℕ × PathRow))
    (below : AreRightBelow arcs me (λ q. row_of rows q) cost) where
  hops_below : (u : List ℕ) (k : ℕ) → k < cost → least_cost arcs me u ≡ Some k → hops_of rows u ≡ first_interfaces arcs me u
  hops_below u k l e = ap (λ o. option_map_or (λ (r : PathRow). r.hops) o []) (below u k l e)

  union_is : (q : List ℕ) → Contains (flat_map (handed_on me (hops_of rows)) (tight_arcs arcs me node cost)) q ↔ Contains (first_interfaces arcs me node) q
  union_is q =
      union_at arcs me (λ a i. (are.metrics a i).0) node q cost is (hops_of rows)
      (λ u k l e. let h = hops_below u k l e in (λ c. subst (λ z. Contains z q) h c, λ c. subst (λ z. Contains z q) (sym h) c))

  pub hops_are : (hops : List (List ℕ)) → IsStrictlySortedBy bytes_cmp hops
      → ((q : List ℕ) → list_any (λ x. bytes_eq x q) hops ≡ list_any (λ x. bytes_eq x q) (flat_map (handed_on me (hops_of rows)) (tight_arcs arcs me node cost)))
      → hops ≡ first_interfaces arcs me node
  hops_are hops sorted same =
      same_names hops (first_interfaces arcs me node) sorted (first_in_order arcs me node are.in_order)
      (λ q. same q ∙ named_alike (flat_map (handed_on me (hops_of rows)) (tight_arcs arcs me node cost)) (first_interfaces arcs me node) q (union_is q))

-- ---- the row

abbrev pub row_with : ℕ → List (List ℕ) → List Arc → PathRow
row_with cost hops tight = record { cost = cost; hops = hops; tight = tight }

pub row_is : (arcs : List Arc) (me node : List ℕ) (cost : ℕ) (hops : List (List ℕ)) (tight : List Arc) → hops ≡ first_interfaces arcs me node → tight ≡ tight_arcs arcs me node cost
    → row_with cost hops tight ≡ right_row arcs me node cost
row_is arcs me node cost hops tight e f = ap (λ z. row_with cost z tight) e ∙ ap (λ z. row_with cost (first_interfaces arcs me node) z) f

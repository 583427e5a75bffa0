-- The usable arcs that leave one node: one for each usable adjacency, in the order of their interfaces.
use Rattle.std.proofs.Common.{◌≡◌, ℕ, List, [], ◌∷◌, Bool, true, false, cond, Option, Some, None, refl, sym, ◌∙◌, ap, subst, ◌⊎◌, inl, inr}
use Rattle.std.specs.Prelude.{map}
use Rattle.std.specs.declared.cmp.Ordering.{Ordering}
use Rattle.std.specs.declared.cmp.Ordering.TheVariants.{Less, Equal, Greater}
use Rattle.std.specs.Ordering.{is_eq, is_lt, match_ordering, ordering_then}
use Rattle.std.specs.List.{AllByRecursion, Contains, IsDistinct, filter}
use Rattle.std.specs.BTreeMap.{is_at}
use Rattle.std.specs.Str.{bytes_eq}
use Rattle.std.proofs.lemmas.Bool.{false≢true}
use Rattle.std.proofs.lemmas.Cmp.{tied_itself, nat_list_cmp_total}
use Rattle.or_base.proofs.Members.{Contains-first, Contains-later, Contains-cases}
use Rattle.or_base.specs.Order.{bytes_cmp}
use Rattle.or_base.specs.declared.database.AdjDb.{AdjDb}
use Rattle.or_base.specs.declared.database.Adjacency.{Adjacency}
use Rattle.ls_graph.specs.declared.arc.Arc.{Arc}
use Rattle.ls_graph.specs.Arcs.{is_usable, arc_of, with_arc, by_interface}
use Rattle.ls_graph.specs.Changes.{AreByPlace, place_cmp, with_arc_in_place}
use Rattle.ls_graph.specs.Places.{pair_cmp, place_of, arc_in, adjacency_over, arc_if_usable}
use Rattle.ls_graph.proofs.Order.{same_place, at_itself, bytes_same, bytes_itself, tests_agree}
use Rattle.ls_graph.proofs.ArcIn.{none_from_arc_in, ordered_none}
use Rattle.ls_graph.proofs.Edits.{arc_in_put, ordered_put, all_put}
use Rattle.ls_graph.proofs.Lists.{none_in_nothing}

-- ---- arcs of one node are ordered by their interfaces

place_at_node : (a b : Arc) → b.from ≡ a.from → place_cmp a b ≡ bytes_cmp a.own_if b.own_if
place_at_node a b same =
    ap (λ o. ordering_then o (bytes_cmp a.own_if b.own_if)) (ap (bytes_cmp a.from) same ∙ tied_itself nat_list_cmp_total a.from)

put_by_order : (a b : Arc) (arcs : List Arc) (o : Ordering) → bytes_cmp a.own_if b.own_if ≡ o → place_cmp a b ≡ o → is_at (pair_cmp (place_of a)) (place_of b) ≡ false
    → with_arc arcs a ≡ with_arc_in_place arcs a
    → cond (is_lt o) (a ∷ b ∷ arcs) (b ∷ with_arc arcs a) ≡ match_ordering o (a ∷ b ∷ arcs) (a ∷ arcs) (b ∷ with_arc_in_place arcs a)
put_by_order a b arcs Less e at apart rest = refl
put_by_order a b arcs Equal e at apart rest = absurd (false≢true (sym apart ∙ ap is_eq at))
put_by_order a b arcs Greater e at apart rest = ap (λ later. b ∷ later) rest

-- where nothing stands at its place yet, an arc goes where the order of places puts it
put_in_place : (arcs : List Arc) (a : Arc) → AllByRecursion (λ b. b.from ≡ a.from) arcs → AllByRecursion (λ b. is_at (pair_cmp (place_of a)) (place_of b) ≡ false) arcs
    → with_arc arcs a ≡ with_arc_in_place arcs a
put_in_place [] a one none = refl
put_in_place (b ∷ arcs) a one none =
    put_by_order a b arcs (bytes_cmp a.own_if b.own_if) refl (place_at_node a b one.0) none.0 (put_in_place arcs a one.1 none.1)
    ∙ ap (λ o. match_ordering o (a ∷ b ∷ arcs) (a ∷ arcs) (b ∷ with_arc_in_place arcs a)) (sym (place_at_node a b one.0))

-- ---- adjacencies over distinct interfaces

abbrev pub AreOverDistinct : List Adjacency → Type 0
AreOverDistinct adjacencies = IsDistinct bytes_eq (map (λ a. a.own_if) adjacencies)

bytes_back : (x y : List ℕ) → bytes_eq x y ≡ bytes_eq y x
bytes_back x y =
    tests_agree (bytes_eq x y) (bytes_eq y x) (λ e. subst (λ z. bytes_eq z x ≡ true) (bytes_same x y e) (bytes_itself x))
    (λ e. subst (λ z. bytes_eq z y ≡ true) (bytes_same y x e) (bytes_itself y))

none_over : (i : List ℕ) (adjacencies : List Adjacency) → AllByRecursion (λ y. bytes_eq i y ≡ false) (map (λ a. a.own_if) adjacencies) → adjacency_over adjacencies i ≡ None
none_over i [] apart = refl
none_over i (a ∷ adjacencies) apart =
    ap (λ t. cond t (Some a) (adjacency_over adjacencies i)) (bytes_back a.own_if i ∙ apart.0) ∙ none_over i adjacencies apart.1

first_over : (a : Adjacency) (adjacencies : List Adjacency) → AreOverDistinct (a ∷ adjacencies) → adjacency_over adjacencies a.own_if ≡ None
unfolding IsDistinct
first_over a adjacencies distinct = none_over a.own_if adjacencies distinct.0

later_distinct : (a : Adjacency) (adjacencies : List Adjacency) → AreOverDistinct (a ∷ adjacencies) → AreOverDistinct adjacencies
unfolding IsDistinct
later_distinct a adjacencies distinct = distinct.1

over_if : (i : List ℕ) (a b : Adjacency) (adjacencies : List Adjacency) (t : Bool) → bytes_eq a.own_if i ≡ t → cond t (Some a) (adjacency_over adjacencies i) ≡ Some b
    → (adjacency_over adjacencies i ≡ Some b → Contains adjacencies b × (b.own_if ≡ i)) → Contains (a ∷ adjacencies) b × (b.own_if ≡ i)
over_if i a b adjacencies true e found rest =
    let same : a ≡ b = cc in
    (subst (Contains (a ∷ adjacencies)) same (Contains-first a adjacencies), ap (λ x. x.own_if) (sym same) ∙ bytes_same a.own_if i e)
over_if i a b adjacencies false e found rest = let r = rest found in (Contains-later a adjacencies b r.0, r.1)

-- an adjacency that is found is one of them, over the interface
pub found_over : (adjacencies : List Adjacency) (i : List ℕ) (b : Adjacency) → adjacency_over adjacencies i ≡ Some b → Contains adjacencies b × (b.own_if ≡ i)
found_over [] i b e = cc
found_over (a ∷ adjacencies) i b e = over_if i a b adjacencies (bytes_eq a.own_if i) refl e (found_over adjacencies i b)

-- over distinct interfaces each adjacency is the one over its interface
pub one_over : (adjacencies : List Adjacency) (b : Adjacency) → AreOverDistinct adjacencies → Contains adjacencies b → adjacency_over adjacencies b.own_if ≡ Some b
one_over [] b distinct among = absurd (none_in_nothing b among)
one_over (a ∷ adjacencies) b distinct among =
    by_cases (Contains-cases a adjacencies b among) (λ there. one_over adjacencies b (later_distinct a adjacencies distinct) there) where
      by_test : (t : Bool) → bytes_eq a.own_if b.own_if ≡ t → adjacency_over adjacencies b.own_if ≡ Some b → cond t (Some a) (adjacency_over adjacencies b.own_if) ≡ Some b
      by_test true e found =
          let none : adjacency_over adjacencies b.own_if ≡ None =
          subst (λ i. adjacency_over adjacencies i ≡ None) (bytes_same a.own_if b.own_if e) (first_over a adjacencies distinct) in
          let wrong : None ≡ Some b = sym none ∙ found in cc
      by_test false e found = found

      by_cases : (a ≡ b) ⊎ Contains adjacencies b → (Contains adjacencies b → adjacency_over adjacencies b.own_if ≡ Some b) → adjacency_over (a ∷ adjacencies) b.own_if ≡ Some b
      by_cases (inl same) rest =
          ap (λ t. cond t (Some a) (adjacency_over adjacencies b.own_if)) (subst (λ x. bytes_eq a.own_if x.own_if ≡ true) same (bytes_itself a.own_if)) ∙ ap Some same
      by_cases (inr there) rest = by_test (bytes_eq a.own_if b.own_if) refl (rest there)

-- ---- the usable arcs that leave a node

module _ (me : List ℕ) (databases : List (List ℕ × AdjDb)) (x : List ℕ) (db : AdjDb) where
  abbrev pub arcs_of_node : List Adjacency → List Arc
  arcs_of_node adjacencies = by_interface (map (arc_of x) (filter (is_usable me databases x db) adjacencies))

  pub record AreFromNode (adjacencies : List Adjacency) (arcs : List Arc) : Type 0 where
    pub from : AllByRecursion (λ b. b.from ≡ x) arcs
    pub ordered : AreByPlace arcs
    pub at : (i : List ℕ) → arc_in arcs (x, i) ≡ arc_if_usable me databases x db (adjacency_over adjacencies i)

  interface_test : (i j : List ℕ) → is_at (pair_cmp (x, i)) (x, j) ≡ bytes_eq j i
  interface_test i j =
      tests_agree (is_at (pair_cmp (x, i)) (x, j)) (bytes_eq j i)
      (λ e. subst (λ k. bytes_eq k i ≡ true) (ap (λ p. p.1) (same_place (x, i) (x, j) e)) (bytes_itself i))
      (λ e. subst (λ k. is_at (pair_cmp (x, k)) (x, j) ≡ true) (bytes_same j i e) (at_itself (x, j)))

  used_at : (a : Adjacency) (i : List ℕ) (t : Bool) (rest : Option Arc) (found : Option Adjacency) → is_usable me databases x db a ≡ true
      → rest ≡ arc_if_usable me databases x db found → cond t (Some (arc_of x a)) rest ≡ arc_if_usable me databases x db (cond t (Some a) found)
  used_at a i true rest found usable same = sym (ap (λ u. cond u (Some (arc_of x a)) None) usable)
  used_at a i false rest found usable same = same

  one_used : (a : Adjacency) (adjacencies : List Adjacency) (arcs : List Arc) → is_usable me databases x db a ≡ true → AreOverDistinct (a ∷ adjacencies)
      → AreFromNode adjacencies arcs → AreFromNode (a ∷ adjacencies) (with_arc arcs (arc_of x a))
  one_used a adjacencies arcs usable distinct f =
      let none : arc_in arcs (x, a.own_if) ≡ None = f.at a.own_if ∙ ap (arc_if_usable me databases x db) (first_over a adjacencies distinct) in
      let is : with_arc arcs (arc_of x a) ≡ with_arc_in_place arcs (arc_of x a) = put_in_place arcs (arc_of x a) f.from (none_from_arc_in (x, a.own_if) arcs none) in
      subst (AreFromNode (a ∷ adjacencies)) (sym is)
      (record {
        from = all_put (λ b. b.from ≡ x) arcs (arc_of x a) refl f.from;
        ordered = ordered_put arcs (arc_of x a) f.ordered;
        at = λ i.
            arc_in_put (x, i) arcs (arc_of x a) ∙ ap (λ t. cond t (Some (arc_of x a)) (arc_in arcs (x, i))) (interface_test i a.own_if)
            ∙ used_at a i (bytes_eq a.own_if i) (arc_in arcs (x, i)) (adjacency_over adjacencies i) usable (f.at i);
      })

  passed_at : (a : Adjacency) (i : List ℕ) (adjacencies : List Adjacency) (t : Bool) → bytes_eq a.own_if i ≡ t → is_usable me databases x db a ≡ false
      → AreOverDistinct (a ∷ adjacencies)
      → arc_if_usable me databases x db (adjacency_over adjacencies i) ≡ arc_if_usable me databases x db (cond t (Some a) (adjacency_over adjacencies i))
  passed_at a i adjacencies true e unusable distinct =
      ap (arc_if_usable me databases x db) (subst (λ j. adjacency_over adjacencies j ≡ None) (bytes_same a.own_if i e) (first_over a adjacencies distinct))
      ∙ sym (ap (λ u. cond u (Some (arc_of x a)) None) unusable)
  passed_at a i adjacencies false e unusable distinct = refl

  one_passed : (a : Adjacency) (adjacencies : List Adjacency) (arcs : List Arc) → is_usable me databases x db a ≡ false → AreOverDistinct (a ∷ adjacencies)
      → AreFromNode adjacencies arcs → AreFromNode (a ∷ adjacencies) arcs
  one_passed a adjacencies arcs unusable distinct f = record {
    from = f.from;
    ordered = f.ordered;
    at = λ i. f.at i ∙ passed_at a i adjacencies (bytes_eq a.own_if i) refl unusable distinct;
  }

  one_more : (a : Adjacency) (adjacencies : List Adjacency) (usable : Bool) → is_usable me databases x db a ≡ usable → AreOverDistinct (a ∷ adjacencies)
      → AreFromNode adjacencies (arcs_of_node adjacencies)
      → AreFromNode (a ∷ adjacencies) (by_interface (map (arc_of x) (cond usable (a ∷ filter (is_usable me databases x db) adjacencies) (filter (is_usable me databases x db) adjacencies))))
  one_more a adjacencies true e distinct f = one_used a adjacencies (arcs_of_node adjacencies) e distinct f
  one_more a adjacencies false e distinct f = one_passed a adjacencies (arcs_of_node adjacencies) e distinct f

  pub from_node : (adjacencies : List Adjacency) → AreOverDistinct adjacencies → AreFromNode adjacencies (arcs_of_node adjacencies)
  from_node [] distinct = record { from = tt; ordered = ordered_none; at = λ i. refl }
  from_node (a ∷ adjacencies) distinct =
      one_more a adjacencies (is_usable me databases x db a) refl distinct (from_node adjacencies (later_distinct a adjacencies distinct))

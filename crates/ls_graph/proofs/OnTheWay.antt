-- Arcs between two changes, and that the next change fits them.
use Rattle.std.proofs.Common.{◌≡◌, ℕ, List, [], ◌∷◌, ◌++◌, Bool, true, false, cond, Option, Some, None, refl, sym, ◌∙◌, ap, subst, ◌⊎◌, inl, inr}
use Rattle.std.specs.Prelude.{unwrap_or}
use Rattle.std.specs.declared.cmp.Ordering.TheVariants.{Equal}
use Rattle.std.specs.Ordering.{is_eq}
use Rattle.std.specs.List.{AllByRecursion, Contains}
use Rattle.std.specs.BTreeMap.{is_at}
use Rattle.std.proofs.lemmas.Bool.{false≢true}
use Rattle.std.proofs.lemmas.List.Elements.{Contains-append_cases, Contains-append_left, Contains-append_right}
use Rattle.or_base.proofs.Members.{Contains-first, Contains-later, Contains-cases}
use Rattle.ls_graph.specs.declared.arc.Arc.{Arc}
use Rattle.ls_graph.specs.declared.change.LinkChange.{LinkChange}
use Rattle.ls_graph.specs.Changes.{AreByPlace, AreChanges, ComesBefore, place_cmp, is_same_link, metric_among, with_change, with_changes, IsNextChange, ChangesGoOn}
use Rattle.ls_graph.specs.Places.{pair_cmp, place_of, arc_in}
use Rattle.ls_graph.proofs.Order.{at_itself, same_place, pair_exact}
use Rattle.ls_graph.proofs.ArcIn.{found_there, found_at_place}
use Rattle.ls_graph.proofs.Edits.{landed, arc_in_changed, ordered_changed}
use Rattle.ls_graph.proofs.Lists.{EachBefore, all_have, each_from_pairs}
use Rattle.ls_graph.proofs.Links.{link_itself, link_back, link_congr, one_place, metric_of, metric_by_place}
use Rattle.ls_graph.proofs.Leading.{NoneOf, found_metric}

-- ---- one element of a list, with those before and those after it

before_it : {X : Type 0} (R : X → X → Type 0) (xs : List X) (y : X) (ys : List X) → EachBefore R (xs ++ y ∷ ys) → AllByRecursion (λ x. R x y) xs
before_it R [] y ys each = tt
before_it R (x ∷ xs) y ys each =
    (all_have (R x) (xs ++ y ∷ ys) y each.0 (Contains-append_right xs (y ∷ ys) y (Contains-first y ys)), before_it R xs y ys each.1)

after_it : {X : Type 0} (R : X → X → Type 0) (xs : List X) (y : X) (ys : List X) → EachBefore R (xs ++ y ∷ ys) → AllByRecursion (R y) ys
after_it R [] y ys each = each.0
after_it R (x ∷ xs) y ys each = after_it R xs y ys each.1

ordered_all : (arcs : List Arc) (changes : List LinkChange) → AreByPlace arcs → AreByPlace (with_changes arcs changes)
ordered_all arcs [] ordered = ordered
ordered_all arcs (c ∷ changes) ordered = ordered_all (with_change arcs c) changes (ordered_changed arcs c ordered)

-- ---- the changes between two lists

module _ (before after : List Arc) (ordered : AreByPlace before) (ordered' : AreByPlace after) (all : List LinkChange) (are : AreChanges before after all) where
  -- an arc that arrives is of the others
  arrives : (c : LinkChange) (m : ℕ) → Contains all c → c.new ≡ Some m → Some c.arc ≡ arc_in after (place_of c.arc)
  arrives c m among new =
      let i = are.sound c among in
      found_metric (arc_in after (place_of c.arc)) c.arc m (sym new ∙ i.new ∙ metric_by_place after c.arc ordered') (i.metric ∙ ap (λ o. unwrap_or o (unwrap_or c.old 0)) new)

  -- an arc that goes is of the ones
  departs : (c : LinkChange) (m : ℕ) → Contains all c → c.new ≡ None → c.old ≡ Some m → Some c.arc ≡ arc_in before (place_of c.arc)
  departs c m among new old =
      let i = are.sound c among in
      found_metric (arc_in before (place_of c.arc)) c.arc m (sym old ∙ i.old ∙ metric_by_place before c.arc ordered)
      (i.metric ∙ ap (λ o. unwrap_or o (unwrap_or c.old 0)) new ∙ ap (λ o. unwrap_or o 0) old)

  of_either_if : (c : LinkChange) (new old : Option ℕ) → Contains all c → c.new ≡ new → c.old ≡ old → Contains before c.arc ⊎ Contains after c.arc
  of_either_if c (Some m) old among e f = inr (found_there (place_of c.arc) after c.arc (sym (arrives c m among e))).1
  of_either_if c None (Some m) among e f = inl (found_there (place_of c.arc) before c.arc (sym (departs c m among e f))).1
  of_either_if c None None among e f = absurd ((are.sound c among).differ (f ∙ sym e))

  -- ---- what is on the way

  landed_there : (c : LinkChange) (a : Arc) (new : Option ℕ) → Contains all c → c.new ≡ new → landed c.arc new ≡ Some a → Contains after a
  landed_there c a None among e is = let wrong : None ≡ Some a = is in cc
  landed_there c a (Some m) among e is =
      let same : c.arc ≡ a = cc in subst (Contains after) same (found_there (place_of c.arc) after c.arc (sym (arrives c m among e))).1

  kept_if : (arcs : List Arc) (c : LinkChange) (a : Arc) (t : Bool) → Contains all c → ((b : Arc) → Contains arcs b → Contains before b ⊎ Contains after b)
      → cond t (landed c.arc c.new) (arc_in arcs (place_of a)) ≡ Some a → Contains before a ⊎ Contains after a
  kept_if arcs c a true among either is = inr (landed_there c a c.new among refl is)
  kept_if arcs c a false among either is = either a (found_there (place_of a) arcs a is).1

  kept : (arcs : List Arc) (changes : List LinkChange) → ((c : LinkChange) → Contains changes c → Contains all c) → AreByPlace arcs
      → ((b : Arc) → Contains arcs b → Contains before b ⊎ Contains after b) → (a : Arc) → Contains (with_changes arcs changes) a → Contains before a ⊎ Contains after a
  kept arcs [] members sorted either a among = either a among
  kept arcs (c ∷ changes) members sorted either a among =
      let sorted' = ordered_changed arcs c sorted in
      kept (with_change arcs c) changes (λ d there. members d (Contains-later c changes d there)) sorted'
      (λ b there.
      kept_if arcs c b (is_at (pair_cmp (place_of b)) (place_of c.arc)) (members c (Contains-first c changes)) either
      (sym (arc_in_changed (place_of b) arcs c sorted) ∙ found_at_place (with_change arcs c) b sorted' there)) a among

  -- ---- the next change

  -- what is at a change's place when it comes: what was there at first, or nothing and nothing of its link
  abbrev IsReached : LinkChange → List LinkChange → List Arc → List Arc → Type 0
  IsReached c done start arcs =
      (NoneOf (place_of c.arc) done × (arc_in arcs (place_of c.arc) ≡ arc_in start (place_of c.arc))) ⊎ ((arc_in arcs (place_of c.arc) ≡ None) × (c.old ≡ None))

  passed : (c d : LinkChange) (done : List LinkChange) (start arcs : List Arc) (t : Bool) → is_at (pair_cmp (place_of c.arc)) (place_of d.arc) ≡ t → ComesBefore d c
      → NoneOf (place_of c.arc) done → arc_in arcs (place_of c.arc) ≡ cond t (landed d.arc d.new) (arc_in start (place_of c.arc)) → IsReached c (d ∷ done) start arcs
  passed c d done start arcs false e order none is = inl ((e, none), is)
  passed c d done start arcs true e (inl less) none is =
      absurd (false≢true (sym (ap is_eq less) ∙ subst (λ p. is_at (pair_cmp (place_of d.arc)) p ≡ true) (sym (same_place (place_of c.arc) (place_of d.arc) e)) (at_itself (place_of d.arc))))
  passed c d done start arcs true e (inr h) none is = inr (is ∙ ap (landed d.arc) h.1, h.2)

  reached : (c : LinkChange) (done : List LinkChange) (start : List Arc) → AreByPlace start → AllByRecursion (λ d. ComesBefore d c) done
      → IsReached c done start (with_changes start done)
  reached c [] start sorted order = inl (tt, refl)
  reached c (d ∷ done) start sorted order = by_cases (reached c done (with_change start d) (ordered_changed start d sorted) order.1) where
    by_cases : IsReached c done (with_change start d) (with_changes (with_change start d) done) → IsReached c (d ∷ done) start (with_changes (with_change start d) done)
    by_cases (inr gone) = inr gone
    by_cases (inl same) =
        passed c d done start (with_changes (with_change start d) done) (is_at (pair_cmp (place_of c.arc)) (place_of d.arc)) refl order.0 same.0
        (same.1 ∙ arc_in_changed (place_of c.arc) start d sorted)

module _ (before after : List Arc) (ordered : AreByPlace before) (ordered' : AreByPlace after) (done : List LinkChange) (c : LinkChange) (left : List LinkChange)
    (are : AreChanges before after (done ++ c ∷ left)) where
  member : Contains (done ++ c ∷ left) c
  member = Contains-append_right done (c ∷ left) c (Contains-first c left)

  arcs_sorted : AreByPlace (with_changes before done)
  arcs_sorted = ordered_all before done ordered

  -- another link at the place would have had to go before
  module _ (none : NoneOf (place_of c.arc) done) (a : Arc) (at : arc_in before (place_of c.arc) ≡ Some a) (other : is_same_link a c.arc ≡ false) where
    place : place_of c.arc ≡ place_of a
    place = (found_there (place_of c.arc) before a at).0

    old_none : c.old ≡ None
    old_none =
        (are.sound c member).old ∙ metric_by_place before c.arc ordered ∙ ap (λ o. metric_of o c.arc) at ∙ ap (λ t. cond t (Some a.metric) None) other

    new_some : (new : Option ℕ) → c.new ≡ new → arc_in after (place_of c.arc) ≡ Some c.arc
    new_some None e = absurd ((are.sound c member).differ (old_none ∙ sym e))
    new_some (Some m) e = sym (arrives before after ordered ordered' (done ++ c ∷ left) are c m member e)

    at_a : arc_in before (place_of a) ≡ Some a
    at_a = ap (arc_in before) (sym place) ∙ at

    after_a : arc_in after (place_of a) ≡ Some c.arc
    after_a = ap (arc_in after) (sym place) ∙ new_some c.new refl

    before_metric : (d : Arc) → is_same_link d a ≡ true → metric_among before d ≡ Some a.metric
    before_metric d link =
        metric_by_place before d ordered ∙ ap (λ p. metric_of (arc_in before p) d) (one_place d a link) ∙ ap (λ o. metric_of o d) at_a
        ∙ ap (λ t. cond t (Some a.metric) None) (link_back a d ∙ link)

    after_metric : (d : Arc) → is_same_link d a ≡ true → metric_among after d ≡ None
    after_metric d link =
        metric_by_place after d ordered' ∙ ap (λ p. metric_of (arc_in after p) d) (one_place d a link) ∙ ap (λ o. metric_of o d) after_a
        ∙ ap (λ t. cond t (Some c.arc.metric) None) (link_back c.arc d ∙ link_congr d a c.arc link ∙ other)

    departure : (d : LinkChange) × Contains (done ++ c ∷ left) d × (is_same_link d.arc a ≡ true)
    departure =
        are.all a (inl (found_there (place_of a) before a at_a).1)
        (λ e. let wrong : Some a.metric ≡ None = sym (before_metric a (link_itself a)) ∙ e ∙ after_metric a (link_itself a) in cc)

    departure_place : place_of c.arc ≡ place_of departure.0.arc
    departure_place = place ∙ sym (one_place departure.0.arc a departure.2)

    departure_old : departure.0.old ≡ Some a.metric
    departure_old = (are.sound departure.0 departure.1).old ∙ before_metric departure.0.arc departure.2

    at_departure : is_at (pair_cmp (place_of c.arc)) (place_of departure.0.arc) ≡ true
    at_departure = subst (λ p. is_at (pair_cmp (place_of c.arc)) p ≡ true) departure_place (at_itself (place_of c.arc))

    not_after : ComesBefore c departure.0 → ⊥
    not_after (inl less) = false≢true (sym (ap is_eq less) ∙ at_departure)
    not_after (inr h) = let wrong : None ≡ Some a.metric = sym h.2 ∙ departure_old in cc

    order : EachBefore ComesBefore (done ++ c ∷ left)
    order = each_from_pairs ComesBefore (done ++ c ∷ left) are.in_order

    nowhere : Contains done departure.0 ⊎ Contains (c ∷ left) departure.0 → ⊥
    nowhere (inl there) =
        false≢true (sym (all_have (λ d. is_at (pair_cmp (place_of c.arc)) (place_of d.arc) ≡ false) done departure.0 none there) ∙ at_departure)
    nowhere (inr there) = by_cases (Contains-cases c left departure.0 there) where
      by_cases : (c ≡ departure.0) ⊎ Contains left departure.0 → ⊥
      by_cases (inl same) = let wrong : None ≡ Some a.metric = sym old_none ∙ ap (λ d. d.old) same ∙ departure_old in cc
      by_cases (inr later) = not_after (all_have (ComesBefore c) left departure.0 (after_it ComesBefore done c left order) later)

    impossible : ⊥
    impossible = nowhere (Contains-append_cases done (c ∷ left) departure.0 departure.1)

  its_link : NoneOf (place_of c.arc) done → (a : Arc) (t : Bool) → is_same_link a c.arc ≡ t → arc_in before (place_of c.arc) ≡ Some a → is_same_link a c.arc ≡ true
  its_link none a true e at = e
  its_link none a false e at = absurd (impossible none a at e)

  at_place : (a : Arc) → Contains (with_changes before done) a → place_cmp a c.arc ≡ Equal → arc_in (with_changes before done) (place_of c.arc) ≡ Some a
  at_place a among same =
      ap (arc_in (with_changes before done)) (sym (pair_exact (place_of a) (place_of c.arc) same)) ∙ found_at_place (with_changes before done) a arcs_sorted among

  fits : IsReached before after ordered ordered' (done ++ c ∷ left) are c done before (with_changes before done) → IsNextChange before after (with_changes before done) c
  fits (inr gone) = record {
    of_either = of_either_if before after ordered ordered' (done ++ c ∷ left) are c c.new c.old member refl refl;
    old = metric_by_place (with_changes before done) c.arc arcs_sorted ∙ ap (λ o. metric_of o c.arc) gone.0 ∙ sym gone.1;
    alone = λ a among same. let wrong : None ≡ Some a = sym gone.0 ∙ at_place a among same in cc;
  }
  fits (inl same) = record {
    of_either = of_either_if before after ordered ordered' (done ++ c ∷ left) are c c.new c.old member refl refl;
    old =
        metric_by_place (with_changes before done) c.arc arcs_sorted ∙ ap (λ o. metric_of o c.arc) same.1 ∙ sym (metric_by_place before c.arc ordered)
        ∙ sym (are.sound c member).old;
    alone = λ a among here. its_link same.0 a (is_same_link a c.arc) refl (sym same.1 ∙ at_place a among here);
  }

  pub fits_next : IsNextChange before after (with_changes before done) c
  fits_next =
      fits (reached before after ordered ordered' (done ++ c ∷ left) are c done before ordered
      (before_it ComesBefore done c left (each_from_pairs ComesBefore (done ++ c ∷ left) are.in_order)))

pub changes_go_on : ChangesGoOn
changes_go_on = record {
  between = λ before after done left ordered ordered' are. record {
    by_place = ordered_all before done ordered;
    of_either =
        kept before after ordered ordered' (done ++ left) are before done (λ c among. Contains-append_left done left c among) ordered (λ b among. inl among);
  };
  next = λ before after done c left ordered ordered' are. fits_next before after ordered ordered' done c left are;
}

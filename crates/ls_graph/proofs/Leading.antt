-- Changes put in force in their order lead from the ones to the others.
use Rattle.std.proofs.Common.{◌≡◌, ◌≢◌, ℕ, List, [], ◌∷◌, Bool, true, false, cond, Option, Some, None, refl, sym, ◌∙◌, ap, subst, ◌⊎◌, inl, inr, eqb, eq-eqb, eqb-true}
use Rattle.std.specs.Prelude.{unwrap_or}
use Rattle.std.specs.Ordering.{is_eq}
use Rattle.std.specs.List.{AllByRecursion, Contains}
use Rattle.std.specs.BTreeMap.{is_at}
use Rattle.std.proofs.lemmas.Bool.{false≢true}
use Rattle.or_base.proofs.Members.{Contains-first, Contains-later, Contains-cases}
use Rattle.ls_graph.specs.declared.arc.Arc.{Arc}
use Rattle.ls_graph.specs.declared.change.LinkChange.{LinkChange}
use Rattle.ls_graph.specs.Changes.{AreByPlace, AreChanges, IsChange, ComesBefore, is_same_link, metric_among, with_change, with_changes, ChangesLeadOn, NoChangeIsNone}
use Rattle.ls_graph.specs.Places.{pair_cmp, place_of, arc_in}
use Rattle.ls_graph.proofs.Order.{same_place, at_itself}
use Rattle.ls_graph.proofs.ArcIn.{found_there}
use Rattle.ls_graph.proofs.Edits.{landed, arc_in_changed, ordered_changed, same_arcs}
use Rattle.ls_graph.proofs.Lists.{EachBefore, all_have, each_from_pairs}
use Rattle.ls_graph.proofs.Links.{link_itself, link_back, link_congr, one_place, same_arc, metric_of, metric_by_place}

-- no change is at the place
abbrev pub NoneOf : List ℕ × List ℕ → List LinkChange → Type 0
NoneOf p changes = AllByRecursion (λ d. is_at (pair_cmp p) (place_of d.arc) ≡ false) changes

-- the last change at each place leaves what is there in the end
abbrev Leave : List Arc → List LinkChange → Type 0
Leave after [] = Unit {0}
Leave after (c ∷ changes) = (NoneOf (place_of c.arc) changes → landed c.arc c.new ≡ arc_in after (place_of c.arc)) × Leave after changes

-- ---- such changes lead to the arcs in the end

step_if : (p : List ℕ × List ℕ) (arcs after : List Arc) (c : LinkChange) (changes : List LinkChange) (t : Bool) → is_at (pair_cmp p) (place_of c.arc) ≡ t
    → (NoneOf (place_of c.arc) changes → landed c.arc c.new ≡ arc_in after (place_of c.arc))
    → (NoneOf p (c ∷ changes) → arc_in arcs p ≡ arc_in after p)
    → NoneOf p changes → cond t (landed c.arc c.new) (arc_in arcs p) ≡ arc_in after p
step_if p arcs after c changes true e leaves rest none =
    let same = same_place p (place_of c.arc) e in
    leaves (subst (λ q. NoneOf q changes) same none) ∙ ap (arc_in after) (sym same)
step_if p arcs after c changes false e leaves rest none = rest (e, none)

leads : (arcs after : List Arc) (changes : List LinkChange) → AreByPlace arcs → AreByPlace after → Leave after changes
    → ((p : List ℕ × List ℕ) → NoneOf p changes → arc_in arcs p ≡ arc_in after p) → with_changes arcs changes ≡ after
leads arcs after [] ordered ordered' leave same = same_arcs arcs after ordered ordered' (λ p. same p tt)
leads arcs after (c ∷ changes) ordered ordered' leave same =
    leads (with_change arcs c) after changes (ordered_changed arcs c ordered) ordered' leave.1
    (λ p none. arc_in_changed p arcs c ordered ∙ step_if p arcs after c changes (is_at (pair_cmp p) (place_of c.arc)) refl leave.0 (same p) none)

-- ---- the changes between two lists are such

pub found_metric : (o : Option Arc) (a : Arc) (m : ℕ) → Some m ≡ metric_of o a → a.metric ≡ m → Some a ≡ o
found_metric None a m e metric = cc
found_metric (Some b) a m e metric = by_test (is_same_link b a) refl e where
  by_test : (t : Bool) → is_same_link b a ≡ t → Some m ≡ cond t (Some b.metric) None → Some a ≡ Some b
  by_test true link e = let same : b.metric ≡ a.metric = cc in ap Some (sym (same_arc b a link same))
  by_test false link e = cc

module _ (before after : List Arc) (ordered : AreByPlace before) (ordered' : AreByPlace after) (all : List LinkChange) (are : AreChanges before after all) where
  -- a change that takes a link away, while another link arrives at its place
  record IsSupplanted (c : LinkChange) (b : Arc) : Type 0 where
    member : Contains all c
    gone : c.new ≡ None
    there : arc_in after (place_of c.arc) ≡ Some b

  module _ (c : LinkChange) (b : Arc) (s : IsSupplanted c b) where
    is : IsChange before after c
    is = are.sound c s.member

    place : place_of c.arc ≡ place_of b
    place = (found_there (place_of c.arc) after b s.there).0

    known_if : (t : Bool) → is_same_link b c.arc ≡ t → c.new ≡ cond t (Some b.metric) None → is_same_link b c.arc ≡ false
    known_if true e f = let g : None ≡ Some b.metric = sym s.gone ∙ f in cc
    known_if false e f = e

    other_link : is_same_link b c.arc ≡ false
    other_link =
        known_if (is_same_link b c.arc) refl (is.new ∙ metric_by_place after c.arc ordered' ∙ ap (λ o. metric_of o c.arc) s.there)

    old_at : (o : Option Arc) → c.old ≡ metric_of o c.arc → metric_of o b ≡ None
    old_at None e = refl
    old_at (Some a) e = by_tests (is_same_link a b) refl (is_same_link a c.arc) refl where
      by_tests : (t : Bool) → is_same_link a b ≡ t → (u : Bool) → is_same_link a c.arc ≡ u → cond t (Some a.metric) None ≡ None
      by_tests false link u f = refl
      by_tests true link true f = absurd (false≢true (sym other_link ∙ sym (link_congr a b c.arc link) ∙ f))
      by_tests true link false f = absurd (is.differ (e ∙ ap (λ t. cond t (Some a.metric) None) f ∙ sym s.gone))

    before_none : metric_among before b ≡ None
    before_none =
        metric_by_place before b ordered ∙ ap (λ p. metric_of (arc_in before p) b) (sym place)
        ∙ old_at (arc_in before (place_of c.arc)) (is.old ∙ metric_by_place before c.arc ordered)

    at_b : arc_in after (place_of b) ≡ Some b
    at_b = ap (arc_in after) (sym place) ∙ s.there

    after_some : metric_among after b ≡ Some b.metric
    after_some = metric_by_place after b ordered' ∙ ap (λ o. metric_of o b) at_b ∙ ap (λ t. cond t (Some b.metric) None) (link_itself b)

    arrival : (d : LinkChange) × Contains all d × (is_same_link d.arc b ≡ true)
    arrival = are.all b (inr (found_there (place_of b) after b at_b).1) (λ e. let f : None ≡ Some b.metric = sym before_none ∙ e ∙ after_some in cc)

    arrival_new : arrival.0.new ≡ Some b.metric
    arrival_new =
        let d = arrival.0 in let link = arrival.2 in
        (are.sound d arrival.1).new ∙ metric_by_place after d.arc ordered' ∙ ap (λ p. metric_of (arc_in after p) d.arc) (one_place d.arc b link)
        ∙ ap (λ o. metric_of o d.arc) at_b ∙ ap (λ t. cond t (Some b.metric) None) (link_back b d.arc ∙ link)

    arrival_place : place_of c.arc ≡ place_of arrival.0.arc
    arrival_place = place ∙ sym (one_place arrival.0.arc b arrival.2)

    not_before : ComesBefore arrival.0 c → ⊥
    not_before (inl less) =
        let here : is_at (pair_cmp (place_of arrival.0.arc)) (place_of c.arc) ≡ true =
        subst (λ p. is_at (pair_cmp p) (place_of c.arc) ≡ true) arrival_place (at_itself (place_of c.arc)) in
        false≢true (sym (ap is_eq less) ∙ here)
    not_before (inr h) = let e : None ≡ Some b.metric = sym h.1 ∙ arrival_new in cc

    not_itself : c ≡ arrival.0 → ⊥
    not_itself e = let f : None ≡ Some b.metric = sym s.gone ∙ ap (λ d. d.new) e ∙ arrival_new in cc

    not_later : (changes : List LinkChange) → NoneOf (place_of c.arc) changes → Contains changes arrival.0 → ⊥
    not_later changes none among =
        false≢true (sym (all_have (λ d. is_at (pair_cmp (place_of c.arc)) (place_of d.arc) ≡ false) changes arrival.0 none among)
        ∙ subst (λ p. is_at (pair_cmp (place_of c.arc)) p ≡ true) arrival_place (at_itself (place_of c.arc)))

    -- the arrival is neither before this change, nor it, nor later
    nowhere : (changes : List LinkChange) → NoneOf (place_of c.arc) changes
        → Contains (c ∷ changes) arrival.0 ⊎ AllByRecursion (ComesBefore arrival.0) (c ∷ changes) → ⊥
    nowhere changes none (inr earlier) = not_before earlier.0
    nowhere changes none (inl among) = by_cases (Contains-cases c changes arrival.0 among) where
      by_cases : (c ≡ arrival.0) ⊎ Contains changes arrival.0 → ⊥
      by_cases (inl same) = not_itself same
      by_cases (inr there) = not_later changes none there

  -- the changes that are left, and where each change is: among them, or before them
  record AreLeft (changes : List LinkChange) : Type 0 where
    members : (c : LinkChange) → Contains changes c → Contains all c
    others : (d : LinkChange) → Contains all d → Contains changes d ⊎ AllByRecursion (ComesBefore d) changes
    order : EachBefore ComesBefore changes

  left_later : (c : LinkChange) (changes : List LinkChange) → AreLeft (c ∷ changes) → AreLeft changes
  left_later c changes left = record {
    members = λ d among. left.members d (Contains-later c changes d among);
    others = λ d among. pass (left.others d among);
    order = left.order.1;
  } where
    pass : {d : LinkChange} → Contains (c ∷ changes) d ⊎ AllByRecursion (ComesBefore d) (c ∷ changes) → Contains changes d ⊎ AllByRecursion (ComesBefore d) changes
    pass (inr earlier) = inr earlier.1
    pass {d = d} (inl among) = by_cases (Contains-cases c changes d among) where
      by_cases : (c ≡ d) ⊎ Contains changes d → Contains changes d ⊎ AllByRecursion (ComesBefore d) changes
      by_cases (inl same) = inr (subst (λ x. AllByRecursion (ComesBefore x) changes) same left.order.0)
      by_cases (inr there) = inl there

  gone_left : (c : LinkChange) (changes : List LinkChange) (o : Option Arc) → AreLeft (c ∷ changes) → c.new ≡ None → arc_in after (place_of c.arc) ≡ o
      → NoneOf (place_of c.arc) changes → None ≡ o
  gone_left c changes None left new at none = refl
  gone_left c changes (Some b) left new at none =
      let s : IsSupplanted c b = record { member = left.members c (Contains-first c changes); gone = new; there = at } in
      absurd (nowhere c b s changes none (left.others (arrival c b s).0 (arrival c b s).1))

  leaves_at : (c : LinkChange) (changes : List LinkChange) (new : Option ℕ) → c.new ≡ new → AreLeft (c ∷ changes)
      → NoneOf (place_of c.arc) changes → landed c.arc new ≡ arc_in after (place_of c.arc)
  leaves_at c changes None new left none = gone_left c changes (arc_in after (place_of c.arc)) left new refl none
  leaves_at c changes (Some m) new left none =
      let i = are.sound c (left.members c (Contains-first c changes)) in
      found_metric (arc_in after (place_of c.arc)) c.arc m (sym new ∙ i.new ∙ metric_by_place after c.arc ordered')
      (i.metric ∙ ap (λ o. unwrap_or o (unwrap_or c.old 0)) new)

  leave_all : (changes : List LinkChange) → AreLeft changes → Leave after changes
  leave_all [] left = tt
  leave_all (c ∷ changes) left = (leaves_at c changes c.new refl left, leave_all changes (left_later c changes left))

  all_left : AreLeft all
  all_left = record { members = λ c among. among; others = λ d among. inl among; order = each_from_pairs ComesBefore all are.in_order }

  -- ---- away from the changes the lists have the same arcs

  no_difference : (p : List ℕ × List ℕ) (a : Arc) → p ≡ place_of a → Contains before a ⊎ Contains after a → NoneOf p all
      → metric_of (arc_in before p) a ≢ metric_of (arc_in after p) a → ⊥
  no_difference p a at among none differ =
      let t = are.all a among
      (λ e. differ (ap (λ q. metric_of (arc_in before q) a) at ∙ sym (metric_by_place before a ordered) ∙ e ∙ metric_by_place after a ordered'
      ∙ ap (λ q. metric_of (arc_in after q) a) (sym at))) in
      let there : p ≡ place_of t.0.arc = at ∙ sym (one_place t.0.arc a t.2) in
      false≢true (sym (all_have (λ d. is_at (pair_cmp p) (place_of d.arc) ≡ false) all t.0 none t.1) ∙ subst (λ q. is_at (pair_cmp p) q ≡ true) there (at_itself p))

  known : (a : Arc) → metric_of (Some a) a ≡ Some a.metric
  known a = ap (λ t. cond t (Some a.metric) None) (link_itself a)

  same_if : (p : List ℕ × List ℕ) (a b : Arc) (link metric : Bool) → arc_in before p ≡ Some a → arc_in after p ≡ Some b → is_same_link a b ≡ link → eqb a.metric b.metric ≡ metric
      → NoneOf p all → Some a ≡ Some b
  same_if p a b true true at at' e f none = ap Some (same_arc a b e (eqb-true a.metric b.metric f))
  same_if p a b true false at at' e f none =
      let found = found_there p before a at in
      absurd (no_difference p a found.0 (inl found.1) none
      (λ same.
      let m : Some a.metric ≡ Some b.metric =
      sym (known a) ∙ ap (λ o. metric_of o a) (sym at) ∙ same ∙ ap (λ o. metric_of o a) at' ∙ ap (λ t. cond t (Some b.metric) None) (link_back b a ∙ e) in
      let n : a.metric ≡ b.metric = cc in
      false≢true (sym f ∙ eq-eqb a.metric b.metric n)))
  same_if p a b false metric at at' e f none =
      let found = found_there p before a at in
      absurd (no_difference p a found.0 (inl found.1) none
      (λ same.
      let m : Some a.metric ≡ None =
      sym (known a) ∙ ap (λ o. metric_of o a) (sym at) ∙ same ∙ ap (λ o. metric_of o a) at' ∙ ap (λ t. cond t (Some b.metric) None) (link_back b a ∙ e) in
      cc))

  same_at : (p : List ℕ × List ℕ) (o o' : Option Arc) → arc_in before p ≡ o → arc_in after p ≡ o' → NoneOf p all → o ≡ o'
  same_at p None None at at' none = refl
  same_at p None (Some b) at at' none =
      let found = found_there p after b at' in
      absurd (no_difference p b found.0 (inr found.1) none
      (λ same. let m : None ≡ Some b.metric = ap (λ o. metric_of o b) (sym at) ∙ same ∙ ap (λ o. metric_of o b) at' ∙ known b in cc))
  same_at p (Some a) None at at' none =
      let found = found_there p before a at in
      absurd (no_difference p a found.0 (inl found.1) none
      (λ same. let m : Some a.metric ≡ None = sym (known a) ∙ ap (λ o. metric_of o a) (sym at) ∙ same ∙ ap (λ o. metric_of o a) at' in cc))
  same_at p (Some a) (Some b) at at' none = same_if p a b (is_same_link a b) (eqb a.metric b.metric) at at' refl refl none

  pub lead_on : with_changes before all ≡ after
  lead_on = leads before after all ordered ordered' (leave_all all all_left) (λ p none. same_at p (arc_in before p) (arc_in after p) refl refl none)

pub changes_lead_on : ChangesLeadOn
changes_lead_on before after changes ordered ordered' are = lead_on before after ordered ordered' changes are

pub no_change_is_none : NoChangeIsNone
no_change_is_none before after ordered ordered' are = lead_on before after ordered ordered' [] are

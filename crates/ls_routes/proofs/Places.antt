-- Where tables differ at no prefix but some places, what changes there is all that changes.
use Rattle.std.proofs.Common.{◌≡◌, List, [], ◌∷◌, Bool, true, false, cond, Option, Some, None, refl, sym, ◌∙◌, ap, subst, ◌||◌, ◌&&◌}
use Rattle.std.specs.declared.cmp.Ordering.TheVariants.{Less}
use Rattle.std.specs.List.{AllByRecursion, filter_map, cons_option}
use Rattle.std.specs.List.Sorted.{IsStrictlySortedBy}
use Rattle.std.specs.BTreeMap.{is_at}
use Rattle.std.proofs.lemmas.List.Kept.{IsStrictlySortedBy-filter}
use Rattle.std.proofs.lemmas.Map.Views.{any-filter_same}
use Rattle.or_base.specs.Prefixes.{prefix_cmp}
use Rattle.or_base.specs.declared.prefix.Prefix.{Prefix}
use Rattle.or_base.specs.declared.route.Route.{Route}
use Rattle.ls_routes.specs.Laws.{PlacesGiveTheDelta, SameTableHasNoDelta}
use Rattle.ls_routes.specs.Routes.{IsTable, IsDelta, route_to, is_listed, route_among, is_gone, route_set, is_same_route, delta_between, delta_at}
use Rattle.ls_routes.proofs.Tables.{prefix_from_test, found_own, no_routes}
use Rattle.ls_routes.proofs.SameRoutes.{same_route_itself}
use Rattle.ls_routes.proofs.Deltas.{prefixes_of, delta_between_is, one_delta}

-- ---- routes chosen at places

module _ (chosen : Prefix → Option Route) (own : (p : Prefix) (r : Route) → chosen p ≡ Some r → r.prefix ≡ p) where
  all_chosen_if : (P : Prefix → Type 0) (p : Prefix) (here : Option Route) (rest : List Route) → ((r : Route) → here ≡ Some r → r.prefix ≡ p) → P p → AllByRecursion P (prefixes_of rest)
      → AllByRecursion P (prefixes_of (cons_option here rest))
  all_chosen_if P p None rest at it all = all
  all_chosen_if P p (Some r) rest at it all = (subst P (sym (at r refl)) it, all)

  all_chosen : (P : Prefix → Type 0) (places : List Prefix) → AllByRecursion P places → AllByRecursion P (prefixes_of (filter_map chosen places))
  all_chosen P [] all = tt
  all_chosen P (p ∷ places) all = all_chosen_if P p (chosen p) (filter_map chosen places) (own p) all.0 (all_chosen P places all.1)

  rises_chosen_if : (p : Prefix) (here : Option Route) (rest : List Route) → ((r : Route) → here ≡ Some r → r.prefix ≡ p)
      → AllByRecursion (λ q. prefix_cmp p q ≡ Less) (prefixes_of rest) → IsStrictlySortedBy prefix_cmp (prefixes_of rest)
      → IsStrictlySortedBy prefix_cmp (prefixes_of (cons_option here rest))
  unfolding IsStrictlySortedBy
  rises_chosen_if p None rest at before rises = rises
  rises_chosen_if p (Some r) rest at before rises = (subst (λ k. AllByRecursion (λ q. prefix_cmp k q ≡ Less) (prefixes_of rest)) (sym (at r refl)) before, rises)

  pub rises_chosen : (places : List Prefix) → IsStrictlySortedBy prefix_cmp places → IsStrictlySortedBy prefix_cmp (prefixes_of (filter_map chosen places))
  unfolding IsStrictlySortedBy
  rises_chosen [] rises = tt
  rises_chosen (p ∷ places) rises =
      rises_chosen_if p (chosen p) (filter_map chosen places) (own p) (all_chosen (λ q. prefix_cmp p q ≡ Less) places rises.0) (rises_chosen places rises.1)

  -- by what is chosen here, and whether the prefix is this place
  chosen_if : (p q : Prefix) (here : Option Route) (at listed : Bool) (rest : List Route) → ((r : Route) → here ≡ Some r → r.prefix ≡ q) → is_at (prefix_cmp p) q ≡ at
      → (at ≡ true → chosen p ≡ here) → route_among rest p ≡ cond listed (chosen p) None → route_among (cons_option here rest) p ≡ cond (at || listed) (chosen p) None
  chosen_if p q None true true rest own_here at same later = later
  chosen_if p q None true false rest own_here at same later = later ∙ sym (same refl)
  chosen_if p q None false listed rest own_here at same later = later
  chosen_if p q (Some r) true listed rest own_here at same later =
      ap (λ k. cond (is_at (prefix_cmp p) k) (Some r) (route_among rest p)) (own_here r refl) ∙ ap (λ t. cond t (Some r) (route_among rest p)) at ∙ sym (same refl)
  chosen_if p q (Some r) false listed rest own_here at same later =
      ap (λ k. cond (is_at (prefix_cmp p) k) (Some r) (route_among rest p)) (own_here r refl) ∙ ap (λ t. cond t (Some r) (route_among rest p)) at ∙ later

  pub among_chosen : (places : List Prefix) (p : Prefix) → route_among (filter_map chosen places) p ≡ cond (is_listed places p) (chosen p) None
  among_chosen [] p = refl
  among_chosen (q ∷ places) p =
      chosen_if p q (chosen q) (is_at (prefix_cmp p) q) (is_listed places p) (filter_map chosen places) (own q) refl
      (λ at. ap chosen (prefix_from_test p q at)) (among_chosen places p)

-- ---- the change at places

set_own : (before after : Option Route) (p : Prefix) → ((r : Route) → after ≡ Some r → r.prefix ≡ p) → (r : Route) → route_set before after ≡ Some r → r.prefix ≡ p
set_own before None p own r is = cc
set_own None (Some s) p own r is = own r is
set_own (Some q) (Some s) p own r is = new_own (is_same_route q s) is where
  new_own : (same : Bool) → cond same None (Some s) ≡ Some r → r.prefix ≡ p
  new_own true e = cc
  new_own false e = own r e

unchanged_set : (found : Option Route) → route_set found found ≡ None
unchanged_set None = refl
unchanged_set (Some r) = ap (λ same. cond same None (Some r)) (same_route_itself r)

unchanged_stays : (found : Option Route) → is_gone found found ≡ false
unchanged_stays None = refl
unchanged_stays (Some r) = refl

gone_at : (listed : Bool) (before after : Option Route) → (listed ≡ false → before ≡ after) → (is_gone before after && listed) ≡ is_gone before after
gone_at true None None same = refl
gone_at true None (Some r) same = refl
gone_at true (Some q) None same = refl
gone_at true (Some q) (Some r) same = refl
gone_at false None None same = refl
gone_at false None (Some r) same = refl
gone_at false (Some q) None same = let wrong = same refl in absurd cc
gone_at false (Some q) (Some r) same = refl

set_at : (listed : Bool) (before after : Option Route) → (listed ≡ false → before ≡ after) → cond listed (route_set before after) None ≡ route_set before after
set_at true before after same = refl
set_at false before after same = sym (ap (λ found. route_set found after) (same refl) ∙ unchanged_set after)

module _ (old new : List (Prefix × Route)) (places : List Prefix) (table : IsTable old) (table' : IsTable new) where
  abbrev coming : Prefix → Option Route
  coming p = route_set (route_to old p) (route_to new p)

  coming_own : (p : Prefix) (r : Route) → coming p ≡ Some r → r.prefix ≡ p
  coming_own p r is = set_own (route_to old p) (route_to new p) p (λ s found. found_own new p s table'.own found) r is

  pub delta_at_is : IsStrictlySortedBy prefix_cmp places → ((p : Prefix) → is_listed places p ≡ false → route_to old p ≡ route_to new p)
      → IsDelta old new (delta_at (route_to old) (route_to new) places)
  delta_at_is rises same = record {
    del_rises = IsStrictlySortedBy-filter prefix_cmp (λ p. is_gone (route_to old p) (route_to new p)) places rises;
    set_rises = rises_chosen coming coming_own places rises;
    goes =
        λ p.
        any-filter_same (is_at (prefix_cmp p)) (λ q. is_gone (route_to old q) (route_to new q)) (is_gone (route_to old p) (route_to new p))
        (λ q at. ap (λ k. is_gone (route_to old k) (route_to new k)) (sym (prefix_from_test p q at))) places
        ∙ gone_at (is_listed places p) (route_to old p) (route_to new p) (same p);
    comes = λ p. among_chosen coming coming_own places p ∙ set_at (is_listed places p) (route_to old p) (route_to new p) (same p);
  }

pub places_give_the_delta : PlacesGiveTheDelta
places_give_the_delta old new places table table' rises same =
    one_delta old new (delta_between old new) (delta_at (route_to old) (route_to new) places) (delta_between_is old new table table')
    (delta_at_is old new places table table' rises same)

pub same_table_has_no_delta : SameTableHasNoDelta
same_table_has_no_delta t table = places_give_the_delta t t [] table table no_routes.by_prefix (λ p unlisted. refl)

-- A table in which some prefixes have been given chosen routes is the table with these routes there.
use Rattle.std.proofs.Common.{◌≡◌, List, [], ◌∷◌, Bool, true, false, cond, Option, Some, None, refl, sym, ◌∙◌, ap, ◌||◌}
use Rattle.std.specs.BTreeMap.{is_at}
use Rattle.or_base.specs.Prefixes.{prefix_cmp}
use Rattle.or_base.specs.declared.prefix.Prefix.{Prefix}
use Rattle.or_base.specs.declared.route.Route.{Route}
use Rattle.ls_routes.specs.Laws.{RoutesAtAreThese}
use Rattle.ls_routes.specs.Routes.{IsTable, route_to, route_changed, routes_changed, is_listed}
use Rattle.ls_routes.proofs.Tables.{prefix_from_test, prefix_back, route_to_with, route_to_without, table_with, table_without, equal_lookups_are_one_table}

pub table_changed : (t : List (Prefix × Route)) (p : Prefix) (route : Option Route) → IsTable t → IsTable (route_changed t p route)
table_changed t p None table = table_without t p table
table_changed t p (Some r) table = table_with t r table

found_changed : (t : List (Prefix × Route)) (q : Prefix) (route : Option Route) (p : Prefix) → IsTable t → ((r : Route) → route ≡ Some r → r.prefix ≡ q)
    → route_to (route_changed t q route) p ≡ cond (is_at (prefix_cmp q) p) route (route_to t p)
found_changed t q None p table own = route_to_without t q p table.by_prefix
found_changed t q (Some r) p table own = route_to_with t r p ∙ ap (λ k. cond (is_at (prefix_cmp k) p) (Some r) (route_to t p)) (own r refl)

changed_twice : (listed here : Bool) (at there old : Option Route) → (here ≡ true → there ≡ at) → cond listed at (cond here there old) ≡ cond (here || listed) at old
changed_twice true true at there old same = refl
changed_twice true false at there old same = refl
changed_twice false true at there old same = same refl
changed_twice false false at there old same = refl

module _ (chosen : Prefix → Option Route) (own : (p : Prefix) (r : Route) → chosen p ≡ Some r → r.prefix ≡ p) where
  pub table_after : (t : List (Prefix × Route)) (places : List Prefix) → IsTable t → IsTable (routes_changed chosen t places)
  table_after t [] table = table
  table_after t (q ∷ places) table = table_after (route_changed t q (chosen q)) places (table_changed t q (chosen q) table)

  -- the chosen route at the places, and the old one elsewhere
  pub found_after : (t : List (Prefix × Route)) (places : List Prefix) (p : Prefix) → IsTable t
      → route_to (routes_changed chosen t places) p ≡ cond (is_listed places p) (chosen p) (route_to t p)
  found_after t [] p table = refl
  found_after t (q ∷ places) p table =
      found_after (route_changed t q (chosen q)) places p (table_changed t q (chosen q) table)
      ∙ ap (λ found. cond (is_listed places p) (chosen p) found)
      (found_changed t q (chosen q) p table (own q) ∙ ap (λ here. cond here (chosen q) (route_to t p)) (prefix_back p q))
      ∙ changed_twice (is_listed places p) (is_at (prefix_cmp p) q) (chosen p) (chosen q) (route_to t p) (λ at. ap chosen (sym (prefix_from_test p q at)))

found_either : (listed : Bool) (chosen old new : Option Route) → (listed ≡ true → new ≡ chosen) → (listed ≡ false → new ≡ old) → cond listed chosen old ≡ new
found_either true chosen old new at elsewhere = sym (at refl)
found_either false chosen old new at elsewhere = sym (elsewhere refl)

pub routes_at_are_these : RoutesAtAreThese
routes_at_are_these chosen old new places table table' own at elsewhere =
    equal_lookups_are_one_table (routes_changed chosen old places) new (table_after chosen own old places table) table'
    (λ p. found_after chosen own old places p table ∙ found_either (is_listed places p) (chosen p) (route_to old p) (route_to new p) (at p) (elsewhere p))

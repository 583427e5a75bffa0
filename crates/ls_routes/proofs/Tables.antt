-- Tables stay tables, and look-ups tell all of a table.
use Rattle.std.proofs.Common.{◌≡◌, List, [], ◌∷◌, Bool, true, false, cond, Option, Some, None, fold, refl, sym, ◌∙◌, ap, ◌||◌}
use Rattle.std.specs.declared.cmp.Ordering.{Ordering}
use Rattle.std.specs.declared.cmp.Ordering.TheVariants.{Less, Equal, Greater}
use Rattle.std.specs.Prelude.{is_some}
use Rattle.std.specs.Ordering.{match_ordering}
use Rattle.std.specs.List.{AllByRecursion}
use Rattle.std.specs.List.Sorted.{IsStrictlySortedBy}
use Rattle.std.specs.Map.{keys_of}
use Rattle.std.specs.BTreeMap.{is_at}
use Rattle.std.proofs.lemmas.Map.Keys.{sorted_tail}
use Rattle.or_base.specs.Prefixes.{prefix_cmp}
use Rattle.or_base.specs.declared.prefix.Prefix.{Prefix}
use Rattle.or_base.specs.declared.route.Route.{Route}
use Rattle.ls_routes.specs.Laws.{EqualLookupsAreOneTable}
use Rattle.ls_routes.specs.Routes.{HasOwnPrefix, IsTable, route_to, with_route, without_route, is_listed}
use Rattle.ls_routes.proofs.Order.{prefix_total, prefix_exact}
use Rattle.ls_routes.proofs.Entries.{same_key, at_itself, test_back, lookup_with, lookup_without, ordered_with, ordered_without, same_entries}

pub prefix_from_test : (p q : Prefix) → is_at (prefix_cmp p) q ≡ true → p ≡ q
prefix_from_test = same_key prefix_total prefix_exact

pub prefix_itself : (p : Prefix) → is_at (prefix_cmp p) p ≡ true
prefix_itself = at_itself prefix_total prefix_exact

pub prefix_back : (p q : Prefix) → is_at (prefix_cmp q) p ≡ is_at (prefix_cmp p) q
prefix_back = test_back prefix_total prefix_exact

pub equal_lookups_are_one_table : EqualLookupsAreOneTable
equal_lookups_are_one_table s t table table' same = same_entries prefix_total prefix_exact s t table.by_prefix table'.by_prefix same

-- ---- one change

pub route_to_with : (t : List (Prefix × Route)) (r : Route) (p : Prefix) → route_to (with_route t r) p ≡ cond (is_at (prefix_cmp r.prefix) p) (Some r) (route_to t p)
route_to_with t r p = lookup_with prefix_total prefix_exact r.prefix r p t

pub route_to_without : (t : List (Prefix × Route)) (gone p : Prefix) → IsStrictlySortedBy prefix_cmp (keys_of t)
    → route_to (without_route t gone) p ≡ cond (is_at (prefix_cmp gone) p) None (route_to t p)
route_to_without t gone p rises = lookup_without prefix_total prefix_exact gone p t rises

own_placed : (o : Ordering) (r : Route) (e : Prefix × Route) (es later : List (Prefix × Route)) → prefix_cmp r.prefix e.0 ≡ o → HasOwnPrefix e
    → AllByRecursion HasOwnPrefix es → AllByRecursion HasOwnPrefix later
    → AllByRecursion HasOwnPrefix (match_ordering o ((r.prefix, r) ∷ e ∷ es) ((e.0, r) ∷ es) (e ∷ later))
own_placed Less r e es later is here all after = (refl, (here, all))
own_placed Equal r e es later is here all after = (prefix_exact r.prefix e.0 is, all)
own_placed Greater r e es later is here all after = (here, after)

own_with : (t : List (Prefix × Route)) (r : Route) → AllByRecursion HasOwnPrefix t → AllByRecursion HasOwnPrefix (with_route t r)
own_with [] r own = (refl, tt)
own_with (e ∷ es) r own = own_placed (prefix_cmp r.prefix e.0) r e es (with_route es r) refl own.0 own.1 (own_with es r own.1)

own_left_if : (here : Bool) (e : Prefix × Route) (es left : List (Prefix × Route)) → HasOwnPrefix e → AllByRecursion HasOwnPrefix es → AllByRecursion HasOwnPrefix left
    → AllByRecursion HasOwnPrefix (cond here es (e ∷ left))
own_left_if true e es left here all rest = all
own_left_if false e es left here all rest = (here, rest)

own_without : (t : List (Prefix × Route)) (gone : Prefix) → AllByRecursion HasOwnPrefix t → AllByRecursion HasOwnPrefix (without_route t gone)
own_without [] gone own = tt
own_without (e ∷ es) gone own = own_left_if (is_at (prefix_cmp gone) e.0) e es (without_route es gone) own.0 own.1 (own_without es gone own.1)

pub no_routes : IsTable []
unfolding IsStrictlySortedBy
no_routes = record { by_prefix = tt; own = tt }

pub table_with : (t : List (Prefix × Route)) (r : Route) → IsTable t → IsTable (with_route t r)
table_with t r table = record {
  by_prefix = ordered_with prefix_total prefix_exact r.prefix r t table.by_prefix;
  own = own_with t r table.own;
}

pub table_without : (t : List (Prefix × Route)) (gone : Prefix) → IsTable t → IsTable (without_route t gone)
table_without t gone table = record {
  by_prefix = ordered_without prefix_total prefix_exact gone t table.by_prefix;
  own = own_without t gone table.own;
}

pub later_table : (e : Prefix × Route) (es : List (Prefix × Route)) → IsTable (e ∷ es) → IsTable es
later_table e es table = record { by_prefix = sorted_tail prefix_cmp e.0 (keys_of es) table.by_prefix; own = table.own.1 }

-- ---- what is found

own_if : (here : Bool) (e : Prefix × Route) (rest : Option Route) (p : Prefix) (r : Route) → is_at (prefix_cmp p) e.0 ≡ here → HasOwnPrefix e
    → (rest ≡ Some r → r.prefix ≡ p) → cond here (Some e.1) rest ≡ Some r → r.prefix ≡ p
own_if true e rest p r at own later found =
    let is : e.1 ≡ r = cc in ap (λ s. s.prefix) (sym is) ∙ own ∙ sym (prefix_from_test p e.0 at)
own_if false e rest p r at own later found = later found

-- a route that is found is to the prefix that was asked
pub found_own : (t : List (Prefix × Route)) (p : Prefix) (r : Route) → AllByRecursion HasOwnPrefix t → route_to t p ≡ Some r → r.prefix ≡ p
found_own [] p r own found = cc
found_own (e ∷ es) p r own found = own_if (is_at (prefix_cmp p) e.0) e (route_to es p) p r refl own.0 (found_own es p r own.1) found

found_or : (here : Bool) (r : Route) (rest : Option Route) (listed : Bool) → listed ≡ is_some rest → (here || listed) ≡ is_some (cond here (Some r) rest)
found_or true r rest listed e = refl
found_or false r rest listed e = e

-- a prefix is in a table where there is a route to it
pub listed_found : (t : List (Prefix × Route)) (p : Prefix) → is_listed (keys_of t) p ≡ is_some (route_to t p)
listed_found [] p = refl
listed_found (e ∷ es) p = found_or (is_at (prefix_cmp p) e.0) e.1 (route_to es p) (is_listed (keys_of es) p) (listed_found es p)

-- ---- many removed

pub removed_twice : (s t : Bool) (r : Option Route) → cond s None (cond t None r) ≡ cond (t || s) None r
removed_twice true true r = refl
removed_twice true false r = refl
removed_twice false true r = refl
removed_twice false false r = refl

pub route_to_removed : (t : List (Prefix × Route)) (gone : List Prefix) (p : Prefix) → IsStrictlySortedBy prefix_cmp (keys_of t)
    → route_to (fold without_route t gone) p ≡ cond (is_listed gone p) None (route_to t p)
route_to_removed t [] p rises = refl
route_to_removed t (q ∷ gone) p rises =
    route_to_removed (without_route t q) gone p (ordered_without prefix_total prefix_exact q t rises)
    ∙ ap (λ found. cond (is_listed gone p) None found) (route_to_without t q p rises ∙ ap (λ here. cond here None (route_to t p)) (prefix_back p q))
    ∙ removed_twice (is_listed gone p) (is_at (prefix_cmp p) q) (route_to t p)

pub rises_removed : (t : List (Prefix × Route)) (gone : List Prefix) → IsStrictlySortedBy prefix_cmp (keys_of t) → IsStrictlySortedBy prefix_cmp (keys_of (fold without_route t gone))
rises_removed t [] rises = rises
rises_removed t (q ∷ gone) rises = rises_removed (without_route t q) gone (ordered_without prefix_total prefix_exact q t rises)

pub rises_set : (t : List (Prefix × Route)) (routes : List Route) → IsStrictlySortedBy prefix_cmp (keys_of t) → IsStrictlySortedBy prefix_cmp (keys_of (fold with_route t routes))
rises_set t [] rises = rises
rises_set t (r ∷ routes) rises = rises_set (with_route t r) routes (ordered_with prefix_total prefix_exact r.prefix r t rises)

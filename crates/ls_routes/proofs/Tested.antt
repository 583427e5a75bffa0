-- The test of tables is true of exactly the tables.
use Rattle.std.proofs.Common.{◌≡◌, List, [], ◌∷◌, Bool, true, refl, ap, subst, ◌&&◌}
use Rattle.std.specs.declared.cmp.Ordering.{Ordering}
use Rattle.std.specs.declared.cmp.Ordering.TheVariants.{Less, Equal, Greater}
use Rattle.std.specs.Ordering.{is_lt}
use Rattle.std.specs.List.{AllByRecursion, list_all}
use Rattle.std.specs.List.Sorted.{IsStrictlySortedBy}
use Rattle.std.specs.Map.{keys_of}
use Rattle.std.specs.BTreeMap.{is_at}
use Rattle.std.proofs.lemmas.Bool.{and_parts}
use Rattle.or_base.specs.Prefixes.{prefix_cmp}
use Rattle.or_base.specs.declared.prefix.Prefix.{Prefix}
use Rattle.or_base.specs.declared.route.Route.{Route}
use Rattle.ls_routes.specs.Laws.{TablesAreTested}
use Rattle.ls_routes.specs.Routes.{IsTable, is_table}
use Rattle.ls_routes.proofs.SameRoutes.{both_true}
use Rattle.ls_routes.proofs.Tables.{prefix_from_test, prefix_itself, no_routes, later_table}

less_tested : (o : Ordering) → is_lt o ≡ true → o ≡ Less
less_tested Less e = refl
less_tested Equal e = cc
less_tested Greater e = cc

below_tested : (p : Prefix) (later : List Prefix) → list_all (λ q. is_lt (prefix_cmp p q)) later ≡ true → AllByRecursion (λ q. prefix_cmp p q ≡ Less) later
below_tested p [] e = tt
below_tested p (q ∷ later) e =
    let parts = and_parts (is_lt (prefix_cmp p q)) (list_all (λ k. is_lt (prefix_cmp p k)) later) e in (less_tested (prefix_cmp p q) parts.0, below_tested p later parts.1)

tested_below : (p : Prefix) (later : List Prefix) → AllByRecursion (λ q. prefix_cmp p q ≡ Less) later → list_all (λ q. is_lt (prefix_cmp p q)) later ≡ true
tested_below p [] all = refl
tested_below p (q ∷ later) all = both_true (is_lt (prefix_cmp p q)) (list_all (λ k. is_lt (prefix_cmp p k)) later) (ap is_lt all.0) (tested_below p later all.1)

abbrev below_all : Prefix → List (Prefix × Route) → Bool
below_all p table = list_all (λ later. is_lt (prefix_cmp p later)) (keys_of table)

table_of_test : (table : List (Prefix × Route)) → is_table table ≡ true → IsTable table
unfolding IsStrictlySortedBy
table_of_test [] e = no_routes
table_of_test (e ∷ table) is =
    let parts = and_parts (is_at (prefix_cmp e.1.prefix) e.0 && below_all e.0 table) (is_table table) is in
    let first = and_parts (is_at (prefix_cmp e.1.prefix) e.0) (below_all e.0 table) parts.0 in
    let rest = table_of_test table parts.1 in
    record {
      by_prefix = (below_tested e.0 (keys_of table) first.1, rest.by_prefix);
      own = (prefix_from_test e.1.prefix e.0 first.0, rest.own);
    }

test_of_table : (table : List (Prefix × Route)) → IsTable table → is_table table ≡ true
unfolding IsStrictlySortedBy
test_of_table [] is = refl
test_of_table (e ∷ table) is =
    both_true (is_at (prefix_cmp e.1.prefix) e.0 && below_all e.0 table) (is_table table)
    (both_true (is_at (prefix_cmp e.1.prefix) e.0) (below_all e.0 table)
    (subst (λ p. is_at (prefix_cmp e.1.prefix) p ≡ true) is.own.0 (prefix_itself e.1.prefix)) (tested_below e.0 (keys_of table) is.by_prefix.0))
    (test_of_table table (later_table e table is))

pub tables_are_tested : TablesAreTested
tables_are_tested table = (table_of_test table, test_of_table table)

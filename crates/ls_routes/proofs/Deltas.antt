-- The change between two tables: exactly what goes and what comes, in order, and no other delta is.
use Rattle.std.proofs.Common.{◌≡◌, List, [], ◌∷◌, Bool, true, false, cond, Option, Some, None, map, refl, sym, ◌∙◌, ap, subst, ◌||◌, ◌&&◌}
use Rattle.std.specs.declared.cmp.Ordering.TheVariants.{Less}
use Rattle.std.specs.Prelude.{is_some, is_none, not}
use Rattle.std.specs.List.{AllByRecursion, filter}
use Rattle.std.specs.List.Sorted.{IsStrictlySortedBy}
use Rattle.std.specs.Map.{keys_of, lookup}
use Rattle.std.specs.BTreeMap.{is_at}
use Rattle.std.proofs.lemmas.List.Kept.{IsStrictlySortedBy-filter}
use Rattle.std.proofs.lemmas.Map.Views.{any-filter_same}
use Rattle.or_base.specs.Prefixes.{prefix_cmp}
use Rattle.or_base.specs.declared.prefix.Prefix.{Prefix}
use Rattle.or_base.specs.declared.route.Delta.{Delta}
use Rattle.or_base.specs.declared.route.Route.{Route}
use Rattle.ls_routes.specs.Laws.{DeltasAreThese}
use Rattle.ls_routes.specs.Routes.{HasOwnPrefix, IsTable, IsDelta, route_to, is_listed, route_among, route_set, stands_in, delta_between}
use Rattle.ls_routes.proofs.Order.{prefix_total, prefix_exact}
use Rattle.ls_routes.proofs.Entries.{none_later, same_entries}
use Rattle.ls_routes.proofs.Tables.{prefix_from_test, found_own, listed_found, later_table}

-- ---- the routes of a table that pass a test

abbrev pub prefixes_of : List Route → List Prefix
prefixes_of routes = map (λ r. r.prefix) routes

-- the route, if it passes
abbrev pub route_if : (Route → Bool) → Option Route → Option Route
route_if test None = None
route_if test (Some r) = cond (test r) (Some r) None

module _ (test : Route → Bool) where
  abbrev kept : List (Prefix × Route) → List Route
  kept es = filter test (map (λ (e : Prefix × Route). e.1) es)

  all_kept_if : (P : Prefix → Type 0) (passes : Bool) (e : Prefix × Route) (rest : List Route) → HasOwnPrefix e → P e.0 → AllByRecursion P (prefixes_of rest)
      → AllByRecursion P (prefixes_of (cond passes (e.1 ∷ rest) rest))
  all_kept_if P true e rest own here all = (subst P (sym own) here, all)
  all_kept_if P false e rest own here all = all

  all_kept : (P : Prefix → Type 0) (es : List (Prefix × Route)) → AllByRecursion HasOwnPrefix es → AllByRecursion P (keys_of es) → AllByRecursion P (prefixes_of (kept es))
  all_kept P [] own all = tt
  all_kept P (e ∷ es) own all = all_kept_if P (test e.1) e (kept es) own.0 all.0 (all_kept P es own.1 all.1)

  rises_kept_if : (passes : Bool) (e : Prefix × Route) (rest : List Route) → HasOwnPrefix e → AllByRecursion (λ p. prefix_cmp e.0 p ≡ Less) (prefixes_of rest)
      → IsStrictlySortedBy prefix_cmp (prefixes_of rest) → IsStrictlySortedBy prefix_cmp (prefixes_of (cond passes (e.1 ∷ rest) rest))
  unfolding IsStrictlySortedBy
  rises_kept_if true e rest own before rises = (subst (λ q. AllByRecursion (λ p. prefix_cmp q p ≡ Less) (prefixes_of rest)) (sym own) before, rises)
  rises_kept_if false e rest own before rises = rises

  pub rises_kept : (es : List (Prefix × Route)) → AllByRecursion HasOwnPrefix es → IsStrictlySortedBy prefix_cmp (keys_of es) → IsStrictlySortedBy prefix_cmp (prefixes_of (kept es))
  unfolding IsStrictlySortedBy
  rises_kept [] own rises = tt
  rises_kept (e ∷ es) own rises =
      rises_kept_if (test e.1) e (kept es) own.0 (all_kept (λ p. prefix_cmp e.0 p ≡ Less) es own.1 rises.0) (rises_kept es own.1 rises.1)

  among_if : (passes here : Bool) (e : Prefix × Route) (rest : List Route) (later : Option Route) (p : Prefix) → test e.1 ≡ passes → is_at (prefix_cmp p) e.1.prefix ≡ here
      → (here ≡ true → later ≡ None) → route_among rest p ≡ route_if test later
      → route_among (cond passes (e.1 ∷ rest) rest) p ≡ route_if test (cond here (Some e.1) later)
  among_if true true e rest later p passes at none follows = ap (λ t. cond t (Some e.1) (route_among rest p)) at ∙ sym (ap (λ t. cond t (Some e.1) None) passes)
  among_if true false e rest later p passes at none follows = ap (λ t. cond t (Some e.1) (route_among rest p)) at ∙ follows
  among_if false true e rest later p passes at none follows = follows ∙ ap (route_if test) (none refl) ∙ sym (ap (λ t. cond t (Some e.1) None) passes)
  among_if false false e rest later p passes at none follows = follows

  -- of a table the route to a prefix is among those that pass where it passes
  pub among_kept : (es : List (Prefix × Route)) → IsTable es → (p : Prefix) → route_among (kept es) p ≡ route_if test (route_to es p)
  among_kept [] table p = refl
  among_kept (e ∷ es) table p =
      among_if (test e.1) (is_at (prefix_cmp p) e.0) e (kept es) (route_to es p) p refl (ap (λ q. is_at (prefix_cmp p) q) table.own.0)
      (none_later prefix_total prefix_exact e es p table.by_prefix) (among_kept es (later_table e es table) p)

-- ---- the change between two tables is one

other_way : (s t : Bool) → (s && t) ≡ (t && s)
other_way true true = refl
other_way true false = refl
other_way false true = refl
other_way false false = refl

set_if : (same : Bool) (r : Route) → cond (not same) (Some r) None ≡ cond same None (Some r)
set_if true r = refl
set_if false r = refl

set_of_found : (old : List (Prefix × Route)) (p : Prefix) (after : Option Route) → ((r : Route) → after ≡ Some r → r.prefix ≡ p)
    → route_if (λ r. not (stands_in (route_to old r.prefix) r)) after ≡ route_set (route_to old p) after
set_of_found old p None own = refl
set_of_found old p (Some r) own =
    ap (λ q. cond (not (stands_in (route_to old q) r)) (Some r) None) (own r refl) ∙ set_if (stands_in (route_to old p) r) r

pub delta_between_is : (old new : List (Prefix × Route)) → IsTable old → IsTable new → IsDelta old new (delta_between old new)
unfolding delta_between
delta_between_is old new table table' = record {
  del_rises = IsStrictlySortedBy-filter prefix_cmp (λ p. is_none (route_to new p)) (keys_of old) table.by_prefix;
  set_rises = rises_kept (λ r. not (stands_in (route_to old r.prefix) r)) new table'.own table'.by_prefix;
  goes =
      λ p.
      any-filter_same (is_at (prefix_cmp p)) (λ q. is_none (route_to new q)) (is_none (route_to new p))
      (λ q at. ap (λ k. is_none (route_to new k)) (sym (prefix_from_test p q at))) (keys_of old)
      ∙ ap (λ listed. is_none (route_to new p) && listed) (listed_found old p)
      ∙ other_way (is_none (route_to new p)) (is_some (route_to old p));
  comes =
      λ p.
      among_kept (λ r. not (stands_in (route_to old r.prefix) r)) new table' p
      ∙ set_of_found old p (route_to new p) (λ r found. found_own new p r table'.own found);
}

-- ---- no other delta is

-- routes by their prefixes
abbrev keyed : List Route → List (Prefix × Route)
keyed routes = map (λ (r : Route). (r.prefix, r)) routes

keys_keyed : (routes : List Route) → keys_of (keyed routes) ≡ prefixes_of routes
keys_keyed [] = refl
keys_keyed (r ∷ routes) = ap (λ ps. r.prefix ∷ ps) (keys_keyed routes)

routes_keyed : (routes : List Route) → map (λ (e : Prefix × Route). e.1) (keyed routes) ≡ routes
routes_keyed [] = refl
routes_keyed (r ∷ routes) = ap (λ rs. r ∷ rs) (routes_keyed routes)

found_keyed : (routes : List Route) (p : Prefix) → lookup (is_at (prefix_cmp p)) (keyed routes) ≡ route_among routes p
found_keyed [] p = refl
found_keyed (r ∷ routes) p = ap (λ rest. cond (is_at (prefix_cmp p) r.prefix) (Some r) rest) (found_keyed routes p)

-- routes that rise and have the same at each prefix are the same
pub same_routes : (routes others : List Route) → IsStrictlySortedBy prefix_cmp (prefixes_of routes) → IsStrictlySortedBy prefix_cmp (prefixes_of others)
    → ((p : Prefix) → route_among routes p ≡ route_among others p) → routes ≡ others
same_routes routes others rises rises' same =
    let entries =
    same_entries prefix_total prefix_exact (keyed routes) (keyed others) (subst (IsStrictlySortedBy prefix_cmp) (sym (keys_keyed routes)) rises)
    (subst (IsStrictlySortedBy prefix_cmp) (sym (keys_keyed others)) rises') (λ p. found_keyed routes p ∙ same p ∙ sym (found_keyed others p)) in
    sym (routes_keyed routes) ∙ ap (λ es. map (λ (e : Prefix × Route). e.1) es) entries ∙ routes_keyed others

-- prefixes as entries
abbrev marked : List Prefix → List (Prefix × Bool)
marked prefixes = map (λ (p : Prefix). (p, true)) prefixes

keys_marked : (prefixes : List Prefix) → keys_of (marked prefixes) ≡ prefixes
keys_marked [] = refl
keys_marked (p ∷ prefixes) = ap (λ ps. p ∷ ps) (keys_marked prefixes)

mark_if : (here listed : Bool) → cond here (Some true) (cond listed (Some true) None) ≡ cond (here || listed) (Some true) None
mark_if true listed = refl
mark_if false listed = refl

found_marked : (prefixes : List Prefix) (p : Prefix) → lookup (is_at (prefix_cmp p)) (marked prefixes) ≡ cond (is_listed prefixes p) (Some true) None
found_marked [] p = refl
found_marked (q ∷ prefixes) p =
    ap (λ rest. cond (is_at (prefix_cmp p) q) (Some true) rest) (found_marked prefixes p) ∙ mark_if (is_at (prefix_cmp p) q) (is_listed prefixes p)

-- prefixes that rise and are the same ones are the same
pub same_prefixes : (prefixes others : List Prefix) → IsStrictlySortedBy prefix_cmp prefixes → IsStrictlySortedBy prefix_cmp others
    → ((p : Prefix) → is_listed prefixes p ≡ is_listed others p) → prefixes ≡ others
same_prefixes prefixes others rises rises' same =
    let entries =
    same_entries prefix_total prefix_exact (marked prefixes) (marked others) (subst (IsStrictlySortedBy prefix_cmp) (sym (keys_marked prefixes)) rises)
    (subst (IsStrictlySortedBy prefix_cmp) (sym (keys_marked others)) rises')
    (λ p. found_marked prefixes p ∙ ap (λ listed. cond listed (Some true) None) (same p) ∙ sym (found_marked others p)) in
    sym (keys_marked prefixes) ∙ ap keys_of entries ∙ keys_marked others

pub one_delta : (old new : List (Prefix × Route)) (delta other : Delta) → IsDelta old new delta → IsDelta old new other → delta ≡ other
one_delta old new delta other is is' =
    let del = same_prefixes delta.del other.del is.del_rises is'.del_rises (λ p. is.goes p ∙ sym (is'.goes p)) in
    let set = same_routes delta.set other.set is.set_rises is'.set_rises (λ p. is.comes p ∙ sym (is'.comes p)) in
    λ i. record { del = del i; set = set i }

pub deltas_are_these : DeltasAreThese
deltas_are_these = record {
  these = delta_between_is;
  alone = λ old new delta table table' is. one_delta old new (delta_between old new) delta (delta_between_is old new table table') is;
}

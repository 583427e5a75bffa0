-- What was replaced tells what the routes were.
use Rattle.std.proofs.Common.{◌≡◌, ℕ, ◌≤◌, ◌<◌, ◌+◌, List, [], ◌∷◌, ◌++◌, Bool, true, false, cond, Option, Some, None, map, fold, take, length, refl, sym, ap, ◌∙◌, subst, arith}
use Rattle.std.specs.Prelude.{◌||◌, ◌&&◌, nat_le}
use Rattle.std.specs.List.{AllByRecursion}
use Rattle.std.specs.Option.{option_map_or}
use Rattle.std.specs.BTreeMap.{is_at}
use Rattle.std.proofs.lemmas.Bool.{or_parts, leb-true, leb-false}
use Rattle.std.proofs.lemmas.List.{take_all, take-append-le, length-append}
use Rattle.or_base.specs.Prefixes.{prefix_cmp, is_same_prefix}
use Rattle.or_base.specs.declared.entry.JournalEntry.{JournalEntry}
use Rattle.or_base.specs.declared.prefix.Prefix.{Prefix}
use Rattle.or_base.specs.declared.route.Delta.{Delta}
use Rattle.or_base.specs.declared.route.Route.{Route}
use Rattle.ls_routes.specs.Routes.{IsTable, route_to, is_listed, applied, delta_between, with_route, without_route}
use Rattle.ls_routes.proofs.Leading.{deltas_lead_on}
use Rattle.ls_routes.proofs.Tables.{prefix_back, prefix_from_test, route_to_with, route_to_removed}
use Rattle.ls_records.proofs.Told.{prefix_tests}
use Rattle.ls_records.specs.Change.{KnownRecords, known_after}
use Rattle.decision_core.specs.Scratch.{scratch, routes_over}
use Rattle.decision_core.specs.Decision.{DecisionState, route_at}
use Rattle.decision_core.specs.History.{HistoryState, TellRoutes, is_replaced_since, first_since, route_then, replaced_at, with_change}
use Rattle.decision_core.specs.declared.history.ReplacedRoute.{ReplacedRoute}
use Rattle.decision_core.proofs.Tables.{routes_are_by_prefix}

-- ---- a change leaves the routes to all other prefixes

abbrev pub prefixes_of : List Route → List Prefix
prefixes_of routes = map (λ (r : Route). r.prefix) routes

set_elsewhere : (t : List (Prefix × Route)) (routes : List Route) (p : Prefix) → is_listed (prefixes_of routes) p ≡ false → route_to (fold with_route t routes) p ≡ route_to t p
set_elsewhere t [] p out = refl
set_elsewhere t (r ∷ routes) p out =
    let parts = or_parts (is_at (prefix_cmp p) r.prefix) (is_listed (prefixes_of routes) p) out in
    set_elsewhere (with_route t r) routes p parts.1 ∙ route_to_with t r p ∙ ap (λ here. cond here (Some r) (route_to t p)) (prefix_back p r.prefix ∙ parts.0)

applied_elsewhere : (t : List (Prefix × Route)) (delta : Delta) (p : Prefix) → IsTable t → is_listed delta.del p ≡ false → is_listed (prefixes_of delta.set) p ≡ false
    → route_to (applied t delta) p ≡ route_to t p
unfolding applied
applied_elsewhere t delta p table gone set =
    set_elsewhere (fold without_route t delta.del) delta.set p set ∙ route_to_removed t delta.del p table.by_prefix ∙ ap (λ here. cond here None (route_to t p)) gone

-- ---- the first that was replaced since

first_of_both : (at : ℕ) (p : Prefix) (now : Option Route) (rs ss : List ReplacedRoute) → route_then (rs ++ ss) at p now ≡ route_then rs at p (route_then ss at p now)
first_of_both at p now [] ss = refl
first_of_both at p now (r ∷ rs) ss = by_first (is_replaced_since at p r) (first_of_both at p now rs ss) where
  by_first : (is : Bool) → route_then (rs ++ ss) at p now ≡ route_then rs at p (route_then ss at p now)
      → option_map_or (λ (x : ReplacedRoute). x.route) (cond is (Some r) (first_since (rs ++ ss) at p)) now
      ≡ option_map_or (λ (x : ReplacedRoute). x.route) (cond is (Some r) (first_since rs at p)) (route_then ss at p now)
  by_first true rest = refl
  by_first false rest = rest

-- of those that are replaced now, the route to a prefix is the one now
then_listed : (entries : ℕ) (routes : List (Prefix × Route)) (prefixes : List Prefix) (at : ℕ) (p : Prefix) (now : Option Route) → nat_le at entries ≡ true
    → route_then (replaced_at entries routes prefixes) at p now ≡ cond (is_listed prefixes p) (route_to routes p) now
then_listed entries routes [] at p now since = refl
then_listed entries routes (q ∷ prefixes) at p now since = by_first (is_same_prefix q p) refl (then_listed entries routes prefixes at p now since) where
  test : is_at (prefix_cmp p) q ≡ is_same_prefix q p
  test = prefix_back q p ∙ prefix_tests q p

  here : ReplacedRoute
  here = record { entries = entries; prefix = q; route = route_to routes q }

  rest : Option ReplacedRoute
  rest = first_since (replaced_at entries routes prefixes) at p

  by_first : (is : Bool) → is_same_prefix q p ≡ is → option_map_or (λ (x : ReplacedRoute). x.route) rest now ≡ cond (is_listed prefixes p) (route_to routes p) now
      → option_map_or (λ (x : ReplacedRoute). x.route) (cond (nat_le at entries && is_same_prefix q p) (Some here) rest) now
      ≡ cond (is_at (prefix_cmp p) q || is_listed prefixes p) (route_to routes p) now
  by_first true is later =
      (λ i. option_map_or (λ (x : ReplacedRoute). x.route) (cond (since i && is i) (Some here) rest) now)
      ∙ ap (route_to routes) (sym (prefix_from_test p q (test ∙ is)))
      ∙ ap (λ t. cond (t || is_listed prefixes p) (route_to routes p) now) (sym (test ∙ is))
  by_first false is later =
      (λ i. option_map_or (λ (x : ReplacedRoute). x.route) (cond (since i && is i) (Some here) rest) now)
      ∙ later
      ∙ ap (λ t. cond (t || is_listed prefixes p) (route_to routes p) now) (sym (test ∙ is))

-- none was replaced since, where all were before
none_since : (at : ℕ) (p : Prefix) (now : Option Route) (rs : List ReplacedRoute) → AllByRecursion (λ (r : ReplacedRoute). r.entries < at) rs → route_then rs at p now ≡ now
none_since at p now [] all = refl
none_since at p now (r ∷ rs) all = by_first (nat_le at r.entries) refl (none_since at p now rs all.1) where
  by_first : (is : Bool) → nat_le at r.entries ≡ is → option_map_or (λ (x : ReplacedRoute). x.route) (first_since rs at p) now ≡ now
      → option_map_or (λ (x : ReplacedRoute). x.route) (cond (is && is_same_prefix r.prefix p) (Some r) (first_since rs at p)) now ≡ now
  by_first true is rest = let since = leb-true at r.entries is in let before = all.0 in absurd (omega arith)
  by_first false is rest = rest

-- ---- with a change more

all_joined : (P : ReplacedRoute → Type 0) (rs ss : List ReplacedRoute) → AllByRecursion P rs → AllByRecursion P ss → AllByRecursion P (rs ++ ss)
all_joined P [] ss all more = more
all_joined P (r ∷ rs) ss all more = (all.0, all_joined P rs ss all.1 more)

-- each was replaced before so many entries had been taken
abbrev AreBefore : ℕ → List ReplacedRoute → Type 0
AreBefore n rs = AllByRecursion (λ r. r.entries < n) rs

before_more : (m n : ℕ) (rs : List ReplacedRoute) → m ≤ n → AreBefore m rs → AreBefore n rs
before_more m n [] le all = tt
before_more m n (r ∷ rs) le all = let first = all.0 in (omega arith, before_more m n rs le all.1)

before_now : (entries n : ℕ) (routes : List (Prefix × Route)) (prefixes : List Prefix) → entries < n → AreBefore n (replaced_at entries routes prefixes)
before_now entries n routes [] lt = tt
before_now entries n routes (p ∷ prefixes) lt = (lt, before_now entries n routes prefixes lt)

old_in_either : (gone set : Bool) (old new : Option Route) → (gone ≡ false → set ≡ false → new ≡ old) → cond gone old (cond set old new) ≡ old
old_in_either true set old new same = refl
old_in_either false true old new same = refl
old_in_either false false old new same = same refl refl

module _ (h : HistoryState) (me : List ℕ) (taken : List JournalEntry) (entry : JournalEntry) (tells : TellRoutes h me taken) where
  abbrev pub old : List (Prefix × Route)
  old = scratch me taken

  abbrev pub new : List (Prefix × Route)
  new = scratch me (taken ++ entry ∷ [])

  abbrev pub change : Delta
  change = delta_between old new

  abbrev pub gone : List ReplacedRoute
  gone = replaced_at (length taken) old change.del

  abbrev pub set : List ReplacedRoute
  set = replaced_at (length taken) old (prefixes_of change.set)

  one_more : length (taken ++ entry ∷ []) ≡ length taken + 1
  one_more = length-append taken (entry ∷ [])

  same_elsewhere : (p : Prefix) → is_listed change.del p ≡ false → is_listed (prefixes_of change.set) p ≡ false → route_to new p ≡ route_to old p
  same_elsewhere p out out' =
      let table = routes_are_by_prefix.table me taken in
      ap (λ t. route_to t p) (sym (deltas_lead_on old new table (routes_are_by_prefix.table me (taken ++ entry ∷ [])))) ∙ applied_elsewhere old change p table out out'

  -- over no more entries than before
  then_old : (at : ℕ) (p : Prefix) → nat_le at (length taken) ≡ true → route_then (h.replaced ++ gone ++ set) at p (route_to new p) ≡ route_then h.replaced at p (route_to old p)
  then_old at p le =
      first_of_both at p (route_to new p) (h.replaced ++ gone) set
      ∙ first_of_both at p (route_then set at p (route_to new p)) h.replaced gone
      ∙ ap (route_then h.replaced at p)
      (then_listed (length taken) old change.del at p (route_then set at p (route_to new p)) le
      ∙ ap (λ later. cond (is_listed change.del p) (route_to old p) later) (then_listed (length taken) old (prefixes_of change.set) at p (route_to new p) le)
      ∙ old_in_either (is_listed change.del p) (is_listed (prefixes_of change.set) p) (route_to old p) (route_to new p) (same_elsewhere p))

  all_before : AreBefore (length (taken ++ entry ∷ [])) (h.replaced ++ gone ++ set)
  all_before =
      let one = one_more in
      let lt : length taken < length (taken ++ entry ∷ []) = omega arith in
      let le : length taken ≤ length (taken ++ entry ∷ []) = omega arith in
      all_joined (λ r. r.entries < length (taken ++ entry ∷ [])) (h.replaced ++ gone) set
      (all_joined (λ r. r.entries < length (taken ++ entry ∷ [])) h.replaced gone (before_more (length taken) (length (taken ++ entry ∷ [])) h.replaced le tells.earlier)
      (before_now (length taken) (length (taken ++ entry ∷ [])) old change.del lt))
      (before_now (length taken) (length (taken ++ entry ∷ [])) old (prefixes_of change.set) lt)

  told : (at : ℕ) (p : Prefix) (le : Bool) → nat_le at (length taken) ≡ le → h.since ≤ at → at ≤ length (taken ++ entry ∷ [])
      → route_to (scratch me (take at (taken ++ entry ∷ []))) p ≡ route_then (h.replaced ++ gone ++ set) at p (route_to new p)
  told at p true is since within =
      let le = leb-true at (length taken) is in
      ap (λ es. route_to (scratch me es) p) (take-append-le at taken (entry ∷ []) le) ∙ tells.tell at p since le ∙ sym (then_old at p is)
  told at p false is since within =
      let lt = leb-false at (length taken) is in
      let one = one_more in
      let all : length (taken ++ entry ∷ []) ≤ at = omega arith in
      ap (λ es. route_to (scratch me es) p) (take_all at (taken ++ entry ∷ []) all)
      ∙ sym (none_since at p (route_to new p) (h.replaced ++ gone ++ set) (before_more (length (taken ++ entry ∷ [])) at (h.replaced ++ gone ++ set) all all_before))

  pub tell_more : TellRoutes (with_change h (length taken) old change) me (taken ++ entry ∷ [])
  tell_more = record { earlier = all_before; tell = λ at p since within. told at p (nat_le at (length taken)) refl since within }

over_known : (me : List ℕ) (taken : List JournalEntry) (known : KnownRecords) → known ≡ known_after me taken → routes_over known ≡ scratch me taken
unfolding scratch
over_known me taken known is = ap routes_over is

-- the same, as it is met in a turn
pub tell_after : (h after : HistoryState) (me : List ℕ) (taken entries : List JournalEntry) (entry : JournalEntry) (n : ℕ) (known known' : KnownRecords) (delta : Delta)
    → TellRoutes h me taken → entries ≡ taken ++ entry ∷ [] → n ≡ length taken → known ≡ known_after me taken → known' ≡ known_after me entries
    → delta ≡ delta_between (routes_over known) (routes_over known') → after ≡ with_change h n (routes_over known) delta → TellRoutes after me entries
tell_after h after me taken entries entry n known known' delta tells more is was now changed kept =
    let routed = over_known me taken known was in
    let routed' = over_known me entries known' now ∙ ap (scratch me) more in
    let delta_is : delta ≡ delta_between (scratch me taken) (scratch me (taken ++ entry ∷ [])) = changed ∙ (λ i. delta_between (routed i) (routed' i)) in
    let there = kept ∙ (λ i. with_change h (is i) (routed i) (delta_is i)) in
    subst (TellRoutes after me) (sym more) (subst (λ k. TellRoutes k me (taken ++ entry ∷ [])) (sym there) (tell_more h me taken entry tells))

-- the route that is found is the one over so many entries
pub told_then : (s : DecisionState) (known : KnownRecords) (h : HistoryState) (at : ℕ) (p : Prefix) (route : Option Route) → known ≡ known_after s.me s.taken → TellRoutes h s.me s.taken
    → h.since ≤ at → at ≤ length s.taken → route ≡ route_then h.replaced at p (route_to (routes_over known) p) → route ≡ route_at s at p
told_then s known h at p route is tells since within found =
    found ∙ ap (λ t. route_then h.replaced at p (route_to t p)) (over_known s.me s.taken known is) ∙ sym (tells.tell at p since within)

-- where none is kept, and no entry more was taken
pub tell_nothing : (since : ℕ) (me : List ℕ) (taken : List JournalEntry) → since ≡ length taken → TellRoutes (record { since = since; replaced = [] }) me taken
tell_nothing since me taken is = record {
  earlier = tt;
  tell = λ at p after within. ap (λ es. route_to (scratch me es) p) (take_all at taken (omega arith));
}

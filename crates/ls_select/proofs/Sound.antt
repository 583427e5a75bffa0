-- What a selection says of the offers.
use Rattle.std.proofs.Common.{◌≡◌, ◌≢◌, ℕ, ◌≤◌, List, [], ◌∷◌, Bool, true, false, cond, Option, Some, None, fold, refl, sym, ◌∙◌, ap, subst, ◌⊎◌, inl, inr, arith}
use Rattle.std.specs.Prelude.{min, max, is_some, unwrap_or, option_map, if◌then◌else◌, ◌||◌, ◌==◌}
use Rattle.std.specs.List.{Contains, filter, list_any}
use Rattle.std.proofs.lemmas.Bool.{eqb-true, eq-eqb}
use Rattle.or_base.proofs.Members.{Contains-first, Contains-later, Contains-cases}
use Rattle.ls_select.specs.declared.offer.Offer.{Offer}
use Rattle.ls_select.specs.declared.offer.Selected.{Selected}
use Rattle.ls_select.specs.Laws.{IsOfferedBy, IsSoundSelection, SelectionIsSound, NothingSelected, SelectionIsWithinReach}
use Rattle.ls_select.specs.Selection.{is_own, is_within_reach, takes_transit, has_none, without_overloaded, with_number, greatest_of, with_greatest, least_among, with_least, best_offers, distance_to, names_of, nearest, select}
use Rattle.ls_select.proofs.Picked.{none_in_nothing, of_kept, is_kept, kept_again, none_passes, some_passes, is_tested, is_given, of_given, one_of_max, one_of_min, is_picked, picked_among, least_below}

-- ---- each step leaves some of the offers, and one where there is one

record Leaves (before after : List Offer) : Type 0 where
  of : (o : Offer) → Contains after o → Contains before o
  one : (o : Offer) → Contains before o → (p : Offer) × Contains after p

both_leave : (before between after : List Offer) → Leaves before between → Leaves between after → Leaves before after
both_leave before between after first second = record {
  of = λ o among. first.of o (second.of o among);
  one = λ o among. let p = first.one o among in second.one p.0 p.1;
}

all_left : (offers : List Offer) → Leaves offers offers
all_left offers = record { of = λ o among. among; one = λ o among. (o, among) }

leaves_transit_if : (offers kept : List Offer) → ((o : Offer) → Contains kept o → Contains offers o) → Leaves offers (if has_none kept then offers else kept)
leaves_transit_if offers [] of = all_left offers
leaves_transit_if offers (k ∷ kept) of = record { of = of; one = λ o among. (k, Contains-first k kept) }

leaves_transit : (offers : List Offer) → Leaves offers (without_overloaded offers)
leaves_transit offers = leaves_transit_if offers (filter takes_transit offers) (λ o among. (of_kept takes_transit offers o among).0)

module _ (number : Offer → ℕ) where
  -- some offer has the number
  leaves_number : (offers : List Offer) (n : ℕ) → ((o : Offer) → Contains offers o → (p : Offer) × Contains offers p × (n ≡ number p)) → Leaves offers (with_number number offers n)
  leaves_number offers n there = record {
    of = λ o among. (of_kept (λ p. number p == n) offers o among).0;
    one =
        λ o among.
        let p = there o among in
        (p.0, is_kept (λ q. number q == n) offers p.0 p.1 (eq-eqb (number p.0) n (sym p.2)));
  }

  greatest_there : (offers : List Offer) (o : Offer) → Contains offers o → (p : Offer) × Contains offers p × (greatest_of number offers ≡ number p)
  greatest_there [] o among = absurd (none_in_nothing o among)
  greatest_there (x ∷ xs) o among = picked_among max one_of_max number 0 x xs (omega arith)

  leaves_greatest : (offers : List Offer) → Leaves offers (with_greatest number offers)
  leaves_greatest offers = leaves_number offers (greatest_of number offers) (greatest_there offers)

  abbrev least_from : ℕ → List Offer → ℕ
  least_from a offers = fold (λ so_far p. min so_far (number p)) a offers

  pub least_there : (x : Offer) (xs : List Offer) → (p : Offer) × Contains (x ∷ xs) p × (least_from (number x) xs ≡ number p)
  least_there x xs = by_cases (is_picked min one_of_min number (number x) xs) where
    by_cases : (least_from (number x) xs ≡ number x) ⊎ ((p : Offer) × Contains xs p × (least_from (number x) xs ≡ number p))
        → (p : Offer) × Contains (x ∷ xs) p × (least_from (number x) xs ≡ number p)
    by_cases (inl first) = (x, Contains-first x xs, first)
    by_cases (inr later) = (later.0, Contains-later x xs later.0 later.1, later.2)

  leaves_least : (offers : List Offer) → Leaves offers (with_least number offers)
  leaves_least [] = all_left []
  leaves_least (x ∷ xs) = leaves_number (x ∷ xs) (least_from (number x) xs) (λ o among. least_there x xs)

best_left : (me : List ℕ) (offers : List Offer) → Leaves (filter (is_within_reach me) offers) (best_offers me offers)
unfolding best_offers
best_left me offers =
    let within = filter (is_within_reach me) offers in
    let transit = without_overloaded within in
    let by_path = with_greatest (λ o. o.entry.path) transit in
    let by_source = with_greatest (λ o. o.entry.source) by_path in
    both_leave within transit (with_least (λ o. o.entry.distance) by_source) (leaves_transit within)
    (both_leave transit by_path (with_least (λ o. o.entry.distance) by_source) (leaves_greatest (λ o. o.entry.path) transit)
    (both_leave by_path by_source (with_least (λ o. o.entry.distance) by_source) (leaves_greatest (λ o. o.entry.source) by_path)
    (leaves_least (λ o. o.entry.distance) by_source)))

-- ---- the nearest

record IsNearest (offers : List Offer) (selected : Selected) : Type 0 where
  some : selected.nodes ≢ []
  each : (node : List ℕ) → Contains selected.nodes node → (o : Offer) × Contains offers o × (o.node ≡ node) × (distance_to o ≡ selected.cost)
  all : (o : Offer) → Contains offers o → distance_to o ≡ selected.cost → Contains selected.nodes o.node
  least : (o : Offer) → Contains offers o → selected.cost ≤ distance_to o

-- the number is the least distance of these
record IsLeast (offers : List Offer) (n : ℕ) : Type 0 where
  there : (o : Offer) × Contains offers o × (n ≡ distance_to o)
  below : (o : Offer) → Contains offers o → n ≤ distance_to o

no_nearer : (x : Offer) (xs : List Offer) (o : Offer) → (x ≡ o) ⊎ Contains xs o → least_from distance_to (distance_to x) xs ≤ distance_to o
no_nearer x xs o (inl same) = subst (λ p. least_from distance_to (distance_to x) xs ≤ distance_to p) same (least_below distance_to (distance_to x) xs).0
no_nearer x xs o (inr there) = (least_below distance_to (distance_to x) xs).1 o there

least_of_some : (x : Offer) (xs : List Offer) → IsLeast (x ∷ xs) (least_from distance_to (distance_to x) xs)
least_of_some x xs = record { there = least_there distance_to x xs; below = λ o among. no_nearer x xs o (Contains-cases x xs o among) }

is_least : (offers : List Offer) (n : ℕ) → least_among distance_to offers ≡ Some n → IsLeast offers n
is_least [] n e = cc
is_least (x ∷ xs) n e = subst (IsLeast (x ∷ xs)) (ap (λ found. unwrap_or found 0) e) (least_of_some x xs)

module _ (offers : List Offer) (n : ℕ) (least : IsLeast offers n) where
  abbrev those : List Offer
  those = with_number distance_to offers n

  named : (o : Offer) → Contains offers o → distance_to o ≡ n → Contains (names_of those) o.node
  named o among at = is_given (λ p. p.node) those o (is_kept (λ p. distance_to p == n) offers o among (eq-eqb (distance_to o) n at))

  each_named : (node : List ℕ) → Contains (names_of those) node → (o : Offer) × Contains offers o × (o.node ≡ node) × (distance_to o ≡ n)
  each_named node among =
      let o = of_given (λ p. p.node) those node among in
      let k = of_kept (λ p. distance_to p == n) offers o.0 o.1 in
      (o.0, k.0, o.2, eqb-true (distance_to o.0) n k.1)

  one_named : (p : Offer) × Contains (names_of those) p.node
  one_named = let p = least.there in (p.0, named p.0 p.1 (sym p.2))

not_none : (A : Type 0) (x : A) → None ≡ Some x → ⊥
not_none A x e = cc

-- what is found is the least cost, with the nodes at it
found : (offers : List Offer) (least : Option ℕ) (selected : Selected)
    → option_map (λ cost. record { cost = cost; nodes = names_of (with_number distance_to offers cost) }) least ≡ Some selected
    → (least ≡ Some selected.cost) × (selected.nodes ≡ names_of (with_number distance_to offers selected.cost))
found offers None selected e = absurd (not_none Selected selected e)
found offers (Some n) selected e =
    let same = ap (λ given. unwrap_or given selected) e in
    (ap (λ s. Some s.cost) same, subst (λ s. s.nodes ≡ names_of (with_number distance_to offers s.cost)) same refl)

nearest_of : (offers : List Offer) (selected : Selected) → IsLeast offers selected.cost → selected.nodes ≡ names_of (with_number distance_to offers selected.cost)
    → IsNearest offers selected
nearest_of offers selected least nodes = record {
  some =
      λ none.
      let p = one_named offers selected.cost least in
      none_in_nothing p.0.node (subst (λ names. Contains names p.0.node) (sym nodes ∙ none) p.1);
  each = λ node among. each_named offers selected.cost least node (subst (λ names. Contains names node) nodes among);
  all = λ o among at. subst (λ names. Contains names o.node) (sym nodes) (named offers selected.cost least o among at);
  least = least.below;
}

is_nearest : (offers : List Offer) (selected : Selected) → nearest offers ≡ Some selected → IsNearest offers selected
is_nearest offers selected e =
    let f = found offers (least_among distance_to offers) selected e in nearest_of offers selected (is_least offers selected.cost f.0) f.1

-- ---- the selection

reached_at : (own : Bool) (found : Option ℕ) (cost : ℕ) → own ≡ false → own || is_some found ≡ true → unwrap_or found 0 ≡ cost → found ≡ Some cost
reached_at true found cost e within at = cc
reached_at false None cost e within at = cc
reached_at false (Some n) cost e within at = ap Some at

module _ (me : List ℕ) (offers : List Offer) where
  -- a best offer is an offer within reach
  of_best : (o : Offer) → Contains (best_offers me offers) o → Contains offers o × (is_within_reach me o ≡ true)
  of_best o among = of_kept (is_within_reach me) offers o ((best_left me offers).of o among)

  offered : (selected : Selected) → list_any (is_own me) (best_offers me offers) ≡ false → IsNearest (best_offers me offers) selected
      → (node : List ℕ) → Contains selected.nodes node → IsOfferedBy me offers selected.cost node
  offered selected others near node among =
      let o = near.each node among in
      let b = of_best o.0 o.1 in
      let other = none_passes (is_own me) (best_offers me offers) o.0 others o.1 in
      record {
        offer = o.0;
        among = b.0;
        best = o.1;
        by_node = o.2;
        reached = reached_at (is_own me o.0) o.0.cost selected.cost other b.1 o.3;
        other = other;
      }

  sound_of : (selected : Selected) → (list_any (is_own me) (best_offers me offers) ≡ false) × (nearest (best_offers me offers) ≡ Some selected)
      → IsSoundSelection me offers selected
  sound_of selected given =
      let near = is_nearest (best_offers me offers) selected given.1 in
      record {
        some = near.some;
        each = offered selected given.0 near;
        all = λ o among reached. near.all o among (ap (λ cost. unwrap_or cost 0) reached);
        least = near.least;
      }

-- where something is selected none of the best is of the node itself
not_own : (own : Bool) (near : Option Selected) (selected : Selected) → (if own then None else near) ≡ Some selected → (own ≡ false) × (near ≡ Some selected)
not_own true near selected e = absurd (not_none Selected selected e)
not_own false near selected e = (refl, e)

pub selection_is_sound : SelectionIsSound
unfolding select
selection_is_sound me offers selected e =
    sound_of me offers selected (not_own (list_any (is_own me) (best_offers me offers)) (nearest (best_offers me offers)) selected e)

-- ---- nothing is selected

nearest_none : (offers : List Offer) → nearest offers ≡ None → offers ≡ []
nearest_none [] e = refl
nearest_none (x ∷ xs) e = cc

none_left : (before after : List Offer) → Leaves before after → after ≡ [] → before ≡ []
none_left [] after leaves none = refl
none_left (x ∷ before) after leaves none =
    let p = leaves.one x (Contains-first x before) in absurd (none_in_nothing p.0 (subst (λ xs. Contains xs p.0) none p.1))

none_of_none : (before after : List Offer) → Leaves before after → before ≡ [] → after ≡ []
none_of_none before [] leaves none = refl
none_of_none before (x ∷ after) leaves none = absurd (none_in_nothing x (subst (λ xs. Contains xs x) none (leaves.of x (Contains-first x after))))

none_if : (me : List ℕ) (offers : List Offer) (own : Bool) → list_any (is_own me) (best_offers me offers) ≡ own → (if own then None else nearest (best_offers me offers)) ≡ None
    → (filter (is_within_reach me) offers ≡ []) ⊎ ((o : Offer) × Contains (best_offers me offers) o × (is_own me o ≡ true))
none_if me offers true is e = inr (some_passes (is_own me) (best_offers me offers) is)
none_if me offers false is e =
    inl (none_left (filter (is_within_reach me) offers) (best_offers me offers) (best_left me offers) (nearest_none (best_offers me offers) e))

none_why : (me : List ℕ) (offers : List Offer) → select me offers ≡ None
    → (filter (is_within_reach me) offers ≡ []) ⊎ ((o : Offer) × Contains (best_offers me offers) o × (is_own me o ≡ true))
unfolding select
none_why me offers e = none_if me offers (list_any (is_own me) (best_offers me offers)) refl e

none_of_no_offers : (me : List ℕ) (offers : List Offer) → filter (is_within_reach me) offers ≡ [] → select me offers ≡ None
unfolding select
none_of_no_offers me offers none =
    ap (λ best. if list_any (is_own me) best then None else nearest best)
    (none_of_none (filter (is_within_reach me) offers) (best_offers me offers) (best_left me offers) none)

none_of_own : (me : List ℕ) (offers : List Offer) (o : Offer) → Contains (best_offers me offers) o → is_own me o ≡ true → select me offers ≡ None
unfolding select
none_of_own me offers o among own =
    ap (λ any. if any then None else nearest (best_offers me offers)) (is_tested (is_own me) (best_offers me offers) o among own)

pub nothing_selected : NothingSelected
nothing_selected = record { why = none_why; none_reached = none_of_no_offers; own_best = none_of_own }

-- ---- only the offers within reach count

best_within : (me : List ℕ) (offers : List Offer) → best_offers me offers ≡ best_offers me (filter (is_within_reach me) offers)
unfolding best_offers
best_within me offers =
    ap
    (λ within.
    with_least (λ (o : Offer). o.entry.distance)
    (with_greatest (λ (o : Offer). o.entry.source) (with_greatest (λ (o : Offer). o.entry.path) (without_overloaded within))))
    (sym (kept_again (is_within_reach me) offers))

pub selection_is_within_reach : SelectionIsWithinReach
unfolding select
selection_is_within_reach me offers = ap (λ best. if list_any (is_own me) best then None else nearest best) (best_within me offers)

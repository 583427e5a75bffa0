-- A route is the one before where the offers for its prefix, and least walks to the nodes that offer it, are those before. So
-- all that changes is what changes at the places that an entry may touch.
use Rattle.std.proofs.Common.{◌≡◌, ℕ, List, [], ◌∷◌, ◌++◌, Bool, true, false, cond, Option, Some, None, map, fold, refl, sym, ap, ◌∙◌, subst}
use Rattle.std.specs.Prelude.{option_map, not, ◌||◌}
use Rattle.std.specs.Option.{option_map_or}
use Rattle.std.specs.List.{Contains, flat_map, filter, filter_map, cons_option, list_any}
use Rattle.std.specs.List.Sorted.{IsStrictlySortedBy}
use Rattle.std.specs.BTreeMap.{is_at}
use Rattle.std.specs.BTreeSet.{insert_key}
use Rattle.std.proofs.lemmas.Bool.{and_parts, or_parts, eqb-true, false≢true}
use Rattle.std.proofs.lemmas.Slice.Eq.{bytes_eq-Decides, slice_eq-Decides}
use Rattle.or_base.specs.Order.{bytes_cmp}
use Rattle.or_base.specs.Prefixes.{prefix_cmp, is_same_prefix}
use Rattle.or_base.specs.declared.database.PrefixDb.{PrefixDb}
use Rattle.or_base.specs.declared.database.PrefixEntry.{PrefixEntry}
use Rattle.or_base.specs.declared.prefix.Prefix.{Prefix}
use Rattle.or_base.specs.declared.route.Route.{Route}
use Rattle.or_base.proofs.Members.{Contains-first, Contains-later}
use Rattle.ls_spf.specs.declared.table.PathRow.{PathRow}
use Rattle.ls_spf.specs.Least.{least_cost, first_interfaces}
use Rattle.ls_spf.specs.Table.{row_of, AreArcs, IsRight}
use Rattle.ls_select.specs.Selection.{select}
use Rattle.ls_select.specs.declared.offer.Offer.{Offer}
use Rattle.ls_select.specs.declared.offer.Selected.{Selected}
use Rattle.ls_select.proofs.Picked.{of_given, none_passes}
use Rattle.ls_select.proofs.Sound.{selection_is_sound}
use Rattle.ls_routes.specs.Routes.{route_to, is_listed, is_gone, route_set, delta_between, delta_at, applied, are_same_names}
use Rattle.ls_routes.proofs.Leading.{deltas_lead_on}
use Rattle.ls_routes.proofs.Places.{places_give_the_delta}
use Rattle.ls_records.specs.declared.change.RecordChange.{RecordChange}
use Rattle.ls_records.specs.Records.{advertisers}
use Rattle.ls_records.specs.Change.{KnownRecords, is_overloaded, is_that, TellsAll}
use Rattle.ls_records.proofs.Told.{prefix_tests}
use Rattle.decision_core.specs.Scratch.{offer_of, offers_for, route_over, route_for, routes_over}
use Rattle.decision_core.specs.Reach.{is_same_reach, has_moved, with_prefixes, with_touched, IsRightElsewhere, IsRightAfter}
use Rattle.decision_core.proofs.Paths.{cost_told, hops_told}
use Rattle.decision_core.proofs.Tables.{table_over, found_over}
use Rattle.decision_core.proofs.Touched.{none_touched, out_of_both, out_of_all, untouched}

-- ---- lists whose elements are treated alike

same_map : {X Y : Type 0} (f g : X → Y) (xs : List X) → ((x : X) → Contains xs x → f x ≡ g x) → map f xs ≡ map g xs
same_map f g [] same = refl
same_map f g (x ∷ xs) same =
    ap (λ y. y ∷ map f xs) (same x (Contains-first x xs)) ∙ ap (λ ys. g x ∷ ys) (same_map f g xs (λ y among. same y (Contains-later x xs y among)))

same_flat : {X Y : Type 0} (f g : X → List Y) (xs : List X) → ((x : X) → Contains xs x → f x ≡ g x) → flat_map f xs ≡ flat_map g xs
same_flat f g [] same = refl
same_flat f g (x ∷ xs) same =
    ap (λ ys. ys ++ flat_map f xs) (same x (Contains-first x xs)) ∙ ap (λ ys. g x ++ ys) (same_flat f g xs (λ y among. same y (Contains-later x xs y among)))

-- ---- one route

-- the prefix has the same advertisers, which take transit traffic as before and are reached as before
pub record IsOfferedAlike (before after : KnownRecords) (p : Prefix) : Type 0 where
  pub me : after.me ≡ before.me
  pub advertisers_same : advertisers after.prefixes p ≡ advertisers before.prefixes p
  pub overload : (e : List ℕ × PrefixEntry) → Contains (advertisers after.prefixes p) e → is_overloaded after.links e.0 ≡ is_overloaded before.links e.0
  pub costs : (e : List ℕ × PrefixEntry) → Contains (advertisers after.prefixes p) e → least_cost after.arcs after.me e.0 ≡ least_cost before.arcs before.me e.0
  pub hops : (e : List ℕ × PrefixEntry) → Contains (advertisers after.prefixes p) e → first_interfaces after.arcs after.me e.0 ≡ first_interfaces before.arcs before.me e.0

module _ (before after : KnownRecords) (p : Prefix) (alike : IsOfferedAlike before after p) where
  same_offer : (e : List ℕ × PrefixEntry) → Contains (advertisers after.prefixes p) e → offer_of after e ≡ offer_of before e
  same_offer e among =
      let overload = alike.overload e among in
      let cost = alike.costs e among in
      λ i. record { node = e.0; entry = e.1; overload = overload i; cost = cost i }

  same_offers : offers_for after p ≡ offers_for before p
  same_offers = same_map (offer_of after) (offer_of before) (advertisers after.prefixes p) same_offer ∙ ap (map (offer_of before)) alike.advertisers_same

  same_selection : select after.me (offers_for after p) ≡ select before.me (offers_for before p)
  same_selection = ap (λ me. select me (offers_for after p)) alike.me ∙ ap (select before.me) same_offers

  -- a selected node is one that advertises the prefix
  selected_hops : (selected : Selected) → select before.me (offers_for before p) ≡ Some selected → (node : List ℕ) → Contains selected.nodes node
      → first_interfaces after.arcs after.me node ≡ first_interfaces before.arcs before.me node
  selected_hops selected e node among =
      let offered = (selection_is_sound before.me (offers_for before p) selected e).each node among in
      let given = of_given (offer_of before) (advertisers before.prefixes p) offered.offer offered.among in
      let by_node : given.0.0 ≡ node = ap (λ (o : Offer). o.node) given.2 ∙ offered.by_node in
      let here = subst (λ ads. Contains ads given.0) (sym alike.advertisers_same) given.1 in
      subst (λ n. first_interfaces after.arcs after.me n ≡ first_interfaces before.arcs before.me n) by_node (alike.hops given.0 here)

  same_route : (selected : Selected) → select before.me (offers_for before p) ≡ Some selected → route_over after p selected ≡ route_over before p selected
  same_route selected e =
      ap (λ hops. let route : Route = record { prefix = p; cost = selected.cost; hops = fold (insert_key bytes_cmp) [] hops } in route)
      (same_flat (first_interfaces after.arcs after.me) (first_interfaces before.arcs before.me) selected.nodes (selected_hops selected e))

  same_over : (found : Option Selected) → select before.me (offers_for before p) ≡ found → option_map (route_over after p) found ≡ option_map (route_over before p) found
  same_over None e = refl
  same_over (Some selected) e = ap Some (same_route selected e)

  pub route_stays : route_for after p ≡ route_for before p
  unfolding route_for
  route_stays = ap (option_map (route_over after p)) same_selection ∙ same_over (select before.me (offers_for before p)) refl

-- ---- the places that an entry may touch

-- a prefix that isn't listed isn't the same as one that is
unlisted : (p : Prefix) (places : List Prefix) → is_listed places p ≡ false → list_any (is_same_prefix p) places ≡ false
unlisted p [] out = refl
unlisted p (q ∷ places) out =
    let parts = or_parts (is_at (prefix_cmp p) q) (is_listed places p) out in
    ap (λ first. first || list_any (is_same_prefix p) places) (sym (prefix_tests p q) ∙ parts.0) ∙ unlisted p places parts.1

-- least walks to the node are those before
abbrev IsReachedAlike : KnownRecords → KnownRecords → List ℕ → Type 0
IsReachedAlike before after node =
    (least_cost after.arcs after.me node ≡ least_cost before.arcs before.me node) × (first_interfaces after.arcs after.me node ≡ first_interfaces before.arcs before.me node)

-- the prefixes of the change, and those that the node advertises which it names, and those of all that moved
abbrev placed : (List ℕ → Bool) → RecordChange → List (List ℕ × PrefixDb) → List Prefix
placed moved c records = with_touched moved (with_touched (is_that c.transit) (with_prefixes [] c.prefixes.items) records) records

module _ (before after : KnownRecords) (c : RecordChange) (tells : TellsAll before after c) (me : after.me ≡ before.me) (moved : List ℕ → Bool)
    (alike : (node : List ℕ) → moved node ≡ false → IsReachedAlike before after node) where
  same_elsewhere : (p : Prefix) → is_listed (placed moved c after.prefixes) p ≡ false → route_for after p ≡ route_for before p
  same_elsewhere p out =
      let first = out_of_all moved p after.prefixes (with_touched (is_that c.transit) (with_prefixes [] c.prefixes.items) after.prefixes) out in
      let second = out_of_all (is_that c.transit) p after.prefixes (with_prefixes [] c.prefixes.items) first.0 in
      let third = out_of_both p c.prefixes.items [] second.0 in
      let still = none_passes (λ (a : List ℕ × PrefixEntry). moved a.0) (advertisers after.prefixes p) in
      let unnamed = none_passes (λ (a : List ℕ × PrefixEntry). is_that c.transit a.0) (advertisers after.prefixes p) in
      let none_moved = untouched moved p after.prefixes first.1 in
      let none_named = untouched (is_that c.transit) p after.prefixes second.1 in
      route_stays before after p
      (record {
        me = me;
        advertisers_same = tells.prefixes p (unlisted p c.prefixes.items third.1);
        overload = λ e among. tells.transit e.0 (unnamed e none_named among);
        costs = λ e among. (alike e.0 (still e none_moved among)).0;
        hops = λ e among. (alike e.0 (still e none_moved among)).1;
      })

  pub right_at_places : (places : List Prefix) → places ≡ placed moved c after.prefixes → IsStrictlySortedBy prefix_cmp places → IsRightElsewhere (routes_over before) after places
  right_at_places places is in_order = record {
    table = table_over before;
    in_order = in_order;
    elsewhere = λ p out. found_over before p ∙ sym (same_elsewhere p (ap (λ all. is_listed all p) (sym is) ∙ out));
  }

-- ---- which nodes moved

same_reach : (r s : Option PathRow) → is_same_reach r s ≡ true
    → (option_map (λ (row : PathRow). row.cost) r ≡ option_map (λ (row : PathRow). row.cost) s)
    × (option_map_or (λ (row : PathRow). row.hops) r [] ≡ option_map_or (λ (row : PathRow). row.hops) s [])
same_reach None None e = (refl, refl)
same_reach None (Some s) e = absurd (false≢true e)
same_reach (Some r) None e = absurd (false≢true e)
same_reach (Some r) (Some s) e =
    let parts = and_parts _ _ e in (ap Some (eqb-true r.cost s.cost parts.0), (slice_eq-Decides bytes_eq-Decides r.hops s.hops (are_same_names r.hops s.hops) refl).0 parts.1)

not_false : (b : Bool) → not b ≡ false → b ≡ true
not_false true e = refl
not_false false e = cc e

reached_alike : (before after : KnownRecords) (rows others : List (List ℕ × PathRow)) → IsRight before.arcs before.me rows → IsRight after.arcs after.me others → (node : List ℕ)
    → has_moved rows others node ≡ false → IsReachedAlike before after node
reached_alike before after rows others right right' node e =
    let same = same_reach (row_of rows node) (row_of others node) (not_false (is_same_reach (row_of rows node) (row_of others node)) e) in (
      sym (cost_told after.arcs after.me others node right') ∙ sym same.0 ∙ cost_told before.arcs before.me rows node right,
      sym (hops_told after.arcs after.me others node right') ∙ sym same.1 ∙ hops_told before.arcs before.me rows node right,
    )

-- a table that is made anew
pub right_with_moved : (before after : KnownRecords) (rows others : List (List ℕ × PathRow)) (c : RecordChange) (places : List Prefix) → IsRight before.arcs before.me rows
    → AreArcs after.arcs → IsRight after.arcs after.me others → TellsAll before after c → after.me ≡ before.me → places ≡ placed (has_moved rows others) c after.prefixes
    → IsStrictlySortedBy prefix_cmp places → IsRightAfter before after others places
right_with_moved before after rows others c places right arcs right' tells me is in_order = record {
  arcs = arcs;
  rows_right = right';
  routes_right =
      right_at_places before after c tells me (has_moved rows others) (reached_alike before after rows others right right') places is in_order;
}

-- a table that is still right
pub right_as_before : (before after : KnownRecords) (rows : List (List ℕ × PathRow)) (c : RecordChange) (places : List Prefix) → IsRight before.arcs before.me rows
    → AreArcs after.arcs → IsRight after.arcs after.me rows → TellsAll before after c → after.me ≡ before.me → places ≡ with_touched (is_that c.transit) (with_prefixes [] c.prefixes.items) after.prefixes
    → IsStrictlySortedBy prefix_cmp places → IsRightAfter before after rows places
right_as_before before after rows c places right arcs right' tells me is in_order = record {
  arcs = arcs;
  rows_right = right';
  routes_right =
      right_at_places before after c tells me (λ node. false)
      (λ node e. (
        sym (cost_told after.arcs after.me rows node right') ∙ cost_told before.arcs before.me rows node right,
        sym (hops_told after.arcs after.me rows node right') ∙ hops_told before.arcs before.me rows node right,
      ))
      places (is ∙ sym (none_touched after.prefixes (with_touched (is_that c.transit) (with_prefixes [] c.prefixes.items) after.prefixes))) in_order;
}

-- ---- the change

same_dels : (old f g : Prefix → Option Route) (places : List Prefix) → ((p : Prefix) → f p ≡ g p) → filter (λ p. is_gone (old p) (f p)) places ≡ filter (λ p. is_gone (old p) (g p)) places
same_dels old f g [] same = refl
same_dels old f g (p ∷ places) same =
    ap (λ r. cond (is_gone (old p) r) (p ∷ filter (λ q. is_gone (old q) (f q)) places) (filter (λ q. is_gone (old q) (f q)) places)) (same p)
    ∙ ap (λ ps. cond (is_gone (old p) (g p)) (p ∷ ps) ps) (same_dels old f g places same)

same_sets : (old f g : Prefix → Option Route) (places : List Prefix) → ((p : Prefix) → f p ≡ g p)
    → filter_map (λ p. route_set (old p) (f p)) places ≡ filter_map (λ p. route_set (old p) (g p)) places
same_sets old f g [] same = refl
same_sets old f g (p ∷ places) same =
    ap (λ r. cons_option (route_set (old p) r) (filter_map (λ q. route_set (old q) (f q)) places)) (same p)
    ∙ ap (cons_option (route_set (old p) (g p))) (same_sets old f g places same)

same_delta : (old f g : Prefix → Option Route) (places : List Prefix) → ((p : Prefix) → f p ≡ g p) → delta_at old f places ≡ delta_at old g places
same_delta old f g places same =
    let del = same_dels old f g places same in
    let set = same_sets old f g places same in
    λ i. record { del = del i; set = set i }

-- the change at the places is the whole change
pub whole_change : (routes : List (Prefix × Route)) (known : KnownRecords) (places : List Prefix) → IsRightElsewhere routes known places
    → delta_at (route_to routes) (route_for known) places ≡ delta_between routes (routes_over known)
whole_change routes known places right =
    same_delta (route_to routes) (route_for known) (route_to (routes_over known)) places (λ p. sym (found_over known p))
    ∙ sym (places_give_the_delta routes (routes_over known) places right.table (table_over known) right.in_order (λ p out. right.elsewhere p out ∙ sym (found_over known p)))

-- and leads to the routes that follow
pub change_leads : (routes : List (Prefix × Route)) (known : KnownRecords) (places : List Prefix) → IsRightElsewhere routes known places
    → applied routes (delta_at (route_to routes) (route_for known) places) ≡ routes_over known
change_leads routes known places right =
    ap (applied routes) (whole_change routes known places right) ∙ deltas_lead_on routes (routes_over known) right.table (table_over known)

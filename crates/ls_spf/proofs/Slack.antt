-- Where all that changes between some arcs and others is slack, least walks to each node cost the same, end by the same arcs and begin by the same interfaces.
use Rattle.std.proofs.Common.{◌≡◌, ◌≢◌, ℕ, ◌+◌, ◌<◌, List, [], ◌∷◌, Bool, true, false, cond, ◌&&◌, ◌==◌, Option, Some, None, option_map, refl, sym, ◌∙◌, ap, subst, ◌⊎◌, inl, inr, ◌↔◌, arith}
use Rattle.std.specs.List.{Contains, filter, flat_map, list_all}
use Rattle.std.specs.Str.{bytes_eq}
use Rattle.std.proofs.lemmas.Bool.{ltb-true}
use Rattle.std.proofs.lemmas.List.Elements.{filter_agree}
use Rattle.std.proofs.lemmas.List.Kept.{IsStrictlySortedBy-filter}
use Rattle.std.proofs.lemmas.Slice.Eq.{bytes_eq-Decides}
use borrow.Author.Tests.{eqb-true, eqb-false}
use Rattle.ls_graph.specs.declared.arc.Arc.{Arc}
use Rattle.ls_graph.specs.declared.change.LinkChange.{LinkChange}
use Rattle.ls_graph.specs.Changes.{place_cmp, AreByPlace, AreChanges, is_same_link, metric_among}
use Rattle.ls_graph.specs.Places.{arc_in, place_of}
use Rattle.ls_graph.proofs.ArcIn.{found_there, found_at_place}
use Rattle.ls_graph.proofs.Edits.{same_arcs}
use Rattle.ls_graph.proofs.Links.{one_link, link_itself, link_back, link_congr, same_arc, metric_of, metric_by_place}
use Rattle.ls_spf.specs.declared.table.PathRow.{PathRow}
use Rattle.ls_spf.specs.Least.{least_cost, first_interfaces, add_up_to}
use Rattle.ls_spf.specs.Local.{IsTight, IsRelaxed, AreLocal, handed_on}
use Rattle.ls_spf.specs.Slack.{cost_of, is_slack_between, is_slack_at, is_slack_change, SlackChangesKeepRight}
use Rattle.ls_spf.specs.Table.{AreArcs, IsRight, right_row, ends_least, tight_arcs}
use Rattle.ls_spf.proofs.Back.{least_is_local}
use Rattle.ls_spf.proofs.Certificate.{local_is_least}
use Rattle.ls_spf.proofs.Exact.{sum_from_test}
use Rattle.ls_spf.proofs.Hops.{union_at, union_is_first}
use Rattle.ls_spf.proofs.Listed.{both_true, each_passes, found_in_filter, kept_in_filter}
use Rattle.ls_spf.proofs.Making.{same_names, named_alike, first_in_order, row_is}

-- ---- what is slack by costs

-- the node to which the arc leads costs less than n and the metric
pub record IsSlack (costs : List ℕ → Option ℕ) (a : Arc) (n : ℕ) : Type 0 where
  pub end : ℕ
  pub to : costs a.to ≡ Some end
  pub more : end < n + a.metric

-- an arc of the ones that leaves a node with a cost is one of the others, or it is slack
abbrev pub SlackOrAmong : (List ℕ → Option ℕ) → List Arc → List Arc → Type 0
SlackOrAmong costs xs ys = (a : Arc) (n : ℕ) → Contains xs a → costs a.from ≡ Some n → Contains ys a ⊎ IsSlack costs a n

-- only slack arcs tell the two lists apart
pub record AreSlackApart (costs : List ℕ → Option ℕ) (xs ys : List Arc) : Type 0 where
  pub first : SlackOrAmong costs xs ys
  pub second : SlackOrAmong costs ys xs

-- ---- from changes

-- the metric of one link is the same by whichever arc it is asked
one_metric : (arcs : List Arc) (c a : Arc) → is_same_link c a ≡ true → metric_among arcs c ≡ metric_among arcs a
one_metric [] c a same = refl
one_metric (b ∷ arcs) c a same =
    let test : is_same_link b c ≡ is_same_link b a = link_back b c ∙ (link_congr c a b same ∙ link_back a b) in
    ap (λ t. cond t (Some b.metric) (metric_among arcs c)) test ∙ ap (λ o. cond (is_same_link b a) (Some b.metric) o) (one_metric arcs c a same)

-- an arc is found by its own metric
own_metric : (arcs : List Arc) (a : Arc) → AreByPlace arcs → Contains arcs a → metric_among arcs a ≡ Some a.metric
own_metric arcs a ordered among =
    metric_by_place arcs a ordered ∙ (ap (λ o. metric_of o a) (found_at_place arcs a ordered among) ∙ ap (λ t. cond t (Some a.metric) None) (link_itself a))

among_by_link : (arcs : List Arc) (a b : Arc) (t : Bool) → is_same_link b a ≡ t → Contains arcs b → cond t (Some b.metric) None ≡ Some a.metric → Contains arcs a
among_by_link arcs a b true same among e =
    let metric : b.metric ≡ a.metric = cc in subst (λ z. Contains arcs z) (same_arc b a same metric) among
among_by_link arcs a b false same among e = cc

among_by_found : (arcs : List Arc) (a : Arc) (o : Option Arc) → arc_in arcs (place_of a) ≡ o → metric_of o a ≡ Some a.metric → Contains arcs a
among_by_found arcs a None found e = cc
among_by_found arcs a (Some b) found e = among_by_link arcs a b (is_same_link b a) refl (found_there (place_of a) arcs b found).1 e

-- an arc that is found by its own metric is there
among_by_metric : (arcs : List Arc) (a : Arc) → AreByPlace arcs → metric_among arcs a ≡ Some a.metric → Contains arcs a
among_by_metric arcs a ordered e =
    among_by_found arcs a (arc_in arcs (place_of a)) refl (sym (metric_by_place arcs a ordered) ∙ e)

-- where each difference of metrics is slack, an arc of the ones is one of the others or slack
module _ (costs : List ℕ → Option ℕ) (xs ys : List Arc) (ordered : AreByPlace xs) (ordered' : AreByPlace ys) (a : Arc) (n : ℕ) (among : Contains xs a)
    (slack : metric_among xs a ≢ metric_among ys a → IsSlack costs a n) where
  by_metrics : (m : ℕ) (b : Bool) → (m == a.metric) ≡ b → metric_among ys a ≡ Some m → Contains ys a ⊎ IsSlack costs a n
  by_metrics m true same e = inl (among_by_metric ys a ordered' (e ∙ ap Some (eqb-true m a.metric same)))
  by_metrics m false differ e =
      inr (slack (λ f. let g : Some m ≡ Some a.metric = sym e ∙ (sym f ∙ own_metric xs a ordered among) in let h : m ≡ a.metric = cc in eqb-false m a.metric differ h))

  by_other : (o : Option ℕ) → metric_among ys a ≡ o → Contains ys a ⊎ IsSlack costs a n
  by_other None e = inr (slack (λ f. let g : None ≡ Some a.metric = sym e ∙ (sym f ∙ own_metric xs a ordered among) in cc))
  by_other (Some m) e = by_metrics m (m == a.metric) refl e

  among_or_slack : Contains ys a ⊎ IsSlack costs a n
  among_or_slack = by_other (metric_among ys a) refl

end_above : (o : Option ℕ) (n metric : ℕ) → is_slack_between (Some n) metric o ≡ true → (end : ℕ) × (o ≡ Some end) × (end < n + metric)
end_above None n metric e = cc
end_above (Some end) n metric e = (end, refl, ltb-true end (n + metric) e)

-- what the rows say of a link is so of an arc of the same link
slack_by_rows : (rows : List (List ℕ × PathRow)) (costs : List ℕ → Option ℕ) → ((q : List ℕ) → cost_of rows q ≡ costs q) → (c a : Arc) → is_same_link c a ≡ true
    → (o : Option ℕ) → o ≡ Some a.metric → is_slack_at rows c o ≡ true → (n : ℕ) → costs a.from ≡ Some n → IsSlack costs a n
slack_by_rows rows costs are c a same o metric slack n from =
    let link = one_link c a same in
    let start : cost_of rows c.from ≡ Some n = are c.from ∙ (ap costs link.from ∙ from) in
    let end : cost_of rows c.to ≡ costs a.to = are c.to ∙ ap costs link.to in
    let at : is_slack_at rows c (Some a.metric) ≡ true = ap (is_slack_at rows c) (sym metric) ∙ slack in
    let test : is_slack_between (Some n) a.metric (costs a.to) ≡ true =
    ap (λ p. is_slack_between p a.metric (costs a.to)) (sym start) ∙ (ap (λ p. is_slack_between (cost_of rows c.from) a.metric p) (sym end) ∙ at) in
    let r = end_above (costs a.to) n a.metric test in
    record { end = r.0; to = r.1; more = r.2 }

cost_in_row : (arcs : List Arc) (me node : List ℕ) (o : Option ℕ) → option_map (λ (r : PathRow). r.cost) (option_map (right_row arcs me node) o) ≡ o
cost_in_row arcs me node None = refl
cost_in_row arcs me node (Some m) = refl

-- slack changes are all that tells the two lists apart
module _ (before after : List Arc) (me : List ℕ) (rows : List (List ℕ × PathRow)) (changes : List LinkChange) (are : AreArcs before) (are' : AreArcs after)
    (right : IsRight before me rows) (ch : AreChanges before after changes) (slack : list_all (is_slack_change rows) changes ≡ true) where
  costs_in_rows : (q : List ℕ) → cost_of rows q ≡ least_cost before me q
  costs_in_rows q = ap (λ o. option_map (λ (r : PathRow). r.cost) o) (right.row q) ∙ cost_in_row before me q (least_cost before me q)

  both_slack : (c : LinkChange) → Contains changes c → (is_slack_at rows c.arc c.old ≡ true) × (is_slack_at rows c.arc c.new ≡ true)
  both_slack c among = both_true (is_slack_at rows c.arc c.old) (is_slack_at rows c.arc c.new) (each_passes (is_slack_change rows) changes c slack among)

  gone_or_slack : SlackOrAmong (least_cost before me) before after
  gone_or_slack a n among from =
      among_or_slack (least_cost before me) before after are.in_order are'.in_order a n among
      (λ differ. let c = ch.all a (inl among) differ in
      let is = (ch.sound c.0 c.1).old in
      slack_by_rows rows (least_cost before me) costs_in_rows c.0.arc a c.2 c.0.old (is ∙ (one_metric before c.0.arc a c.2 ∙ own_metric before a are.in_order among))
      (both_slack c.0 c.1).0 n from)

  arrived_or_slack : SlackOrAmong (least_cost before me) after before
  arrived_or_slack a n among from =
      among_or_slack (least_cost before me) after before are'.in_order are.in_order a n among
      (λ differ. let c = ch.all a (inr among) (λ e. differ (sym e)) in
      let is = (ch.sound c.0 c.1).new in
      slack_by_rows rows (least_cost before me) costs_in_rows c.0.arc a c.2 c.0.new (is ∙ (one_metric after c.0.arc a c.2 ∙ own_metric after a are'.in_order among))
      (both_slack c.0 c.1).1 n from)

  apart_by_changes : AreSlackApart (least_cost before me) before after
  apart_by_changes = record { first = gone_or_slack; second = arrived_or_slack }

-- ---- costs

-- what is right at each arc and node of the ones is so at those of the others
module _ (xs ys : List Arc) (me : List ℕ) (costs : List ℕ → Option ℕ) (local : AreLocal xs me costs) (apart : AreSlackApart costs xs ys) where
  relaxed_by : (a : Arc) (n : ℕ) → costs a.from ≡ Some n → Contains xs a ⊎ IsSlack costs a n → IsRelaxed costs a n
  relaxed_by a n from (inl among) = local.relaxed a n among from
  relaxed_by a n from (inr slack) = record { end = slack.end; to = slack.to; least = let l : slack.end < n + a.metric = slack.more in omega arith }

  -- a slack arc isn't tight
  not_tight : {A : Type 0} (node : List ℕ) (m : ℕ) (a : Arc) (start : ℕ) → costs node ≡ Some m → a.to ≡ node → start + a.metric ≡ m → IsSlack costs a start → A
  not_tight node m a start is to sum slack =
      let e : Some slack.end ≡ Some m = sym slack.to ∙ (ap costs to ∙ is) in
      let same : slack.end ≡ m = cc in
      let more : slack.end < start + a.metric = slack.more in absurd (omega arith)

  still_tight : (node : List ℕ) (m : ℕ) → costs node ≡ Some m → (a : Arc) (t : IsTight xs costs node m a) → Contains ys a ⊎ IsSlack costs a t.start → IsTight ys costs node m a
  still_tight node m is a t (inl among) = record { among = among; to = t.to; start = t.start; from = t.from; sum = t.sum }
  still_tight node m is a t (inr slack) = not_tight node m a t.start is t.to t.sum slack

  supported_by : (node : List ℕ) (m : ℕ) → costs node ≡ Some m → (node ≡ me) ⊎ ((a : Arc) × IsTight xs costs node m a) → (node ≡ me) ⊎ ((a : Arc) × IsTight ys costs node m a)
  supported_by node m is (inl here) = inl here
  supported_by node m is (inr (a, t)) = inr (a, still_tight node m is a t (apart.first a t.start t.among t.from))

  local_after : AreLocal ys me costs
  local_after = record {
    here = local.here;
    relaxed = λ a n among from. relaxed_by a n from (apart.second a n among from);
    supported = λ node m is. supported_by node m is (local.supported node m is);
  }

-- ---- tight arcs

same_by_places : (xs ys : List Arc) (p : List ℕ × List ℕ) → AreByPlace xs → AreByPlace ys → ((a : Arc) → Contains xs a → Contains ys a) → ((a : Arc) → Contains ys a → Contains xs a)
    → (o o' : Option Arc) → arc_in xs p ≡ o → arc_in ys p ≡ o' → o ≡ o'
same_by_places xs ys p ordered ordered' into back None None e f = refl
same_by_places xs ys p ordered ordered' into back None (Some b) e f =
    let there = found_there p ys b f in
    sym e ∙ (ap (arc_in xs) there.0 ∙ found_at_place xs b ordered (back b there.1))
same_by_places xs ys p ordered ordered' into back (Some a) o' e f =
    let there = found_there p xs a e in
    sym (found_at_place ys a ordered' (into a there.1)) ∙ (ap (arc_in ys) (sym there.0) ∙ f)

-- lists in order with the same arcs are one
same_by_members : (xs ys : List Arc) → AreByPlace xs → AreByPlace ys → ((a : Arc) → Contains xs a → Contains ys a) → ((a : Arc) → Contains ys a → Contains xs a) → xs ≡ ys
same_by_members xs ys ordered ordered' into back =
    same_arcs xs ys ordered ordered' (λ p. same_by_places xs ys p ordered ordered' into back (arc_in xs p) (arc_in ys p) refl refl)

-- by these costs, the arc is the last of a walk of cost m to the node
abbrev ends_by_costs : (List ℕ → Option ℕ) → List ℕ → ℕ → Arc → Bool
ends_by_costs costs node m a = bytes_eq a.to node && add_up_to (Some m) a.metric (costs a.from)

module _ (xs ys : List Arc) (costs : List ℕ → Option ℕ) (node : List ℕ) (m : ℕ) (is : costs node ≡ Some m) (apart : SlackOrAmong costs xs ys) where
  still_among : (a : Arc) (start : ℕ) → a.to ≡ node → a.metric + start ≡ m → Contains ys a ⊎ IsSlack costs a start → Contains ys a
  still_among a start to sum (inl among) = among
  still_among a start to sum (inr slack) =
      let e : Some slack.end ≡ Some m = sym slack.to ∙ (ap costs to ∙ is) in
      let same : slack.end ≡ m = cc in
      let more : slack.end < start + a.metric = slack.more in absurd (omega arith)

  tight_kept : (a : Arc) → Contains (filter (ends_by_costs costs node m) xs) a → Contains (filter (ends_by_costs costs node m) ys) a
  tight_kept a c =
      let f = found_in_filter (ends_by_costs costs node m) xs a c in
      let p = both_true (bytes_eq a.to node) (add_up_to (Some m) a.metric (costs a.from)) f.1 in
      let s = sum_from_test m a.metric (costs a.from) p.1 in
      kept_in_filter (ends_by_costs costs node m) ys a (still_among a s.0 ((bytes_eq-Decides a.to node).0 p.0) s.2 (apart a s.0 f.0 s.1)) f.1

tight_alike : (before after : List Arc) (me node : List ℕ) (m : ℕ) → AreByPlace before → AreByPlace after → ((q : List ℕ) → least_cost before me q ≡ least_cost after me q)
    → AreSlackApart (least_cost before me) before after → least_cost before me node ≡ Some m → tight_arcs before me node m ≡ tight_arcs after me node m
tight_alike before after me node m ordered ordered' costs apart is =
    let test = ends_by_costs (least_cost before me) node m in
    same_by_members (filter test before) (filter test after) (IsStrictlySortedBy-filter place_cmp test before ordered) (IsStrictlySortedBy-filter place_cmp test after ordered')
    (tight_kept before after (least_cost before me) node m is apart.first) (tight_kept after before (least_cost before me) node m is apart.second)
    ∙ filter_agree test (λ a. bytes_eq a.to node && ends_least after me m a)
    (λ a. ap (λ o. bytes_eq a.to node && add_up_to (Some m) a.metric o) (costs a.from)) after

-- ---- first interfaces

module _ (before after : List Arc) (me : List ℕ) (are : AreArcs before) (are' : AreArcs after) (costs : (q : List ℕ) → least_cost before me q ≡ least_cost after me q)
    (tight : (q : List ℕ) (k : ℕ) → least_cost before me q ≡ Some k → tight_arcs before me q k ≡ tight_arcs after me q k) where
  handed : (q : List ℕ) (k : ℕ) (interface : List ℕ) → least_cost after me q ≡ Some k
      → Contains (first_interfaces before me q) interface ↔ Contains (flat_map (handed_on me (first_interfaces before me)) (tight_arcs after me q k)) interface
  handed q k interface is =
      let at = costs q ∙ is in
      let u = union_at before me (λ a i. (are.metrics a i).0) q interface k at (first_interfaces before me) (λ v j l e. (λ c. c, λ c. c)) in
      let same = tight q k at in (
        λ c. subst (λ z. Contains (flat_map (handed_on me (first_interfaces before me)) z) interface) same (u.1 c),
        λ c. u.0 (subst (λ z. Contains (flat_map (handed_on me (first_interfaces before me)) z) interface) (sym same) c),
      )

  first_alike : (node : List ℕ) (m : ℕ) → least_cost before me node ≡ Some m → first_interfaces before me node ≡ first_interfaces after me node
  first_alike node m is =
      same_names (first_interfaces before me node) (first_interfaces after me node) (first_in_order before me node are.in_order) (first_in_order after me node are'.in_order)
      (λ i. named_alike (first_interfaces before me node) (first_interfaces after me node) i
      (union_is_first after me (first_interfaces before me) (λ a j. (are'.metrics a j).0) i (λ q k e. handed q k i e) node m (sym (costs node) ∙ is)))

-- ---- rows

module _ (before after : List Arc) (me node : List ℕ) (costs : (q : List ℕ) → least_cost before me q ≡ least_cost after me q)
    (tight : (m : ℕ) → least_cost before me node ≡ Some m → tight_arcs before me node m ≡ tight_arcs after me node m)
    (first : (m : ℕ) → least_cost before me node ≡ Some m → first_interfaces before me node ≡ first_interfaces after me node) where
  row_by_cost : (o : Option ℕ) → least_cost before me node ≡ o → option_map (right_row before me node) o ≡ option_map (right_row after me node) o
  row_by_cost None e = refl
  row_by_cost (Some m) e = ap Some (row_is after me node m (first_interfaces before me node) (tight_arcs before me node m) (first m e) (tight m e))

  row_alike : option_map (right_row before me node) (least_cost before me node) ≡ option_map (right_row after me node) (least_cost after me node)
  row_alike = row_by_cost (least_cost before me node) refl ∙ ap (option_map (right_row after me node)) (costs node)

pub slack_changes_keep_right : SlackChangesKeepRight
slack_changes_keep_right before after me rows changes are are' right ch slack =
    let apart = apart_by_changes before after me rows changes are are' right ch slack in
    let local = local_after before after me (least_cost before me) (least_is_local before me) apart in
    let costs = local_is_least after me (least_cost before me) (λ a i. (are'.metrics a i).0) local in
    let tight = λ (q : List ℕ) (k : ℕ) (e : least_cost before me q ≡ Some k). tight_alike before after me q k are.in_order are'.in_order costs apart e in
    record {
      row = λ node. right.row node ∙ row_alike before after me node costs (tight node) (first_alike before after me are are' costs tight node);
    }

-- What changes place by place is what changes from the ones to the others.
use Rattle.std.proofs.Common.{◌≡◌, ◌≢◌, ℕ, List, [], ◌∷◌, Bool, true, false, cond, Option, Some, None, refl, sym, ◌∙◌, ap, subst, inl, inr, eq-eqb, eqb-true}
use Rattle.std.specs.Prelude.{if◌then◌else◌, ◌==◌, unwrap_or}
use Rattle.std.specs.declared.cmp.Ordering.TheVariants.{Less, Equal}
use Rattle.std.specs.List.{AllByRecursion, Contains, flat_map, list_any}
use Rattle.std.specs.List.Sorted.{IsStrictlySortedBy}
use Rattle.std.specs.BTreeMap.{is_at}
use Rattle.std.proofs.lemmas.Bool.{false≢true}
use Rattle.std.proofs.lemmas.Cmp.{tied_itself}
use Rattle.std.proofs.lemmas.Map.Views.{Contains-from_any}
use Rattle.or_base.proofs.Members.{Contains-first, Contains-later}
use Rattle.ls_graph.specs.declared.arc.Arc.{Arc}
use Rattle.ls_graph.specs.declared.change.LinkChange.{LinkChange}
use Rattle.ls_graph.specs.Changes.{AreByPlace, AreChanges, IsChange, ComesBefore, place_cmp, is_same_link, metric_among}
use Rattle.ls_graph.specs.Places.{pair_cmp, place_of, arc_in, changes_at, gone, arrived}
use Rattle.ls_graph.proofs.Order.{pair_total, same_place}
use Rattle.ls_graph.proofs.ArcIn.{found_there}
use Rattle.ls_graph.proofs.Lists.{EachBefore, all_from_members, all_have, all_in_pieces, each_joined, in_pieces, none_in_nothing, only_one, pairs_from_each, piece_of}
use Rattle.ls_graph.proofs.Links.{link_itself, link_back, link_congr, metric_of, metric_by_place}

-- the arc, if there is one, is at the place
abbrev pub IsAt : List ℕ × List ℕ → Option Arc → Type 0
IsAt p None = Unit {0}
IsAt p (Some a) = p ≡ place_of a

at_place : (p : List ℕ × List ℕ) (arcs : List Arc) (o : Option Arc) → arc_in arcs p ≡ o → IsAt p o
at_place p arcs None e = tt
at_place p arcs (Some a) e = (found_there p arcs a e).0

-- ---- each change at a place is one

record IsChangeAt (p : List ℕ × List ℕ) (before after : Option Arc) (c : LinkChange) : Type 0 where
  place : p ≡ place_of c.arc
  old : c.old ≡ metric_of before c.arc
  new : c.new ≡ metric_of after c.arc
  differ : c.old ≢ c.new
  metric : c.arc.metric ≡ unwrap_or c.new (unwrap_or c.old 0)

known_metric : (a : Arc) → Some a.metric ≡ metric_of (Some a) a
known_metric a = sym (ap (λ t. cond t (Some a.metric) None) (link_itself a))

unknown_metric : (a b : Arc) → is_same_link a b ≡ false → None ≡ metric_of (Some a) b
unknown_metric a b e = sym (ap (λ t. cond t (Some a.metric) None) e)

gone_at : (p : List ℕ × List ℕ) (a : Arc) (after : Option Arc) → p ≡ place_of a → None ≡ metric_of after a → IsChangeAt p (Some a) after (gone a)
gone_at p a after at none = record { place = at; old = known_metric a; new = none; differ = λ e. cc; metric = refl }

arrived_at : (p : List ℕ × List ℕ) (b : Arc) (before : Option Arc) → p ≡ place_of b → None ≡ metric_of before b → IsChangeAt p before (Some b) (arrived b)
arrived_at p b before at none = record { place = at; old = none; new = known_metric b; differ = λ e. cc; metric = refl }

differs : (m n : ℕ) → m == n ≡ false → Some m ≡ Some n → ⊥
differs m n e f = let same : m ≡ n = cc in false≢true (sym e ∙ subst (λ k. m == k ≡ true) same (eq-eqb m m refl))

replaced_at : (p : List ℕ × List ℕ) (a b : Arc) (link metric : Bool) → is_same_link a b ≡ link → a.metric == b.metric ≡ metric → p ≡ place_of a → p ≡ place_of b
    → (c : LinkChange)
    → Contains (if link then (if metric then [] else record { arc = b; old = Some a.metric; new = Some b.metric } ∷ []) else gone a ∷ arrived b ∷ []) c
    → IsChangeAt p (Some a) (Some b) c
replaced_at p a b true true e f at_a at_b c among = absurd (none_in_nothing c among)
replaced_at p a b true false e f at_a at_b c among =
    let change : LinkChange = record { arc = b; old = Some a.metric; new = Some b.metric } in
    subst (IsChangeAt p (Some a) (Some b)) (only_one change c among)
    (record { place = at_b; old = sym (ap (λ t. cond t (Some a.metric) None) e); new = known_metric b; differ = differs a.metric b.metric f; metric = refl })
replaced_at p a b false metric e f at_a at_b c among =
    all_have (IsChangeAt p (Some a) (Some b)) (gone a ∷ arrived b ∷ []) c
    (gone_at p a (Some b) at_a (unknown_metric b a (link_back b a ∙ e)), (arrived_at p b (Some a) at_b (unknown_metric a b e), tt)) among

change_at : (p : List ℕ × List ℕ) (before after : Option Arc) (c : LinkChange) → IsAt p before → IsAt p after → Contains (changes_at before after) c → IsChangeAt p before after c
change_at p None None c at at' among = absurd (none_in_nothing c among)
change_at p None (Some b) c at at' among = subst (IsChangeAt p None (Some b)) (only_one (arrived b) c among) (arrived_at p b None at' refl)
change_at p (Some a) None c at at' among = subst (IsChangeAt p (Some a) None) (only_one (gone a) c among) (gone_at p a None at refl)
change_at p (Some a) (Some b) c at at' among = replaced_at p a b (is_same_link a b) (a.metric == b.metric) refl refl at at' c among

-- ---- each link whose metric differs has a change

record IsTold (changes : List LinkChange) (a : Arc) : Type 0 where
  change : LinkChange
  among : Contains changes change
  link : is_same_link change.arc a ≡ true

first_told : (c : LinkChange) (changes : List LinkChange) (a : Arc) → is_same_link c.arc a ≡ true → IsTold (c ∷ changes) a
first_told c changes a link = record { change = c; among = Contains-first c changes; link = link }

second_told : (c d : LinkChange) (a : Arc) → is_same_link d.arc a ≡ true → IsTold (c ∷ d ∷ []) a
second_told c d a link = record { change = d; among = Contains-later c (d ∷ []) d (Contains-first d []); link = link }

known_if : (a b : Arc) (t : Bool) → is_same_link b a ≡ t → cond t (Some b.metric) None ≢ None → is_same_link b a ≡ true
known_if a b true e known = e
known_if a b false e known = absurd (known refl)

gone_or_arrived : (a b c : Arc) (s t : Bool) → is_same_link a c ≡ s → is_same_link b c ≡ t → cond s (Some a.metric) None ≢ cond t (Some b.metric) None
    → IsTold (gone a ∷ arrived b ∷ []) c
gone_or_arrived a b c true t e f differ = first_told (gone a) (arrived b ∷ []) c e
gone_or_arrived a b c false true e f differ = second_told (gone a) (arrived b) c f
gone_or_arrived a b c false false e f differ = absurd (differ refl)

one_metric : (a b c : Arc) → is_same_link a b ≡ true → a.metric == b.metric ≡ true → metric_of (Some a) c ≡ metric_of (Some b) c
one_metric a b c link metric =
    ap (λ t. cond t (Some a.metric) None) (link_congr a b c link) ∙ ap (λ m. cond (is_same_link b c) (Some m) None) (eqb-true a.metric b.metric metric)

other_metric : (a b c : Arc) (s : Bool) → is_same_link a b ≡ true → is_same_link b c ≡ s → metric_of (Some a) c ≢ cond s (Some b.metric) None → is_same_link b c ≡ true
other_metric a b c true link e differ = e
other_metric a b c false link e differ = absurd (differ (ap (λ t. cond t (Some a.metric) None) (link_congr a b c link ∙ e)))

replaced_told : (a b c : Arc) (link metric : Bool) → is_same_link a b ≡ link → a.metric == b.metric ≡ metric → metric_of (Some a) c ≢ metric_of (Some b) c
    → IsTold (if link then (if metric then [] else record { arc = b; old = Some a.metric; new = Some b.metric } ∷ []) else gone a ∷ arrived b ∷ []) c
replaced_told a b c true true e f differ = absurd (differ (one_metric a b c e f))
replaced_told a b c true false e f differ =
    first_told (record { arc = b; old = Some a.metric; new = Some b.metric }) [] c (other_metric a b c (is_same_link b c) e refl differ)
replaced_told a b c false metric e f differ = gone_or_arrived a b c (is_same_link a c) (is_same_link b c) refl refl differ

told_at : (before after : Option Arc) (a : Arc) → metric_of before a ≢ metric_of after a → IsTold (changes_at before after) a
told_at None None a differ = absurd (differ refl)
told_at None (Some b) a differ = first_told (arrived b) [] a (known_if a b (is_same_link b a) refl (λ e. differ (sym e)))
told_at (Some b) None a differ = first_told (gone b) [] a (known_if a b (is_same_link b a) refl differ)
told_at (Some b) (Some d) a differ = replaced_told b d a (is_same_link b d) (b.metric == d.metric) refl refl differ

-- ---- changes stand in order

both_at : (p : List ℕ × List ℕ) (a b : Arc) → p ≡ place_of a → p ≡ place_of b → place_cmp a b ≡ Equal
both_at p a b e f = subst (λ q. pair_cmp (place_of a) q ≡ Equal) (sym e ∙ f) (tied_itself pair_total (place_of a))

order_replaced : (p : List ℕ × List ℕ) (a b : Arc) (link metric : Bool) → p ≡ place_of a → p ≡ place_of b
    → EachBefore ComesBefore (if link then (if metric then [] else record { arc = b; old = Some a.metric; new = Some b.metric } ∷ []) else gone a ∷ arrived b ∷ [])
order_replaced p a b true true at at' = tt
order_replaced p a b true false at at' = (tt, tt)
order_replaced p a b false metric at at' = ((inr (both_at p a b at at', refl, refl), tt), (tt, tt))

order_at : (p : List ℕ × List ℕ) (before after : Option Arc) → IsAt p before → IsAt p after → EachBefore ComesBefore (changes_at before after)
order_at p None None at at' = tt
order_at p None (Some b) at at' = (tt, tt)
order_at p (Some a) None at at' = (tt, tt)
order_at p (Some a) (Some b) at at' = order_replaced p a b (is_same_link a b) (a.metric == b.metric) at at'

module _ (before after : List Arc) where
  abbrev here : List ℕ × List ℕ → List LinkChange
  here p = changes_at (arc_in before p) (arc_in after p)

  here_at : (p : List ℕ × List ℕ) (c : LinkChange) → Contains (here p) c → IsChangeAt p (arc_in before p) (arc_in after p) c
  here_at p c among = change_at p (arc_in before p) (arc_in after p) c (at_place p before (arc_in before p) refl) (at_place p after (arc_in after p) refl) among

  -- a change at a place comes before those at later places
  across : (p q : List ℕ × List ℕ) → pair_cmp p q ≡ Less → (c d : LinkChange) → Contains (here p) c → Contains (here q) d → ComesBefore c d
  across p q less c d at_p at_q =
      inl (ap (λ x. pair_cmp x (place_of d.arc)) (sym (here_at p c at_p).place) ∙ ap (pair_cmp p) (sym (here_at q d at_q).place) ∙ less)

  across_all : (p : List ℕ × List ℕ) (ps : List (List ℕ × List ℕ)) → AllByRecursion (λ q. pair_cmp p q ≡ Less) ps → (c : LinkChange) → Contains (here p) c
      → AllByRecursion (λ q. AllByRecursion (ComesBefore c) (here q)) ps
  across_all p [] later c among = tt
  across_all p (q ∷ ps) later c among =
      (all_from_members (ComesBefore c) (here q) (λ d there. across p q later.0 c d among there), across_all p ps later.1 c among)

  pub order_of_all : (ps : List (List ℕ × List ℕ)) → IsStrictlySortedBy pair_cmp ps → EachBefore ComesBefore (flat_map here ps)
  unfolding IsStrictlySortedBy
  order_of_all [] ordered = tt
  order_of_all (p ∷ ps) ordered =
      each_joined ComesBefore (here p) (flat_map here ps)
      (order_at p (arc_in before p) (arc_in after p) (at_place p before (arc_in before p) refl) (at_place p after (arc_in after p) refl))
      (order_of_all ps ordered.1)
      (all_from_members (λ c. AllByRecursion (ComesBefore c) (flat_map here ps)) (here p)
      (λ c among. all_in_pieces (ComesBefore c) here ps (across_all p ps ordered.0 c among)))

  is_change : AreByPlace before → AreByPlace after → (p : List ℕ × List ℕ) (c : LinkChange) → Contains (here p) c → IsChange before after c
  is_change ordered ordered' p c among =
      let h = here_at p c among in
      record {
        old = h.old ∙ ap (λ q. metric_of (arc_in before q) c.arc) h.place ∙ sym (metric_by_place before c.arc ordered);
        new = h.new ∙ ap (λ q. metric_of (arc_in after q) c.arc) h.place ∙ sym (metric_by_place after c.arc ordered');
        differ = h.differ;
        metric = h.metric;
      }

  -- away from these places nothing changes
  abbrev pub AreSameElsewhere : List (List ℕ × List ℕ) → Type 0
  AreSameElsewhere ps = (p : List ℕ × List ℕ) → list_any (is_at (pair_cmp p)) ps ≡ false → arc_in before p ≡ arc_in after p

  found_if : (ps : List (List ℕ × List ℕ)) (a : Arc) (listed : Bool) → list_any (is_at (pair_cmp (place_of a))) ps ≡ listed → AreSameElsewhere ps
      → metric_of (arc_in before (place_of a)) a ≢ metric_of (arc_in after (place_of a)) a → Contains ps (place_of a)
  found_if ps a true e same differ = Contains-from_any {eq = λ p q. is_at (pair_cmp p) q} same_place (place_of a) ps e
  found_if ps a false e same differ = absurd (differ (ap (λ o. metric_of o a) (same (place_of a) e)))

  told : (ps : List (List ℕ × List ℕ)) (a : Arc) → AreByPlace before → AreByPlace after → AreSameElsewhere ps → metric_among before a ≢ metric_among after a
      → (c : LinkChange) × Contains (flat_map here ps) c × (is_same_link c.arc a ≡ true)
  told ps a ordered ordered' same differ =
      let apart : metric_of (arc_in before (place_of a)) a ≢ metric_of (arc_in after (place_of a)) a =
      λ e. differ (metric_by_place before a ordered ∙ e ∙ sym (metric_by_place after a ordered')) in
      let there = found_if ps a (list_any (is_at (pair_cmp (place_of a))) ps) refl same apart in
      let t = told_at (arc_in before (place_of a)) (arc_in after (place_of a)) a apart in
      (t.change, in_pieces here ps (place_of a) t.change there t.among, t.link)

  -- the changes at places in order are all changes, if nothing changes elsewhere
  pub changes_by_place : (ps : List (List ℕ × List ℕ)) → AreByPlace before → AreByPlace after → IsStrictlySortedBy pair_cmp ps → AreSameElsewhere ps
      → AreChanges before after (flat_map here ps)
  changes_by_place ps ordered ordered' sorted same = record {
    sound = λ c among. let i = piece_of here ps c among in is_change ordered ordered' i.piece c i.there;
    all = λ a among differ. told ps a ordered ordered' same differ;
    in_order = pairs_from_each ComesBefore (flat_map here ps) (order_of_all ps sorted);
  }

-- Which arcs are one link in one direction, and the metric of a link by its place.
use Rattle.std.proofs.Common.{◌≡◌, ℕ, List, [], ◌∷◌, Bool, true, false, cond, Option, Some, None, refl, sym, ◌∙◌, ap, subst}
use Rattle.std.specs.Prelude.{if◌then◌else◌, ◌&&◌}
use Rattle.std.specs.BTreeMap.{is_at}
use Rattle.std.specs.Str.{bytes_eq}
use Rattle.std.proofs.lemmas.Bool.{false≢true}
use Rattle.ls_graph.specs.declared.arc.Arc.{Arc}
use Rattle.ls_graph.specs.Changes.{AreByPlace, is_same_link, metric_among}
use Rattle.ls_graph.specs.Places.{pair_cmp, place_of, arc_in}
use Rattle.ls_graph.proofs.Order.{at_itself, bytes_same, bytes_itself, tests_agree}
use Rattle.ls_graph.proofs.ArcIn.{none_later, later_ordered}
use Rattle.ls_graph.proofs.Lists.{and_parts, both_true, not_true}

-- the ends of one link are named alike
pub record IsOneLink (a b : Arc) : Type 0 where
  pub from : a.from ≡ b.from
  pub own_if : a.own_if ≡ b.own_if
  pub to : a.to ≡ b.to
  pub other_if : a.other_if ≡ b.other_if

pub one_link : (a b : Arc) → is_same_link a b ≡ true → IsOneLink a b
one_link a b e =
    let last = and_parts (bytes_eq a.from b.from && bytes_eq a.own_if b.own_if && bytes_eq a.to b.to) (bytes_eq a.other_if b.other_if) e in
    let third = and_parts (bytes_eq a.from b.from && bytes_eq a.own_if b.own_if) (bytes_eq a.to b.to) last.0 in
    let first = and_parts (bytes_eq a.from b.from) (bytes_eq a.own_if b.own_if) third.0 in
    record {
      from = bytes_same a.from b.from first.0;
      own_if = bytes_same a.own_if b.own_if first.1;
      to = bytes_same a.to b.to third.1;
      other_if = bytes_same a.other_if b.other_if last.1;
    }

name_same : (x y : List ℕ) → x ≡ y → bytes_eq x y ≡ true
name_same x y e = subst (λ z. bytes_eq x z ≡ true) e (bytes_itself x)

pub same_link : (a b : Arc) → IsOneLink a b → is_same_link a b ≡ true
same_link a b l =
    both_true (bytes_eq a.from b.from && bytes_eq a.own_if b.own_if && bytes_eq a.to b.to) (bytes_eq a.other_if b.other_if)
    (both_true (bytes_eq a.from b.from && bytes_eq a.own_if b.own_if) (bytes_eq a.to b.to)
    (both_true (bytes_eq a.from b.from) (bytes_eq a.own_if b.own_if) (name_same a.from b.from l.from) (name_same a.own_if b.own_if l.own_if))
    (name_same a.to b.to l.to)) (name_same a.other_if b.other_if l.other_if)

pub link_itself : (a : Arc) → is_same_link a a ≡ true
link_itself a = same_link a a (record { from = refl; own_if = refl; to = refl; other_if = refl })

back : (a b : Arc) → IsOneLink a b → IsOneLink b a
back a b l = record { from = sym l.from; own_if = sym l.own_if; to = sym l.to; other_if = sym l.other_if }

through : (a b c : Arc) → IsOneLink a b → IsOneLink b c → IsOneLink a c
through a b c l m = record { from = l.from ∙ m.from; own_if = l.own_if ∙ m.own_if; to = l.to ∙ m.to; other_if = l.other_if ∙ m.other_if }

pub link_back : (a b : Arc) → is_same_link a b ≡ is_same_link b a
link_back a b =
    tests_agree (is_same_link a b) (is_same_link b a) (λ e. same_link b a (back a b (one_link a b e))) (λ e. same_link a b (back b a (one_link b a e)))

-- one of two arcs of the same link is the same link as a third exactly where the other is
pub link_congr : (a b c : Arc) → is_same_link a b ≡ true → is_same_link a c ≡ is_same_link b c
link_congr a b c e =
    let l = one_link a b e in
    tests_agree (is_same_link a c) (is_same_link b c) (λ f. same_link b c (through b a c (back a b l) (one_link a c f)))
    (λ f. same_link a c (through a b c l (one_link b c f)))

pub one_place : (a b : Arc) → is_same_link a b ≡ true → place_of a ≡ place_of b
one_place a b e = let l = one_link a b e in let f = l.from in let i = l.own_if in cc

-- arcs of one link with one metric are the same
pub same_arc : (a b : Arc) → is_same_link a b ≡ true → a.metric ≡ b.metric → a ≡ b
same_arc a b e m = let l = one_link a b e in same_fields a b l.from l.own_if l.to l.other_if m where
  same_fields : (a b : Arc) → a.from ≡ b.from → a.own_if ≡ b.own_if → a.to ≡ b.to → a.other_if ≡ b.other_if → a.metric ≡ b.metric → a ≡ b
  same_fields a b f i t o m =
      ap (λ x. record a { from = x }) f ∙ ap (λ x. record a { from = b.from; own_if = x }) i ∙ ap (λ x. record a { from = b.from; own_if = b.own_if; to = x }) t
      ∙ ap (λ x. record b { other_if = x; metric = a.metric }) o ∙ ap (λ x. record b { metric = x }) m

-- ---- metrics

-- the metric that a link has, where this is the arc at its place
abbrev pub metric_of : Option Arc → Arc → Option ℕ
metric_of None a = None
metric_of (Some b) a = if is_same_link b a then Some b.metric else None

by_test : (a b : Arc) (arcs : List Arc) (t : Bool) → is_at (pair_cmp (place_of a)) (place_of b) ≡ t → AreByPlace (b ∷ arcs)
    → metric_among arcs a ≡ metric_of (arc_in arcs (place_of a)) a
    → metric_among (b ∷ arcs) a ≡ metric_of (cond t (Some b) (arc_in arcs (place_of a))) a
by_test a b arcs true here ordered rest =
    ap (λ later. cond (is_same_link b a) (Some b.metric) later) (rest ∙ ap (λ o. metric_of o a) (none_later (place_of a) b arcs ordered here))
by_test a b arcs false there ordered rest =
    let apart : is_same_link b a ≡ false = not_true (is_same_link b a)
    (λ e. false≢true (sym there ∙ subst (λ q. is_at (pair_cmp (place_of a)) q ≡ true) (sym (one_place b a e)) (at_itself (place_of a)))) in
    ap (λ t. cond t (Some b.metric) (metric_among arcs a)) apart ∙ rest

-- where each place has one arc, the metric of a link is known from its place
pub metric_by_place : (arcs : List Arc) (a : Arc) → AreByPlace arcs → metric_among arcs a ≡ metric_of (arc_in arcs (place_of a)) a
metric_by_place [] a ordered = refl
metric_by_place (b ∷ arcs) a ordered =
    by_test a b arcs (is_at (pair_cmp (place_of a)) (place_of b)) refl ordered (metric_by_place arcs a (later_ordered b arcs ordered))

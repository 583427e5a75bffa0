-- The usable arcs, place by place, and which they are.
use Rattle.std.proofs.Common.{◌≡◌, ◌≢◌, ℕ, List, [], ◌∷◌, ◌++◌, Bool, true, false, cond, Option, Some, None, refl, sym, ◌∙◌, ap, subst}
use Rattle.std.specs.Prelude.{All, not, ◌&&◌}
use Rattle.std.specs.declared.cmp.Ordering.TheVariants.{Less}
use Rattle.std.specs.Ordering.{ordering_then}
use Rattle.std.specs.List.{AllByRecursion, Contains, flat_map}
use Rattle.std.specs.List.Sorted.{IsStrictlySortedBy}
use Rattle.std.specs.Map.{keys_of, values_of, lookup}
use Rattle.std.specs.BTreeMap.{is_at}
use Rattle.std.specs.Str.{bytes_eq}
use Rattle.std.specs.Option.{IfSome}
use Rattle.std.proofs.lemmas.Bool.{false≢true}
use Rattle.std.proofs.lemmas.Cmp.{nat_list_cmp_total, eq_by_cmp_equiv}
use Rattle.std.proofs.lemmas.List.Elements.{All-contains, All-head, All-tail}
use Rattle.std.proofs.lemmas.Map.{lookup-none}
use Rattle.std.proofs.lemmas.Map.Entries.{none_past_head}
use Rattle.std.proofs.lemmas.Map.Keys.{sorted_tail, IsDistinct-from_sorted}
use Rattle.std.proofs.lemmas.Map.Views.{IfSome-lookup_from_All}
use Rattle.or_base.specs.Order.{bytes_cmp}
use Rattle.or_base.specs.declared.database.AdjDb.{AdjDb}
use Rattle.or_base.specs.declared.database.Adjacency.{Adjacency}
use Rattle.ls_graph.specs.declared.arc.Arc.{Arc}
use Rattle.ls_graph.specs.Arcs.{database_of, is_usable, is_answered, carries, arc_of, arcs_from, usable_arcs}
use Rattle.ls_graph.specs.Changes.{AreByPlace, place_cmp}
use Rattle.ls_graph.specs.State.{IsMetric, IsSoundDatabase, AreSoundDatabases, IsUsableArc, UsableArcsAreThese}
use Rattle.ls_graph.specs.Places.{pair_cmp, place_of, arc_in, adjacency_over, arc_if_usable, arc_over, arc_at}
use Rattle.ls_graph.proofs.Order.{same_place, same_name, name_itself, bytes_itself}
use Rattle.ls_graph.proofs.ArcIn.{first_before, found_at_place, found_there, later_ordered, ordered_by, ordered_none, none_at}
use Rattle.ls_graph.proofs.Lists.{all_joined, all_in_pieces, and_parts}
use Rattle.ls_graph.proofs.FromNode.{AreFromNode, from_node, found_over, one_over}

-- ---- lists joined end to end

abbrev or_else : Option Arc → Option Arc → Option Arc
or_else None o = o
or_else (Some a) o = Some a

or_else_if : (t : Bool) (a : Arc) (o r : Option Arc) → cond t (Some a) (or_else o r) ≡ or_else (cond t (Some a) o) r
or_else_if true a o r = refl
or_else_if false a o r = refl

arc_in_joined : (xs ys : List Arc) (p : List ℕ × List ℕ) → arc_in (xs ++ ys) p ≡ or_else (arc_in xs p) (arc_in ys p)
arc_in_joined [] ys p = refl
arc_in_joined (a ∷ xs) ys p =
    ap (cond (is_at (pair_cmp p) (place_of a)) (Some a)) (arc_in_joined xs ys p) ∙ or_else_if (is_at (pair_cmp p) (place_of a)) a (arc_in xs p) (arc_in ys p)

or_none : (o : Option Arc) → or_else o None ≡ o
or_none None = refl
or_none (Some a) = refl

ordered_joined : (xs ys : List Arc) → AreByPlace xs → AreByPlace ys → AllByRecursion (λ x. AllByRecursion (λ y. place_cmp x y ≡ Less) ys) xs → AreByPlace (xs ++ ys)
ordered_joined [] ys ordered later across = later
ordered_joined (x ∷ xs) ys ordered later across =
    ordered_by x (xs ++ ys) (all_joined (λ y. place_cmp x y ≡ Less) xs ys (first_before x xs ordered) across.0)
    (ordered_joined xs ys (later_ordered x xs ordered) later across.1)

-- ---- the arcs of all nodes

elsewhere : (x : List ℕ) (arcs : List Arc) (p : List ℕ × List ℕ) → AllByRecursion (λ b. b.from ≡ x) arcs → is_at (bytes_cmp p.0) x ≡ false → arc_in arcs p ≡ None
elsewhere x arcs p from apart = none_at p arcs (all_apart arcs from) where
  one_apart : (b : Arc) → b.from ≡ x → (t : Bool) → is_at (pair_cmp p) (place_of b) ≡ t → t ≡ false
  one_apart b same true here =
      absurd (false≢true (sym apart ∙ subst (λ y. is_at (bytes_cmp p.0) y ≡ true) (ap (λ q. q.0) (same_place p (place_of b) here) ∙ same) (name_itself p.0)))
  one_apart b same false there = refl

  all_apart : (arcs : List Arc) → AllByRecursion (λ b. b.from ≡ x) arcs → AllByRecursion (λ b. is_at (pair_cmp p) (place_of b) ≡ false) arcs
  all_apart [] from = tt
  all_apart (b ∷ arcs) from = (one_apart b from.0 (is_at (pair_cmp p) (place_of b)) refl, all_apart arcs from.1)

from_later : (a : Arc) (x : List ℕ) (arcs : List Arc) → a.from ≡ x → AllByRecursion (λ b. bytes_cmp x b.from ≡ Less) arcs → AllByRecursion (λ b. place_cmp a b ≡ Less) arcs
from_later a x [] same later = tt
from_later a x (b ∷ arcs) same later =
    (ap (λ o. ordering_then o (bytes_cmp a.own_if b.own_if)) (ap (λ y. bytes_cmp y b.from) same ∙ later.0), from_later a x arcs same later.1)

module _ (me : List ℕ) (databases : List (List ℕ × AdjDb)) where
  abbrev arcs_of_all : List (List ℕ × AdjDb) → List Arc
  arcs_of_all es = flat_map (arcs_from me databases) es

  of_entry : (e : List ℕ × AdjDb) → IsSoundDatabase e.1 → AreFromNode me databases e.0 e.1 e.1.adjacencies (arcs_from me databases e)
  of_entry e sound = from_node me databases e.0 e.1 e.1.adjacencies sound.interfaces_once

  record AreOfEntries (es : List (List ℕ × AdjDb)) : Type 0 where
    at : (p : List ℕ × List ℕ) → arc_in (arcs_of_all es) p ≡ arc_over me databases p (lookup (is_at (bytes_cmp p.0)) es)
    ordered : AreByPlace (arcs_of_all es)

  all_above : (x : List ℕ) (e : List ℕ × AdjDb) (arcs : List Arc) → bytes_cmp x e.0 ≡ Less → AllByRecursion (λ b. b.from ≡ e.0) arcs → AllByRecursion (λ b. bytes_cmp x b.from ≡ Less) arcs
  all_above x e [] less from = tt
  all_above x e (b ∷ arcs) less from = (ap (bytes_cmp x) from.0 ∙ less, all_above x e arcs less from.1)

  above : (x : List ℕ) (es : List (List ℕ × AdjDb)) → AllByRecursion (λ k. bytes_cmp x k ≡ Less) (keys_of es) → All IsSoundDatabase (values_of es)
      → AllByRecursion (λ e. AllByRecursion (λ b. bytes_cmp x b.from ≡ Less) (arcs_from me databases e)) es
  above x [] later sound = tt
  above x (e ∷ es) later sound = (
    all_above x e (arcs_from me databases e) later.0 (of_entry e (All-head IsSoundDatabase e.1 (values_of es) sound)).from,
    above x es later.1 (All-tail IsSoundDatabase e.1 (values_of es) sound),
  )

  all_across : (x : List ℕ) (arcs rest : List Arc) → AllByRecursion (λ b. b.from ≡ x) arcs → AllByRecursion (λ b. bytes_cmp x b.from ≡ Less) rest
      → AllByRecursion (λ a. AllByRecursion (λ b. place_cmp a b ≡ Less) rest) arcs
  all_across x [] rest from later = tt
  all_across x (a ∷ arcs) rest from later = (from_later a x rest from.0 later, all_across x arcs rest from.1 later)

  at_entry : (e : List ℕ × AdjDb) (es : List (List ℕ × AdjDb)) (p : List ℕ × List ℕ) (t : Bool) → is_at (bytes_cmp p.0) e.0 ≡ t
      → AreFromNode me databases e.0 e.1 e.1.adjacencies (arcs_from me databases e)
      → IsStrictlySortedBy bytes_cmp (keys_of (e ∷ es)) → AreOfEntries es
      → or_else (arc_in (arcs_from me databases e) p) (arc_in (arcs_of_all es) p) ≡ arc_over me databases p (cond t (Some e.1) (lookup (is_at (bytes_cmp p.0)) es))
  at_entry e es p true here from sorted rest =
      let none : lookup (is_at (bytes_cmp p.0)) es ≡ None =
      lookup-none (is_at (bytes_cmp p.0)) es
      (none_past_head (eq_by_cmp_equiv nat_list_cmp_total) p.0 e es (IsDistinct-from_sorted bytes_cmp (keys_of (e ∷ es)) sorted) here) in
      let nothing : arc_in (arcs_of_all es) p ≡ None = rest.at p ∙ ap (arc_over me databases p) none in
      let same : p.0 ≡ e.0 = same_name p.0 e.0 here in
      ap (or_else (arc_in (arcs_from me databases e) p)) nothing ∙ or_none (arc_in (arcs_from me databases e) p)
      ∙ ap (λ x. arc_in (arcs_from me databases e) (x, p.1)) same ∙ from.at p.1
      ∙ ap (λ x. arc_if_usable me databases x e.1 (adjacency_over e.1.adjacencies p.1)) (sym same)
  at_entry e es p false there from sorted rest =
      ap (λ o. or_else o (arc_in (arcs_of_all es) p)) (elsewhere e.0 (arcs_from me databases e) p from.from there) ∙ rest.at p

  before_others : (e : List ℕ × AdjDb) (es : List (List ℕ × AdjDb)) → IsStrictlySortedBy bytes_cmp (keys_of (e ∷ es)) → AllByRecursion (λ k. bytes_cmp e.0 k ≡ Less) (keys_of es)
  unfolding IsStrictlySortedBy
  before_others e es sorted = sorted.0

  of_entries : (es : List (List ℕ × AdjDb)) → IsStrictlySortedBy bytes_cmp (keys_of es) → All IsSoundDatabase (values_of es) → AreOfEntries es
  of_entries [] sorted sound = record { at = λ p. refl; ordered = ordered_none }
  of_entries (e ∷ es) sorted sound =
      let rest = of_entries es (sorted_tail bytes_cmp e.0 (keys_of es) sorted) (All-tail IsSoundDatabase e.1 (values_of es) sound) in
      let from = of_entry e (All-head IsSoundDatabase e.1 (values_of es) sound) in
      record {
        at = λ p. arc_in_joined (arcs_from me databases e) (arcs_of_all es) p ∙ at_entry e es p (is_at (bytes_cmp p.0) e.0) refl from sorted rest;
        ordered =
            ordered_joined (arcs_from me databases e) (arcs_of_all es) from.ordered rest.ordered
            (all_across e.0 (arcs_from me databases e) (arcs_of_all es) from.from
            (all_in_pieces (λ b. bytes_cmp e.0 b.from ≡ Less) (arcs_from me databases) es
            (above e.0 es (before_others e es sorted) (All-tail IsSoundDatabase e.1 (values_of es) sound))));
      }

-- the usable arcs are in order
pub usable_by_place : (me : List ℕ) (databases : List (List ℕ × AdjDb)) → AreSoundDatabases databases → AreByPlace (usable_arcs me databases)
unfolding usable_arcs
usable_by_place me databases sound = (of_entries me databases databases sound.by_name sound.each).ordered

-- the usable arc at a place is that of the databases
pub usable_at : (me : List ℕ) (databases : List (List ℕ × AdjDb)) → AreSoundDatabases databases → (p : List ℕ × List ℕ) → arc_in (usable_arcs me databases) p ≡ arc_at me databases p
unfolding usable_arcs
usable_at me databases sound p = (of_entries me databases databases sound.by_name sound.each).at p

-- ---- which arcs are usable

sound_of : (databases : List (List ℕ × AdjDb)) (x : List ℕ) (db : AdjDb) → AreSoundDatabases databases → database_of databases x ≡ Some db → IsSoundDatabase db
sound_of databases x db sound there =
    subst (λ o. IfSome o IsSoundDatabase) there (IfSome-lookup_from_All IsSoundDatabase (is_at (bytes_cmp x)) databases sound.each)

module _ (me : List ℕ) (databases : List (List ℕ × AdjDb)) where
  used : (x : List ℕ) (db : AdjDb) (b : Adjacency) (a : Arc) (t : Bool) → is_usable me databases x db b ≡ t → cond t (Some (arc_of x b)) None ≡ Some a
      → (is_usable me databases x db b ≡ true) × (arc_of x b ≡ a)
  used x db b a true e found = (e, let same : arc_of x b ≡ a = cc in same)
  used x db b a false e found = let wrong : None ≡ Some a = found in cc

  from_database : (db : AdjDb) (a : Arc) (found : Option Adjacency) → database_of databases a.from ≡ Some db → adjacency_over db.adjacencies a.own_if ≡ found
      → arc_if_usable me databases a.from db found ≡ Some a → IsUsableArc me databases a
  from_database db a None there e is = let wrong : None ≡ Some a = is in cc
  from_database db a (Some b) there e is =
      let u = used a.from db b a (is_usable me databases a.from db b) refl is in
      record { db = db; adjacency = b; reported = there; among = (found_over db.adjacencies a.own_if b e).0; usable = u.0; arc = u.1 }

  from_databases : (a : Arc) (found : Option AdjDb) → database_of databases a.from ≡ found → arc_over me databases (place_of a) found ≡ Some a → IsUsableArc me databases a
  from_databases a None there is = let wrong : None ≡ Some a = is in cc
  from_databases a (Some db) there is = from_database db a (adjacency_over db.adjacencies a.own_if) there refl is

  module _ (sound : AreSoundDatabases databases) where
    is_usable_arc : (a : Arc) → Contains (usable_arcs me databases) a → IsUsableArc me databases a
    is_usable_arc a among =
        from_databases a (database_of databases a.from) refl
        (sym (usable_at me databases sound (place_of a)) ∙ found_at_place (usable_arcs me databases) a (usable_by_place me databases sound) among)

    is_among : (a : Arc) → IsUsableArc me databases a → Contains (usable_arcs me databases) a
    is_among a u =
        let own : u.adjacency.own_if ≡ a.own_if = ap (λ x. x.own_if) u.arc in
        let over : adjacency_over u.db.adjacencies a.own_if ≡ Some u.adjacency =
        ap (adjacency_over u.db.adjacencies) (sym own) ∙ one_over u.db.adjacencies u.adjacency (sound_of databases a.from u.db sound u.reported).interfaces_once u.among in
        (found_there (place_of a) (usable_arcs me databases) a
        (usable_at me databases sound (place_of a) ∙ ap (arc_over me databases (place_of a)) u.reported ∙ ap (arc_if_usable me databases a.from u.db) over
        ∙ ap (λ t. cond t (Some (arc_of a.from u.adjacency)) None) u.usable ∙ ap Some u.arc)).1

    between_nodes : (a : Arc) → IsUsableArc me databases a → a.from ≢ a.to
    unfolding is_usable
    between_nodes a u same =
        let b = u.adjacency in
        let first = and_parts (not (bytes_eq b.other a.from) && is_answered databases a.from b && not b.overload) (carries me a.from u.db) u.usable in
        let second = and_parts (not (bytes_eq b.other a.from) && is_answered databases a.from b) (not b.overload) first.0 in
        let third = and_parts (not (bytes_eq b.other a.from)) (is_answered databases a.from b) second.0 in
        let to : b.other ≡ a.from = ap (λ x. x.to) u.arc ∙ sym same in
        false≢true (sym (ap not (subst (λ x. bytes_eq b.other x ≡ true) to (bytes_itself b.other))) ∙ third.0)

    in_limit : (a : Arc) → IsUsableArc me databases a → IsMetric a.metric
    in_limit a u =
        subst IsMetric (ap (λ x. x.metric) u.arc)
        (All-contains (λ x. IsMetric x.metric) u.db.adjacencies u.adjacency (sound_of databases a.from u.db sound u.reported).metrics u.among)

pub usable_arcs_are_these : UsableArcsAreThese
usable_arcs_are_these me databases sound = record {
  by_place = usable_by_place me databases sound;
  sound = λ a among. is_usable_arc me databases sound a among;
  all = λ a usable. is_among me databases sound a usable;
  ends_differ = λ a among. between_nodes me databases sound a (is_usable_arc me databases sound a among);
  metrics = λ a among. in_limit me databases sound a (is_usable_arc me databases sound a among);
}

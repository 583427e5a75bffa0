-- A change of one node's database changes arcs at the ends of the links that the old or the new one reports, and nowhere else.
use Rattle.std.proofs.Common.{◌≡◌, ℕ, List, [], ◌∷◌, Bool, true, false, cond, Option, Some, None, refl, sym, ◌∙◌, ap, subst}
use Rattle.std.specs.Prelude.{not, ◌&&◌, ◌||◌}
use Rattle.std.specs.List.{list_any, flat_map}
use Rattle.std.specs.BTreeMap.{is_at}
use Rattle.std.specs.Str.{bytes_eq}
use Rattle.std.specs.Option.{option_map_or, IfSome}
use Rattle.std.proofs.lemmas.Bool.{false≢true}
use Rattle.or_base.specs.Order.{bytes_cmp}
use Rattle.or_base.specs.declared.database.AdjDb.{AdjDb}
use Rattle.or_base.specs.declared.database.Adjacency.{Adjacency}
use Rattle.ls_graph.specs.declared.arc.Arc.{Arc}
use Rattle.ls_graph.specs.declared.change.LinkChange.{LinkChange}
use Rattle.ls_graph.specs.Arcs.{database_of, is_usable, is_answered, are_two_ways, carries, arc_of, usable_arcs}
use Rattle.ls_graph.specs.Changes.{AreByPlace, AreChanges}
use Rattle.ls_graph.specs.State.{KnownLinks, IsSettled, IsSoundDatabase, AreSoundDatabases, changed_databases}
use Rattle.ls_graph.specs.Places.{pair_cmp, arc_in, adjacency_over, arc_if_usable, arc_over, arc_at, changes_at, changes_among, ends_of, ends_in, CoverEnds}
use Rattle.ls_graph.proofs.Order.{at_itself, bytes_same, name_itself, same_name}
use Rattle.ls_graph.proofs.Lists.{and_parts, not_true, pieces_agree}
use Rattle.ls_graph.proofs.FromNode.{found_over}
use Rattle.ls_graph.proofs.UsableArcs.{usable_at, usable_by_place}
use Rattle.ls_graph.proofs.Sound.{sound_changed}
use Rattle.ls_graph.proofs.Databases.{database_changed}
use Rattle.ls_graph.proofs.Found.{changes_by_place}

or_parts : (s t : Bool) → s || t ≡ false → (s ≡ false) × (t ≡ false)
or_parts true t e = absurd (false≢true (sym e))
or_parts false t e = (refl, e)

-- the place is none of the ends of the links that the node x reports in the database
abbrev IsNoEnd : List ℕ × List ℕ → List ℕ → Option AdjDb → Type 0
IsNoEnd p x o = list_any (is_at (pair_cmp p)) (ends_in x o) ≡ false

-- ---- no end at the node itself

none_near : (x i : List ℕ) (adjacencies : List Adjacency) → list_any (is_at (pair_cmp (x, i))) (flat_map (ends_of x) adjacencies) ≡ false → adjacency_over adjacencies i ≡ None
none_near x i [] e = refl
none_near x i (a ∷ adjacencies) e =
    let near = or_parts (is_at (pair_cmp (x, i)) (x, a.own_if)) (is_at (pair_cmp (x, i)) (a.other, a.other_if) || list_any (is_at (pair_cmp (x, i))) (flat_map (ends_of x) adjacencies)) e in
    let far = or_parts (is_at (pair_cmp (x, i)) (a.other, a.other_if)) (list_any (is_at (pair_cmp (x, i))) (flat_map (ends_of x) adjacencies)) near.1 in
    let apart : bytes_eq a.own_if i ≡ false =
    not_true (bytes_eq a.own_if i)
    (λ same. false≢true (sym near.0 ∙ subst (λ j. is_at (pair_cmp (x, i)) (x, j) ≡ true) (sym (bytes_same a.own_if i same)) (at_itself (x, i)))) in
    ap (λ t. cond t (Some a) (adjacency_over adjacencies i)) apart ∙ none_near x i adjacencies far.1

none_from : (me : List ℕ) (databases : List (List ℕ × AdjDb)) (x i : List ℕ) (o : Option AdjDb) → IsNoEnd (x, i) x o → arc_over me databases (x, i) o ≡ None
none_from me databases x i None none = refl
none_from me databases x i (Some db) none = ap (arc_if_usable me databases x db) (none_near x i db.adjacencies none)

-- ---- no end at another node

-- nothing that the node reports answers an adjacency over the place
none_answers : (x i n : List ℕ) (b : Adjacency) (adjacencies : List Adjacency) → b.own_if ≡ i → list_any (is_at (pair_cmp (x, i))) (flat_map (ends_of n) adjacencies) ≡ false
    → list_any (λ c. are_two_ways x b b.other c && not c.overload) adjacencies ≡ false
none_answers x i n b [] own e = refl
none_answers x i n b (c ∷ adjacencies) own e =
    let near = or_parts (is_at (pair_cmp (x, i)) (n, c.own_if)) (is_at (pair_cmp (x, i)) (c.other, c.other_if) || list_any (is_at (pair_cmp (x, i))) (flat_map (ends_of n) adjacencies)) e in
    let far = or_parts (is_at (pair_cmp (x, i)) (c.other, c.other_if)) (list_any (is_at (pair_cmp (x, i))) (flat_map (ends_of n) adjacencies)) near.1 in
    let apart : are_two_ways x b b.other c && not c.overload ≡ false =
    not_true (are_two_ways x b b.other c && not c.overload)
    (λ both.
    let whole = and_parts (are_two_ways x b b.other c) (not c.overload) both in
    let last = and_parts (bytes_eq b.other b.other && bytes_eq c.other x && bytes_eq b.other_if c.own_if) (bytes_eq c.other_if b.own_if) whole.0 in
    let third = and_parts (bytes_eq b.other b.other && bytes_eq c.other x) (bytes_eq b.other_if c.own_if) last.0 in
    let first = and_parts (bytes_eq b.other b.other) (bytes_eq c.other x) third.0 in
    let node : c.other ≡ x = bytes_same c.other x first.1 in
    let interface : c.other_if ≡ i = bytes_same c.other_if b.own_if last.1 ∙ own in
    let here : is_at (pair_cmp (x, i)) (c.other, c.other_if) ≡ true =
    subst (λ y. is_at (pair_cmp (x, i)) (y, c.other_if) ≡ true) (sym node) (subst (λ j. is_at (pair_cmp (x, i)) (x, j) ≡ true) (sym interface) (at_itself (x, i))) in
    false≢true (sym far.0 ∙ here)) in
    ap (λ t. t || list_any (λ d. are_two_ways x b b.other d && not d.overload) adjacencies) apart ∙ none_answers x i n b adjacencies own far.1

unanswered : (x i n : List ℕ) (b : Adjacency) (o : Option AdjDb) → b.own_if ≡ i → IsNoEnd (x, i) n o
    → option_map_or (λ db. list_any (λ c. are_two_ways x b b.other c && not c.overload) db.adjacencies) o false ≡ false
unanswered x i n b None own none = refl
unanswered x i n b (Some db) own none = none_answers x i n b db.adjacencies own none

module _ (databases after : List (List ℕ × AdjDb)) (n : List ℕ) (other : (y : List ℕ) → is_at (bytes_cmp n) y ≡ false → database_of databases y ≡ database_of after y)
    (me : List ℕ) (x i : List ℕ) (none : IsNoEnd (x, i) n (database_of databases n)) (none' : IsNoEnd (x, i) n (database_of after n)) where
  answer_if : (b : Adjacency) (t : Bool) → is_at (bytes_cmp n) b.other ≡ t → b.own_if ≡ i → is_answered databases x b ≡ is_answered after x b
  answer_if b true e own =
      let same : n ≡ b.other = same_name n b.other e in
      let answer : Option AdjDb → Bool = λ o. option_map_or (λ db. list_any (λ c. are_two_ways x b b.other c && not c.overload) db.adjacencies) o false in
      ap (λ y. answer (database_of databases y)) (sym same) ∙ unanswered x i n b (database_of databases n) own none
      ∙ sym (ap (λ y. answer (database_of after y)) (sym same) ∙ unanswered x i n b (database_of after n) own none')
  answer_if b false e own =
      ap (λ o. option_map_or (λ db. list_any (λ c. are_two_ways x b b.other c && not c.overload) db.adjacencies) o false) (other b.other e)

  usable_same : (db : AdjDb) (b : Adjacency) → b.own_if ≡ i → is_usable me databases x db b ≡ is_usable me after x db b
  unfolding is_usable
  usable_same db b own =
      ap (λ t. not (bytes_eq b.other x) && t && not b.overload && carries me x db) (answer_if b (is_at (bytes_cmp n) b.other) refl own)

  arc_same : (db : AdjDb) (found : Option Adjacency) → adjacency_over db.adjacencies i ≡ found → arc_if_usable me databases x db found ≡ arc_if_usable me after x db found
  arc_same db None e = refl
  arc_same db (Some b) e = ap (λ t. cond t (Some (arc_of x b)) None) (usable_same db b (found_over db.adjacencies i b e).1)

  over_same : (o : Option AdjDb) → arc_over me databases (x, i) o ≡ arc_over me after (x, i) o
  over_same None = refl
  over_same (Some db) = arc_same db (adjacency_over db.adjacencies i) refl

  at_if : (t : Bool) → is_at (bytes_cmp n) x ≡ t → arc_at me databases (x, i) ≡ arc_at me after (x, i)
  at_if true e =
      let same : n ≡ x = same_name n x e in
      none_from me databases x i (database_of databases x) (subst (λ y. IsNoEnd (x, i) y (database_of databases y)) same none)
      ∙ sym (none_from me after x i (database_of after x) (subst (λ y. IsNoEnd (x, i) y (database_of after y)) same none'))
  at_if false e = over_same (database_of databases x) ∙ ap (arc_over me after (x, i)) (other x e)

  pub same_at : arc_at me databases (x, i) ≡ arc_at me after (x, i)
  same_at = at_if (is_at (bytes_cmp n) x) refl

-- ---- all changes are at these places

not_listed : (s t : Bool) → (s ≡ true → t ≡ true) → t ≡ false → s ≡ false
not_listed s t there e = not_true s (λ f. false≢true (sym e ∙ there f))

module _ (me : List ℕ) (databases : List (List ℕ × AdjDb)) (node : List ℕ) (db : Option AdjDb) (sound : AreSoundDatabases databases) where
  other_if : (y : List ℕ) (t : Bool) → is_at (bytes_cmp node) y ≡ t → t ≡ false → database_of databases y ≡ database_of (changed_databases databases node db) y
  other_if y t e f = sym (database_changed databases node db y sound.by_name ∙ ap (λ u. cond u db (database_of databases y)) (e ∙ f))

  at_node : database_of (changed_databases databases node db) node ≡ db
  at_node = database_changed databases node db node sound.by_name ∙ ap (λ u. cond u db (database_of databases node)) (name_itself node)

  away : (places : List (List ℕ × List ℕ)) → CoverEnds node (database_of databases node) db places
      → (p : List ℕ × List ℕ) → list_any (is_at (pair_cmp p)) places ≡ false → arc_at me databases p ≡ arc_at me (changed_databases databases node db) p
  away places cover p none =
      same_at databases (changed_databases databases node db) node (λ y e. other_if y false e refl) me p.0 p.1
      (not_listed (list_any (is_at (pair_cmp p)) (ends_in node (database_of databases node))) (list_any (is_at (pair_cmp p)) places) (cover.old p) none)
      (subst (IsNoEnd p node) (sym at_node) (not_listed (list_any (is_at (pair_cmp p)) (ends_in node db)) (list_any (is_at (pair_cmp p)) places) (cover.new p) none))

  pub local_changes : (in_force : List Arc) → in_force ≡ usable_arcs me databases → AreSoundDatabases (changed_databases databases node db)
      → (places : List (List ℕ × List ℕ)) → CoverEnds node (database_of databases node) db places
      → AreChanges in_force (usable_arcs me (changed_databases databases node db)) (changes_among in_force me (changed_databases databases node db) places)
  local_changes in_force settled sound' places cover =
      let later = changed_databases databases node db in
      subst (AreChanges in_force (usable_arcs me later))
      (pieces_agree (λ p. changes_at (arc_in in_force p) (arc_in (usable_arcs me later) p)) (λ p. changes_at (arc_in in_force p) (arc_at me later p)) places
      (λ p. ap (changes_at (arc_in in_force p)) (usable_at me later sound' p)))
      (changes_by_place in_force (usable_arcs me later) places
      (subst AreByPlace (sym settled) (usable_by_place me databases sound)) (usable_by_place me later sound') cover.ordered
      (λ p none. ap (λ arcs. arc_in arcs p) settled ∙ usable_at me databases sound p ∙ away places cover p none ∙ sym (usable_at me later sound' p)))

-- as the state of links is seen
pub known_changes : (me : List ℕ) (databases : List (List ℕ × AdjDb)) (in_force : List Arc) (k : KnownLinks)
    → let inside : KnownLinks = record { me = me; databases = databases; in_force = in_force } in inside ≡ k
    → AreSoundDatabases databases → IsSettled k → (node : List ℕ) (db : Option AdjDb) → IfSome db IsSoundDatabase
    → (places : List (List ℕ × List ℕ)) → CoverEnds node (database_of databases node) db places
    → (later : List (List ℕ × AdjDb)) → later ≡ changed_databases databases node db → (items : List LinkChange) → items ≡ changes_among in_force me later places
    → AreChanges k.in_force (usable_arcs k.me (changed_databases k.databases node db)) items
known_changes me databases in_force k is sound settled node db here places cover later changed items found =
    subst (λ (x : KnownLinks). IsSettled x → AreChanges x.in_force (usable_arcs x.me (changed_databases x.databases node db)) items) is
    (λ rest.
    subst (AreChanges in_force (usable_arcs me (changed_databases databases node db))) (sym (found ∙ ap (λ es. changes_among in_force me es places) changed))
    (local_changes me databases node db sound in_force rest (sound_changed databases node db sound here) places cover)) settled

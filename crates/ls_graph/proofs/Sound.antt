-- Databases stay sound.
use Rattle.std.proofs.Common.{◌≡◌, ℕ, List, [], ◌∷◌, Bool, true, false, cond, Option, None, Some, refl, sym, ◌∙◌, ap, subst}
use Rattle.std.specs.Prelude.{All, IfSome}
use Rattle.std.specs.declared.cmp.Ordering.{Ordering}
use Rattle.std.specs.declared.cmp.Ordering.TheVariants.{Less, Equal, Greater}
use Rattle.std.specs.Ordering.{match_ordering, ordering_reverse}
use Rattle.std.specs.List.{AllByRecursion}
use Rattle.std.specs.List.Sorted.{IsStrictlySortedBy}
use Rattle.std.specs.Map.{keys_of, values_of}
use Rattle.std.specs.BTreeMap.{is_at}
use Rattle.std.proofs.lemmas.Cmp.{nat_list_cmp_total}
use Rattle.std.proofs.lemmas.List.Elements.{All-nil}
use Rattle.std.proofs.lemmas.Map.Views.{All-values-insert_entry, All-map-remove_entry}
use Rattle.or_base.specs.Order.{bytes_cmp}
use Rattle.or_base.specs.declared.database.AdjDb.{AdjDb}
use Rattle.ls_graph.specs.declared.arc.Arc.{Arc}
use Rattle.ls_graph.specs.Changes.{AreByPlace}
use Rattle.ls_graph.specs.State.{IsSoundDatabase, AreSoundDatabases, changed_databases, with_database, without_database}

no_databases : AreSoundDatabases []
unfolding IsStrictlySortedBy
no_databases = record { by_name = tt; each = All-nil IsSoundDatabase }

no_arcs : AreByPlace []
unfolding IsStrictlySortedBy
no_arcs = tt

-- what is known before any report
pub nothing_known : (databases : List (List ℕ × AdjDb)) (arcs : List Arc) → databases ≡ [] → arcs ≡ [] → AreSoundDatabases databases × AreByPlace arcs
nothing_known databases arcs empty none = (subst AreSoundDatabases (sym empty) no_databases, subst AreByPlace (sym none) no_arcs)

pub sound_with : (databases after : List (List ℕ × AdjDb)) (node : List ℕ) (db : AdjDb) → AreSoundDatabases databases → IsSoundDatabase db
    → after ≡ with_database databases node db → IsStrictlySortedBy bytes_cmp (keys_of after) → AreSoundDatabases after
sound_with databases after node db sound here is ordered = record {
  by_name = ordered;
  each = subst (λ es. All IsSoundDatabase (values_of es)) (sym is) (All-values-insert_entry bytes_cmp node db IsSoundDatabase databases sound.each here);
}

pub sound_without : (databases after : List (List ℕ × AdjDb)) (node : List ℕ) → AreSoundDatabases databases
    → after ≡ without_database databases node → IsStrictlySortedBy bytes_cmp (keys_of after) → AreSoundDatabases after
sound_without databases after node sound is ordered = record {
  by_name = ordered;
  each = subst (λ es. All IsSoundDatabase (values_of es)) (sym is) (All-map-remove_entry (is_at (bytes_cmp node)) (λ e. e.1) IsSoundDatabase databases sound.each);
}

-- ---- names stay in order

all_placed : (P : List ℕ → Type 0) (o : Ordering) (node : List ℕ) (db : AdjDb) (e : List ℕ × AdjDb) (es later : List (List ℕ × AdjDb))
    → P node → P e.0 → AllByRecursion P (keys_of es) → AllByRecursion P (keys_of later)
    → AllByRecursion P (keys_of (match_ordering o ((node, db) ∷ e ∷ es) ((e.0, db) ∷ es) (e ∷ later)))
all_placed P Less node db e es later here at all after = (here, (at, all))
all_placed P Equal node db e es later here at all after = (at, all)
all_placed P Greater node db e es later here at all after = (at, after)

all_with : (P : List ℕ → Type 0) (node : List ℕ) (db : AdjDb) (databases : List (List ℕ × AdjDb)) → P node → AllByRecursion P (keys_of databases)
    → AllByRecursion P (keys_of (with_database databases node db))
all_with P node db [] here all = (here, tt)
all_with P node db (e ∷ es) here all =
    all_placed P (bytes_cmp node e.0) node db e es (with_database es node db) here all.0 all.1 (all_with P node db es here all.1)

all_below : (node first : List ℕ) (names : List (List ℕ)) → bytes_cmp node first ≡ Less → AllByRecursion (λ y. bytes_cmp first y ≡ Less) names
    → AllByRecursion (λ y. bytes_cmp node y ≡ Less) names
all_below node first [] less all = tt
all_below node first (y ∷ names) less all = (nat_list_cmp_total.trans node first y less all.0, all_below node first names less all.1)

ordered_placed : (o : Ordering) (node : List ℕ) (db : AdjDb) (e : List ℕ × AdjDb) (es later : List (List ℕ × AdjDb)) → bytes_cmp node e.0 ≡ o
    → AllByRecursion (λ y. bytes_cmp e.0 y ≡ Less) (keys_of es) → IsStrictlySortedBy bytes_cmp (keys_of es)
    → (bytes_cmp e.0 node ≡ Less → AllByRecursion (λ y. bytes_cmp e.0 y ≡ Less) (keys_of later)) → IsStrictlySortedBy bytes_cmp (keys_of later)
    → IsStrictlySortedBy bytes_cmp (keys_of (match_ordering o ((node, db) ∷ e ∷ es) ((e.0, db) ∷ es) (e ∷ later)))
unfolding IsStrictlySortedBy
ordered_placed Less node db e es later is before ordered follows after = ((is, all_below node e.0 (keys_of es) is before), (before, ordered))
ordered_placed Equal node db e es later is before ordered follows after = (before, ordered)
ordered_placed Greater node db e es later is before ordered follows after =
    (follows (nat_list_cmp_total.antisymm e.0 node ∙ ap ordering_reverse is), after)

ordered_with : (node : List ℕ) (db : AdjDb) (databases : List (List ℕ × AdjDb)) → IsStrictlySortedBy bytes_cmp (keys_of databases)
    → IsStrictlySortedBy bytes_cmp (keys_of (with_database databases node db))
unfolding IsStrictlySortedBy
ordered_with node db [] ordered = (tt, tt)
ordered_with node db (e ∷ es) ordered =
    ordered_placed (bytes_cmp node e.0) node db e es (with_database es node db) refl ordered.0 ordered.1
    (λ less. all_with (λ y. bytes_cmp e.0 y ≡ Less) node db es less ordered.0) (ordered_with node db es ordered.1)

all_left_if : (P : List ℕ → Type 0) (here : Bool) (e : List ℕ × AdjDb) (es left : List (List ℕ × AdjDb)) → P e.0 → AllByRecursion P (keys_of es) → AllByRecursion P (keys_of left)
    → AllByRecursion P (keys_of (cond here es (e ∷ left)))
all_left_if P true e es left at all rest = all
all_left_if P false e es left at all rest = (at, rest)

all_without : (P : List ℕ → Type 0) (node : List ℕ) (databases : List (List ℕ × AdjDb)) → AllByRecursion P (keys_of databases)
    → AllByRecursion P (keys_of (without_database databases node))
all_without P node [] all = tt
all_without P node (e ∷ es) all = all_left_if P (is_at (bytes_cmp node) e.0) e es (without_database es node) all.0 all.1 (all_without P node es all.1)

ordered_left_if : (here : Bool) (e : List ℕ × AdjDb) (es left : List (List ℕ × AdjDb)) → IsStrictlySortedBy bytes_cmp (keys_of es)
    → AllByRecursion (λ y. bytes_cmp e.0 y ≡ Less) (keys_of left) → IsStrictlySortedBy bytes_cmp (keys_of left)
    → IsStrictlySortedBy bytes_cmp (keys_of (cond here es (e ∷ left)))
unfolding IsStrictlySortedBy
ordered_left_if true e es left ordered before rest = ordered
ordered_left_if false e es left ordered before rest = (before, rest)

ordered_without : (node : List ℕ) (databases : List (List ℕ × AdjDb)) → IsStrictlySortedBy bytes_cmp (keys_of databases)
    → IsStrictlySortedBy bytes_cmp (keys_of (without_database databases node))
unfolding IsStrictlySortedBy
ordered_without node [] ordered = tt
ordered_without node (e ∷ es) ordered =
    ordered_left_if (is_at (bytes_cmp node) e.0) e es (without_database es node) ordered.1
    (all_without (λ y. bytes_cmp e.0 y ≡ Less) node es ordered.0) (ordered_without node es ordered.1)

-- a change of one database leaves all sound
pub sound_changed : (databases : List (List ℕ × AdjDb)) (node : List ℕ) (db : Option AdjDb) → AreSoundDatabases databases → IfSome db IsSoundDatabase
    → AreSoundDatabases (changed_databases databases node db)
sound_changed databases node None sound here = sound_without databases (without_database databases node) node sound refl (ordered_without node databases sound.by_name)
sound_changed databases node (Some db) sound here =
    sound_with databases (with_database databases node db) node db sound here refl (ordered_with node db databases sound.by_name)

-- What databases say of a node once the database of one node changes.
use Rattle.std.proofs.Common.{◌≡◌, ℕ, List, [], ◌∷◌, Bool, true, false, cond, Option, Some, None, refl, sym, ◌∙◌, ap}
use Rattle.std.specs.declared.cmp.Ordering.{Ordering}
use Rattle.std.specs.declared.cmp.Ordering.TheVariants.{Less, Equal, Greater}
use Rattle.std.specs.Ordering.{is_eq, match_ordering}
use Rattle.std.specs.List.Sorted.{IsStrictlySortedBy}
use Rattle.std.specs.Map.{keys_of, lookup}
use Rattle.std.specs.BTreeMap.{insert_entry, is_at}
use Rattle.std.specs.Str.{bytes_eq}
use Rattle.std.proofs.lemmas.Bool.{false≢true}
use Rattle.std.proofs.lemmas.Cmp.{nat_list_cmp_total, eq_by_cmp_equiv}
use Rattle.std.proofs.lemmas.Map.{lookup-remove_entry}
use Rattle.std.proofs.lemmas.Map.Keys.{IsDistinct-from_sorted}
use Rattle.std.proofs.lemmas.Map.Lookups.{exact_bytes}
use Rattle.or_base.specs.Order.{bytes_cmp}
use Rattle.or_base.specs.declared.database.AdjDb.{AdjDb}
use Rattle.ls_graph.specs.Arcs.{database_of}
use Rattle.ls_graph.specs.State.{with_database, without_database, changed_databases}
use Rattle.ls_graph.proofs.Order.{same_name, name_back, name_tests}
use Rattle.ls_graph.proofs.Edits.{either_first}

at_first : {X : Type 0} (here at : Bool) (v w : X) (rest : Option X) → here ≡ at → cond at (Some v) rest ≡ cond here (Some v) (cond at (Some w) rest)
at_first true true v w rest e = refl
at_first true false v w rest e = absurd (false≢true (sym e))
at_first false true v w rest e = absurd (false≢true e)
at_first false false v w rest e = refl

by_order : (node : List ℕ) (db : AdjDb) (y : List ℕ) (e : List ℕ × AdjDb) (es : List (List ℕ × AdjDb)) (o : Ordering) → bytes_cmp node e.0 ≡ o
    → lookup (is_at (bytes_cmp y)) (insert_entry bytes_cmp es node db) ≡ cond (is_at (bytes_cmp node) y) (Some db) (lookup (is_at (bytes_cmp y)) es)
    → lookup (is_at (bytes_cmp y)) (match_ordering o ((node, db) ∷ e ∷ es) ((e.0, db) ∷ es) (e ∷ insert_entry bytes_cmp es node db))
    ≡ cond (is_at (bytes_cmp node) y) (Some db) (lookup (is_at (bytes_cmp y)) (e ∷ es))
by_order node db y e es Less below rest = ap (λ t. cond t (Some db) (lookup (is_at (bytes_cmp y)) (e ∷ es))) (name_back node y)
by_order node db y e es Equal same rest =
    at_first (is_at (bytes_cmp node) y) (is_at (bytes_cmp y) e.0) db e.1 (lookup (is_at (bytes_cmp y)) es)
    (sym (name_back node y) ∙ ap (λ k. is_at (bytes_cmp y) k) (exact_bytes node e.0 same))
by_order node db y e es Greater above rest =
    ap (λ found. cond (is_at (bytes_cmp y) e.0) (Some e.1) found) rest
    ∙ either_first (is_at (bytes_cmp y) e.0) (is_at (bytes_cmp node) y) e.1 db (lookup (is_at (bytes_cmp y)) es)
    (λ at here. false≢true (sym (ap is_eq above) ∙ ap (λ k. is_at (bytes_cmp k) e.0) (same_name node y here) ∙ at))

database_with : (node : List ℕ) (db : AdjDb) (y : List ℕ) (databases : List (List ℕ × AdjDb))
    → database_of (with_database databases node db) y ≡ cond (is_at (bytes_cmp node) y) (Some db) (database_of databases y)
database_with node db y [] = ap (λ t. cond t (Some db) None) (name_back node y)
database_with node db y (e ∷ es) = by_order node db y e es (bytes_cmp node e.0) refl (database_with node db y es)

database_without : (node y : List ℕ) (databases : List (List ℕ × AdjDb)) → IsStrictlySortedBy bytes_cmp (keys_of databases)
    → database_of (without_database databases node) y ≡ cond (is_at (bytes_cmp node) y) None (database_of databases y)
database_without node y databases ordered =
    lookup-remove_entry (eq_by_cmp_equiv nat_list_cmp_total) (is_at (bytes_cmp node))
    (λ x z e. ap (λ k. is_at (bytes_cmp k) z) (same_name node x e)) y databases (IsDistinct-from_sorted bytes_cmp (keys_of databases) ordered)

-- the node whose database changes has the new one, and each other node what it had
pub database_changed : (databases : List (List ℕ × AdjDb)) (node : List ℕ) (db : Option AdjDb) (y : List ℕ) → IsStrictlySortedBy bytes_cmp (keys_of databases)
    → database_of (changed_databases databases node db) y ≡ cond (is_at (bytes_cmp node) y) db (database_of databases y)
database_changed databases node None y ordered = database_without node y databases ordered
database_changed databases node (Some db) y ordered = database_with node db y databases

-- by the test of names that code does
pub changed_here : (databases : List (List ℕ × AdjDb)) (node : List ℕ) (db : Option AdjDb) (y : List ℕ) → IsStrictlySortedBy bytes_cmp (keys_of databases)
    → bytes_eq y node ≡ true → db ≡ database_of (changed_databases databases node db) y
changed_here databases node db y ordered e =
    sym (database_changed databases node db y ordered
    ∙ ap (λ t. cond t db (database_of databases y)) (sym (name_back node y) ∙ sym (name_tests y node) ∙ e))

pub changed_elsewhere : (databases : List (List ℕ × AdjDb)) (node : List ℕ) (db : Option AdjDb) (y : List ℕ) → IsStrictlySortedBy bytes_cmp (keys_of databases)
    → bytes_eq y node ≡ false → database_of databases y ≡ database_of (changed_databases databases node db) y
changed_elsewhere databases node db y ordered e =
    sym (database_changed databases node db y ordered
    ∙ ap (λ t. cond t db (database_of databases y)) (sym (name_back node y) ∙ sym (name_tests y node) ∙ e))

-- What a node knows of the links: the databases that nodes reported, and the arcs that it uses now.
use Rattle.std.specs.Prelude.{◌≡◌, ◌≢◌, ℕ, ◌≤◌, List, map, Option, None, Some, true, All}
use Rattle.std.specs.List.{IsDistinct, Contains}
use Rattle.std.specs.List.Sorted.{IsStrictlySortedBy}
use Rattle.std.specs.Map.{keys_of, values_of, remove_entry}
use Rattle.std.specs.BTreeMap.{insert_entry, is_at}
use Rattle.std.specs.Str.{bytes_eq}
use Rattle.or_base.specs.Order.{bytes_cmp}
use Rattle.or_base.specs.Limits.{most_metric}
use Rattle.or_base.specs.declared.database.AdjDb.{AdjDb}
use Rattle.or_base.specs.declared.database.Adjacency.{Adjacency}
use Rattle.ls_graph.specs.declared.arc.Arc.{Arc}
use Rattle.ls_graph.specs.Arcs.{database_of, is_usable, arc_of, usable_arcs}
use Rattle.ls_graph.specs.Changes.{AreByPlace}

-- the node itself, the databases by the name of their nodes, and the arcs in force by place
pub record KnownLinks : Type 0 where
  pub me : List ℕ
  pub databases : List (List ℕ × AdjDb)
  pub in_force : List Arc

-- ---- sound databases

abbrev pub IsMetric : ℕ → Type 0
IsMetric metric = (1 ≤ metric) × (metric ≤ most_metric)

-- no own interface stands twice in the database, and its metrics are within their limit
pub record IsSoundDatabase (db : AdjDb) : Type 0 where
  pub interfaces_once : IsDistinct bytes_eq (map (λ a. a.own_if) db.adjacencies)
  pub metrics : All (λ a. IsMetric a.metric) db.adjacencies

-- databases in the order of their names, each name once, and each of them sound
pub record AreSoundDatabases (databases : List (List ℕ × AdjDb)) : Type 0 where
  pub by_name : IsStrictlySortedBy bytes_cmp (keys_of databases)
  pub each : All IsSoundDatabase (values_of databases)

-- ---- changes of databases

-- the node's one database is this one
abbrev pub with_database : List (List ℕ × AdjDb) → List ℕ → AdjDb → List (List ℕ × AdjDb)
with_database databases node db = insert_entry bytes_cmp databases node db

-- the node has no database
abbrev pub without_database : List (List ℕ × AdjDb) → List ℕ → List (List ℕ × AdjDb)
without_database databases node = remove_entry (is_at (bytes_cmp node)) databases

-- the node has this database, or none
abbrev pub changed_databases : List (List ℕ × AdjDb) → List ℕ → Option AdjDb → List (List ℕ × AdjDb)
changed_databases databases node None = without_database databases node
changed_databases databases node (Some db) = with_database databases node db

-- the arcs in force are those that the node may use by the databases: all changes so far are in force
abbrev pub IsSettled : KnownLinks → Type 0
IsSettled k = k.in_force ≡ usable_arcs k.me k.databases

-- ---- which arcs are usable

-- the arc is an adjacency of the node that it leaves, in that node's database, which `me` may use
pub record IsUsableArc (me : List ℕ) (databases : List (List ℕ × AdjDb)) (a : Arc) : Type 0 where
  pub db : AdjDb
  pub adjacency : Adjacency
  pub reported : database_of databases a.from ≡ Some db
  pub among : Contains db.adjacencies adjacency
  pub usable : is_usable me databases a.from db adjacency ≡ true
  pub arc : arc_of a.from adjacency ≡ a

-- arcs that are exactly those which `me` may use: in the order of their places, each between two nodes, with metrics within their limit
pub record AreUsable (me : List ℕ) (databases : List (List ℕ × AdjDb)) (arcs : List Arc) : Type 0 where
  pub by_place : AreByPlace arcs
  pub sound : (a : Arc) → Contains arcs a → IsUsableArc me databases a
  pub all : (a : Arc) → IsUsableArc me databases a → Contains arcs a
  pub ends_differ : (a : Arc) → Contains arcs a → a.from ≢ a.to
  pub metrics : (a : Arc) → Contains arcs a → IsMetric a.metric

-- the usable arcs of sound databases are these
abbrev pub UsableArcsAreThese : Type 0
UsableArcsAreThese = (me : List ℕ) (databases : List (List ℕ × AdjDb)) → AreSoundDatabases databases → AreUsable me databases (usable_arcs me databases)

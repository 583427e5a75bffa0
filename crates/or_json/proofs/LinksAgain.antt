-- The text of a link record has that record as its reading.
use Rattle.std.proofs.Common.{◌≡◌, ℕ, ◌-◌, ◌^◌, ◌<◌, ◌≤◌, true, Some, option_and_then, refl, ap, ◌∙◌, arith, codes}
use Rattle.std.specs.List.{list_all}
use Rattle.std.proofs.lemmas.Bool.{and_parts}
use Rattle.std.proofs.lemmas.Bool.Decides.{nat_tests}
use Rattle.json.specs.Tree as tree
use Rattle.json.proofs.Printed.Utf8.{IsUtf8-are_ascii}
use Rattle.serde_json.specs.Data.{unsigned, boolean, number, string, array, object, Data, no_members, member}
use Rattle.serde_json.specs.Read.{of_json, max_depth}
use Rattle.serde_json.specs.Written.{outline}
use Rattle.serde_json.proofs.Numbers.{number_of-decimal}
use Rattle.or_base.specs.Limits.{is_between, is_node_name, is_interface_name, most_adjacencies}
use Rattle.or_base.specs.declared.database.Adjacency.{Adjacency}
use Rattle.or_base.specs.declared.database.AdjDb.{AdjDb}
use Rattle.or_json.specs.Items.{items_data, keep_limits}
use Rattle.or_json.specs.Writing.{adjacency_data, adj_data, adj_text}
use Rattle.or_json.specs.Reading.{adjacency_of, have_same_interface, adj_db_of, adj_of, keeps_adjacency_limits, is_link_record}
use Rattle.or_json.proofs.Ascii.{node_name_utf8, interface_name_utf8}
use Rattle.or_json.proofs.Simple.{IsSimple, json_in_text}
use Rattle.or_json.proofs.ItemsAgain.{IsReadAgain, items_say, items_again, items_simple, items_shallow}

-- what the limits of an adjacency are
record Within (a : Adjacency) : Type 0 where
  other : is_node_name a.other ≡ true
  own_if : is_interface_name a.own_if ≡ true
  other_if : is_interface_name a.other_if ≡ true
  metric : is_between 1 (2 ^ 31 - 1) a.metric ≡ true

within : (a : Adjacency) → keeps_adjacency_limits a ≡ true → Within a
within a is =
    let last = and_parts _ _ is in
    let third = and_parts _ _ last.0 in
    let first = and_parts _ _ third.0 in
    record { other = first.0; own_if = first.1; other_if = third.1; metric = last.1 }

metric_fits : (metric : ℕ) → is_between 1 (2 ^ 31 - 1) metric ≡ true → metric < 2 ^ 64
metric_fits metric is = grind (arith, nat_tests)

-- ---- the same members in the order of their names

adjacency_read : Adjacency → Data
adjacency_read a =
    object
    (member (codes "if") (string a.own_if)
    (member (codes "metric") (number (unsigned a.metric))
    (member (codes "other") (string a.other)
    (member (codes "other_if") (string a.other_if)
    (member (codes "overload") (boolean a.overload) no_members)))))

adj_read : AdjDb → Data
adj_read db =
    object
    (member (codes "adjacencies") (array (items_data adjacency_read db.adjacencies))
    (member (codes "node") (string db.node)
    (member (codes "overload") (boolean db.overload) no_members)))

adjacency_says : (a : Adjacency) → Within a → of_json (outline (adjacency_data a)) ≡ Some (adjacency_read a)
unfolding adjacency_data adjacency_read
adjacency_says a w = rw (number_of-decimal a.metric (metric_fits a.metric w.metric)) refl

-- ---- what is read of them

adjacency_again : (a : Adjacency) → Within a → adjacency_of (adjacency_read a) ≡ Some a
unfolding adjacency_of adjacency_read
adjacency_again a w = rw (w.other, w.own_if, w.other_if, w.metric) refl

adjacency_simple : (a : Adjacency) → Within a → IsSimple (adjacency_data a)
unfolding adjacency_data
adjacency_simple a w = (
  IsUtf8-are_ascii _ refl,
  node_name_utf8 a.other w.other,
  (
    IsUtf8-are_ascii _ refl,
    interface_name_utf8 a.own_if w.own_if,
    (
      IsUtf8-are_ascii _ refl,
      interface_name_utf8 a.other_if w.other_if,
      (
        IsUtf8-are_ascii _ refl,
        metric_fits a.metric w.metric,
        (IsUtf8-are_ascii _ refl, tt, tt),
      ),
    ),
  ),
)

adjacency_depth : (a : Adjacency) → tree.depth (outline (adjacency_data a)) ≤ 1
unfolding adjacency_data
adjacency_depth a = omega arith

adjacencies_again : IsReadAgain adjacency_data adjacency_read adjacency_of keeps_adjacency_limits
adjacencies_again = record {
  says = λ a is. adjacency_says a (within a is);
  reads = λ a is. adjacency_again a (within a is);
  simple = λ a is. adjacency_simple a (within a is);
  shallow = adjacency_depth;
}

-- ---- the whole record

adj_depth : (db : AdjDb) → tree.depth (outline (adj_data db)) ≤ max_depth
unfolding adj_data
adj_depth db = omega (arith, items_shallow adjacencies_again db.adjacencies)

-- the limits of a record
record Link (db : AdjDb) : Type 0 where
  node : is_node_name db.node ≡ true
  each : list_all keeps_adjacency_limits db.adjacencies ≡ true
  all : keep_limits have_same_interface most_adjacencies db.adjacencies ≡ true

link : (db : AdjDb) → is_link_record db ≡ true → Link db
unfolding is_link_record
link db is =
    let last = and_parts _ _ is in
    let first = and_parts _ _ last.0 in
    record { node = first.0; each = first.1; all = last.1 }

adj_simple : (db : AdjDb) → Link db → IsSimple (adj_data db)
unfolding adj_data
adj_simple db l = (
  IsUtf8-are_ascii _ refl,
  node_name_utf8 db.node l.node,
  (
    IsUtf8-are_ascii _ refl,
    tt,
    (IsUtf8-are_ascii _ refl, items_simple adjacencies_again db.adjacencies l.each, tt),
  ),
)

adj_says : (db : AdjDb) → Link db → of_json (outline (adj_data db)) ≡ Some (adj_read db)
unfolding adj_data adj_read
adj_says db l = rw (items_say adjacencies_again db.adjacencies l.each) refl

adj_db_again : (db : AdjDb) → Link db → adj_db_of (adj_read db) ≡ Some db
unfolding adj_db_of adj_read
adj_db_again db l = rw (l.node, items_again adjacencies_again db.adjacencies l.each) (rw l.all refl)

pub link_again : (db : AdjDb) → is_link_record db ≡ true → adj_of (adj_text db) ≡ Some db
link_again db is =
    let l = link db is in
    ap (option_and_then adj_db_of) (json_in_text (adj_data db) (adj_read db) (adj_simple db l) (adj_depth db) (adj_says db l)) ∙ adj_db_again db l

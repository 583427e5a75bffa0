-- The readings of record texts. Members may be in any order, and members that aren't named here are ignored.
use Rattle.std.specs.Prelude.{ℕ, List, Bool, ◌&&◌, nat_le, codes, if◌then◌else◌, Option, Some, None, option_and_then}
use Rattle.std.specs.List.{list_all}
use Rattle.std.specs.Str.{bytes_eq, is_utf8}
use Rattle.serde_json.specs.Data.{Data, Items}
use Rattle.serde_json.specs.Read.{read}
use Rattle.serde_json.specs.Find.{get, as_bool, as_number, as_str, as_array, as_u64}
use Rattle.or_base.specs.Limits.{is_between, is_node_name, is_interface_name, most_adjacencies, most_metric, most_preference, most_prefix_entries}
use Rattle.or_base.specs.Prefixes.{is_same_prefix}
use Rattle.or_base.specs.declared.prefix.Prefix.{Prefix}
use Rattle.or_base.specs.declared.database.Adjacency.{Adjacency}
use Rattle.or_base.specs.declared.database.AdjDb.{AdjDb}
use Rattle.or_base.specs.declared.database.PrefixEntry.{PrefixEntry}
use Rattle.or_base.specs.declared.database.PrefixDb.{PrefixDb}
use Rattle.or_prefix.specs.Reading.{prefix_of}
use Rattle.or_json.specs.Items.{◌>>=◌, items_of, keep_limits}

-- what passes a test
abbrev pub if_passes : {A : Type 0} → (A → Bool) → Option A → Option A
if_passes test found = option_and_then (λ x. if test x then Some x else None) found

-- the member with this name: a text that passes a test
abbrev pub text_member : (List ℕ → Bool) → List ℕ → Data → Option (List ℕ)
text_member test name d = if_passes test (option_and_then as_str (get name d))

-- a number from the one to the other, without sign, fraction and exponent
abbrev pub number_member : ℕ → ℕ → List ℕ → Data → Option ℕ
number_member least most name d = if_passes (is_between least most) (option_and_then as_u64 (option_and_then as_number (get name d)))

-- `true` or `false`
abbrev pub flag_member : List ℕ → Data → Option Bool
flag_member name d = option_and_then as_bool (get name d)

-- the items of a list
abbrev pub items_member : List ℕ → Data → Option Items
items_member name d = option_and_then as_array (get name d)

unfoldable pub adjacency_of : Data → Option Adjacency
adjacency_of d = do
  other ← text_member is_node_name (codes "other") d
  own_if ← text_member is_interface_name (codes "if") d
  other_if ← text_member is_interface_name (codes "other_if") d
  metric ← number_member 1 most_metric (codes "metric") d
  overload ← flag_member (codes "overload") d
  Some (record { other = other; own_if = own_if; other_if = other_if; metric = metric; overload = overload })

-- they are over the same interface of the node
abbrev pub have_same_interface : Adjacency → Adjacency → Bool
have_same_interface a b = bytes_eq a.own_if b.own_if

unfoldable pub adj_db_of : Data → Option AdjDb
adj_db_of d = do
  node ← text_member is_node_name (codes "node") d
  overload ← flag_member (codes "overload") d
  items ← items_member (codes "adjacencies") d
  adjacencies ← if_passes (keep_limits have_same_interface most_adjacencies) (items_of adjacency_of items)
  Some (record { node = node; overload = overload; adjacencies = adjacencies })

-- the JSON value that a text is
unfoldable pub json_in : List ℕ → Option Data
json_in text = if is_utf8 text then read text else None

-- the link record that a text is
abbrev pub adj_of : List ℕ → Option AdjDb
adj_of text = option_and_then adj_db_of (json_in text)

-- the prefix that the member with this name says
abbrev pub prefix_member : List ℕ → Data → Option Prefix
prefix_member name d = option_and_then prefix_of (option_and_then as_str (get name d))

unfoldable pub entry_of : Data → Option PrefixEntry
entry_of d = do
  prefix ← prefix_member (codes "prefix") d
  path ← number_member 0 most_preference (codes "path") d
  source ← number_member 0 most_preference (codes "source") d
  distance ← number_member 0 most_preference (codes "distance") d
  Some (record { prefix = prefix; path = path; source = source; distance = distance })

-- they have the same prefix, however it is written
abbrev pub have_same_prefix : PrefixEntry → PrefixEntry → Bool
have_same_prefix a b = is_same_prefix a.prefix b.prefix

unfoldable pub prefix_db_of : Data → Option PrefixDb
prefix_db_of d = do
  node ← text_member is_node_name (codes "node") d
  items ← items_member (codes "entries") d
  entries ← if_passes (keep_limits have_same_prefix most_prefix_entries) (items_of entry_of items)
  Some (record { node = node; entries = entries })

-- the prefix record that a text is
abbrev pub prefixes_of : List ℕ → Option PrefixDb
prefixes_of text = option_and_then prefix_db_of (json_in text)

-- ---- the records whose texts have them as their reading

-- the names and the metric keep the limits
abbrev pub keeps_adjacency_limits : Adjacency → Bool
keeps_adjacency_limits a =
    is_node_name a.other && is_interface_name a.own_if && is_interface_name a.other_if && is_between 1 most_metric a.metric

-- the record keeps the limits, and its adjacencies are over distinct interfaces
unfoldable pub is_link_record : AdjDb → Bool
is_link_record db = is_node_name db.node && list_all keeps_adjacency_limits db.adjacencies && keep_limits have_same_interface most_adjacencies db.adjacencies

-- the numbers keep the limit
abbrev pub keeps_entry_limits : PrefixEntry → Bool
keeps_entry_limits e = nat_le e.path most_preference && nat_le e.source most_preference && nat_le e.distance most_preference

-- the record keeps the limits, and its entries are of distinct prefixes
unfoldable pub is_prefix_record : PrefixDb → Bool
is_prefix_record db = is_node_name db.node && list_all keeps_entry_limits db.entries && keep_limits have_same_prefix most_prefix_entries db.entries

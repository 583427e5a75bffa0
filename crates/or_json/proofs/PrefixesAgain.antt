-- The text of a prefix has that prefix as its reading, and the text of a prefix record has that record.
use Rattle.std.proofs.Common.{◌≡◌, ℕ, ◌-◌, ◌^◌, ◌<◌, ◌≤◌, true, Some, refl, ap, ◌∙◌, arith, leb-true, le-leb, codes}
use Rattle.std.specs.List.{list_all}
use Rattle.std.specs.Option.{option_and_then}
use Rattle.std.proofs.lemmas.Bool.{and_parts, and_from}
use Rattle.json.specs.Tree as tree
use Rattle.json.proofs.Printed.Utf8.{IsUtf8-are_ascii}
use Rattle.serde_json.specs.Data.{unsigned, number, string, array, object, Data, no_members, member}
use Rattle.serde_json.specs.Read.{of_json, max_depth}
use Rattle.serde_json.specs.Written.{outline}
use Rattle.serde_json.proofs.Numbers.{number_of-decimal}
use Rattle.or_base.specs.Limits.{is_between, is_node_name, most_prefix_entries}
use Rattle.or_base.specs.declared.database.PrefixEntry.{PrefixEntry}
use Rattle.or_base.specs.declared.database.PrefixDb.{PrefixDb}
use Rattle.or_prefix.specs.Printing.{prefix_text}
use Rattle.or_json.specs.Items.{items_data, keep_limits}
use Rattle.or_json.specs.Writing.{entry_data, prefixes_data, prefixes_text}
use Rattle.or_json.specs.Reading.{entry_of, have_same_prefix, prefix_db_of, prefixes_of, keeps_entry_limits, is_prefix_record}
use Rattle.or_prefix.proofs.PrintedPrefixes.{prefix_again}
use Rattle.or_json.proofs.Ascii.{node_name_utf8, prefix_utf8}
use Rattle.or_json.proofs.Simple.{IsSimple, json_in_text}
use Rattle.or_json.proofs.ItemsAgain.{IsReadAgain, items_say, items_again, items_simple, items_shallow}

-- ---- the entries

record Within (e : PrefixEntry) : Type 0 where
  path : e.path ≤ 2 ^ 31 - 1
  source : e.source ≤ 2 ^ 31 - 1
  distance : e.distance ≤ 2 ^ 31 - 1

within : (e : PrefixEntry) → keeps_entry_limits e ≡ true → Within e
within e is =
    let last = and_parts _ _ is in
    let first = and_parts _ _ last.0 in
    record { path = leb-true _ _ first.0; source = leb-true _ _ first.1; distance = leb-true _ _ last.1 }

between : (n : ℕ) → n ≤ 2 ^ 31 - 1 → is_between 0 (2 ^ 31 - 1) n ≡ true
between n fits = and_from _ _ (le-leb 0 n (omega arith)) (le-leb n (2 ^ 31 - 1) fits)

-- the same members in the order of their names
entry_read : PrefixEntry → Data
entry_read e =
    object
    (member (codes "distance") (number (unsigned e.distance))
    (member (codes "path") (number (unsigned e.path))
    (member (codes "prefix") (string (prefix_text e.prefix.v6 e.prefix.bits e.prefix.len))
    (member (codes "source") (number (unsigned e.source)) no_members))))

prefixes_read : PrefixDb → Data
prefixes_read db = object (member (codes "entries") (array (items_data entry_read db.entries)) (member (codes "node") (string db.node) no_members))

entry_says : (e : PrefixEntry) → Within e → of_json (outline (entry_data e)) ≡ Some (entry_read e)
unfolding entry_data entry_read
entry_says e w =
    let path : e.path < 2 ^ 64 = omega (arith, w.path) in
    let source : e.source < 2 ^ 64 = omega (arith, w.source) in
    let distance : e.distance < 2 ^ 64 = omega (arith, w.distance) in
    rw (number_of-decimal e.path path) (rw (number_of-decimal e.source source) (rw (number_of-decimal e.distance distance) refl))

entry_again : (e : PrefixEntry) → Within e → entry_of (entry_read e) ≡ Some e
unfolding entry_of entry_read
entry_again e w =
    rw (prefix_again e.prefix) (rw (between e.path w.path) (rw (between e.source w.source) (rw (between e.distance w.distance) refl)))

entry_simple : (e : PrefixEntry) → Within e → IsSimple (entry_data e)
unfolding entry_data
entry_simple e w =
    let path : e.path < 2 ^ 64 = omega (arith, w.path) in
    let source : e.source < 2 ^ 64 = omega (arith, w.source) in
    let distance : e.distance < 2 ^ 64 = omega (arith, w.distance) in (
      IsUtf8-are_ascii _ refl,
      prefix_utf8 e.prefix.v6 e.prefix.bits e.prefix.len,
      (
        IsUtf8-are_ascii _ refl,
        path,
        (IsUtf8-are_ascii _ refl, source, (IsUtf8-are_ascii _ refl, distance, tt)),
      ),
    )

entry_depth : (e : PrefixEntry) → tree.depth (outline (entry_data e)) ≤ 1
unfolding entry_data
entry_depth e = omega arith

entries_again : IsReadAgain entry_data entry_read entry_of keeps_entry_limits
entries_again = record {
  says = λ e is. entry_says e (within e is);
  reads = λ e is. entry_again e (within e is);
  simple = λ e is. entry_simple e (within e is);
  shallow = entry_depth;
}

-- ---- the whole record

prefixes_depth : (db : PrefixDb) → tree.depth (outline (prefixes_data db)) ≤ max_depth
unfolding prefixes_data
prefixes_depth db = omega (arith, items_shallow entries_again db.entries)

record Limits (db : PrefixDb) : Type 0 where
  node : is_node_name db.node ≡ true
  each : list_all keeps_entry_limits db.entries ≡ true
  all : keep_limits have_same_prefix most_prefix_entries db.entries ≡ true

limits : (db : PrefixDb) → is_prefix_record db ≡ true → Limits db
unfolding is_prefix_record
limits db is =
    let last = and_parts _ _ is in
    let first = and_parts _ _ last.0 in
    record { node = first.0; each = first.1; all = last.1 }

prefixes_simple : (db : PrefixDb) → Limits db → IsSimple (prefixes_data db)
unfolding prefixes_data
prefixes_simple db l = (IsUtf8-are_ascii _ refl, node_name_utf8 db.node l.node, (IsUtf8-are_ascii _ refl, items_simple entries_again db.entries l.each, tt))

prefixes_say : (db : PrefixDb) → Limits db → of_json (outline (prefixes_data db)) ≡ Some (prefixes_read db)
unfolding prefixes_data prefixes_read
prefixes_say db l = rw (items_say entries_again db.entries l.each) refl

prefix_db_again : (db : PrefixDb) → Limits db → prefix_db_of (prefixes_read db) ≡ Some db
unfolding prefix_db_of prefixes_read
prefix_db_again db l = rw (l.node, items_again entries_again db.entries l.each) (rw l.all refl)

pub prefixes_again : (db : PrefixDb) → is_prefix_record db ≡ true → prefixes_of (prefixes_text db) ≡ Some db
prefixes_again db is =
    let l = limits db is in
    ap (option_and_then prefix_db_of) (json_in_text (prefixes_data db) (prefixes_read db) (prefixes_simple db l) (prefixes_depth db) (prefixes_say db l)) ∙ prefix_db_again db l

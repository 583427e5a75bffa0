-- The records that a store holds after its journal: the link record of each node, and its prefix record; and who advertises what.
use Rattle.std.specs.Prelude.{ℕ, List, [], fold, map, Option, Some, None, option_map, option_and_then, if◌then◌else◌, Bool, ◌&&◌}
use Rattle.std.specs.List.{filter_map, flat_map, find, list_all}
use Rattle.std.specs.Str.{bytes_eq}
use Rattle.std.specs.BTreeSet.{insert_key}
use Rattle.or_base.specs.Journal.{held_value, held_keys}
use Rattle.or_base.specs.Limits.{is_between, most_metric}
use Rattle.or_base.specs.Prefixes.{prefix_cmp, is_same_prefix}
use Rattle.or_base.specs.declared.database.AdjDb.{AdjDb}
use Rattle.or_base.specs.declared.database.PrefixDb.{PrefixDb}
use Rattle.or_base.specs.declared.database.PrefixEntry.{PrefixEntry}
use Rattle.or_base.specs.declared.entry.JournalEntry.{JournalEntry}
use Rattle.or_base.specs.declared.prefix.Prefix.{Prefix}
use Rattle.or_base.specs.declared.value.KvValue.{KvValue}
use Rattle.or_json.specs.Keys.{link_record_key, prefix_record_key}
use Rattle.or_json.specs.Reading.{adj_of, prefixes_of}

-- ---- what a text under a key is

-- the metrics are within their limit, as they are in each record that is read
abbrev pub keeps_metrics : AdjDb → Bool
keeps_metrics db = list_all (λ a. is_between 1 most_metric a.metric) db.adjacencies

-- a link record that names the node under whose key it is held, with that name
abbrev pub link_record_if : List ℕ → AdjDb → Option (List ℕ × AdjDb)
link_record_if key db = if bytes_eq (link_record_key db.node) key && keeps_metrics db then Some (db.node, db) else None

-- the link record that a value under a key is, with the name of its node; one that names another node is none
unfoldable pub link_record_in : List ℕ → KvValue → Option (List ℕ × AdjDb)
link_record_in key value = option_and_then (link_record_if key) (adj_of value.value)

-- a prefix record that names the node under whose key it is held, with that name
abbrev pub prefix_record_if : List ℕ → PrefixDb → Option (List ℕ × PrefixDb)
prefix_record_if key db = if bytes_eq (prefix_record_key db.node) key then Some (db.node, db) else None

-- the prefix record that a value under a key is, with the name of its node; one that names another node is none
unfoldable pub prefix_record_in : List ℕ → KvValue → Option (List ℕ × PrefixDb)
prefix_record_in key value = option_and_then (prefix_record_if key) (prefixes_of value.value)

-- ---- the records that are held

-- the link records, by the names of their nodes
unfoldable pub link_records : List JournalEntry → List (List ℕ × AdjDb)
link_records journal = filter_map (λ key. option_and_then (link_record_in key) (held_value journal key)) (held_keys journal)

-- the prefix records, by the names of their nodes
unfoldable pub prefix_records : List JournalEntry → List (List ℕ × PrefixDb)
prefix_records journal = filter_map (λ key. option_and_then (prefix_record_in key) (held_value journal key)) (held_keys journal)

-- ---- who advertises a prefix

-- the entry for a prefix in a record, which has each prefix at most once
abbrev pub entry_for : Prefix → PrefixDb → Option PrefixEntry
entry_for prefix db = find (λ entry. is_same_prefix entry.prefix prefix) db.entries

abbrev pub advertised_by : Prefix → List ℕ × PrefixDb → Option (List ℕ × PrefixEntry)
advertised_by prefix e = option_map (λ entry. (e.0, entry)) (entry_for prefix e.1)

-- the nodes that advertise a prefix by these records, in the order of their names, each with its entry
unfoldable pub advertisers : List (List ℕ × PrefixDb) → Prefix → List (List ℕ × PrefixEntry)
advertisers records prefix = filter_map (advertised_by prefix) records

abbrev pub prefixes_in : List ℕ × PrefixDb → List Prefix
prefixes_in e = map (λ entry. entry.prefix) e.1.entries

-- the prefixes that some node advertises, in order, each once
unfoldable pub advertised_prefixes : List (List ℕ × PrefixDb) → List Prefix
advertised_prefixes records = fold (insert_key prefix_cmp) [] (flat_map prefixes_in records)

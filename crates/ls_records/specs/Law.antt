-- What the records of a journal are, by lookups.
use Rattle.std.specs.Prelude.{◌≡◌, ◌≢◌, ℕ, List, [], false, true, Option, option_and_then, option_map}
use Rattle.std.specs.List.{list_any}
use Rattle.std.specs.List.Sorted.{IsStrictlySortedBy}
use Rattle.std.specs.Map.{lookup, keys_of}
use Rattle.std.specs.BTreeMap.{is_at}
use Rattle.or_base.specs.Order.{bytes_cmp}
use Rattle.or_base.specs.Prefixes.{prefix_cmp}
use Rattle.or_base.specs.Journal.{held_value}
use Rattle.or_base.specs.declared.database.PrefixDb.{PrefixDb}
use Rattle.or_base.specs.declared.entry.JournalEntry.{JournalEntry}
use Rattle.or_base.specs.declared.prefix.Prefix.{Prefix}
use Rattle.or_json.specs.Keys.{link_record_key, prefix_record_key}
use Rattle.ls_graph.specs.Arcs.{database_of}
use Rattle.ls_graph.specs.State.{AreSoundDatabases}
use Rattle.ls_records.specs.Records.{link_record_in, prefix_record_in, link_records, prefix_records, advertisers, advertised_prefixes}

-- the prefix record of a node, if there is one, among those of all nodes, by name
abbrev pub prefix_record_of : List (List ℕ × PrefixDb) → List ℕ → Option PrefixDb
prefix_record_of records node = lookup (is_at (bytes_cmp node)) records

-- A node has the record that is held under its key, where that is one of it. Link records are sound databases, and prefix records
-- are in the order of names.
pub record RecordsAreHeld : Type 0 where
  pub links : (journal : List JournalEntry) (node : List ℕ)
      → database_of (link_records journal) node ≡ option_map (λ r. r.1) (option_and_then (link_record_in (link_record_key node)) (held_value journal (link_record_key node)))
  pub prefixes : (journal : List JournalEntry) (node : List ℕ)
      → prefix_record_of (prefix_records journal) node ≡ option_map (λ r. r.1) (option_and_then (prefix_record_in (prefix_record_key node)) (held_value journal (prefix_record_key node)))
  pub sound : (journal : List JournalEntry) → AreSoundDatabases (link_records journal)
  pub by_name : (journal : List JournalEntry) → IsStrictlySortedBy bytes_cmp (keys_of (prefix_records journal))

-- The advertised prefixes are in order, each once, and are those that somebody advertises.
pub record AdvertisedHaveAdvertisers : Type 0 where
  pub in_order : (records : List (List ℕ × PrefixDb)) → IsStrictlySortedBy prefix_cmp (advertised_prefixes records)
  pub some : (records : List (List ℕ × PrefixDb)) (prefix : Prefix) → list_any (is_at (prefix_cmp prefix)) (advertised_prefixes records) ≡ true → advertisers records prefix ≢ []
  pub none : (records : List (List ℕ × PrefixDb)) (prefix : Prefix) → list_any (is_at (prefix_cmp prefix)) (advertised_prefixes records) ≡ false → advertisers records prefix ≡ []

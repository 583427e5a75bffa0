-- What a table tells of itself without its values.
use Rattle.std.specs.Prelude.{ℕ, List, Option, option_map}
use Rattle.std.specs.List.{filter_map}
use Rattle.or_base.specs.declared.value.KvValue.{KvValue}
use Rattle.or_base.specs.declared.digest.DigestRow.{DigestRow}
use Rattle.or_base.specs.declared.entry.JournalEntry.{JournalEntry}
use Rattle.or_base.specs.Journal.{holds, held_keys}
use Rattle.kv_value.specs.Hashing.{hash_of}

-- the row of a value that is held under a key
abbrev pub row_with : List ℕ → KvValue → DigestRow
row_with key v = record { key = key; version = v.version; originator = v.originator; hash = hash_of v; ttl_version = v.ttl_version }

-- the row of a held key with its value and the hash of that
abbrev pub digest_row : List ℕ × (KvValue × ℕ) → DigestRow
digest_row row = record { key = row.0; version = row.1.0.version; originator = row.1.0.originator; hash = row.1.1; ttl_version = row.1.0.ttl_version }

abbrev pub row_of : List JournalEntry → List ℕ → Option DigestRow
row_of journal key = option_map (λ held. row_with key held.0) (holds journal key)

-- one row for each held key, in byte order of keys
unfoldable pub digest : List JournalEntry → List DigestRow
digest journal = filter_map (row_of journal) (held_keys journal)

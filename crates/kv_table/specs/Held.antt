-- What a table holds, with the hashes of the values.
use Rattle.std.specs.Prelude.{ℕ, List}
use Rattle.std.specs.Option.{option_map}
use Rattle.std.specs.List.{filter_map}
use Rattle.or_base.specs.declared.value.KvValue.{KvValue}
use Rattle.or_base.specs.declared.entry.JournalEntry.{JournalEntry}
use Rattle.or_base.specs.Journal.{holds, held_keys}
use Rattle.kv_value.specs.Hashing.{hash_of}
use Rattle.kv_table.specs.declared.held.HeldRow.{HeldRow}

-- a held value, with its hash in place of the moment of its merge
abbrev pub with_hash : KvValue × ℕ → KvValue × ℕ
with_hash held = (held.0, hash_of held.0)

-- a held key with its value and the hash of that
abbrev pub row_shown : HeldRow → List ℕ × (KvValue × ℕ)
row_shown row = (row.key.now, (row.value.now, row.hash))

-- each held key, in byte order, with its value and the hash of that
unfoldable pub held_rows : List JournalEntry → List (List ℕ × (KvValue × ℕ))
held_rows journal = filter_map (λ key. option_map (λ held. (key, with_hash held)) (holds journal key)) (held_keys journal)

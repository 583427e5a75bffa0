-- How a digest differs from what a store holds.
use Rattle.std.specs.Prelude.{ℕ, List, [], ◌∷◌, Option, Some, None, Bool, true, false, nat_lt, ◌==◌, filter, if◌then◌else◌}
use Rattle.std.specs.BTreeSet.{insert_key}
use Rattle.std.specs.Str.{bytes_eq}
use Rattle.std.specs.Ordering.{nat_cmp, ordering_then}
use Rattle.std.specs.declared.cmp.Ordering.{Ordering}
use Rattle.std.specs.declared.cmp.Ordering.TheVariants.{Less, Equal, Greater}
use Rattle.or_base.specs.declared.value.KvValue.{KvValue}
use Rattle.or_base.specs.declared.digest.DigestRow.{DigestRow}
use Rattle.or_base.specs.declared.entry.JournalEntry.{JournalEntry}
use Rattle.or_base.specs.Order.{bytes_cmp}
use Rattle.or_base.specs.Journal.{held_value, held_keys}
use Rattle.kv_value.specs.Hashing.{hash_of}

-- the row of a key: the first that names it
abbrev pub row_for : List DigestRow → List ℕ → Option DigestRow
row_for [] key = None
row_for (row ∷ rows) key = if bytes_eq row.key key then Some row else row_for rows key

-- the keys of rows, each once and in byte order
abbrev pub keys_of : List DigestRow → List (List ℕ)
keys_of [] = []
keys_of (row ∷ rows) = insert_key bytes_cmp (keys_of rows) row.key

-- version and originator of a held value and of a row of its key, in this order
abbrev pub rank_cmp : KvValue → DigestRow → Ordering
rank_cmp v row = ordering_then (nat_cmp v.version row.version) (bytes_cmp v.originator row.originator)

-- Where version and originator are equal, values with different hashes are both worth sending. Where the hashes are equal
-- too, the greater TTL version decides.
abbrev pub is_better_by : Ordering → KvValue → DigestRow → Bool
is_better_by Less v row = false
is_better_by Equal v row = if hash_of v == row.hash then nat_lt row.ttl_version v.ttl_version else true
is_better_by Greater v row = true

abbrev pub is_wanted_by : Ordering → KvValue → DigestRow → Bool
is_wanted_by Less v row = true
is_wanted_by Equal v row = if hash_of v == row.hash then nat_lt v.ttl_version row.ttl_version else true
is_wanted_by Greater v row = false

-- what is held is worth sending to a store with this row
unfoldable pub is_better : KvValue → DigestRow → Bool
is_better v row = is_better_by (rank_cmp v row) v row

-- what the row stands for is worth having beside what is held
unfoldable pub is_wanted : KvValue → DigestRow → Bool
is_wanted v row = is_wanted_by (rank_cmp v row) v row

-- a key that is held, where its row, if there is one, isn't better
abbrev pub is_better_than : Option KvValue → Option DigestRow → Bool
is_better_than None row = false
is_better_than (Some v) None = true
is_better_than (Some v) (Some row) = is_better v row

-- a key with a row, where what is held, if something is, isn't better
abbrev pub is_wanted_over : Option KvValue → Option DigestRow → Bool
is_wanted_over held None = false
is_wanted_over None (Some row) = true
is_wanted_over (Some v) (Some row) = is_wanted v row

-- the keys whose held values a store with these rows should get, in byte order
unfoldable pub better_keys : List DigestRow → List JournalEntry → List (List ℕ)
better_keys rows journal = filter (λ key. is_better_than (held_value journal key) (row_for rows key)) (held_keys journal)

-- the keys whose values the store that holds these should get, in byte order
unfoldable pub wanted_keys : List DigestRow → List JournalEntry → List (List ℕ)
wanted_keys rows journal = filter (λ key. is_wanted_over (held_value journal key) (row_for rows key)) (keys_of rows)

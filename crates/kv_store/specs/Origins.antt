-- How the keys of a turn's entries are found with their origins: by a map that takes entry by entry.
use Rattle.std.specs.Prelude.{ℕ, List, [], map, not}
use Rattle.std.specs.List.{filter, fold}
use Rattle.std.specs.Map.{remove_entry}
use Rattle.std.specs.BTreeMap.{insert_entry, is_at}
use Rattle.or_base.specs.declared.entry.JournalEntry.{JournalEntry}
use Rattle.or_base.specs.declared.entry.JournalEntry.TheVariants.{Merged, Expired, Cleared}
use Rattle.or_base.specs.declared.origin.Origin.{Origin}
use Rattle.or_base.specs.Order.{bytes_cmp}
use Rattle.kv_store.specs.Store.{begins_here}

-- keys in byte order, each with the origin of its merge
abbrev pub KeyOrigins : Type 0
KeyOrigins = List (List ℕ × Origin)

-- the same after one entry more
abbrev pub with_entry : KeyOrigins → JournalEntry → KeyOrigins
with_entry origins (Merged pair at origin) = insert_entry bytes_cmp origins pair.key origin
with_entry origins (Expired key at) = remove_entry (is_at (bytes_cmp key)) origins
with_entry origins (Cleared at) = []

-- those of a turn's entries
abbrev pub origins_of : List JournalEntry → KeyOrigins
origins_of entries = fold with_entry [] entries

-- the keys that begin here, and the others
abbrev pub begun_keys : KeyOrigins → List (List ℕ)
begun_keys origins = map (λ o. o.0) (filter (λ o. begins_here o.1) origins)

abbrev pub other_keys : KeyOrigins → List (List ℕ)
other_keys origins = map (λ o. o.0) (filter (λ o. not (begins_here o.1)) origins)

-- Indexes of journals: ordered maps from the held keys, by which what is held is found without a scan.
use Rattle.std.specs.Prelude.{◌≡◌, ◌≤◌, ℕ, List, Option, Some, None, option_and_then, map, take, length}
use Rattle.std.specs.Option.{option_map}
use Rattle.std.specs.List.{slice_get}
use Rattle.std.specs.List.Sorted.{IsStrictlySortedBy}
use Rattle.std.specs.Map.{keys_of, lookup}
use Rattle.std.specs.BTreeMap.{is_at}
use Rattle.or_base.specs.Order.{bytes_cmp}
use Rattle.or_base.specs.declared.value.KvValue.{KvValue}
use Rattle.or_base.specs.declared.entry.JournalEntry.{JournalEntry}
use Rattle.or_base.specs.declared.entry.JournalEntry.TheVariants.{Merged, Expired, Cleared}
use Rattle.or_base.specs.Journal.{holds, held_keys}

-- what an entry merged, and when
abbrev pub merged_by : JournalEntry → Option (KvValue × ℕ)
merged_by (Merged pair at origin) = Some (pair.value, at)
merged_by (Expired key at) = None
merged_by (Cleared at) = None

-- what the entry at a place of the journal merged
abbrev pub merged_at : List JournalEntry → ℕ → Option (KvValue × ℕ)
merged_at journal place = option_and_then merged_by (slice_get journal place)

-- Exactly the held keys are in the map, in their order, and what is read at each is what is told of what is held.
pub record IsIndexOf {X Y : Type 0} (reads : X → Y) (tells : KvValue × ℕ → Y) (journal : List JournalEntry) (index : List (List ℕ × X)) : Type 0 where
  pub ordered : IsStrictlySortedBy bytes_cmp (keys_of index)
  pub tell : (key : List ℕ) → option_map reads (lookup (is_at (bytes_cmp key)) index) ≡ option_map tells (holds journal key)

-- A journal, of which so many entries are taken, from the first on.
pub record Taken : Type 0 where
  pub journal : List JournalEntry
  pub count : ℕ

-- the entries that are taken
abbrev pub entries_taken : Taken → List JournalEntry
entries_taken taken = take taken.count taken.journal

-- exactly the keys that the entries taken hold have a place, and each was merged there
abbrev pub ArePlacesOf : Taken → List (List ℕ × ℕ) → Type 0
ArePlacesOf taken places = IsIndexOf (merged_at taken.journal) (λ held. Some held) (entries_taken taken) places

-- what an index keeps of a journal of which so many entries are taken
pub record IsKeptOf (taken : Taken) (places : List (List ℕ × ℕ)) : Type 0 where
  pub within : taken.count ≤ length taken.journal
  pub places_of : ArePlacesOf taken places

-- a key with what was merged at its place
abbrev pub told_at : List JournalEntry → List ℕ × ℕ → List ℕ × Option (KvValue × ℕ)
told_at journal placed = (placed.0, merged_at journal placed.1)

-- each held key with what is held under it, in byte order of keys
abbrev pub held_pairs : List JournalEntry → List (List ℕ × Option (KvValue × ℕ))
held_pairs journal = map (λ key. (key, holds journal key)) (held_keys journal)

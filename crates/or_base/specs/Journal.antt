use Rattle.std.specs.Prelude.{ℕ, List, [], ◌∷◌, ◌++◌, Option, Some, None, Bool, true, if◌then◌else◌, ◌&&◌, reverse, filter, is_some}
use Rattle.std.specs.Str.{bytes_eq}
use Rattle.std.specs.Option.{option_map_or, option_map}
use Rattle.std.specs.BTreeSet.{insert_key}
use Rattle.or_base.specs.declared.value.KvValue.{KvValue}
use Rattle.or_base.specs.declared.value.Pair.{Pair}
use Rattle.or_base.specs.declared.origin.Origin.{Origin}
use Rattle.or_base.specs.declared.entry.JournalEntry.{JournalEntry}
use Rattle.or_base.specs.declared.entry.JournalEntry.TheVariants.{Merged, Expired, Cleared}
use Rattle.or_base.specs.Order.{bytes_cmp, is_below}
use Rattle.or_base.specs.Limits.{is_valid_pair}

-- Of entries from the newest to the oldest, the first that is Cleared or names the key decides: a Merged entry gives
-- its value and the moment of the merge, every other one gives nothing.
abbrev pub latest : List JournalEntry → List ℕ → Option (KvValue × ℕ)
latest [] key = None
latest (Merged pair at origin ∷ older) key = if bytes_eq pair.key key then Some (pair.value, at) else latest older key
latest (Expired name at ∷ older) key = if bytes_eq name key then None else latest older key
latest (Cleared at ∷ older) key = None

-- what a store with this journal holds under a key
abbrev pub holds : List JournalEntry → List ℕ → Option (KvValue × ℕ)
holds journal key = latest (reverse journal) key

-- the value that is held, without the moment of its merge
abbrev pub held_value : List JournalEntry → List ℕ → Option KvValue
held_value journal key = option_map (λ held. held.0) (holds journal key)

-- nothing is held, or what is held is less than the offered value
abbrev pub exceeds : KvValue → Option (KvValue × ℕ) → Bool
exceeds value held = option_map_or (λ h. is_below h.0 value) held true

-- an offer of the pair changes the store
abbrev pub is_taken : List JournalEntry → Pair → Bool
is_taken journal pair = is_valid_pair pair && exceeds pair.value (holds journal pair.key)

-- the journal after a pair is offered at a moment
abbrev pub offer : List JournalEntry → Pair → ℕ → Origin → List JournalEntry
offer journal pair now origin = if is_taken journal pair then journal ++ Merged pair now origin ∷ [] else journal

-- these keys and those that the entries merged, each once and in byte order
abbrev pub with_merged_keys : List (List ℕ) → List JournalEntry → List (List ℕ)
with_merged_keys keys [] = keys
with_merged_keys keys (Merged pair at origin ∷ later) = with_merged_keys (insert_key bytes_cmp keys pair.key) later
with_merged_keys keys (Expired name at ∷ later) = with_merged_keys keys later
with_merged_keys keys (Cleared at ∷ later) = with_merged_keys keys later

-- the keys that the entries merged, each once and in byte order
abbrev pub merged_keys : List JournalEntry → List (List ℕ)
merged_keys journal = with_merged_keys [] journal

-- the keys under which something is held, each once and in byte order
abbrev pub held_keys : List JournalEntry → List (List ℕ)
held_keys journal = filter (λ key. is_some (holds journal key)) (merged_keys journal)

-- What a table keeps beside its journal: a slot for each held key, and the deadlines of the held keys.
use Rattle.std.specs.Prelude.{◌≡◌, ℕ, ◌+◌, List, Bool, false, ◌&&◌, ◌==◌, Option, Some, None, IfSome, is_none, option_and_then}
use Rattle.std.specs.Option.{option_map}
use Rattle.std.specs.List.{slice_get}
use Rattle.std.specs.Map.{lookup}
use Rattle.std.specs.BTreeMap.{is_at}
use Rattle.or_base.specs.Order.{bytes_cmp}
use Rattle.or_base.specs.declared.value.KvValue.{KvValue}
use Rattle.or_base.specs.declared.value.Pair.{Pair}
use Rattle.or_base.specs.declared.entry.JournalEntry.{JournalEntry}
use Rattle.or_base.specs.declared.entry.JournalEntry.TheVariants.{Merged, Expired, Cleared}
use Rattle.or_timer.specs.Deadlines.{AreInKeyOrder, deadline_in, with_deadline, without_deadline}
use Rattle.kv_value.specs.Hashing.{hash_of}
use Rattle.kv_table.specs.declared.slot.Slot.{Slot}
use Rattle.kv_table.specs.Expiry.{deadline_of}
use Rattle.kv_table.specs.Index.{merged_at, IsIndexOf}
use Rattle.kv_table.specs.Held.{with_hash}

-- the slot of a key, if it has one
abbrev pub slot_in : List (List ℕ × Slot) → List ℕ → Option Slot
slot_in slots key = lookup (is_at (bytes_cmp key)) slots

-- the value and the moment of what was merged at the place of a slot
abbrev pub slot_reads : List JournalEntry → Slot → Option (KvValue × ℕ)
slot_reads journal slot = merged_at journal slot.place

-- a slot's hash, if it has one, is that of the value merged at its place
abbrev pub HasItsHash : List JournalEntry → Slot → Type 0
HasItsHash journal slot = IfSome slot.hash (λ hash. option_map (λ merged. hash_of merged.0) (slot_reads journal slot) ≡ Some hash)

-- exactly the held keys have a slot, which has the place of what is held, and each hash is the value's
pub record AreSlotsOf (journal : List JournalEntry) (slots : List (List ℕ × Slot)) : Type 0 where
  pub places : IsIndexOf (slot_reads journal) (λ held. Some held) journal slots
  pub hashes : (key : List ℕ) → IfSome (slot_in slots key) (HasItsHash journal)

-- the pair that an entry merged
abbrev pub pair_in : JournalEntry → Option Pair
pair_in (Merged pair at origin) = Some pair
pair_in (Expired key at) = None
pair_in (Cleared at) = None

-- the pair that the entry at a place of the journal merged
abbrev pub pair_at : List JournalEntry → ℕ → Option Pair
pair_at journal place = option_and_then pair_in (slice_get journal place)

-- a slot has this place, and no hash
abbrev pub lacks_hash : Option Slot → ℕ → Bool
lacks_hash None place = false
lacks_hash (Some slot) place = (slot.place == place) && is_none slot.hash

-- a key with what was merged at the place of its slot, and the hash of the value
abbrev pub row_in : List JournalEntry → List ℕ × Slot → Option (List ℕ × (KvValue × ℕ))
row_in journal slotted = option_map (λ held. (slotted.0, with_hash held)) (slot_reads journal slotted.1)

-- exactly the held keys with a lifetime have a deadline, and it is theirs
pub record AreDeadlinesOf (journal : List JournalEntry) (deadlines : List (List ℕ × ℕ)) : Type 0 where
  pub ordered : AreInKeyOrder deadlines
  pub same : (key : List ℕ) → deadline_in deadlines key ≡ deadline_of journal key

-- what a table with this journal keeps beside it
pub record IsKeptFor (journal : List JournalEntry) (slots : List (List ℕ × Slot)) (deadlines : List (List ℕ × ℕ)) : Type 0 where
  pub of_keys : AreSlotsOf journal slots
  pub of_lifetimes : AreDeadlinesOf journal deadlines

-- the deadline of a value that is merged at a moment
abbrev pub deadline_from : ℕ → Option ℕ → Option ℕ
deadline_from now ttl = option_map (λ lifetime. now + lifetime) ttl

-- the deadlines once the key's is this, or once it has none
abbrev pub deadlines_with : List (List ℕ × ℕ) → List ℕ → Option ℕ → List (List ℕ × ℕ)
deadlines_with deadlines key None = without_deadline deadlines key
deadlines_with deadlines key (Some deadline) = with_deadline deadlines key deadline

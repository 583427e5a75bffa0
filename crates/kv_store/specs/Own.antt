-- What a turn of a store writes under the keys that its node owns.
use Rattle.std.specs.Prelude.{ℕ, List, [], ◌∷◌, Option, Some, None, Bool, true, false, Result, Ok, Err, if◌then◌else◌}
use Rattle.std.specs.List.{list_any}
use Rattle.std.specs.Map.{keys_of}
use Rattle.std.specs.BTreeSet.{insert_key}
use Rattle.or_base.specs.declared.value.KvValue.{KvValue}
use Rattle.or_base.specs.declared.entry.JournalEntry.{JournalEntry}
use Rattle.or_base.specs.declared.entry.JournalEntry.TheVariants.{Merged, Expired, Cleared}
use Rattle.or_base.specs.declared.origin.Origin.TheVariants.{Own}
use Rattle.or_base.specs.Journal.{offer, holds}
use Rattle.or_base.specs.Order.{bytes_cmp}
use Rattle.kv_self.specs.declared.own.OwnValue.{OwnValue}
use Rattle.kv_self.specs.declared.fault.SelfFault.{SelfFault}
use Rattle.kv_self.specs.Owned.{own_under}
use Rattle.kv_self.specs.Change.{on_change}
use Rattle.kv_self.specs.Refresh.{refresh}

-- the keys that a node owns, in byte order, each with what is to stand under it
abbrev pub OwnedKeys : Type 0
OwnedKeys = List (List ℕ × OwnValue)

-- the journal after a value, if there is one, is offered under a key by the node itself
abbrev pub offer_own : List JournalEntry → List ℕ → ℕ → Option KvValue → List JournalEntry
offer_own journal key now None = journal
offer_own journal key now (Some value) = offer journal (record { key = key; value = value }) now Own

-- ---- lifetimes

-- what is held, with a lifetime that begins anew, where that is due
abbrev pub refresh_held : Option OwnValue → ℕ → Option (KvValue × ℕ) → Option KvValue
refresh_held own now None = None
refresh_held own now (Some held) = refresh own held now

-- the journal after the lifetimes under these keys that are due began anew
abbrev pub refresh_each : OwnedKeys → ℕ → List JournalEntry → List (List ℕ) → List JournalEntry
refresh_each owned now journal [] = journal
refresh_each owned now journal (key ∷ keys) =
    refresh_each owned now (offer_own journal key now (refresh_held (own_under owned key) now (holds journal key))) keys

-- ---- values

-- what a node offers; where it is outvoted, it offers nothing
abbrev pub offered_value : Result (Option KvValue) SelfFault → Option KvValue
offered_value (Ok value) = value
offered_value (Err fault) = None

-- the journal after a node wrote its own value under each of these keys that it owns and where another's value, or none, was held
abbrev pub write_each : List ℕ → OwnedKeys → ℕ → List JournalEntry → List (List ℕ) → List JournalEntry
write_each me owned now journal [] = journal
write_each me owned now journal (key ∷ keys) =
    write_each me owned now (offer_own journal key now (offered_value (on_change me (own_under owned key) (holds journal key)))) keys

-- these keys and those that the entries name, each once and in byte order
abbrev pub with_named_keys : List (List ℕ) → List JournalEntry → List (List ℕ)
with_named_keys keys [] = keys
with_named_keys keys (Merged pair at origin ∷ later) = with_named_keys (insert_key bytes_cmp keys pair.key) later
with_named_keys keys (Expired name at ∷ later) = with_named_keys (insert_key bytes_cmp keys name) later
with_named_keys keys (Cleared at ∷ later) = with_named_keys keys later

abbrev pub is_cleared : JournalEntry → Bool
is_cleared (Merged pair at origin) = false
is_cleared (Expired name at) = false
is_cleared (Cleared at) = true

-- The keys to look at after an item: those that were persisted and those that an entry of the turn names; after a clear all that
-- the node owns.
unfoldable pub keys_to_write : OwnedKeys → List (List ℕ) → List JournalEntry → List (List ℕ)
keys_to_write owned persisted entries = if list_any is_cleared entries then keys_of owned else with_named_keys persisted entries

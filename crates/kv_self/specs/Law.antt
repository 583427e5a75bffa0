-- What comes of the values that a node offers under its own keys.
use Rattle.std.specs.Prelude.{◌≡◌, ℕ, List, Option, Some, Ok, Bool, true, ◌&&◌, nat_le, length}
use Rattle.std.specs.Option.{option_map_or}
use Rattle.or_base.specs.declared.value.KvValue.{KvValue}
use Rattle.or_base.specs.declared.value.Pair.{Pair}
use Rattle.or_base.specs.declared.origin.Origin.{Origin}
use Rattle.or_base.specs.declared.entry.JournalEntry.{JournalEntry}
use Rattle.or_base.specs.Limits.{is_node_name, is_key, is_valid_pair, is_between, most_value_bytes, most_lifetime}
use Rattle.or_base.specs.Journal.{holds, exceeds, offer}
use Rattle.kv_self.specs.declared.own.OwnValue.{OwnValue}
use Rattle.kv_self.specs.Change.{stands, on_change}
use Rattle.kv_self.specs.Refresh.{refresh}

-- what is to stand under a key is within the limits of values
abbrev pub is_valid_own : OwnValue → Bool
is_valid_own own = nat_le (length own.value) most_value_bytes && option_map_or (is_between 1 most_lifetime) own.ttl true

-- a value under a key
abbrev pub pair_of : List ℕ → KvValue → Pair
pair_of key value = record { key = key; value = value }

-- A node with a valid name owns a valid key, and what is to stand there is within the limits.
pub record IsValidOwner (me key : List ℕ) (own : OwnValue) : Type 0 where
  pub valid_name : is_node_name me ≡ true
  pub valid_key : is_key key ≡ true
  pub valid_value : is_valid_own own ≡ true

-- What a change makes the node offer exceeds what is held, and is within the limits where the owner is. Once a store
-- with this journal is offered it, what is to stand under the key does.
pub record OwnOffersAreTaken : Type 0 where
  pub exceed : (me : List ℕ) (own : OwnValue) (held : Option (KvValue × ℕ)) (value : KvValue)
      → on_change me (Some own) held ≡ Ok (Some value) → exceeds value held ≡ true
  pub valid : (me key : List ℕ) (own : OwnValue) (held : Option (KvValue × ℕ)) (value : KvValue) → IsValidOwner me key own
      → on_change me (Some own) held ≡ Ok (Some value) → is_valid_pair (pair_of key value) ≡ true
  pub stand : (me key : List ℕ) (own : OwnValue) (journal : List JournalEntry) (value : KvValue) (now : ℕ) (origin : Origin) → IsValidOwner me key own
      → on_change me (Some own) (holds journal key) ≡ Ok (Some value) → stands me own (holds (offer journal (pair_of key value) now origin) key) ≡ true

-- A refreshed value exceeds what is held, and is within the limits where that and the new lifetime are. What stood,
-- stands still.
pub record RefreshesAreTaken : Type 0 where
  pub exceed : (own : OwnValue) (held : KvValue × ℕ) (now : ℕ) (value : KvValue) → refresh (Some own) held now ≡ Some value → exceeds value (Some held) ≡ true
  pub valid : (key : List ℕ) (own : OwnValue) (held : KvValue × ℕ) (now : ℕ) (value : KvValue) → is_valid_own own ≡ true
      → is_valid_pair (pair_of key held.0) ≡ true → refresh (Some own) held now ≡ Some value → is_valid_pair (pair_of key value) ≡ true
  pub stand : (me : List ℕ) (own : OwnValue) (held : KvValue × ℕ) (now : ℕ) (value : KvValue) → stands me own (Some held) ≡ true
      → refresh (Some own) held now ≡ Some value → stands me own (Some (value, now)) ≡ true

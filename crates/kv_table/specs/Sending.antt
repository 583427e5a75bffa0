-- What a table sends of keys, with the lifetime that is left.
use Rattle.std.specs.Prelude.{ℕ, List, [], ◌∷◌, Option, Some, None, Bool, true, false, filter, length}
use Rattle.std.specs.List.{flat_map}
use Rattle.or_base.specs.declared.value.KvValue.{KvValue}
use Rattle.or_base.specs.declared.value.Pair.{Pair}
use Rattle.or_base.specs.declared.entry.JournalEntry.{JournalEntry}
use Rattle.or_base.specs.Journal.{holds}
use Rattle.kv_value.specs.declared.sent.Sent.{Sent}
use Rattle.kv_value.specs.declared.sent.Sent.TheVariants.{Forever, Left, Withheld}
use Rattle.kv_value.specs.Sending.{sent_ttl}

-- the pair with the lifetime with which it is sent, if it is sent
abbrev pub pair_with : List ℕ → KvValue → Sent → List Pair
pair_with key value Forever = record { key = key; value = record value { ttl = None } } ∷ []
pair_with key value (Left ttl) = record { key = key; value = record value { ttl = Some ttl } } ∷ []
pair_with key value Withheld = []

-- what is sent of what is held
abbrev pub sent_of : List ℕ → Option (KvValue × ℕ) → ℕ → List Pair
sent_of key None now = []
sent_of key (Some held) now = pair_with key held.0 (sent_ttl held.0.ttl held.1 now)

-- what a table with this journal sends of keys at a moment, in the order of the keys
abbrev pub sent_pairs : List JournalEntry → ℕ → List (List ℕ) → List Pair
sent_pairs journal now keys = flat_map (λ key. sent_of key (holds journal key) now) keys

abbrev pub is_withheld : Sent → Bool
is_withheld Forever = false
is_withheld (Left ttl) = false
is_withheld Withheld = true

-- something is held, and its lifetime is too short for it to be sent
abbrev pub withholds : Option (KvValue × ℕ) → ℕ → Bool
withholds None now = false
withholds (Some held) now = is_withheld (sent_ttl held.0.ttl held.1 now)

-- how many of the keys are held and not sent
unfoldable pub withheld_count : List JournalEntry → ℕ → List (List ℕ) → ℕ
withheld_count journal now keys = length (filter (λ key. withholds (holds journal key) now) keys)

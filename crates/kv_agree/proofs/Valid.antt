-- The pairs that an orderly store sends in full syncs are within the limits.
use Rattle.std.proofs.Common.{◌≡◌, ℕ, ◌-◌, ◌<◌, ◌≤◌, List, [], ◌∷◌, length, Bool, true, false, ◌&&◌, Option, Some, None, IfSome, refl, subst, reverse, arith}
use Rattle.std.specs.Prelude.{nat_le}
use Rattle.std.specs.Str.{bytes_eq}
use Rattle.std.specs.Option.{option_map_or}
use Rattle.std.specs.List.{AllByRecursion}
use Rattle.std.proofs.lemmas.Bool.{and_parts, and_from, cond_both, leb-true, leb-false, le-leb}
use Rattle.std.proofs.lemmas.List.Elements.{All-from_recursion, recursion_from_All}
use Rattle.std.proofs.lemmas.Slice.Eq.{bytes_eq-Decides}
use Rattle.or_base.specs.declared.value.KvValue.{KvValue}
use Rattle.or_base.specs.declared.value.Pair.{Pair}
use Rattle.or_base.specs.declared.entry.JournalEntry.{JournalEntry}
use Rattle.or_base.specs.declared.entry.JournalEntry.TheVariants.{Merged, Expired, Cleared}
use Rattle.or_base.specs.Counting.{saturate}
use Rattle.or_base.specs.Limits.{most_value_bytes, most_version, most_ttl_version, most_lifetime, is_between, is_node_name, is_key, is_valid_value, is_valid_pair}
use Rattle.or_base.specs.Journal.{latest, holds}
use Rattle.kv_value.specs.declared.sent.Sent.TheVariants.{Left, Withheld}
use Rattle.kv_value.specs.Sending.{lifetime_left, sent_ttl}
use Rattle.kv_table.specs.Sending.{pair_with, sent_of, sent_pairs}
use Rattle.kv_agree.specs.Exchange.{IsMadeFrom}
use Rattle.kv_agree.specs.Orderly.{IsBy, AreValid}
use Rattle.kv_agree.proofs.Lists.{all_joined, all_reversed}
use Rattle.kv_agree.proofs.Orderly.{IsOrderlyAt}

-- ---- what is held

-- a value under a key
abbrev pair_of : List ℕ → KvValue → Pair
pair_of key v = record { key = key; value = v }

-- what is held under a key, if something is, is within the limits and was merged at the moment or before it
abbrev IsSoundAt : ℕ → List ℕ → Option (KvValue × ℕ) → Type 0
IsSoundAt moment key held = IfSome held (λ h. (is_valid_pair (pair_of key h.0) ≡ true) × (h.1 ≤ moment))

latest_sound : (moment : ℕ) (key : List ℕ) (entries : List JournalEntry) → IsMadeFrom entries → AllByRecursion (IsBy moment) entries → IsSoundAt moment key (latest entries key)
latest_sound moment key [] made by = tt
latest_sound moment key (Merged pair at origin ∷ older) made by =
    cond_both (bytes_eq pair.key key) (Some (pair.value, at)) (latest older key) (IsSoundAt moment key)
    (λ named. (subst (λ k. is_valid_pair (pair_of k pair.value) ≡ true) ((bytes_eq-Decides pair.key key).0 named) made.0, by.0))
    (λ other. latest_sound moment key older made.2 by.1)
latest_sound moment key (Expired name at ∷ older) made by =
    cond_both (bytes_eq name key) None (latest older key) (IsSoundAt moment key) (λ named. tt) (λ other. latest_sound moment key older made by.1)
latest_sound moment key (Cleared at ∷ older) made by = tt

held_sound : (moment : ℕ) (key : List ℕ) (journal : List JournalEntry) → IsOrderlyAt moment journal → IsSoundAt moment key (holds journal key)
held_sound moment key journal orderly =
    latest_sound moment key (reverse journal) orderly.0
    (recursion_from_All (IsBy moment) (reverse journal) (all_reversed (IsBy moment) journal (All-from_recursion (IsBy moment) journal orderly.1)))

-- ---- lifetimes

abbrev is_lifetime : Option ℕ → Bool
is_lifetime ttl = option_map_or (is_between 1 most_lifetime) ttl true

-- the four tests of a pair: the key, the value up to its lifetime, the lifetime, and the rest
four_parts : (key front ttl back : Bool) → (key && (front && ttl && back)) ≡ true → (key ≡ true) × (front ≡ true) × (ttl ≡ true) × (back ≡ true)
four_parts key front ttl back valid =
    let value = and_parts key (front && ttl && back) valid in
    let rest = and_parts (front && ttl) back value.1 in
    let first = and_parts front ttl rest.0 in
    (value.0, first.0, first.1, rest.1)

from_four : (key front ttl back : Bool) → key ≡ true → front ≡ true → ttl ≡ true → back ≡ true → (key && (front && ttl && back)) ≡ true
from_four key front ttl back k f t b = and_from key (front && ttl && back) k (and_from (front && ttl) back (and_from front ttl f t) b)

abbrev is_front_valid : KvValue → Bool
is_front_valid v = is_node_name v.originator && nat_le (length v.value) most_value_bytes && is_between 1 most_version v.version

lifetime_within : (key : List ℕ) (v : KvValue) → is_valid_pair (pair_of key v) ≡ true → is_lifetime v.ttl ≡ true
unfolding is_valid_pair is_valid_value
lifetime_within key v valid = (four_parts (is_key key) (is_front_valid v) (is_lifetime v.ttl) (nat_le v.ttl_version most_ttl_version) valid).2

valid_with_lifetime : (key : List ℕ) (v : KvValue) (ttl : Option ℕ) → is_lifetime ttl ≡ true → is_valid_pair (pair_of key v) ≡ true → is_valid_pair (pair_of key (record v { ttl = ttl })) ≡ true
unfolding is_valid_pair is_valid_value
valid_with_lifetime key v ttl within valid =
    let rest = nat_le v.ttl_version most_ttl_version in
    let parts = four_parts (is_key key) (is_front_valid v) (is_lifetime v.ttl) rest valid in
    from_four (is_key key) (is_front_valid v) (is_lifetime ttl) rest parts.0 parts.1 within parts.3

-- what is left of a lifetime that began at the moment or before it is no longer than the lifetime
left_within : (ttl at moment : ℕ) → is_between 1 most_lifetime ttl ≡ true → at ≤ moment → nat_le (lifetime_left ttl at moment) 1 ≡ false
    → is_between 1 most_lifetime (saturate (lifetime_left ttl at moment - 1)) ≡ true
left_within ttl at moment within before long =
    let most = leb-true ttl most_lifetime (and_parts (nat_le 1 ttl) (nat_le ttl most_lifetime) within).1 in
    let least : 1 < lifetime_left ttl at moment = leb-false (lifetime_left ttl at moment) 1 long in
    let sent = saturate (lifetime_left ttl at moment - 1) in
    and_from (nat_le 1 sent) (nat_le sent most_lifetime) (le-leb 1 sent (omega (arith, least))) (le-leb sent most_lifetime (omega (arith, most, before)))

-- ---- what is sent

valid_value : (key : List ℕ) (v : KvValue) (ttl : Option ℕ) (at moment : ℕ) → is_lifetime ttl ≡ true → at ≤ moment → is_valid_pair (pair_of key v) ≡ true
    → AreValid (pair_with key v (sent_ttl ttl at moment))
unfolding sent_ttl
valid_value key v None at moment within before valid = (valid_with_lifetime key v None refl valid, tt)
valid_value key v (Some ttl) at moment within before valid =
    let left = saturate (lifetime_left ttl at moment - 1) in
    cond_both (nat_le (lifetime_left ttl at moment) 1) Withheld (Left left) (λ sent. AreValid (pair_with key v sent))
    (λ short. tt)
    (λ long. (valid_with_lifetime key v (Some left) (left_within ttl at moment within before long) valid, tt))

valid_of : (key : List ℕ) (held : Option (KvValue × ℕ)) (moment : ℕ) → IsSoundAt moment key held → AreValid (sent_of key held moment)
valid_of key None moment sound = tt
valid_of key (Some held) moment sound = valid_value key held.0 held.0.ttl held.1 moment (lifetime_within key held.0 sound.0) sound.1 sound.0

pub sent_are_valid : (moment : ℕ) (journal : List JournalEntry) (keys : List (List ℕ)) → IsOrderlyAt moment journal → AreValid (sent_pairs journal moment keys)
sent_are_valid moment journal [] orderly = tt
sent_are_valid moment journal (key ∷ keys) orderly =
    all_joined (λ pair. is_valid_pair pair ≡ true) (sent_of key (holds journal key) moment) (sent_pairs journal moment keys)
    (valid_of key (holds journal key) moment (held_sound moment key journal orderly)) (sent_are_valid moment journal keys orderly)

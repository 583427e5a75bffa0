-- What a node offers under its own keys is taken.
use Rattle.std.proofs.Common.{◌≡◌, ℕ, ◌+◌, ◌<◌, ◌≤◌, List, [], ◌∷◌, ◌++◌, Bool, true, false, ◌&&◌, if◌then◌else◌, Option, Some, None, Ok, Err, refl, sym, ◌∙◌, ap, reverse, length, arith, nat_le, nat_lt}
use Rattle.std.specs.Prelude.{is_some}
use Rattle.std.specs.Str.{bytes_eq}
use Rattle.std.specs.Option.{option_map_or}
use Rattle.std.specs.Ordering.{is_lt, nat_cmp, ordering_then}
use Rattle.std.specs.declared.cmp.Ordering.TheVariants.{Less, Equal}
use Rattle.std.specs.Cmp.{nat_cmp_is}
use Rattle.std.proofs.lemmas.Bool.{and_parts, and_from, le-leb, leb-false, ltb-true}
use Rattle.std.proofs.lemmas.Cmp.{nat_list_cmp_total, tied_itself}
use Rattle.std.proofs.lemmas.Slice.Eq.{bytes_eq-Decides}
use Rattle.or_base.specs.declared.value.KvValue.{KvValue}
use Rattle.or_base.specs.declared.origin.Origin.{Origin}
use Rattle.or_base.specs.declared.entry.JournalEntry.{JournalEntry}
use Rattle.or_base.specs.declared.entry.JournalEntry.TheVariants.{Merged}
use Rattle.or_base.specs.Limits.{is_valid_value, is_valid_pair, is_between, most_value_bytes, most_version, most_lifetime, most_ttl_version}
use Rattle.or_base.specs.Order.{bytes_cmp, value_cmp, is_below}
use Rattle.or_base.specs.Journal.{latest, holds, exceeds, is_taken, offer}
use Rattle.or_base.proofs.Offers.{holds_push}
use Rattle.kv_self.specs.declared.own.OwnValue.{OwnValue}
use Rattle.kv_self.specs.declared.fault.SelfFault.TheVariants.{Outvoted}
use Rattle.kv_self.specs.Change.{is_own, stands, held_version, is_outvoted, own_offer, on_change}
use Rattle.kv_self.specs.Refresh.{is_due, is_quarter_over, with_new_lifetime, refresh}
use Rattle.kv_self.specs.Law.{is_valid_own, pair_of, IsValidOwner, OwnOffersAreTaken, RefreshesAreTaken}

-- ---- what is offered

offered_if : (standing outvoted : Bool) (version : ℕ) (value offered : KvValue)
    → (if standing then Ok None else (if outvoted then Err (Outvoted version) else Ok (Some value))) ≡ Ok (Some offered)
    → (outvoted ≡ false) × (offered ≡ value)
offered_if true outvoted version value offered e = absurd cc
offered_if false true version value offered e = absurd cc
offered_if false false version value offered e = (refl, cc)

offered : (me : List ℕ) (own : OwnValue) (held : Option (KvValue × ℕ)) (value : KvValue) → on_change me (Some own) held ≡ Ok (Some value)
    → (is_outvoted held ≡ false) × (value ≡ own_offer me own (held_version held))
offered me own held value e =
    offered_if (stands me own held) (is_outvoted held) (held_version held) (own_offer me own (held_version held)) value e

less_by_one : (n : ℕ) → nat_cmp n (n + 1) ≡ Less
less_by_one n = sym (nat_cmp_is n (n + 1) Less (omega arith))

-- a value with the next version exceeds what is held
next_exceeds : (value : KvValue) (held : Option (KvValue × ℕ)) → value.version ≡ held_version held + 1 → exceeds value held ≡ true
unfolding value_cmp
next_exceeds value None e = refl
next_exceeds value (Some h) e =
    ap (λ o. is_lt (ordering_then o (ordering_then (bytes_cmp h.0.originator value.originator) (ordering_then (bytes_cmp h.0.value value.value) (nat_cmp h.0.ttl_version value.ttl_version)))))
    (ap (nat_cmp h.0.version) e ∙ less_by_one h.0.version)

offers_exceed : (me : List ℕ) (own : OwnValue) (held : Option (KvValue × ℕ)) (value : KvValue)
    → on_change me (Some own) held ≡ Ok (Some value) → exceeds value held ≡ true
offers_exceed me own held value e = next_exceeds value held (ap (λ v. v.version) (offered me own held value e).1)

-- ---- it is within the limits

between : (low high n : ℕ) → low ≤ n → n ≤ high → is_between low high n ≡ true
between low high n from to = and_from (nat_le low n) (nat_le n high) (le-leb low n from) (le-leb n high to)

valid_offer : (me key : List ℕ) (own : OwnValue) (version : ℕ) → IsValidOwner me key own → is_between 1 most_version (version + 1) ≡ true
    → is_valid_pair (pair_of key (own_offer me own version)) ≡ true
unfolding is_valid_pair is_valid_value
valid_offer me key own version o within =
    let parts = and_parts (nat_le (length own.value) most_value_bytes) (option_map_or (is_between 1 most_lifetime) own.ttl true) o.valid_value in
    and_from _ _ o.valid_key (and_from _ _ (and_from _ _ (and_from _ _ (and_from _ _ o.valid_name parts.0) within) parts.1) refl)

offers_valid : (me key : List ℕ) (own : OwnValue) (held : Option (KvValue × ℕ)) (value : KvValue) → IsValidOwner me key own
    → on_change me (Some own) held ≡ Ok (Some value) → is_valid_pair (pair_of key value) ≡ true
offers_valid me key own held value o e =
    let made = offered me own held value e in
    let below : held_version held < most_version = leb-false most_version (held_version held) made.0 in
    ap (λ v. is_valid_pair (pair_of key v)) made.1
    ∙ valid_offer me key own (held_version held) o (between 1 most_version (held_version held + 1) (omega arith) (omega arith))

-- ---- and then it stands

offer_if : (taken : Bool) (journal : List JournalEntry) (entry : JournalEntry) → taken ≡ true → (if taken then journal ++ entry ∷ [] else journal) ≡ journal ++ entry ∷ []
offer_if true journal entry e = refl
offer_if false journal entry e = absurd cc

-- a pair that is taken is held
held_if_taken : (journal : List JournalEntry) (key : List ℕ) (value : KvValue) (now : ℕ) (origin : Origin) → is_taken journal (pair_of key value) ≡ true
    → holds (offer journal (pair_of key value) now origin) key ≡ Some (value, now)
held_if_taken journal key value now origin e =
    let entry : JournalEntry = Merged (pair_of key value) now origin in
    ap (λ j. holds j key) (offer_if (is_taken journal (pair_of key value)) journal entry e) ∙ holds_push journal entry key
    ∙ ap (λ test. if test then Some (value, now) else latest (reverse journal) key) ((bytes_eq-Decides key key).1 refl)

own_stands : (me : List ℕ) (own : OwnValue) (version : ℕ) → is_own me own (own_offer me own version) ≡ true
own_stands me own version = and_from (bytes_eq me me) (bytes_eq own.value own.value) ((bytes_eq-Decides me me).1 refl) ((bytes_eq-Decides own.value own.value).1 refl)

offers_stand : (me key : List ℕ) (own : OwnValue) (journal : List JournalEntry) (value : KvValue) (now : ℕ) (origin : Origin) → IsValidOwner me key own
    → on_change me (Some own) (holds journal key) ≡ Ok (Some value) → stands me own (holds (offer journal (pair_of key value) now origin) key) ≡ true
offers_stand me key own journal value now origin o e =
    let taken : is_taken journal (pair_of key value) ≡ true =
    and_from (is_valid_pair (pair_of key value)) (exceeds value (holds journal key)) (offers_valid me key own (holds journal key) value o e) (offers_exceed me own (holds journal key) value e) in
    ap (stands me own) (held_if_taken journal key value now origin taken)
    ∙ ap (is_own me own) (offered me own (holds journal key) value e).1 ∙ own_stands me own (held_version (holds journal key))

pub own_offers_are_taken : OwnOffersAreTaken
own_offers_are_taken = record { exceed = offers_exceed; valid = offers_valid; stand = offers_stand }

-- ---- what is refreshed

refreshed_if : (due : Bool) (again value : KvValue) → (if due then Some again else None) ≡ Some value → (due ≡ true) × (value ≡ again)
refreshed_if true again value e = (refl, cc)
refreshed_if false again value e = absurd cc

refreshed : (own : OwnValue) (held : KvValue × ℕ) (now : ℕ) (value : KvValue) → refresh (Some own) held now ≡ Some value
    → (is_some own.ttl && is_due held now ≡ true) × (value ≡ with_new_lifetime held.0 own.ttl)
refreshed own held now value e = refreshed_if (is_some own.ttl && is_due held now) (with_new_lifetime held.0 own.ttl) value e

equal_to_itself : (n : ℕ) → nat_cmp n n ≡ Equal
equal_to_itself n = sym (nat_cmp_is n n Equal refl)

-- a value with the next TTL version, and else the same, exceeds it
new_lifetime_exceeds : (value : KvValue) (ttl : Option ℕ) → is_below value (with_new_lifetime value ttl) ≡ true
unfolding value_cmp
new_lifetime_exceeds value ttl =
    let by : ordering_then (nat_cmp value.version value.version)
    (ordering_then (bytes_cmp value.originator value.originator)
    (ordering_then (bytes_cmp value.value value.value) (nat_cmp value.ttl_version (value.ttl_version + 1)))) ≡ Less =
    simp (equal_to_itself, tied_itself nat_list_cmp_total, less_by_one) in
    ap is_lt by

refreshes_exceed : (own : OwnValue) (held : KvValue × ℕ) (now : ℕ) (value : KvValue) → refresh (Some own) held now ≡ Some value → exceeds value (Some held) ≡ true
refreshes_exceed own held now value e =
    ap (λ v. is_below held.0 v) (refreshed own held now value e).1 ∙ new_lifetime_exceeds held.0 own.ttl

valid_again : (key : List ℕ) (own : OwnValue) (value : KvValue) → is_valid_own own ≡ true → is_valid_pair (pair_of key value) ≡ true → value.ttl_version < most_ttl_version
    → is_valid_pair (pair_of key (with_new_lifetime value own.ttl)) ≡ true
unfolding is_valid_pair is_valid_value
valid_again key own value valid before below =
    let pair = and_parts _ _ before in
    let upto_ttl_version = and_parts _ _ pair.1 in
    let upto_ttl = and_parts _ _ upto_ttl_version.0 in
    let lifetime = and_parts (nat_le (length own.value) most_value_bytes) (option_map_or (is_between 1 most_lifetime) own.ttl true) valid in
    and_from _ _ pair.0 (and_from _ _ (and_from _ _ upto_ttl.0 lifetime.1) (le-leb (value.ttl_version + 1) most_ttl_version (omega arith)))

refreshes_valid : (key : List ℕ) (own : OwnValue) (held : KvValue × ℕ) (now : ℕ) (value : KvValue) → is_valid_own own ≡ true
    → is_valid_pair (pair_of key held.0) ≡ true → refresh (Some own) held now ≡ Some value → is_valid_pair (pair_of key value) ≡ true
refreshes_valid key own held now value valid before e =
    let made = refreshed own held now value e in
    let due = and_parts (is_some own.ttl) (is_due held now) made.0 in
    let parts = and_parts (option_map_or (λ ttl. is_quarter_over ttl held.1 now) held.0.ttl false) (nat_lt held.0.ttl_version most_ttl_version) due.1 in
    ap (λ v. is_valid_pair (pair_of key v)) made.1 ∙ valid_again key own held.0 valid before (ltb-true held.0.ttl_version most_ttl_version parts.1)

refreshes_stand : (me : List ℕ) (own : OwnValue) (held : KvValue × ℕ) (now : ℕ) (value : KvValue) → stands me own (Some held) ≡ true
    → refresh (Some own) held now ≡ Some value → stands me own (Some (value, now)) ≡ true
refreshes_stand me own held now value stood e = ap (is_own me own) (refreshed own held now value e).1 ∙ stood

pub refreshes_are_taken : RefreshesAreTaken
refreshes_are_taken = record { exceed = refreshes_exceed; valid = refreshes_valid; stand = refreshes_stand }

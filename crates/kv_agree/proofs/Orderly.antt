-- A store's journal stays orderly: what a turn appends are offers, expiries and restarts, at the store's moment.
use Rattle.std.proofs.Common.{ℕ, ◌≤◌, List, [], ◌∷◌, ◌++◌, reverse, map, Bool, true, false, Option, Some, None, Result, Ok, Err, if◌then◌else◌, refl, sym, subst, append_assoc, arith}
use Rattle.std.specs.List.{AllByRecursion}
use Rattle.std.specs.Map.{keys_of}
use Rattle.std.proofs.lemmas.Bool.{and_parts, cond_both}
use Rattle.std.proofs.lemmas.List.{append-nil, reverse-append}
use Rattle.or_base.specs.declared.value.KvValue.{KvValue}
use Rattle.or_base.specs.declared.value.Pair.{Pair}
use Rattle.or_base.specs.declared.origin.Origin.{Origin}
use Rattle.or_base.specs.declared.origin.Origin.TheVariants as origin
use Rattle.or_base.specs.declared.entry.JournalEntry.{JournalEntry}
use Rattle.or_base.specs.declared.entry.JournalEntry.TheVariants.{Merged, Expired, Cleared}
use Rattle.or_base.specs.declared.message.Msg.{Msg}
use Rattle.or_base.specs.declared.message.Msg.TheVariants.{Flood, Reply, Push, Ack}
use Rattle.or_base.specs.declared.item.Item.{Item}
use Rattle.or_base.specs.declared.item.Item.TheVariants.{Tick, Set, Restart, Net}
use Rattle.or_base.specs.Limits.{is_valid_pair}
use Rattle.or_base.specs.Names.{is_among}
use Rattle.or_base.specs.Journal.{holds, exceeds, is_taken, offer}
use Rattle.kv_table.specs.Expiry.{keys_lost}
use Rattle.kv_sync.specs.declared.session.Session.{Session}
use Rattle.kv_sync.specs.declared.session.Stale.{Stale}
use Rattle.kv_sync.specs.declared.session.SyncPhase.TheVariants.{Dumped, Pushed}
use Rattle.kv_sync.specs.Sessions.{current}
use Rattle.kv_store.specs.Own.{OwnedKeys, offer_own, refresh_each, write_each, keys_to_write}
use Rattle.kv_store.specs.Store.{StoreState, offer_all, store_after_offers, store_after_reply, store_after_ack, message_change, item_change, persisted_by, entries_since, store_after_item, store_step}
use Rattle.kv_agree.specs.Exchange.{IsMadeFrom, IsMade}
use Rattle.kv_agree.specs.Orderly.{IsBy, IsOrderly, IsNotBefore}
use Rattle.kv_agree.proofs.Lists.{all_joined, all_wider}

-- a journal is made of offers, expiries and restarts, none of them later than the moment
abbrev pub IsOrderlyAt : ℕ → List JournalEntry → Type 0
IsOrderlyAt moment journal = IsMade journal × AllByRecursion (IsBy moment) journal

-- ---- one entry more

orderly_with : (moment : ℕ) (journal : List JournalEntry) (entry : JournalEntry) → IsMadeFrom (entry ∷ reverse journal) → IsBy moment entry → IsOrderlyAt moment journal
    → IsOrderlyAt moment (journal ++ entry ∷ [])
orderly_with moment journal entry made by orderly =
    (subst IsMadeFrom (sym (reverse-append journal (entry ∷ []))) made, all_joined (IsBy moment) journal (entry ∷ []) orderly.1 (by, tt))

orderly_expired : (moment : ℕ) (journal : List JournalEntry) (keys : List (List ℕ)) → IsOrderlyAt moment journal → IsOrderlyAt moment (journal ++ map (λ key. Expired key moment) keys)
orderly_expired moment journal [] orderly = subst (IsOrderlyAt moment) (sym (append-nil journal)) orderly
orderly_expired moment journal (key ∷ keys) orderly =
    subst (IsOrderlyAt moment) (append_assoc journal (Expired key moment ∷ []) (map (λ k. Expired k moment) keys))
    (orderly_expired moment (journal ++ Expired key moment ∷ []) keys (orderly_with moment journal (Expired key moment) orderly.0 (omega arith) orderly))

by_later : (first later : ℕ) → first ≤ later → (entry : JournalEntry) → IsBy first entry → IsBy later entry
by_later first later after (Merged pair at origin) by = omega (arith, after, by)
by_later first later after (Expired key at) by = omega (arith, after, by)
by_later first later after (Cleared at) by = omega (arith, after, by)

orderly_later : (first later : ℕ) (journal : List JournalEntry) → first ≤ later → IsOrderlyAt first journal → IsOrderlyAt later journal
orderly_later first later journal after orderly = (orderly.0, all_wider (IsBy first) (IsBy later) (by_later first later after) journal orderly.1)

-- ---- offers

orderly_offer : (moment : ℕ) (journal : List JournalEntry) (pair : Pair) (origin : Origin) → IsOrderlyAt moment journal → IsOrderlyAt moment (offer journal pair moment origin)
orderly_offer moment journal pair origin orderly =
    cond_both (is_taken journal pair) (journal ++ Merged pair moment origin ∷ []) journal (IsOrderlyAt moment)
    (λ taken.
    let tests = and_parts (is_valid_pair pair) (exceeds pair.value (holds journal pair.key)) taken in
    orderly_with moment journal (Merged pair moment origin) (tests.0, tests.1, orderly.0) (omega arith) orderly)
    (λ refused. orderly)

orderly_offers : (moment : ℕ) (journal : List JournalEntry) (pairs : List Pair) (origin : Origin) → IsOrderlyAt moment journal → IsOrderlyAt moment (offer_all journal pairs moment origin)
orderly_offers moment journal [] origin orderly = orderly
orderly_offers moment journal (pair ∷ pairs) origin orderly =
    orderly_offers moment (offer journal pair moment origin) pairs origin (orderly_offer moment journal pair origin orderly)

-- what a node offers under its own keys
orderly_own : (moment : ℕ) (journal : List JournalEntry) (key : List ℕ) (value : Option KvValue) → IsOrderlyAt moment journal → IsOrderlyAt moment (offer_own journal key moment value)
orderly_own moment journal key None orderly = orderly
orderly_own moment journal key (Some value) orderly = orderly_offer moment journal (record { key = key; value = value }) origin.Own orderly

orderly_refreshed : (owned : OwnedKeys) (moment : ℕ) (keys : List (List ℕ)) (journal : List JournalEntry) → IsOrderlyAt moment journal
    → IsOrderlyAt moment (refresh_each owned moment journal keys)
orderly_refreshed owned moment [] journal orderly = orderly
orderly_refreshed owned moment (key ∷ keys) journal orderly = orderly_refreshed owned moment keys _ (orderly_own moment journal key _ orderly)

orderly_written : (me : List ℕ) (owned : OwnedKeys) (moment : ℕ) (keys : List (List ℕ)) (journal : List JournalEntry) → IsOrderlyAt moment journal
    → IsOrderlyAt moment (write_each me owned moment journal keys)
orderly_written me owned moment [] journal orderly = orderly
orderly_written me owned moment (key ∷ keys) journal orderly = orderly_written me owned moment keys _ (orderly_own moment journal key _ orderly)

-- ---- a turn

-- the journal of a store is orderly at its moment
abbrev pub HasOrderly : StoreState → Type 0
HasOrderly s = IsOrderlyAt s.moment s.journal

flood_orderly : (s : StoreState) (test : Bool) (pairs : List Pair) → HasOrderly s → HasOrderly (if test then s else store_after_offers s pairs origin.Flood)
flood_orderly s true pairs orderly = orderly
flood_orderly s false pairs orderly = orderly_offers s.moment s.journal pairs origin.Flood orderly

reply_orderly : (s : StoreState) (link b0 : ℕ) (pairs : List Pair) (withheld : ℕ) (running : Result Session Stale) → HasOrderly s
    → HasOrderly (store_after_reply s link b0 pairs withheld running)
reply_orderly s link b0 pairs withheld (Ok session) orderly = orderly_offers s.moment s.journal pairs origin.SyncReply orderly
reply_orderly s link b0 pairs withheld (Err stale) orderly = orderly

ack_orderly : (s : StoreState) (link : ℕ) (running : Result Session Stale) → HasOrderly s → HasOrderly (store_after_ack s link running)
ack_orderly s link (Ok session) orderly = orderly
ack_orderly s link (Err stale) orderly = orderly

message_orderly : (s : StoreState) (link : ℕ) (from : List ℕ) (msg : Msg) → HasOrderly s → HasOrderly (message_change s link from msg).store
message_orderly s link from (Flood passed pairs) orderly = flood_orderly s (is_among s.me passed) pairs orderly
message_orderly s link from (Reply session b0 pairs wanted withheld) orderly = reply_orderly s link b0 pairs withheld (current s.sessions link session Dumped) orderly
message_orderly s link from (Push session pairs) orderly = orderly_offers s.moment s.journal pairs origin.SyncPush orderly
message_orderly s link from (Ack session) orderly = ack_orderly s link (current s.sessions link session Pushed) orderly
message_orderly s link from _ orderly = orderly

item_orderly : (s : StoreState) (item : Item) → IsNotBefore s.moment item → HasOrderly s → HasOrderly (item_change s item).store
unfolding item_change
item_orderly s (Tick at) after orderly =
    let refreshed = refresh_each s.owned at s.journal (keys_of s.owned) in
    orderly_expired at refreshed (keys_lost refreshed at)
    (orderly_refreshed s.owned at (keys_of s.owned) s.journal (orderly_later s.moment at s.journal (after at refl) orderly))
item_orderly s (Set pair) after orderly = orderly_offer s.moment s.journal pair origin.Local orderly
item_orderly s Restart after orderly = orderly_with s.moment s.journal (Cleared s.moment) orderly.0 (omega arith) orderly
item_orderly s (Net link from msg) after orderly = message_orderly s link from msg orderly
item_orderly s _ after orderly = orderly

-- an item, and what the node writes then
pub after_item_orderly : (s : StoreState) (item : Item) → IsNotBefore s.moment item → IsOrderly s → HasOrderly (store_after_item s item)
after_item_orderly s item after orderly =
    let t = (item_change s item).store in
    orderly_written t.me t.owned t.moment (keys_to_write t.owned (persisted_by item) (entries_since s t)) t.journal
    (item_orderly s item after (orderly.made, orderly.timely))

pub turn_orderly : (s : StoreState) (item : Item) → IsNotBefore s.moment item → IsOrderly s → IsOrderly (store_step s item).0
unfolding store_step
turn_orderly s item after orderly = let left = after_item_orderly s item after orderly in record { made = left.0; timely = left.1 }

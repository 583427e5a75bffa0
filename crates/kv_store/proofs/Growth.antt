-- A journal only grows.
use Rattle.std.proofs.Common.{ℕ, ◌≤◌, List, [], ◌∷◌, ◌++◌, length, Bool, true, false, Option, Some, None, Result, Ok, Err, if◌then◌else◌, refl, sym, ap, ◌∙◌, append_assoc, arith, length-append, map}
use Rattle.std.specs.Map.{keys_of}
use Rattle.std.proofs.lemmas.List.{append-nil}
use Rattle.or_base.specs.declared.entry.JournalEntry.{JournalEntry}
use Rattle.or_base.specs.declared.value.Pair.{Pair}
use Rattle.or_base.specs.declared.origin.Origin.{Origin}
use Rattle.or_base.specs.declared.entry.JournalEntry.TheVariants.{Merged, Expired, Cleared}
use Rattle.or_base.specs.declared.origin.Origin.TheVariants as origin
use Rattle.or_base.specs.declared.message.Msg.{Msg}
use Rattle.or_base.specs.declared.message.Msg.TheVariants.{Flood, Reply, Push, Ack}
use Rattle.or_base.specs.declared.item.Item.{Item}
use Rattle.or_base.specs.declared.item.Item.TheVariants.{Tick, Set, Restart, Net}
use Rattle.or_base.specs.declared.value.KvValue.{KvValue}
use Rattle.or_base.specs.Journal.{offer, is_taken, holds}
use Rattle.kv_table.specs.Expiry.{keys_lost, expire}
use Rattle.or_base.specs.Names.{is_among}
use Rattle.kv_sync.specs.declared.session.Session.{Session}
use Rattle.kv_sync.specs.declared.session.Stale.{Stale}
use Rattle.kv_sync.specs.declared.session.SyncPhase.TheVariants.{Dumped, Pushed}
use Rattle.kv_sync.specs.Sessions.{current}
use Rattle.kv_self.specs.Owned.{own_under}
use Rattle.kv_self.specs.Change.{on_change}
use Rattle.kv_store.specs.Own.{OwnedKeys, offer_own, refresh_held, refresh_each, offered_value, write_each, keys_to_write}
use Rattle.kv_store.specs.Store.{StoreState, offer_all, store_after_reply, store_after_ack, message_change, item_change, persisted_by, entries_since, store_after_item, store_step}
use Rattle.kv_store.specs.Growth.{IsFront, JournalsGrow}

-- a list is the front of itself, and of itself with more; a front of a front is a front
pub front_same : {X : Type 0} (xs : List X) → IsFront xs xs
front_same xs = record { more = []; is = sym (append-nil xs) }

pub front_with : {X : Type 0} (xs more : List X) → IsFront xs (xs ++ more)
front_with xs more = record { more = more; is = refl }

pub front_then : {X : Type 0} (first second third : List X) → IsFront first second → IsFront second third → IsFront first third
front_then first second third f g = record {
  more = f.more ++ g.more;
  is = g.is ∙ ap (λ xs. xs ++ g.more) f.is ∙ append_assoc first f.more g.more;
}

front_if : {X : Type 0} (test : Bool) (first second : List X) → IsFront first second → IsFront first (if test then second else first)
front_if true first second f = f
front_if false first second f = front_same first

-- it is no longer than the other
pub front_shorter : {X : Type 0} (front whole : List X) → IsFront front whole → length front ≤ length whole
front_shorter front whole f = omega (arith, ap length f.is, length-append front f.more)

offer_grows : (journal : List JournalEntry) (pair : Pair) (now : ℕ) (origin : Origin) → IsFront journal (offer journal pair now origin)
offer_grows journal pair now origin =
    front_if (is_taken journal pair) journal (journal ++ Merged pair now origin ∷ []) (front_with journal (Merged pair now origin ∷ []))

offers_grow : (journal : List JournalEntry) (pairs : List Pair) (now : ℕ) (origin : Origin) → IsFront journal (offer_all journal pairs now origin)
offers_grow journal [] now origin = front_same journal
offers_grow journal (pair ∷ pairs) now origin =
    front_then journal (offer journal pair now origin) (offer_all (offer journal pair now origin) pairs now origin)
    (offer_grows journal pair now origin) (offers_grow (offer journal pair now origin) pairs now origin)

-- what a node offers under its own keys
own_grows : (journal : List JournalEntry) (key : List ℕ) (now : ℕ) (value : Option KvValue) → IsFront journal (offer_own journal key now value)
own_grows journal key now None = front_same journal
own_grows journal key now (Some value) = offer_grows journal (record { key = key; value = value }) now origin.Own

refresh_grows : (owned : OwnedKeys) (now : ℕ) (journal : List JournalEntry) (keys : List (List ℕ)) → IsFront journal (refresh_each owned now journal keys)
refresh_grows owned now journal [] = front_same journal
refresh_grows owned now journal (key ∷ keys) =
    let value = refresh_held (own_under owned key) now (holds journal key) in
    front_then journal (offer_own journal key now value) (refresh_each owned now (offer_own journal key now value) keys)
    (own_grows journal key now value) (refresh_grows owned now (offer_own journal key now value) keys)

write_grows : (me : List ℕ) (owned : OwnedKeys) (now : ℕ) (journal : List JournalEntry) (keys : List (List ℕ)) → IsFront journal (write_each me owned now journal keys)
write_grows me owned now journal [] = front_same journal
write_grows me owned now journal (key ∷ keys) =
    let value = offered_value (on_change me (own_under owned key) (holds journal key)) in
    front_then journal (offer_own journal key now value) (write_each me owned now (offer_own journal key now value) keys)
    (own_grows journal key now value) (write_grows me owned now (offer_own journal key now value) keys)

flood_grows : (s : StoreState) (test : Bool) (pairs : List Pair)
    → IsFront s.journal (if test then s else record s { journal = offer_all s.journal pairs s.moment origin.Flood }).journal
flood_grows s true pairs = front_same s.journal
flood_grows s false pairs = offers_grow s.journal pairs s.moment origin.Flood

reply_grows : (s : StoreState) (link b0 : ℕ) (pairs : List Pair) (withheld : ℕ) (running : Result Session Stale) → IsFront s.journal (store_after_reply s link b0 pairs withheld running).journal
reply_grows s link b0 pairs withheld (Ok session) = offers_grow s.journal pairs s.moment origin.SyncReply
reply_grows s link b0 pairs withheld (Err stale) = front_same s.journal

ack_grows : (s : StoreState) (link : ℕ) (running : Result Session Stale) → IsFront s.journal (store_after_ack s link running).journal
ack_grows s link (Ok session) = front_same s.journal
ack_grows s link (Err stale) = front_same s.journal

message_grows : (s : StoreState) (link : ℕ) (from : List ℕ) (msg : Msg) → IsFront s.journal (message_change s link from msg).store.journal
message_grows s link from (Flood passed pairs) = flood_grows s (is_among s.me passed) pairs
message_grows s link from (Reply session b0 pairs wanted withheld) = reply_grows s link b0 pairs withheld (current s.sessions link session Dumped)
message_grows s link from (Push session pairs) = offers_grow s.journal pairs s.moment origin.SyncPush
message_grows s link from (Ack session) = ack_grows s link (current s.sessions link session Pushed)
message_grows s link from _ = front_same s.journal

item_grows : (s : StoreState) (item : Item) → IsFront s.journal (item_change s item).store.journal
unfolding item_change
item_grows s (Tick at) =
    let refreshed = refresh_each s.owned at s.journal (keys_of s.owned) in
    front_then s.journal refreshed (expire refreshed at) (refresh_grows s.owned at s.journal (keys_of s.owned))
    (front_with refreshed (map (λ key. Expired key at) (keys_lost refreshed at)))
item_grows s (Set pair) = offer_grows s.journal pair s.moment origin.Local
item_grows s Restart = front_with s.journal (Cleared s.moment ∷ [])
item_grows s (Net link from msg) = message_grows s link from msg
item_grows s _ = front_same s.journal

after_item_grows : (s : StoreState) (item : Item) → IsFront s.journal (store_after_item s item).journal
after_item_grows s item =
    let after = (item_change s item).store in
    let keys = keys_to_write after.owned (persisted_by item) (entries_since s after) in
    front_then s.journal after.journal (store_after_item s item).journal (item_grows s item) (write_grows after.me after.owned after.moment after.journal keys)

-- what the item changes, and what the node writes then, leaves the journal as long as it was, or longer
pub journal_grows : (s : StoreState) (item : Item) → length s.journal ≤ length (item_change s item).store.journal
journal_grows s item = front_shorter s.journal (item_change s item).store.journal (item_grows s item)

pub journal_grows-written : (s : StoreState) (item : Item) → length s.journal ≤ length (store_after_item s item).journal
journal_grows-written s item = front_shorter s.journal (store_after_item s item).journal (after_item_grows s item)

pub ruleset growing = (journal_grows, journal_grows-written)

pub journals_grow : JournalsGrow
unfolding store_step
journals_grow s item = after_item_grows s item

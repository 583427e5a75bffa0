-- The numbers of running sessions, over a turn.
use Rattle.std.proofs.Common.{◌≡◌, ℕ, ◌+◌, List, [], ◌∷◌, length, Bool, true, false, cond, Option, Some, None, Result, Ok, Err, refl}
use Rattle.std.specs.Ordering.{nat_cmp}
use Rattle.std.specs.BTreeMap.{is_at}
use Rattle.or_base.specs.declared.entry.JournalEntry.{JournalEntry}
use Rattle.or_base.specs.declared.value.Pair.{Pair}
use Rattle.or_base.specs.declared.origin.Origin.TheVariants as origin
use Rattle.or_base.specs.declared.message.Msg.{Msg}
use Rattle.or_base.specs.declared.message.Msg.TheVariants.{Flood, Reply, Ack}
use Rattle.or_base.specs.declared.item.Item.{Item}
use Rattle.or_base.specs.declared.item.Item.TheVariants.{PeerDown, Restart, Net}
use Rattle.or_base.specs.ByLink.{at_link}
use Rattle.or_base.specs.Counting.{saturate}
use Rattle.or_base.specs.Names.{is_among}
use Rattle.kv_table.specs.Sending.{withheld_count}
use Rattle.kv_sync.specs.declared.session.Session.{Session}
use Rattle.kv_sync.specs.declared.session.Stale.{Stale}
use Rattle.kv_sync.specs.declared.session.SyncPhase.TheVariants.{Dumped, Pushed}
use Rattle.kv_sync.specs.Sessions.{SessionsState, session_on, with_session, without_session, with_started_session, session_after_reply, with_more_withheld, current}
use Rattle.kv_sync.specs.Running.{AreNumbered}
use Rattle.kv_sync.proofs.Law.{found_where_current}
use Rattle.kv_sync.proofs.Numbers.{numbered_none, numbered_started, numbered_kept, numbered_without}
use Rattle.kv_store.specs.declared.response.Response.{Response}
use Rattle.kv_store.specs.declared.response.Response.TheVariants as response
use Rattle.kv_store.specs.Store.{StoreState, store_after_offers, store_after_reply, store_after_ack, message_change, item_change, store_after_item, start_with, start_on, start_each, push_on, respond, store_step}

abbrev IsNumbered : SessionsState → Type 0
IsNumbered s = AreNumbered s.last s.running

-- ---- what an item changes

flood_numbered : (s : StoreState) (pairs : List Pair) (test : Bool) → IsNumbered s.sessions → IsNumbered (cond test s (store_after_offers s pairs origin.Flood)).sessions
flood_numbered s pairs true numbered = numbered
flood_numbered s pairs false numbered = numbered

reply_numbered : (s : StoreState) (link b0 : ℕ) (pairs : List Pair) (withheld : ℕ) (r : Result Session Stale) → ((u : Session) → r ≡ Ok u → session_on s.sessions link ≡ Some u)
    → IsNumbered s.sessions → IsNumbered (store_after_reply s link b0 pairs withheld r).sessions
reply_numbered s link b0 pairs withheld (Ok u) found numbered =
    let next = session_after_reply u b0 withheld in
    numbered_kept s.sessions.last link next u s.sessions.running (with_session s.sessions link next).running refl (found u refl) refl numbered
reply_numbered s link b0 pairs withheld (Err stale) found numbered = numbered

without_numbered : (s : SessionsState) (link : ℕ) → IsNumbered s → IsNumbered (without_session s link)
without_numbered s link numbered = numbered_without s.last (is_at (nat_cmp link)) s.running (without_session s link).running refl numbered

ack_numbered : (s : StoreState) (link : ℕ) (r : Result Session Stale) → IsNumbered s.sessions → IsNumbered (store_after_ack s link r).sessions
ack_numbered s link (Ok u) numbered = without_numbered s.sessions link numbered
ack_numbered s link (Err stale) numbered = numbered

message_numbered : (s : StoreState) (link : ℕ) (from : List ℕ) (msg : Msg) → IsNumbered s.sessions → IsNumbered (message_change s link from msg).store.sessions
unfolding current
message_numbered s link from (Flood passed pairs) numbered = flood_numbered s pairs (is_among s.me passed) numbered
message_numbered s link from (Reply session b0 pairs wanted withheld) numbered =
    reply_numbered s link b0 pairs withheld (current s.sessions link session Dumped) (found_where_current (session_on s.sessions link) session Dumped) numbered
message_numbered s link from (Ack session) numbered = ack_numbered s link (current s.sessions link session Pushed) numbered
message_numbered s link from _ numbered = numbered

item_numbered : (s : StoreState) (item : Item) → IsNumbered s.sessions → IsNumbered (item_change s item).store.sessions
unfolding item_change
item_numbered s (Net link from msg) numbered = message_numbered s link from msg numbered
item_numbered s (PeerDown link) numbered = without_numbered s.sessions link numbered
item_numbered s Restart numbered = numbered_none s.sessions.last numbered.fits
item_numbered s _ numbered = numbered

-- ---- how it is responded to

start_numbered : (me : List ℕ) (journal : List JournalEntry) (s : SessionsState) (peer : ℕ × List ℕ) → IsNumbered s → IsNumbered (start_with me journal s peer).0
unfolding start_with with_started_session
start_numbered me journal s peer numbered =
    let next = with_started_session s peer.0 peer.1 (length journal) in
    let new : Session = record { number = saturate (s.last + 1); peer = peer.1; a0 = length journal; b0 = 0; withheld = 0; phase = Dumped } in
    numbered_started s.last next.last peer.0 new s.running next.running refl refl numbered refl

start_on_numbered : (me : List ℕ) (journal : List JournalEntry) (s : SessionsState) (link : ℕ) (peer : Option (List ℕ)) → IsNumbered s → IsNumbered (start_on me journal s link peer).0
start_on_numbered me journal s link None numbered = numbered
start_on_numbered me journal s link (Some peer) numbered = start_numbered me journal s (link, peer) numbered

each_numbered : (me : List ℕ) (journal : List JournalEntry) (s : SessionsState) (peers : List (ℕ × List ℕ)) → IsNumbered s → IsNumbered (start_each me journal s peers).0
each_numbered me journal s [] numbered = numbered
each_numbered me journal s (peer ∷ peers) numbered = each_numbered me journal (start_with me journal s peer).0 peers (start_numbered me journal s peer numbered)

push_numbered : (me : List ℕ) (journal : List JournalEntry) (now : ℕ) (s : SessionsState) (link : ℕ) (wanted : List (List ℕ)) (running : Option Session) → session_on s link ≡ running
    → IsNumbered s → IsNumbered (push_on me journal now s link wanted running).0
push_numbered me journal now s link wanted None found numbered = numbered
push_numbered me journal now s link wanted (Some u) found numbered =
    let next = with_more_withheld u (withheld_count journal now wanted) in
    numbered_kept s.last link next u s.running (with_session s link next).running refl found refl numbered

response_numbered : (s : StoreState) (r : Response) → IsNumbered s.sessions → IsNumbered (respond s r).0
unfolding respond
response_numbered s (response.Start link) numbered = start_on_numbered s.me s.journal s.sessions link (at_link s.peers link) numbered
response_numbered s response.StartAll numbered = each_numbered s.me s.journal s.sessions s.peers numbered
response_numbered s (response.Push link wanted) numbered = push_numbered s.me s.journal s.moment s.sessions link wanted (session_on s.sessions link) refl numbered
response_numbered s _ numbered = numbered

pub numbered_after_turn : (s : StoreState) (item : Item) → AreNumbered s.sessions.last s.sessions.running
    → AreNumbered (store_step s item).0.sessions.last (store_step s item).0.sessions.running
unfolding store_step
numbered_after_turn s item numbered = response_numbered (store_after_item s item) (item_change s item).response (item_numbered s item numbered)

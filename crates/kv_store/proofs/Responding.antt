-- The response to an item: its link has a small number, and a push stands only where the reply of its session has arrived.
use Rattle.std.proofs.Common.{◌≡◌, ℕ, ◌<◌, ◌^◌, List, [], ◌∷◌, length, Option, Some, None, true, Result, Ok, Err, is_ok, refl, ap, ◌∙◌}
use Rattle.std.specs.Prelude.{All}
use Rattle.std.specs.Map.{keys_of}
use Rattle.std.proofs.lemmas.Bool.{ltb-true}
use Rattle.std.proofs.lemmas.List.Elements.{All-head, All-tail}
use Rattle.or_base.specs.declared.entry.JournalEntry.{JournalEntry}
use Rattle.or_base.specs.declared.value.Pair.{Pair}
use Rattle.or_base.specs.declared.message.Msg.{Msg}
use Rattle.or_base.specs.declared.message.Msg.TheVariants as msg
use Rattle.or_base.specs.declared.item.Item.{Item}
use Rattle.or_base.specs.declared.item.Item.TheVariants.{Sync, Restart, PeerUp, Net}
use Rattle.or_base.specs.ByLink.{at_link}
use Rattle.or_actor.specs.Fits.{is_link_number, has_small_link, have_small_links}
use Rattle.kv_sync.specs.declared.session.Session.{Session}
use Rattle.kv_sync.specs.declared.session.Stale.{Stale}
use Rattle.kv_sync.specs.declared.session.SyncPhase.TheVariants.{Dumped}
use Rattle.kv_sync.specs.Sessions.{SessionsState, session_on, current, session_after_reply, with_started_session}
use Rattle.kv_sync.specs.Running.{may_push}
use Rattle.kv_sync.specs.Messages.{dump_message, reply_message, push_message, ack_message}
use Rattle.kv_sync.proofs.Onward.{at_link-with_link}
use Rattle.kv_store.specs.declared.response.Response.{Response}
use Rattle.kv_store.specs.declared.response.Response.TheVariants.{Nothing, Start, StartAll, Reply, Push, Ack}
use Rattle.kv_store.specs.Response.{is_on_small_link}
use Rattle.kv_store.specs.Store.{StoreState, start_with, start_on, start_each, push_on, respond, store_after_reply, response_to_reply, message_change, item_change, store_after_item, may_respond}
use Rattle.kv_store.proofs.Peers.{small_message, small_both}

-- ---- the links of what is sent

small_start : (me : List ℕ) (journal : List JournalEntry) (sessions : SessionsState) (p : ℕ × List ℕ) → p.0 < 2 ^ 31 → have_small_links (start_with me journal sessions p).1 ≡ true
unfolding start_with
small_start me journal sessions p small = small_message me p.0 (Some (dump_message (with_started_session sessions p.0 p.1 (length journal)).last journal)) small

small_on : (me : List ℕ) (journal : List JournalEntry) (sessions : SessionsState) (link : ℕ) (peer : Option (List ℕ)) → link < 2 ^ 31
    → have_small_links (start_on me journal sessions link peer).1 ≡ true
small_on me journal sessions link None small = refl
small_on me journal sessions link (Some peer) small = small_start me journal sessions (link, peer) small

small_each : (me : List ℕ) (journal : List JournalEntry) (sessions : SessionsState) (peers : List (ℕ × List ℕ)) → All (λ link. link < 2 ^ 31) (keys_of peers)
    → have_small_links (start_each me journal sessions peers).1 ≡ true
small_each me journal sessions [] all = refl
small_each me journal sessions (p ∷ peers) all =
    let next = (start_with me journal sessions p).0 in
    small_both (start_with me journal sessions p).1 (start_each me journal next peers).1
    (small_start me journal sessions p (All-head (λ link. link < 2 ^ 31) p.0 (keys_of peers) all))
    (small_each me journal next peers (All-tail (λ link. link < 2 ^ 31) p.0 (keys_of peers) all))

small_push : (me : List ℕ) (journal : List JournalEntry) (now : ℕ) (sessions : SessionsState) (link : ℕ) (wanted : List (List ℕ)) (running : Option Session) → link < 2 ^ 31
    → have_small_links (push_on me journal now sessions link wanted running).1 ≡ true
small_push me journal now sessions link wanted None small = refl
small_push me journal now sessions link wanted (Some session) small = small_message me link (Some (push_message journal now session.number wanted)) small

pub small_response : (s : StoreState) (response : Response) → All (λ link. link < 2 ^ 31) (keys_of s.peers) → is_on_small_link response ≡ true → have_small_links (respond s response).1 ≡ true
unfolding respond
small_response s Nothing all small = refl
small_response s (Start link) all small = small_on s.me s.journal s.sessions link (at_link s.peers link) (ltb-true link (2 ^ 31) small)
small_response s StartAll all small = small_each s.me s.journal s.sessions s.peers all
small_response s (Reply link session digest) all small = small_message s.me link (Some (reply_message s.journal s.moment session digest)) (ltb-true link (2 ^ 31) small)
small_response s (Push link wanted) all small = small_push s.me s.journal s.moment s.sessions link wanted (session_on s.sessions link) (ltb-true link (2 ^ 31) small)
small_response s (Ack link session) all small = small_message s.me link (Some (ack_message session)) (ltb-true link (2 ^ 31) small)

-- ---- the link that a response goes to

small_reply : (link : ℕ) (wanted : List (List ℕ)) (running : Result Session Stale) → is_link_number link ≡ true → is_on_small_link (response_to_reply link wanted (is_ok running)) ≡ true
small_reply link wanted (Ok session) small = small
small_reply link wanted (Err stale) small = refl

small_on_message : (s : StoreState) (link : ℕ) (from : List ℕ) (msg : Msg) → is_link_number link ≡ true → is_on_small_link (message_change s link from msg).response ≡ true
small_on_message s link from (msg.Dump session digest) small = small
small_on_message s link from (msg.Reply session b0 pairs wanted withheld) small = small_reply link wanted (current s.sessions link session Dumped) small
small_on_message s link from (msg.Push session pairs) small = small
small_on_message s link from _ small = refl

pub is_on_small_link-item : (s : StoreState) (item : Item) → has_small_link item ≡ true → is_on_small_link (item_change s item).response ≡ true
unfolding item_change
is_on_small_link-item s (PeerUp link peer) small = small
is_on_small_link-item s (Sync link) small = small
is_on_small_link-item s Restart small = refl
is_on_small_link-item s (Net link from msg) small = small_on_message s link from msg small
is_on_small_link-item s _ small = refl

-- ---- a push

reply_arrived : (s : StoreState) (link b0 : ℕ) (pairs : List Pair) (wanted : List (List ℕ)) (withheld : ℕ) (running : Result Session Stale)
    → may_respond (store_after_reply s link b0 pairs withheld running) (response_to_reply link wanted (is_ok running)) ≡ true
reply_arrived s link b0 pairs wanted withheld (Ok session) = ap may_push (at_link-with_link link (session_after_reply session b0 withheld) s.sessions.running)
reply_arrived s link b0 pairs wanted withheld (Err stale) = refl

message_arrived : (s : StoreState) (link : ℕ) (from : List ℕ) (msg : Msg) → may_respond (message_change s link from msg).store (message_change s link from msg).response ≡ true
message_arrived s link from (msg.Reply session b0 pairs wanted withheld) = reply_arrived s link b0 pairs wanted withheld (current s.sessions link session Dumped)
message_arrived s link from _ = refl

item_arrived : (s : StoreState) (item : Item) → may_respond (item_change s item).store (item_change s item).response ≡ true
unfolding item_change
item_arrived s (Net link from msg) = message_arrived s link from msg
item_arrived s _ = refl

-- what the node writes then changes nothing of it
same_arrived : (s : StoreState) (journal : List JournalEntry) (response : Response) → may_respond (record s { journal = journal }) response ≡ may_respond s response
same_arrived s journal (Push link wanted) = refl
same_arrived s journal _ = refl

pub may_respond-item : (s : StoreState) (item : Item) → may_respond (store_after_item s item) (item_change s item).response ≡ true
may_respond-item s item = same_arrived (item_change s item).store (store_after_item s item).journal (item_change s item).response ∙ item_arrived s item

pub ruleset responding = (is_on_small_link-item, may_respond-item)

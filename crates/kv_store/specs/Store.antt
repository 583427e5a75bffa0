-- A node's store as a module: one turn.
use Rattle.std.specs.Prelude.{ℕ, ◌+◌, List, [], ◌∷◌, ◌++◌, length, drop, map, Bool, true, false, not, Option, Some, None, Result, Ok, Err, is_ok, if◌then◌else◌}
use Rattle.std.specs.Str.{bytes_eq}
use Rattle.std.specs.Option.{option_map_or}
use Rattle.std.specs.List.{flat_map, filter, filter_map, last_or}
use Rattle.std.specs.Map.{keys_of}
use Rattle.or_base.specs.declared.entry.JournalEntry.{JournalEntry}
use Rattle.or_base.specs.declared.entry.JournalEntry.TheVariants.{Merged, Expired, Cleared}
use Rattle.or_base.specs.declared.value.Pair.{Pair}
use Rattle.or_base.specs.declared.origin.Origin.{Origin}
use Rattle.or_base.specs.declared.origin.Origin.TheVariants as origin
use Rattle.or_base.specs.declared.message.Msg.{Msg}
use Rattle.or_base.specs.declared.message.Msg.TheVariants.{Flood, Hello, Handshake, Heartbeat}
use Rattle.or_base.specs.declared.message.Msg.TheVariants as msg
use Rattle.or_base.specs.declared.item.Item.{Item}
use Rattle.or_base.specs.declared.item.Item.TheVariants.{Up, Down, Script, Tick, Set, Sync, Restart, Persist, Unset, Drain, LinkDrain, Metric, Advertise, Withdraw, Aggregate, Get, Ask, LinkUp, LinkDown, NeighbourUp, NeighbourDown, PeerUp, PeerDown, Net, Entry, Routes}
use Rattle.or_base.specs.declared.session.SyncDone.{SyncDone}
use Rattle.or_base.specs.declared.kind.Kind.{Kind}
use Rattle.or_base.specs.declared.kind.Kind.TheVariants.{Stores, Full}
use Rattle.or_base.specs.ByLink.{at_link, with_link, without_link}
use Rattle.or_base.specs.Counting.{saturate}
use Rattle.or_base.specs.Journal.{offer, held_keys}
use Rattle.or_base.specs.Names.{is_among}
use Rattle.or_actor.specs.declared.output.Output.{Output}
use Rattle.or_actor.specs.declared.output.Output.TheVariants.{To}
use Rattle.or_actor.specs.Ports.{first_link_port, decision_port}
use Rattle.kv_table.specs.Expiry.{expire}
use Rattle.kv_table.specs.Sending.{withheld_count}
use Rattle.kv_flood.specs.Flooding.{is_target, flood_message}
use Rattle.kv_self.specs.Owned.{with_owned, without_owned}
use Rattle.kv_sync.specs.declared.session.Session.{Session}
use Rattle.kv_sync.specs.declared.session.Stale.{Stale}
use Rattle.kv_sync.specs.declared.session.SyncPhase.TheVariants.{Dumped, Pushed}
use Rattle.kv_sync.specs.Sessions.{SessionsState, no_sessions, session_on, with_session, without_session, without_sessions, with_started_session, current, session_after_reply, after_push, done_of}
use Rattle.kv_sync.specs.Running.{may_push}
use Rattle.kv_sync.specs.Messages.{dump_message, reply_message, push_message, ack_message}
use Rattle.kv_store.specs.Own.{OwnedKeys, refresh_each, write_each, keys_to_write}
use Rattle.kv_store.specs.declared.response.Response.{Response}
use Rattle.kv_store.specs.declared.response.Response.TheVariants.{Nothing, Start, StartAll, Reply, Push, Ack}

-- A store: the laboratory's kind, its node's name, its journal, the moment in milliseconds, the keys that its node owns, the name
-- of the peer on each link that has one, in the order of links, the full syncs that it started and that run, the count of stale
-- messages that arrived, and the full syncs that it started and that were finished, in the order of their ends.
pub record StoreState : Type 0 where
  pub kind : Kind
  pub me : List ℕ
  pub journal : List JournalEntry
  pub moment : ℕ
  pub owned : OwnedKeys
  pub peers : List (ℕ × List ℕ)
  pub sessions : SessionsState
  pub stale : ℕ
  pub done : List SyncDone

-- a store as it starts
abbrev pub new_store : Kind → List ℕ → StoreState
new_store kind me = record { kind = kind; me = me; journal = []; moment = 0; owned = []; peers = []; sessions = no_sessions; stale = 0; done = [] }

-- ---- what an item changes

-- the journal after pairs are offered, in order
abbrev pub offer_all : List JournalEntry → List Pair → ℕ → Origin → List JournalEntry
offer_all journal [] now origin = journal
offer_all journal (pair ∷ pairs) now origin = offer_all (offer journal pair now origin) pairs now origin

abbrev pub store_after_offers : StoreState → List Pair → Origin → StoreState
store_after_offers s pairs origin = record s { journal = offer_all s.journal pairs s.moment origin }

-- the pairs of a flood are offered, unless the flood has passed this node
abbrev pub store_after_flood : StoreState → List (List ℕ) → List Pair → StoreState
store_after_flood s passed pairs = if is_among s.me passed then s else store_after_offers s pairs origin.Flood

-- a stale message counts; the count saturates
abbrev pub with_stale_counted : StoreState → StoreState
with_stale_counted s = record s { stale = saturate (s.stale + 1) }

-- a reply that arrives for its session: its pairs are offered; one that is stale counts
abbrev pub store_after_reply : StoreState → ℕ → ℕ → List Pair → ℕ → Result Session Stale → StoreState
store_after_reply s link b0 pairs withheld (Ok session) =
    store_after_offers (record s { sessions = with_session s.sessions link (session_after_reply session b0 withheld) }) pairs origin.SyncReply
store_after_reply s link b0 pairs withheld (Err stale) = with_stale_counted s

-- and what it wants is pushed, where it arrived for its session
abbrev pub response_to_reply : ℕ → List (List ℕ) → Bool → Response
response_to_reply link wanted arrived = if arrived then Push link wanted else Nothing

-- an acknowledgement that arrives for its session: the sync is finished; one that is stale counts
abbrev pub store_after_ack : StoreState → ℕ → Result Session Stale → StoreState
store_after_ack s link (Ok session) = record s { sessions = without_session s.sessions link; done = s.done ++ done_of link session ∷ [] }
store_after_ack s link (Err stale) = with_stale_counted s

-- What an item makes of a store: the store after it, what it has to respond with, and the nodes that the flood of what the item
-- brings has passed.
pub record Change : Type 0 where
  pub store : StoreState
  pub response : Response
  pub passed : List (List ℕ)

-- the store becomes this one and has to respond so; the item brings nothing that another node flooded
abbrev pub change_with_response : StoreState → Response → Change
change_with_response s response = record { store = s; response = response; passed = [] }

-- the store becomes this one, and nothing is to be responded
abbrev pub change_to : StoreState → Change
change_to s = change_with_response s Nothing

-- the store becomes this one and has to respond so to pairs whose flood has passed these nodes
abbrev pub change_by : StoreState → Response → List (List ℕ) → Change
change_by s response passed = record { store = s; response = response; passed = passed }

-- the moment is this: lifetimes under owned keys that are due begin anew, and then what has reached its deadline is lost
abbrev pub store_after_tick : StoreState → ℕ → StoreState
store_after_tick s at = record s { moment = at; journal = expire (refresh_each s.owned at s.journal (keys_of s.owned)) at }

-- each message of the node `from`; the last three are of Spark, and a store doesn't take them
abbrev pub message_change : StoreState → ℕ → List ℕ → Msg → Change
message_change s link from (Flood passed pairs) = change_by (store_after_flood s passed pairs) Nothing passed
message_change s link from (msg.Dump session digest) = change_with_response s (Reply link session digest)
message_change s link from (msg.Reply session b0 pairs wanted withheld) =
    change_by (store_after_reply s link b0 pairs withheld (current s.sessions link session Dumped))
    (response_to_reply link wanted (is_ok (current s.sessions link session Dumped))) (from ∷ [])
message_change s link from (msg.Push session pairs) = change_by (store_after_offers s pairs origin.SyncPush) (Ack link session) (from ∷ [])
message_change s link from (msg.Ack session) = change_to (store_after_ack s link (current s.sessions link session Pushed))
message_change s link from (Hello iface heard restarting) = change_to s
message_change s link from (Handshake iface done) = change_to s
message_change s link from Heartbeat = change_to s

-- each item; those from Up on a store doesn't take
unfoldable pub item_change : StoreState → Item → Change
item_change s (Tick at) = change_to (store_after_tick s at)
item_change s (Set pair) = change_to (record s { journal = offer s.journal pair s.moment origin.Local })
item_change s (PeerUp link peer) = change_with_response (record s { peers = with_link s.peers link peer }) (Start link)
item_change s (PeerDown link) = change_to (record s { peers = without_link s.peers link; sessions = without_session s.sessions link })
item_change s (Sync link) = change_with_response s (Start link)
item_change s Restart = change_with_response (record s { journal = s.journal ++ Cleared s.moment ∷ []; sessions = without_sessions s.sessions }) StartAll
item_change s (Persist key value ttl) = change_to (record s { owned = with_owned s.owned key (record { value = value; ttl = ttl }) })
item_change s (Unset key) = change_to (record s { owned = without_owned s.owned key })
item_change s (Net link from msg) = message_change s link from msg
item_change s Up = change_to s
item_change s Down = change_to s
item_change s (Script from acts) = change_to s
item_change s (Drain on) = change_to s
item_change s (LinkDrain link on) = change_to s
item_change s (Metric link metric) = change_to s
item_change s (Advertise entry) = change_to s
item_change s (Withdraw prefix) = change_to s
item_change s (Aggregate prefix least) = change_to s
item_change s (Get key) = change_to s
item_change s (Ask prefix) = change_to s
item_change s (LinkUp link) = change_to s
item_change s (LinkDown link) = change_to s
item_change s (NeighbourUp link peer peer_if) = change_to s
item_change s (NeighbourDown link) = change_to s
item_change s (Entry entry) = change_to s
item_change s (Routes delta) = change_to s

-- ---- how it is responded to

-- a message on a link, if there is one
abbrev pub message_on : List ℕ → ℕ → Option Msg → List Output
message_on me link None = []
message_on me link (Some msg) = To (first_link_port + link) (Net link me msg) ∷ []

-- the full syncs that run after a response, and what is sent
abbrev pub SyncsAndOutputs : Type 0
SyncsAndOutputs = SessionsState × List Output

-- a full sync is started with a peer
unfoldable pub start_with : List ℕ → List JournalEntry → SessionsState → ℕ × List ℕ → SyncsAndOutputs
start_with me journal sessions peer =
    let after = with_started_session sessions peer.0 peer.1 (length journal) in
    (after, message_on me peer.0 (Some (dump_message after.last journal)))

-- with the peer of a link, if it has one
abbrev pub start_on : List ℕ → List JournalEntry → SessionsState → ℕ → Option (List ℕ) → SyncsAndOutputs
start_on me journal sessions link None = (sessions, [])
start_on me journal sessions link (Some peer) = start_with me journal sessions (link, peer)

-- with each of these peers, in the order of links
abbrev pub start_each : List ℕ → List JournalEntry → SessionsState → List (ℕ × List ℕ) → SyncsAndOutputs
start_each me journal sessions [] = (sessions, [])
start_each me journal sessions (peer ∷ peers) =
    let first = start_with me journal sessions peer in
    let others = start_each me journal first.0 peers in
    (others.0, first.1 ++ others.1)

-- what was wanted is pushed, where a session runs on the link
abbrev pub push_on : List ℕ → List JournalEntry → ℕ → SessionsState → ℕ → List (List ℕ) → Option Session → SyncsAndOutputs
push_on me journal now sessions link wanted None = (sessions, [])
push_on me journal now sessions link wanted (Some session) =
    (after_push sessions link (withheld_count journal now wanted) (Some session), message_on me link (Some (push_message journal now session.number wanted)))

-- the response, by the journal as the item left it
unfoldable pub respond : StoreState → Response → SyncsAndOutputs
respond s Nothing = (s.sessions, [])
respond s (Start link) = start_on s.me s.journal s.sessions link (at_link s.peers link)
respond s StartAll = start_each s.me s.journal s.sessions s.peers
respond s (Reply link session digest) = (s.sessions, message_on s.me link (Some (reply_message s.journal s.moment session digest)))
respond s (Push link wanted) = push_on s.me s.journal s.moment s.sessions link wanted (session_on s.sessions link)
respond s (Ack link session) = (s.sessions, message_on s.me link (Some (ack_message session)))

-- a push stands only where the reply of its session has arrived
abbrev pub may_respond : StoreState → Response → Bool
may_respond s Nothing = true
may_respond s (Start link) = true
may_respond s StartAll = true
may_respond s (Reply link session digest) = true
may_respond s (Push link wanted) = may_push (session_on s.sessions link)
may_respond s (Ack link session) = true

-- ---- what is flooded

-- the origin with which an entry merged the key, if it did
abbrev pub merge_origin : List ℕ → JournalEntry → Option Origin
merge_origin key (Merged pair at origin) = if bytes_eq pair.key key then Some origin else None
merge_origin key (Expired name at) = None
merge_origin key (Cleared at) = None

-- the origin of the last of these entries that merged the key
abbrev pub last_origin : List ℕ → List JournalEntry → Option Origin
last_origin key entries = last_or None (filter_map (merge_origin key) entries)

abbrev pub begins_here : Origin → Bool
begins_here origin.Local = true
begins_here origin.Own = true
begins_here origin.Flood = false
begins_here origin.SyncReply = false
begins_here origin.SyncPush = false

-- the key was merged at this node's own wish
unfoldable pub is_own : List JournalEntry → List ℕ → Bool
is_own entries key = option_map_or begins_here (last_origin key entries) false

-- Of the entries of a turn, read as a journal: the keys that were merged at this node's own wish, and the others.
unfoldable pub own_keys : List JournalEntry → List (List ℕ)
own_keys entries = filter (is_own entries) (held_keys entries)

unfoldable pub relayed_keys : List JournalEntry → List (List ℕ)
relayed_keys entries = filter (λ key. not (is_own entries key)) (held_keys entries)

-- a flood that is passed on goes to a peer that it hasn't passed
abbrev pub relay_to : List ℕ → List (List ℕ) → ℕ × List ℕ → Option Msg → List Output
relay_to me passed peer None = []
relay_to me passed peer (Some msg) = if is_target me peer.1 passed then message_on me peer.0 (Some msg) else []

-- a peer gets what is passed on, and then what begins here
abbrev pub floods_to : List ℕ → List (List ℕ) → Option Msg → Option Msg → ℕ × List ℕ → List Output
floods_to me passed relayed own peer = relay_to me passed peer relayed ++ message_on me peer.0 own

-- the floods of a turn that appended these entries, to each peer in the order of links
unfoldable pub floods : StoreState → List JournalEntry → List (List ℕ) → List Output
floods s entries passed =
    let relayed = flood_message s.journal s.moment (relayed_keys entries) passed s.me in
    let own = flood_message s.journal s.moment (own_keys entries) [] s.me in
    flat_map (floods_to s.me passed relayed own) s.peers

-- ---- the turn

-- each entry that a turn appended goes to Decision, which a full node alone has
abbrev pub entries_told : Kind → List JournalEntry → List Output
entries_told Stores entries = []
entries_told Full entries = map (λ entry. To decision_port (Entry entry)) entries

-- the entries that a turn appended
abbrev pub entries_since : StoreState → StoreState → List JournalEntry
entries_since before after = drop (length before.journal) after.journal

-- the store after its node wrote under its own keys, in a turn that persisted these and appended these entries so far
abbrev pub with_own_written : StoreState → List (List ℕ) → List JournalEntry → StoreState
with_own_written s persisted entries = record s { journal = write_each s.me s.owned s.moment s.journal (keys_to_write s.owned persisted entries) }

-- the key that an item persists
abbrev pub persisted_by : Item → List (List ℕ)
persisted_by (Persist key value ttl) = key ∷ []
persisted_by Up = []
persisted_by Down = []
persisted_by (Script from acts) = []
persisted_by (Tick at) = []
persisted_by (Set pair) = []
persisted_by (Sync link) = []
persisted_by Restart = []
persisted_by (Unset key) = []
persisted_by (Drain on) = []
persisted_by (LinkDrain link on) = []
persisted_by (Metric link metric) = []
persisted_by (Advertise entry) = []
persisted_by (Withdraw prefix) = []
persisted_by (Aggregate prefix least) = []
persisted_by (Get key) = []
persisted_by (Ask prefix) = []
persisted_by (LinkUp link) = []
persisted_by (LinkDown link) = []
persisted_by (NeighbourUp link peer peer_if) = []
persisted_by (NeighbourDown link) = []
persisted_by (PeerUp link peer) = []
persisted_by (PeerDown link) = []
persisted_by (Net link from msg) = []
persisted_by (Entry entry) = []
persisted_by (Routes delta) = []

-- the store after an item and after what its node writes then
abbrev pub store_after_item : StoreState → Item → StoreState
store_after_item s item = let after = (item_change s item).store in with_own_written after (persisted_by item) (entries_since s after)

-- One turn of a store: the state after it, and what is sent: first the response, then the floods, and then what Decision is told.
unfoldable pub store_step : StoreState → Item → StoreState × List Output
store_step s item =
    let change = item_change s item in
    let after = store_after_item s item in
    let responded = respond after change.response in
    let entries = entries_since s after in
    (record after { sessions = responded.0 }, responded.1 ++ (floods after entries change.passed ++ entries_told after.kind entries))

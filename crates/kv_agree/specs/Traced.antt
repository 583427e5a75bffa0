-- A store with the item that made each entry of its journal.
use Rattle.std.specs.Prelude.{ℕ, ◌-◌, List, [], ◌++◌, length, replicate, Bool, true, false, ◌&&◌, ◌==◌, Option, Some, None}
use Rattle.std.specs.List.{fold}
use Rattle.std.specs.Option.{option_map_or}
use Rattle.or_base.specs.declared.entry.JournalEntry.{JournalEntry}
use Rattle.or_base.specs.declared.entry.JournalEntry.TheVariants.{Merged, Expired, Cleared}
use Rattle.or_base.specs.declared.origin.Origin.{Origin}
use Rattle.or_base.specs.declared.origin.Origin.TheVariants as origin
use Rattle.or_base.specs.declared.kind.Kind.{Kind}
use Rattle.or_base.specs.declared.message.Msg.{Msg}
use Rattle.or_base.specs.declared.message.Msg.TheVariants.{Hello, Handshake, Heartbeat, Flood, Dump, Reply, Push, Ack}
use Rattle.or_base.specs.declared.item.Item.{Item}
use Rattle.or_base.specs.declared.item.Item.TheVariants.{Up, Down, Script, Tick, Set, Sync, Restart, Persist, Unset, Drain, LinkDrain, Metric, Advertise, Withdraw, Aggregate, Get, Ask, LinkUp, LinkDown, NeighbourUp, NeighbourDown, PeerUp, PeerDown, Net, Entry, Routes}
use Rattle.kv_store.specs.Store.{StoreState, new_store, store_step}

-- ---- what an item carries over a link

pub record Carried : Type 0 where
  pub link : ℕ
  pub from : List ℕ
  pub msg : Msg

-- the message that an item carries, if it carries one, with its link and its sender
abbrev pub carried_by : Item → Option Carried
carried_by (Net link from msg) = Some (record { link = link; from = from; msg = msg })
carried_by Up = None
carried_by Down = None
carried_by (Script from acts) = None
carried_by (Tick at) = None
carried_by (Set pair) = None
carried_by (Sync link) = None
carried_by Restart = None
carried_by (Persist key value ttl) = None
carried_by (Unset key) = None
carried_by (Drain on) = None
carried_by (LinkDrain link on) = None
carried_by (Metric link metric) = None
carried_by (Advertise entry) = None
carried_by (Withdraw prefix) = None
carried_by (Aggregate prefix least) = None
carried_by (Get key) = None
carried_by (Ask prefix) = None
carried_by (LinkUp link) = None
carried_by (LinkDown link) = None
carried_by (NeighbourUp link peer peer_if) = None
carried_by (NeighbourDown link) = None
carried_by (PeerUp link peer) = None
carried_by (PeerDown link) = None
carried_by (Entry entry) = None
carried_by (Routes delta) = None

-- the message is the reply of the full sync with this number
abbrev pub is_reply : ℕ → Msg → Bool
is_reply number (Reply session b0 pairs wanted withheld) = session == number
is_reply number (Hello iface heard restarting) = false
is_reply number (Handshake iface done) = false
is_reply number Heartbeat = false
is_reply number (Flood passed pairs) = false
is_reply number (Dump session digest) = false
is_reply number (Push session pairs) = false
is_reply number (Ack session) = false

-- the message is its push
abbrev pub is_push : ℕ → Msg → Bool
is_push number (Push session pairs) = session == number
is_push number (Hello iface heard restarting) = false
is_push number (Handshake iface done) = false
is_push number Heartbeat = false
is_push number (Flood passed pairs) = false
is_push number (Dump session digest) = false
is_push number (Reply session b0 pairs wanted withheld) = false
is_push number (Ack session) = false

-- the item is the reply, or the push, of a full sync, which is named by its link and its number
abbrev pub is_reply_of : ℕ → ℕ → Item → Bool
is_reply_of link number item = option_map_or (λ c. (c.link == link) && is_reply number c.msg) (carried_by item) false

abbrev pub is_push_of : ℕ → ℕ → Item → Bool
is_push_of link number item = option_map_or (λ c. (c.link == link) && is_push number c.msg) (carried_by item) false

-- ---- how an entry came

abbrev pub came_in_reply : Origin → Bool
came_in_reply origin.SyncReply = true
came_in_reply origin.Local = false
came_in_reply origin.Own = false
came_in_reply origin.Flood = false
came_in_reply origin.SyncPush = false

abbrev pub came_in_push : Origin → Bool
came_in_push origin.SyncPush = true
came_in_push origin.Local = false
came_in_push origin.Own = false
came_in_push origin.Flood = false
came_in_push origin.SyncReply = false

-- the entry merged a pair that came so
abbrev pub is_merged_from : (Origin → Bool) → JournalEntry → Bool
is_merged_from came (Merged pair at origin) = came origin
is_merged_from came (Expired key at) = false
is_merged_from came (Cleared at) = false

-- ---- a store and its makers

-- a store, and for each entry of its journal the item in whose turn it was made
pub record TracedStore : Type 0 where
  pub store : StoreState
  pub makers : List Item

-- a journal with its makers
pub record Trace : Type 0 where
  pub journal : List JournalEntry
  pub makers : List Item

abbrev pub trace_of : TracedStore → Trace
trace_of t = record { journal = t.store.journal; makers = t.makers }

abbrev pub new_traced : Kind → List ℕ → TracedStore
new_traced kind me = record { store = new_store kind me; makers = [] }

-- after a turn with an item
abbrev pub traced_step : TracedStore → Item → TracedStore
traced_step t item =
    let after = (store_step t.store item).0 in
    record { store = after; makers = t.makers ++ replicate (length after.journal - length t.store.journal) item }

-- after turns with these items, in order
abbrev pub traced_after : TracedStore → List Item → TracedStore
traced_after t items = fold traced_step t items

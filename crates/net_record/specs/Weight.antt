-- What the items of a run and its settles weigh.
use Rattle.std.specs.Prelude.{ℕ, ◌+◌, ◌*◌, List, length, Some, None, sum_by}
use Rattle.or_base.specs.declared.value.Pair.{Pair}
use Rattle.or_base.specs.declared.digest.DigestRow.{DigestRow}
use Rattle.or_base.specs.declared.entry.JournalEntry.{JournalEntry}
use Rattle.or_base.specs.declared.entry.JournalEntry.TheVariants.{Merged, Expired, Cleared}
use Rattle.or_base.specs.declared.route.Route.{Route}
use Rattle.or_base.specs.declared.route.Delta.{Delta}
use Rattle.or_base.specs.declared.message.Msg.{Msg}
use Rattle.or_base.specs.declared.message.Msg.TheVariants.{Hello, Handshake, Heartbeat, Flood, Dump, Reply, Push, Ack}
use Rattle.or_base.specs.declared.item.Item.{Item}
use Rattle.or_base.specs.declared.item.Item.TheVariants.{Up, Down, Script, Tick, Set, Sync, Restart, Persist, Unset, Drain, LinkDrain, Metric, Advertise, Withdraw, Aggregate, Get, Ask, LinkUp, LinkDown, NeighbourUp, NeighbourDown, PeerUp, PeerDown, Net, Entry, Routes}
use Rattle.or_base.specs.TurnDone.{TurnDone}
use Rattle.net_record.specs.declared.record.NodeMark.{NodeMark}
use Rattle.net_record.specs.declared.record.SettleDone.{SettleDone}

-- ---- what each thing weighs

-- every item, beside its parts
abbrev pub bare_item_weight : ℕ
bare_item_weight = 64

-- a name in an item: of a node or an interface, but not a hop
abbrev pub name_weight : ℕ
name_weight = 32

-- a key with what it stands for (a pair, a digest row, an entry, a wanted key), beside its bytes
abbrev pub bare_key_weight : ℕ
bare_key_weight = 96

-- a prefix in an item
abbrev pub prefix_weight : ℕ
prefix_weight = 64

-- a route, in an item or at a settle, beside its hops
abbrev pub bare_route_weight : ℕ
bare_route_weight = 64

abbrev pub hop_weight : ℕ
hop_weight = 32

-- ---- the parts of items

-- a key that stands for itself: one that is wanted, or that of a digest row or of an entry
abbrev pub key_weight : List ℕ → ℕ
key_weight key = bare_key_weight + length key

-- a pair, whose originator is a name
unfoldable pub pair_weight : Pair → ℕ
pair_weight pair = key_weight pair.key + length pair.value.value + name_weight

-- a digest row, whose originator is a name
unfoldable pub row_weight : DigestRow → ℕ
row_weight row = key_weight row.key + name_weight

-- an entry of a journal; the pair of one that merged counts besides
unfoldable pub entry_weight : JournalEntry → ℕ
entry_weight (Merged pair at origin) = key_weight pair.key + pair_weight pair
entry_weight (Expired key at) = key_weight key
entry_weight (Cleared at) = bare_key_weight

-- a route without its prefix, as a settle holds it
unfoldable pub route_weight : Route → ℕ
route_weight route = bare_route_weight + hop_weight * length route.hops

-- the prefix of a route in an item counts besides
unfoldable pub delta_weight : Delta → ℕ
delta_weight delta = prefix_weight * length delta.del + prefix_weight * length delta.set + sum_by route_weight delta.set

-- ---- items

-- a message, beside what its item weighs
unfoldable pub message_weight : Msg → ℕ
message_weight (Hello iface None restarting) = name_weight
message_weight (Hello iface (Some heard) restarting) = name_weight + name_weight
message_weight (Handshake iface done) = name_weight
message_weight (Flood passed pairs) = name_weight * length passed + sum_by pair_weight pairs
message_weight (Dump session digest) = sum_by row_weight digest
message_weight (Reply session b0 pairs wanted withheld) = sum_by pair_weight pairs + sum_by key_weight wanted
message_weight (Push session pairs) = sum_by pair_weight pairs
message_weight Heartbeat = 0
message_weight (Ack session) = 0

-- what an item weighs beside what every item weighs
unfoldable pub parts_weight : Item → ℕ
parts_weight (Script from acts) = name_weight + length acts
parts_weight (Set pair) = pair_weight pair
parts_weight (Advertise entry) = prefix_weight
parts_weight (Withdraw prefix) = prefix_weight
parts_weight (Aggregate prefix least) = prefix_weight
parts_weight (Ask prefix) = prefix_weight
parts_weight (NeighbourUp link peer peer_if) = name_weight + name_weight
parts_weight (PeerUp link peer) = name_weight
parts_weight (Net link from msg) = name_weight + message_weight msg
parts_weight (Entry entry) = entry_weight entry
parts_weight (Routes delta) = delta_weight delta
parts_weight Up = 0
parts_weight Down = 0
parts_weight (Tick at) = 0
parts_weight (Sync link) = 0
parts_weight Restart = 0
parts_weight (Persist key value ttl) = 0
parts_weight (Unset key) = 0
parts_weight (Drain on) = 0
parts_weight (LinkDrain link on) = 0
parts_weight (Metric link metric) = 0
parts_weight (Get key) = 0
parts_weight (LinkUp link) = 0
parts_weight (LinkDown link) = 0
parts_weight (NeighbourDown link) = 0
parts_weight (PeerDown link) = 0

unfoldable pub item_weight : Item → ℕ
item_weight item = bare_item_weight + parts_weight item

-- ---- a run

-- a turn weighs what the item weighs that it took
abbrev pub turn_weight : TurnDone → ℕ
turn_weight t = item_weight t.item

abbrev pub mark_weight : NodeMark → ℕ
mark_weight mark = sum_by route_weight mark.routes

-- a settle weighs what the routes weigh that it holds
unfoldable pub settle_weight : SettleDone → ℕ
settle_weight s = sum_by mark_weight s.nodes

-- what so many turns and settles weigh
unfoldable pub weight_of : List TurnDone → List SettleDone → ℕ
weight_of turns settles = sum_by turn_weight turns + sum_by settle_weight settles

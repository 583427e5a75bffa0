-- LinkMonitor: what it knows of the links of its node, and its turn.
use Rattle.std.specs.Prelude.{ℕ, List, [], ◌∷◌, ◌++◌, fold, map, Option, Some, None, option_map, option_to_list, Bool, true, false, ◌==◌, if◌then◌else◌}
use Rattle.std.specs.List.{flat_map}
use Rattle.std.specs.Ordering.{is_lt}
use Rattle.or_base.specs.Order.{bytes_cmp}
use Rattle.or_base.specs.declared.database.AdjDb.{AdjDb}
use Rattle.or_base.specs.declared.database.Adjacency.{Adjacency}
use Rattle.or_base.specs.declared.item.Item.{Item}
use Rattle.or_base.specs.declared.item.Item.TheVariants.{Up, Down, Script, Tick, Set, Sync, Restart, Persist, Unset, Drain, LinkDrain, Metric, Advertise, Withdraw, Aggregate, Get, Ask, LinkUp, LinkDown, NeighbourUp, NeighbourDown, PeerUp, PeerDown, Net, Entry, Routes}
use Rattle.or_actor.specs.Ports.{store_port}
use Rattle.or_actor.specs.declared.link_end.LinkEnd.{LinkEnd}
use Rattle.or_actor.specs.declared.output.Output.{Output}
use Rattle.or_actor.specs.declared.output.Output.TheVariants.{To}
use Rattle.or_json.specs.Keys.{link_record_key}
use Rattle.or_json.specs.Writing.{adj_text}
use Rattle.own_record.specs.declared.own_record.OwnRecord.{OwnRecord}
use Rattle.own_record.specs.OwnRecord.{unsent, with_text, handed_over}
use Rattle.link_monitor.specs.declared.link.AdjacentNode.{AdjacentNode}
use Rattle.link_monitor.specs.declared.link.MonitoredLink.{MonitoredLink}

-- LinkMonitor of a node: the node, whether it is drained, so that it carries no transit traffic, its links in the order of their interfaces, and its
-- record as the store was handed it
pub record LinkMonitorState : Type 0 where
  pub me : List ℕ
  pub is_drained : Bool
  pub links : List MonitoredLink
  pub own : OwnRecord

-- ---- the start

-- a link behind which no neighbour is known, with the metric that it was declared with
abbrev pub monitored : LinkEnd → MonitoredLink
monitored end = record { end = end; neighbour = None; metric = end.metric; is_drained = false }

-- the link comes before the other: its interface is less, byte by byte
abbrev pub is_before : MonitoredLink → MonitoredLink → Bool
is_before l other = is_lt (bytes_cmp l.end.own_if other.end.own_if)

-- the links, which are in the order of their interfaces, with one more
abbrev pub with_monitored : List MonitoredLink → MonitoredLink → List MonitoredLink
with_monitored [] l = l ∷ []
with_monitored (first ∷ rest) l = if is_before l first then l ∷ first ∷ rest else first ∷ with_monitored rest l

abbrev pub links_at : List LinkEnd → List MonitoredLink
links_at ends = fold with_monitored [] (map monitored ends)

-- the lifetime is that of its record in the store
abbrev pub new_link_monitor : List ℕ → List LinkEnd → Option ℕ → LinkMonitorState
new_link_monitor me ends ttl = record { me = me; is_drained = false; links = links_at ends; own = unsent (link_record_key me) ttl }

-- ---- the node's link record

abbrev pub adjacency : MonitoredLink → AdjacentNode → Adjacency
adjacency l node = record { other = node.name; own_if = l.end.own_if; other_if = node.interface; metric = l.metric; overload = l.is_drained }

-- the adjacency over a link, while a neighbour is there
abbrev pub adjacency_over : MonitoredLink → List Adjacency
adjacency_over l = option_to_list (option_map (adjacency l) l.neighbour)

abbrev pub adjacencies : List MonitoredLink → List Adjacency
adjacencies links = flat_map adjacency_over links

abbrev pub link_record : List ℕ → Bool → List Adjacency → AdjDb
link_record me is_drained adjacencies = record { node = me; overload = is_drained; adjacencies = adjacencies }

abbrev pub has_none : List Adjacency → Bool
has_none [] = true
has_none (a ∷ more) = false

-- ---- a turn

-- the item is for this link
abbrev pub is_for : MonitoredLink → ℕ → Bool
is_for l link = l.end.link == link

-- What an item makes of a link, and what the store is told of it. A link doesn't take the items from Up on.
unfoldable pub link_turn : MonitoredLink → Item → MonitoredLink × List Output
link_turn l (NeighbourUp link peer peer_if) =
    if is_for l link then (record l { neighbour = Some (record { name = peer; interface = peer_if }) }, To store_port (PeerUp link peer) ∷ []) else (l, [])
link_turn l (NeighbourDown link) = if is_for l link then (record l { neighbour = None }, To store_port (PeerDown link) ∷ []) else (l, [])
link_turn l (LinkDrain link on) = if is_for l link then (record l { is_drained = on }, []) else (l, [])
link_turn l (Metric link metric) = if is_for l link then (record l { metric = metric }, []) else (l, [])
link_turn l Up = (l, [])
link_turn l Down = (l, [])
link_turn l (Script from acts) = (l, [])
link_turn l (Tick at) = (l, [])
link_turn l (Set pair) = (l, [])
link_turn l (Sync link) = (l, [])
link_turn l Restart = (l, [])
link_turn l (Persist key value ttl) = (l, [])
link_turn l (Unset key) = (l, [])
link_turn l (Drain on) = (l, [])
link_turn l (Advertise entry) = (l, [])
link_turn l (Withdraw prefix) = (l, [])
link_turn l (Aggregate prefix least) = (l, [])
link_turn l (Get key) = (l, [])
link_turn l (Ask prefix) = (l, [])
link_turn l (LinkUp link) = (l, [])
link_turn l (LinkDown link) = (l, [])
link_turn l (PeerUp link peer) = (l, [])
link_turn l (PeerDown link) = (l, [])
link_turn l (Net link from msg) = (l, [])
link_turn l (Entry entry) = (l, [])
link_turn l (Routes delta) = (l, [])

-- whether the node is drained behind an item
abbrev pub drained_after : Bool → Item → Bool
drained_after is_drained (Drain on) = on
drained_after is_drained item = is_drained

-- LinkMonitor once the item is taken for the node and each link, and what the store is told of the neighbours
abbrev pub taken : LinkMonitorState → Item → LinkMonitorState × List Output
taken s item =
    let turns = map (λ l. link_turn l item) s.links in (
      record s { is_drained = drained_after s.is_drained item; links = map (λ (t : MonitoredLink × List Output). t.0) turns },
      flat_map (λ (t : MonitoredLink × List Output). t.1) turns,
    )

-- the text of the node's link record, as LinkMonitor knows the node and its links
abbrev pub record_text : LinkMonitorState → List ℕ
record_text s = adj_text (link_record s.me s.is_drained (adjacencies s.links))

-- LinkMonitor once the store was handed that text, where it is another, and what the store was handed
abbrev pub published : LinkMonitorState → LinkMonitorState × List Output
published s =
    let is_empty = has_none (adjacencies s.links) in
    (record s { own = with_text s.own (record_text s) is_empty }, handed_over s.own (record_text s) is_empty)

-- One turn: the item is taken, first for the links in order, and then the store is handed the text of the record, where that is another.
unfoldable pub link_monitor_step : LinkMonitorState → Item → LinkMonitorState × List Output
link_monitor_step s item =
    let told = taken s item in
    let handed = published told.0 in
    (handed.0, told.1 ++ handed.1)

-- Spark: what it knows of the neighbour on each link of its node, and its turn.
use Rattle.std.specs.Prelude.{ℕ, ◌+◌, List, [], ◌∷◌, ◌++◌, map, Option, Some, None, option_map, Bool, true, false, not, ◌==◌, ◌&&◌, nat_le, if◌then◌else◌}
use Rattle.std.specs.Str.{bytes_eq}
use Rattle.std.specs.List.{flat_map}
use Rattle.std.specs.Option.{option_map_or}
use Rattle.or_base.specs.declared.item.Item.{Item}
use Rattle.or_base.specs.declared.item.Item.TheVariants.{Up, Down, Script, Tick, Set, Sync, Restart as Restarts, Persist, Unset, Drain, LinkDrain, Metric, Advertise, Withdraw, Aggregate, Get, Ask, LinkUp, LinkDown, NeighbourUp, NeighbourDown, PeerUp, PeerDown, Net, Entry, Routes}
use Rattle.or_base.specs.declared.message.Msg.{Msg}
use Rattle.or_base.specs.declared.message.Msg.TheVariants.{Hello, Handshake as HandshakeMsg, Heartbeat as HeartbeatMsg, Flood, Dump, Reply, Push, Ack}
use Rattle.or_actor.specs.Ports.{link_monitor_port, first_link_port}
use Rattle.or_actor.specs.declared.link_end.LinkEnd.{LinkEnd}
use Rattle.or_actor.specs.declared.output.Output.{Output}
use Rattle.or_actor.specs.declared.output.Output.TheVariants.{To}
use Rattle.spark_fsm.specs.declared.event.Event.{Event}
use Rattle.spark_fsm.specs.declared.event.Event.TheVariants.{HelloWithUs, HelloWithoutUs, HelloRestarting, Handshake, HandshakeBad, Heartbeat, NegotiateTimer, HoldTimer, RestartTimer}
use Rattle.spark_fsm.specs.declared.state.State.{State}
use Rattle.spark_fsm.specs.declared.state.State.TheVariants.{Idle, Warm, Negotiate, Established, Restart}
use Rattle.spark_fsm.specs.Next.{next, is_same_state, is_moved_by}
use Rattle.spark_node.specs.declared.neighbour.Neighbour.{Neighbour}
use Rattle.spark_node.specs.declared.neighbour.HeardNode.{HeardNode}
use Rattle.spark_node.specs.declared.link.SparkLink.{SparkLink}

-- Spark of a node: the node, the last moment that it was told, and the node's links, in the order in which they were given
pub record SparkState : Type 0 where
  pub me : List ℕ
  pub moment : ℕ
  pub links : List SparkLink

-- a link that isn't up
abbrev pub down_link : LinkEnd → SparkLink
down_link end = record { end = end; neighbour = None }

abbrev pub new_spark : List ℕ → List LinkEnd → SparkState
new_spark me ends = record { me = me; moment = 0; links = map down_link ends }

-- ---- what is sent

-- a message of the node goes out over the link
abbrev pub over : List ℕ → LinkEnd → Msg → Output
over me end msg = To (first_link_port + end.link) (Net end.link me msg)

-- the node that a hello says it hears
abbrev pub heard_in : State → Option HeardNode → Option (List ℕ)
heard_in Idle peer = None
heard_in state peer = option_map (λ (p : HeardNode). p.name) peer

abbrev pub hello : LinkEnd → Neighbour → Msg
hello end n = Hello end.own_if (heard_in n.state n.peer) false

-- LinkMonitor is told of the neighbour, where a node was heard
abbrev pub tell_up : LinkEnd → Option HeardNode → List Output
tell_up end None = []
tell_up end (Some p) = To link_monitor_port (NeighbourUp end.link p.name p.interface) ∷ []

-- LinkMonitor is told that the neighbour is gone, where it was told of it
abbrev pub tell_down : LinkEnd → Neighbour → List Output
tell_down end n = if n.is_told then To link_monitor_port (NeighbourDown end.link) ∷ [] else []

-- ---- states and their timers

-- how long a neighbour may stay in a state without anything new, in milliseconds, and what happens then
abbrev pub time_of : State → Option (ℕ × Event)
time_of Idle = None
time_of Warm = None
time_of Negotiate = Some (5000, NegotiateTimer)
time_of Established = Some (10000, HoldTimer)
time_of Restart = Some (30000, RestartTimer)

-- a neighbour of which nothing was heard
abbrev pub unheard : Neighbour
unheard = record { state = Idle; peer = None; since = 0; is_told = false }

-- the neighbour as it enters a state
abbrev pub enter : ℕ → State → Neighbour → Neighbour
enter now Idle n = record { state = Idle; peer = None; since = now; is_told = false }
enter now Warm n = record n { state = Warm; since = now; is_told = false }
enter now Negotiate n = record n { state = Negotiate; since = now }
enter now Established n = record n { state = Established; since = now; is_told = true }
enter now Restart n = record n { state = Restart; since = now }

-- what LinkMonitor is told as the neighbour enters a state
abbrev pub told_on_entry : LinkEnd → State → Neighbour → List Output
told_on_entry end Idle n = tell_down end n
told_on_entry end Warm n = tell_down end n
told_on_entry end Negotiate n = []
told_on_entry end Established n = tell_up end n.peer
told_on_entry end Restart n = []

-- the neighbour is there for some time more
abbrev pub renews : State → Event → Bool
renews Established HelloWithUs = true
renews Established Heartbeat = true
renews state event = false

-- ---- events

-- what becomes of a neighbour, and what is sent
pub record Outcome : Type 0 where
  pub neighbour : Neighbour
  pub sent : List Output

-- An event: the neighbour enters the next state where that is another.
unfoldable pub happen : ℕ → LinkEnd → Neighbour → Event → Outcome
happen now end n event =
    if is_moved_by n.state event then record { neighbour = enter now (next n.state event) n; sent = told_on_entry end (next n.state event) n }
    else record { neighbour = if renews n.state event then record n { since = now } else n; sent = [] }

-- the same, and then this is sent
abbrev pub and_send : Outcome → List Output → Outcome
and_send o more = record { neighbour = o.neighbour; sent = o.sent ++ more }

-- the node is the one that a hello says it hears
abbrev pub is_heard_in : Option (List ℕ) → List ℕ → Bool
is_heard_in None me = false
is_heard_in (Some name) me = bytes_eq name me

abbrev pub hello_event : List ℕ → Option (List ℕ) → Bool → Event
hello_event me heard restarting = if restarting then HelloRestarting else if is_heard_in heard me then HelloWithUs else HelloWithoutUs

-- what answers a hello that led to this neighbour's state
abbrev pub hello_back : List ℕ → LinkEnd → Neighbour → List Output
hello_back me end n = over me end (hello end n) ∷ (if is_same_state n.state Negotiate then over me end (HandshakeMsg end.own_if false) ∷ [] else [])

-- A hello: its sender with its interface is the peer from now on. Where it leads to another state it is answered.
unfoldable pub take_hello : List ℕ → ℕ → LinkEnd → Neighbour → List ℕ → List ℕ → Option (List ℕ) → Bool → Outcome
take_hello me now end n from interface heard restarting =
    let known = record n { peer = Some (record { name = from; interface = interface }) } in
    let event = hello_event me heard restarting in
    let outcome = happen now end known event in
    if is_moved_by n.state event then and_send outcome (hello_back me end outcome.neighbour) else outcome

-- the peer was heard from this interface
abbrev pub is_interface_of : Option HeardNode → List ℕ → Bool
is_interface_of None interface = false
is_interface_of (Some p) interface = bytes_eq p.interface interface

-- a handshake: where it isn't the sender's last and the neighbour is established, it is answered
unfoldable pub take_handshake : List ℕ → ℕ → LinkEnd → Neighbour → List ℕ → Bool → Outcome
take_handshake me now end n interface done =
    let outcome = happen now end n (if is_interface_of n.peer interface then Handshake else HandshakeBad) in
    if not done && is_same_state outcome.neighbour.state Established then and_send outcome (over me end (HandshakeMsg end.own_if true) ∷ []) else outcome

-- a message from this node
abbrev pub take_message : List ℕ → ℕ → LinkEnd → Neighbour → List ℕ → Msg → Outcome
take_message me now end n from (Hello interface heard restarting) = take_hello me now end n from interface heard restarting
take_message me now end n from (HandshakeMsg interface done) = take_handshake me now end n interface done
take_message me now end n from HeartbeatMsg = happen now end n Heartbeat
take_message me now end n from (Flood passed pairs) = record { neighbour = n; sent = [] }
take_message me now end n from (Dump session digest) = record { neighbour = n; sent = [] }
take_message me now end n from (Reply session b0 pairs wanted withheld) = record { neighbour = n; sent = [] }
take_message me now end n from (Push session pairs) = record { neighbour = n; sent = [] }
take_message me now end n from (Ack session) = record { neighbour = n; sent = [] }

-- the time of its state has passed for the neighbour
abbrev pub expire : ℕ → LinkEnd → Neighbour → Outcome
expire now end n =
    option_map_or (λ (time : ℕ × Event). if nat_le (n.since + time.0) now then happen now end n time.1 else record { neighbour = n; sent = [] })
    (time_of n.state) (record { neighbour = n; sent = [] })

-- what goes out over a link at each tick
abbrev pub sent_at_tick : List ℕ → LinkEnd → Neighbour → List Output
sent_at_tick me end n = over me end (hello end n) ∷ (if is_same_state n.state Established then over me end HeartbeatMsg ∷ [] else [])

unfoldable pub take_tick : List ℕ → ℕ → LinkEnd → Neighbour → Outcome
take_tick me now end n = let outcome = expire now end n in and_send outcome (sent_at_tick me end outcome.neighbour)

-- this node restarts: it says so, and knows nothing of the neighbour any more
abbrev pub begin_anew : List ℕ → LinkEnd → Neighbour → Outcome
begin_anew me end n = record { neighbour = unheard; sent = over me end (Hello end.own_if None true) ∷ tell_down end n }

-- ---- a turn

-- the item is for this link
abbrev pub is_for : LinkEnd → ℕ → Bool
is_for end link = end.link == link

-- a link with what becomes of its neighbour, if it is up; one that is down stays so, and nothing is sent
abbrev pub while_up : SparkLink → (Neighbour → Outcome) → SparkLink × List Output
while_up l outcome_of = option_map_or (λ n. let outcome = outcome_of n in (record l { neighbour = Some outcome.neighbour }, outcome.sent)) l.neighbour (l, [])

abbrev pub ignore : SparkLink → SparkLink × List Output
ignore l = (l, [])

abbrev pub come_up : List ℕ → LinkEnd → Option Neighbour → SparkLink × List Output
come_up me end None = (record { end = end; neighbour = Some unheard }, over me end (hello end unheard) ∷ [])
come_up me end (Some n) = (record { end = end; neighbour = Some n }, [])

abbrev pub go_down : SparkLink → SparkLink × List Output
go_down l = (down_link l.end, option_map_or (tell_down l.end) l.neighbour [])

-- One turn for one link, at this moment: the link after it, and what is sent. A link doesn't take the items from Up on.
unfoldable pub link_turn : List ℕ → ℕ → SparkLink → Item → SparkLink × List Output
link_turn me now l (LinkUp link) = if is_for l.end link then come_up me l.end l.neighbour else ignore l
link_turn me now l (LinkDown link) = if is_for l.end link then go_down l else ignore l
link_turn me now l (Tick at) = while_up l (take_tick me now l.end)
link_turn me now l Restarts = while_up l (begin_anew me l.end)
link_turn me now l (Net link from msg) = if is_for l.end link then while_up l (λ n. take_message me now l.end n from msg) else ignore l
link_turn me now l Up = ignore l
link_turn me now l Down = ignore l
link_turn me now l (Script from acts) = ignore l
link_turn me now l (Set pair) = ignore l
link_turn me now l (Sync link) = ignore l
link_turn me now l (Persist key value ttl) = ignore l
link_turn me now l (Unset key) = ignore l
link_turn me now l (Drain on) = ignore l
link_turn me now l (LinkDrain link on) = ignore l
link_turn me now l (Metric link metric) = ignore l
link_turn me now l (Advertise entry) = ignore l
link_turn me now l (Withdraw prefix) = ignore l
link_turn me now l (Aggregate prefix least) = ignore l
link_turn me now l (Get key) = ignore l
link_turn me now l (Ask prefix) = ignore l
link_turn me now l (NeighbourUp link peer peer_if) = ignore l
link_turn me now l (NeighbourDown link) = ignore l
link_turn me now l (PeerUp link peer) = ignore l
link_turn me now l (PeerDown link) = ignore l
link_turn me now l (Entry entry) = ignore l
link_turn me now l (Routes delta) = ignore l

-- the moment behind an item
abbrev pub moment_after : ℕ → Item → ℕ
moment_after moment (Tick at) = at
moment_after moment item = moment

-- One turn of Spark: the item is taken for each link, in order.
unfoldable pub spark_step : SparkState → Item → SparkState × List Output
spark_step s item =
    let now = moment_after s.moment item in
    let turns = map (λ l. link_turn s.me now l item) s.links in
    (record { me = s.me; moment = now; links = map (λ (t : SparkLink × List Output). t.0) turns }, flat_map (λ (t : SparkLink × List Output). t.1) turns)

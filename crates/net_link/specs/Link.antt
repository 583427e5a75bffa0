-- A link between two nodes: what comes out as a function of what went in.
use Rattle.std.specs.Prelude.{ℕ, ◌-◌, List, [], ◌∷◌, ◌++◌, Bool, true, false, not, Option, Some, None, ◌==◌, ◌&&◌, length, map, if◌then◌else◌}
use Rattle.std.specs.Str.{bytes_eq}
use Rattle.std.specs.List.{filter}
use Rattle.or_base.specs.declared.act.Act.{Act}
use Rattle.or_base.specs.declared.act.Act.TheVariants.{Pass, Drop, Twice, Late}
use Rattle.or_base.specs.declared.item.Item.{Item}
use Rattle.or_base.specs.declared.item.Item.TheVariants.{Up, Down, Script, Tick, Set, Sync, Restart, Persist, Unset, Drain, LinkDrain, Metric, Advertise, Withdraw, Aggregate, Get, Ask, LinkUp, LinkDown, NeighbourUp, NeighbourDown, PeerUp, PeerDown, Net, Entry, Routes}
use Rattle.or_base.specs.declared.kind.Kind.{Kind}
use Rattle.or_base.specs.declared.kind.Kind.TheVariants.{Stores, Full}
use Rattle.or_base.specs.declared.message.Msg.{Msg}
use Rattle.net_link.specs.declared.held.HeldMsg.{HeldMsg}
use Rattle.or_actor.specs.declared.output.Output.{Output}
use Rattle.or_actor.specs.declared.output.Output.TheVariants.{To}
use Rattle.net_link.specs.declared.end.End.{End}
use Rattle.net_link.specs.declared.end.End.TheVariants.{A, B}
use Rattle.net_link.specs.End.{other_end, store_port_of, spark_port_of, port_for}

-- one direction of a link: what it does with the next messages, one act for each, and the messages that it holds back, in
-- the order in which they came
pub record Direction : Type 0 where
  pub script : List Act
  pub held : List HeldMsg

abbrev pub no_script : Direction
no_script = record { script = []; held = [] }

-- a link: in what laboratory it is, its number, the nodes at its ends, whether it is up, and its directions, from a and from b
pub record LinkState : Type 0 where
  pub kind : Kind
  pub link : ℕ
  pub a : List ℕ
  pub b : List ℕ
  pub is_up : Bool
  pub from_a : Direction
  pub from_b : Direction

-- a link as it starts
abbrev pub new_link : Kind → ℕ → List ℕ → List ℕ → LinkState
new_link kind link a b = record { kind = kind; link = link; a = a; b = b; is_up = false; from_a = no_script; from_b = no_script }

-- ---- one direction

-- the act for the next message, and those that are left
abbrev pub next_act : List Act → Act × List Act
next_act [] = (Pass, [])
next_act (act ∷ acts) = (act, acts)

-- a held message after one message more has come
abbrev pub count_down : HeldMsg → HeldMsg
count_down h = record h { count = h.count - 1 }

-- what an act forwards of a message at once
abbrev pub forwards_at_once : Act → Msg → List Msg
forwards_at_once Pass msg = msg ∷ []
forwards_at_once Drop msg = []
forwards_at_once Twice msg = msg ∷ msg ∷ []
forwards_at_once (Late n) msg = []

-- what an act holds back
abbrev pub holds_back : Act → Msg → List HeldMsg
holds_back Pass msg = []
holds_back Drop msg = []
holds_back Twice msg = []
holds_back (Late n) msg = record { msg = msg; count = n } ∷ []

abbrev pub is_due : HeldMsg → Bool
is_due h = h.count == 0

-- the messages that are held back once one message more has come
abbrev pub held_after : Direction → Msg → List HeldMsg
held_after d msg = map count_down d.held ++ holds_back (next_act d.script).0 msg

-- A direction after a message: the counters of those held back fall by one, the front act is taken, and those whose counter
-- is 0 aren't held any more.
unfoldable pub direction_after : Direction → Msg → Direction
direction_after d msg = record { script = (next_act d.script).1; held = filter (λ h. not (is_due h)) (held_after d msg) }

-- what a direction forwards as a message comes: what the act says of it, and then those held back whose counter is 0
unfoldable pub forwards : Direction → Msg → List Msg
forwards d msg = forwards_at_once (next_act d.script).0 msg ++ map (λ h. h.msg) (filter is_due (held_after d msg))

-- no act is left, and nothing is held back: such a direction forwards each message as it comes
abbrev pub is_plain : Direction → Bool
is_plain d = (length d.script == 0) && (length d.held == 0)

-- all that a direction holds back
abbrev pub held_messages : Direction → List Msg
held_messages d = map (λ h. h.msg) d.held

abbrev pub without_held : Direction → Direction
without_held d = record d { held = [] }

abbrev pub with_acts : Direction → List Act → Direction
with_acts d acts = record d { script = d.script ++ acts }

-- ---- both

-- the node at an end
abbrev pub node_at : LinkState → End → List ℕ
node_at s A = s.a
node_at s B = s.b

-- the direction of the messages that an end sends
abbrev pub direction_from : LinkState → End → Direction
direction_from s A = s.from_a
direction_from s B = s.from_b

abbrev pub with_direction : LinkState → End → Direction → LinkState
with_direction s A d = record s { from_a = d }
with_direction s B d = record s { from_b = d }

-- the end of a node, if it is at one
abbrev pub end_of : LinkState → List ℕ → Option End
end_of s node = if bytes_eq node s.a then Some A else if bytes_eq node s.b then Some B else None

-- to an end's Spark or store, a message of the other end
abbrev pub message_to : LinkState → End → Msg → Output
message_to s end msg = To (port_for end msg) (Net s.link (node_at s (other_end end)) msg)

-- Who is told that the link carries, or no longer: among stores the store of an end, that the node at the other end can be
-- reached, or no longer; in a full laboratory Spark, which finds the node itself.
abbrev pub up_told : Kind → LinkState → End → Output
up_told Stores s end = To (store_port_of end) (PeerUp s.link (node_at s (other_end end)))
up_told Full s end = To (spark_port_of end) (LinkUp s.link)

abbrev pub down_told : Kind → LinkState → End → Output
down_told Stores s end = To (store_port_of end) (PeerDown s.link)
down_told Full s end = To (spark_port_of end) (LinkDown s.link)

abbrev pub up_to : LinkState → End → Output
up_to s end = up_told s.kind s end

abbrev pub down_to : LinkState → End → Output
down_to s end = down_told s.kind s end

-- a message of an end goes through its direction; that of a node at no end is lost
unfoldable pub carry_step : LinkState → Option End → Msg → LinkState × List Output
carry_step s None msg = (s, [])
carry_step s (Some from) msg =
    let d = direction_from s from in
    (with_direction s from (direction_after d msg), map (message_to s (other_end from)) (forwards d msg))

-- acts are added to the script of an end's direction
unfoldable pub script_step : LinkState → Option End → List Act → LinkState
script_step s None acts = s
script_step s (Some from) acts = with_direction s from (with_acts (direction_from s from) acts)

-- nothing is held back any more
abbrev pub without_held_messages : LinkState → LinkState
without_held_messages s = record s { from_a = without_held s.from_a; from_b = without_held s.from_b }

-- all that the direction of an end's messages holds back
abbrev pub held_from : LinkState → End → List Output
held_from s from = map (message_to s (other_end from)) (held_messages (direction_from s from))

-- an item changes nothing, and nothing is sent
abbrev pub ignore : LinkState → LinkState × List Output
ignore s = (s, [])

-- One turn of a link: the state after it, and what is sent, each time for end a first. A link that is up already or down already stays so.
-- Going down it loses what it holds back and keeps its scripts; a message that comes while it is down is lost. A tick forwards all that
-- is held back. A link doesn't take the items from Set on.
unfoldable pub link_step : LinkState → Item → LinkState × List Output
link_step s Up = if s.is_up then ignore s else (record s { is_up = true }, up_to s A ∷ up_to s B ∷ [])
link_step s Down = if s.is_up then (record (without_held_messages s) { is_up = false }, down_to s A ∷ down_to s B ∷ []) else ignore s
link_step s (Script from acts) = (script_step s (end_of s from) acts, [])
link_step s (Tick at) = (without_held_messages s, held_from s A ++ held_from s B)
link_step s (Net link from msg) = if s.is_up then carry_step s (end_of s from) msg else ignore s
link_step s (Set pair) = ignore s
link_step s (Sync link) = ignore s
link_step s Restart = ignore s
link_step s (Persist key value ttl) = ignore s
link_step s (Unset key) = ignore s
link_step s (Drain on) = ignore s
link_step s (LinkDrain link on) = ignore s
link_step s (Metric link metric) = ignore s
link_step s (Advertise entry) = ignore s
link_step s (Withdraw prefix) = ignore s
link_step s (Aggregate prefix least) = ignore s
link_step s (Get key) = ignore s
link_step s (Ask prefix) = ignore s
link_step s (LinkUp link) = ignore s
link_step s (LinkDown link) = ignore s
link_step s (NeighbourUp link peer peer_if) = ignore s
link_step s (NeighbourDown link) = ignore s
link_step s (PeerUp link peer) = ignore s
link_step s (PeerDown link) = ignore s
link_step s (Entry entry) = ignore s
link_step s (Routes delta) = ignore s

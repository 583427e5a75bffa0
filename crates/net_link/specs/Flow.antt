-- A link makes nothing up: what it holds back and what it sends, it held back before or it came.
use Rattle.std.specs.Prelude.{◌≡◌, ℕ, List, [], ◌++◌, ◌⊎◌, if◌then◌else◌}
use Rattle.std.specs.Str.{bytes_eq}
use Rattle.std.specs.List.{Contains}
use Rattle.or_base.specs.declared.item.Item.{Item}
use Rattle.or_base.specs.declared.item.Item.TheVariants.{Net, PeerUp}
use Rattle.or_base.specs.declared.kind.Kind.TheVariants.{Stores}
use Rattle.or_base.specs.declared.message.Msg.{Msg}
use Rattle.or_actor.specs.declared.output.Output.TheVariants.{To}
use Rattle.net_link.specs.declared.end.End.{End}
use Rattle.net_link.specs.End.{other_end, store_port_of, port_for}
use Rattle.net_link.specs.Link.{LinkState, node_at, held_messages, link_step}

-- the messages of a node that a link holds back
abbrev pub held_of : LinkState → List ℕ → List Msg
held_of s node = (if bytes_eq s.a node then held_messages s.from_a else []) ++ (if bytes_eq s.b node then held_messages s.from_b else [])

-- the item brings this message of this node
abbrev pub Brings : Item → List ℕ → Msg → Type 0
Brings item node msg = (link : ℕ) × (item ≡ Net link node msg)

-- the message of the node was held back, or the item brings it
abbrev pub WasThere : LinkState → Item → List ℕ → Msg → Type 0
WasThere s item node msg = Contains (held_of s node) msg ⊎ Brings item node msg

-- the port is that of the module at one end for which the message is, and the node is the one at the other
pub record IsAcross (s : LinkState) (port : ℕ) (node : List ℕ) (msg : Msg) : Type 0 where
  pub end : End
  pub to : port ≡ port_for end msg
  pub from : node ≡ node_at s (other_end end)

-- the port is that of the store at one end of a link among stores, and the peer is the node at the other
pub record IsPeerAcross (s : LinkState) (port : ℕ) (peer : List ℕ) : Type 0 where
  pub end : End
  pub kind : s.kind ≡ Stores
  pub to : port ≡ store_port_of end
  pub from : peer ≡ node_at s (other_end end)

-- what a turn of a link does to what it holds and sends
pub record IsPassedOn (s : LinkState) (item : Item) : Type 0 where
  pub kind : (link_step s item).0.kind ≡ s.kind
  pub link : (link_step s item).0.link ≡ s.link
  pub a : (link_step s item).0.a ≡ s.a
  pub b : (link_step s item).0.b ≡ s.b
  pub held : (node : List ℕ) (msg : Msg) → Contains (held_of (link_step s item).0 node) msg → WasThere s item node msg
  pub sent : (port link : ℕ) (node : List ℕ) (msg : Msg) → Contains (link_step s item).1 (To port (Net link node msg)) → (link ≡ s.link) × IsAcross s port node msg × WasThere s item node msg
  pub told : (port link : ℕ) (peer : List ℕ) → Contains (link_step s item).1 (To port (PeerUp link peer)) → (link ≡ s.link) × IsPeerAcross s port peer

-- no turn of any link makes a message up, and each goes to the module at the other end for which it is
abbrev pub LinksMakeNothingUp : Type 0
LinksMakeNothingUp = (s : LinkState) (item : Item) → IsPassedOn s item

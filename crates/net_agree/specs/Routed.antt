-- Who is where, and which items may wait for whom.
use Rattle.std.specs.Prelude.{◌≡◌, ℕ, List, length, Some, slice_get, ◌⊎◌}
use Rattle.std.specs.List.{Contains, AllByRecursion}
use Rattle.or_base.specs.declared.item.Item.{Item}
use Rattle.or_base.specs.declared.item.Item.TheVariants.{Net, NeighbourUp, PeerUp}
use Rattle.or_base.specs.declared.item.Stamped.{Stamped}
use Rattle.or_base.specs.declared.message.Msg.{Msg}
use Rattle.or_base.specs.declared.session.SyncDone.{SyncDone}
use Rattle.kv_sync.specs.declared.session.Session.{Session}
use Rattle.kv_store.specs.Store.{StoreState}
use Rattle.spark_node.specs.declared.neighbour.Neighbour.{Neighbour}
use Rattle.spark_node.specs.declared.neighbour.HeardNode.{HeardNode}
use Rattle.spark_node.specs.declared.link.SparkLink.{SparkLink}
use Rattle.spark_node.specs.Spark.{SparkState}
use Rattle.net_laboratory.specs.Scenario.{Laboratory}
use Rattle.net_record.specs.declared.role.NodeModule.TheVariants.{Spark as SparkRole, LinkMonitor as LinkMonitorRole, PrefixManager as PrefixManagerRole, Store as StoreRole, Decision as DecisionRole, Fib as FibRole, Desk as DeskRole}
use Rattle.net_record.specs.declared.role.NodeSetup.{NodeSetup}
use Rattle.net_record.specs.declared.role.Role.{Role}
use Rattle.net_record.specs.declared.role.Role.TheVariants.{Driver as DriverRole, Node, Link as LinkRole}
use Rattle.net_record.specs.declared.kinds.AnyModule.TheVariants.{Spark, LinkMonitor, PrefixManager, Store, Decision, Fib, Link}
use Rattle.net_record.specs.declared.part.Part.{Part}
use Rattle.net_record.specs.declared.part.Part.TheVariants.{Driver, Desk, Module}
use Rattle.net_record.specs.declared.phase.Phase.{Phase}
use Rattle.net_record.specs.declared.actor.ActorState.{ActorState}
use Rattle.net_record.specs.declared.wire.Wire.{Wire}
use Rattle.net_record.specs.Roles.{roles}
use Rattle.net_record.specs.Wires.{wires}
use Rattle.net_record.specs.Actors.{store_of}
use Rattle.net_record.specs.World.{WorldState, waiting}
use Rattle.net_record.specs.Reached.{IsReached}

-- ---- who is where

-- the actor with this role is this
abbrev pub IsOf : Part → Role → Type 0
IsOf Driver role = role ≡ DriverRole
IsOf (Desk d) role = (setup : NodeSetup) × (role ≡ Node DeskRole d.node setup) × (setup.store ≡ d.store.owner) × (setup.decision ≡ d.decision.owner)
IsOf (Module (Spark s)) role = (setup : NodeSetup) × (role ≡ Node SparkRole s.me setup)
IsOf (Module (LinkMonitor s)) role = (setup : NodeSetup) × (role ≡ Node LinkMonitorRole s.me setup)
IsOf (Module (PrefixManager s)) role = (setup : NodeSetup) × (role ≡ Node PrefixManagerRole s.me setup)
IsOf (Module (Decision s)) role = (setup : NodeSetup) × (role ≡ Node DecisionRole s.me setup)
IsOf (Module (Fib s)) role = (setup : NodeSetup) × (role ≡ Node FibRole s.me setup)
IsOf (Module (Store s)) role = (setup : NodeSetup) × (role ≡ Node StoreRole s.me setup)
IsOf (Module (Link s)) role = role ≡ LinkRole s.link s.a s.b

-- the actor with this number is this store
pub record IsStoreAt (w : WorldState) (number : ℕ) (s : StoreState) : Type 0 where
  pub actor : ActorState
  pub there : slice_get w.actors number ≡ Some actor
  pub is : store_of actor.part ≡ Some s

-- the link has the two nodes as its ends
abbrev pub AreEnds : List Role → ℕ → List ℕ → List ℕ → Type 0
AreEnds all link node other = Contains all (LinkRole link node other) ⊎ Contains all (LinkRole link other node)

-- ---- who gets what

-- An item that waits for an actor of this role: a message for a link names that link, and one for a store or a Spark comes over a link from the node at
-- its other end; that node is the neighbour of which LinkMonitor is told, and the peer of which the store is.
pub record MayWaitFor (all : List Role) (role : Role) (item : Item) : Type 0 where
  pub at_link : (l : ℕ) (a b : List ℕ) → role ≡ LinkRole l a b → (link : ℕ) (from : List ℕ) (msg : Msg) → item ≡ Net link from msg → link ≡ l
  pub from_peer : (node : List ℕ) (setup : NodeSetup) → role ≡ Node StoreRole node setup → (link : ℕ) (from : List ℕ) (msg : Msg) → item ≡ Net link from msg → AreEnds all link from node
  pub heard : (node : List ℕ) (setup : NodeSetup) → role ≡ Node SparkRole node setup → (link : ℕ) (from : List ℕ) (msg : Msg) → item ≡ Net link from msg → AreEnds all link from node
  pub of_neighbour : (node : List ℕ) (setup : NodeSetup) → role ≡ Node LinkMonitorRole node setup → (link : ℕ) (peer peer_if : List ℕ) → item ≡ NeighbourUp link peer peer_if → AreEnds all link peer node
  pub of_peer : (node : List ℕ) (setup : NodeSetup) → role ≡ Node StoreRole node setup → (link : ℕ) (peer : List ℕ) → item ≡ PeerUp link peer → AreEnds all link peer node

-- the peers of a store, and those of its full syncs, are at the other ends of their links
pub record KnowsPeers (all : List Role) (s : StoreState) : Type 0 where
  pub peers : AllByRecursion (λ (p : ℕ × List ℕ). AreEnds all p.0 p.1 s.me) s.peers
  pub running : AllByRecursion (λ (r : ℕ × Session). AreEnds all r.0 r.1.peer s.me) s.sessions.running
  pub done : AllByRecursion (λ (d : SyncDone). AreEnds all d.link d.peer s.me) s.done

-- what a Spark heard on a link is the node at its other end
abbrev pub HearsPeer : List Role → List ℕ → SparkLink → Type 0
HearsPeer all me l = (n : Neighbour) (p : HeardNode) → l.neighbour ≡ Some n → n.peer ≡ Some p → AreEnds all l.end.link p.name me

abbrev pub HearsPeers : List Role → SparkState → Type 0
HearsPeers all s = AllByRecursion (HearsPeer all s.me) s.links

-- In a world of actors with these roles every actor is of its role, items wait only for those that may take them, stores know who their peers are, and
-- Sparks hear them.
pub record IsRouted (all : List Role) (w : WorldState) : Type 0 where
  pub lanes : w.wires ≡ wires all
  pub as_many : length w.lanes ≡ length w.wires
  pub actors : length w.actors ≡ length all
  pub parts : (number : ℕ) (actor : ActorState) (role : Role) → slice_get w.actors number ≡ Some actor → slice_get all number ≡ Some role → IsOf actor.part role
  pub items : (lane : ℕ) (wire : Wire) (role : Role) (s : Stamped) → slice_get w.wires lane ≡ Some wire → slice_get all wire.reader ≡ Some role → Contains (waiting w lane) s
      → MayWaitFor all role s.item
  pub knows : (number : ℕ) (s : StoreState) → IsStoreAt w number s → KnowsPeers all s
  pub hears : (number : ℕ) (actor : ActorState) (s : SparkState) → slice_get w.actors number ≡ Some actor → actor.part ≡ Module (Spark s) → HearsPeers all s

-- every world of every run is routed
abbrev pub RunsAreRouted : Type 0
RunsAreRouted = (lab : Laboratory) (w : WorldState) (later : List Phase) → IsReached lab w later → IsRouted (roles lab) w

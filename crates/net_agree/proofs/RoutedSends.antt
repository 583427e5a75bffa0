-- What an actor sends may wait for the reader of its port's lane.
use Rattle.std.proofs.Common.{◌≡◌, ℕ, ◌+◌, ◌<◌, inl, inr, List, Bool, true, false, cond, refl, sym, ap, ◌∙◌, subst, arith}
use Rattle.std.specs.Str.{bytes_eq}
use Rattle.std.specs.List.{Contains, AllByRecursion}
use Rattle.std.proofs.lemmas.Bool.{and_parts, or_cases}
use Rattle.std.proofs.lemmas.Slice.Eq.{bytes_eq-Decides}
use Rattle.std.proofs.lemmas.List.Elements.{All-contains, All-from_recursion}
use Rattle.or_base.specs.declared.item.Item.{Item}
use Rattle.or_base.specs.declared.item.Item.TheVariants.{Net, NeighbourUp, PeerUp}
use Rattle.or_base.specs.declared.message.Msg.{Msg}
use Rattle.or_base.specs.declared.message.Msg.TheVariants.{Hello, Handshake, Heartbeat}
use Rattle.or_actor.specs.declared.output.Output.{Output}
use Rattle.or_actor.specs.declared.output.Output.TheVariants.{To}
use Rattle.or_actor.specs.Ports.{spark_port, store_port, first_link_port, end_b_ports}
use Rattle.spark_node.specs.Spark.{SparkState, spark_step}
use Rattle.link_monitor.specs.LinkMonitor.{link_monitor_step}
use Rattle.prefix_manager.specs.PrefixManager.{prefix_manager_step}
use Rattle.decision_core.specs.Decision.{decision_step}
use Rattle.kv_store.specs.Store.{store_step}
use Rattle.net_link.specs.declared.end.End.{End}
use Rattle.net_link.specs.declared.end.End.TheVariants.{A, B}
use Rattle.net_link.specs.End.{other_end, port_at, port_for}
use Rattle.net_link.specs.Link.{LinkState, node_at, link_step}
use Rattle.net_link.proofs.Flow.{links_make_nothing_up}
use Rattle.net_record.specs.declared.role.NodeModule.{NodeModule}
use Rattle.net_record.specs.declared.role.NodeModule.TheVariants.{Spark as SparkRole, LinkMonitor as LinkMonitorRole, PrefixManager as PrefixManagerRole, Store as StoreRole, Decision as DecisionRole, Fib as FibRole, Desk as DeskRole}
use Rattle.net_record.specs.declared.role.NodeSetup.{NodeSetup}
use Rattle.net_record.specs.declared.role.Role.{Role}
use Rattle.net_record.specs.declared.role.Role.TheVariants.{Driver as DriverRole, Node, Link as LinkRole}
use Rattle.net_record.specs.declared.kinds.AnyModule.TheVariants.{Spark, LinkMonitor, PrefixManager, Store, Decision, Fib, Link}
use Rattle.net_record.specs.declared.part.Part.{Part}
use Rattle.net_record.specs.declared.part.Part.TheVariants.{Driver, Desk, Module}
use Rattle.net_record.specs.Kinds.{module_step}
use Rattle.net_record.specs.Wires.{has_items_for, has_items_within, meets_links, is_link_end, port_of_module, port_of}
use Rattle.net_record.specs.Actors.{part_step}
use Rattle.net_agree.specs.Routed.{IsOf, AreEnds, MayWaitFor, HearsPeers}
use Rattle.net_agree.proofs.Advertisers.{IsToldItem, IsTold, link_monitor_sends, prefix_manager_sends, decision_sends}
use Rattle.net_agree.proofs.RoutedStores.{IsOwnItem, IsOwn, turn_sends}
use Rattle.net_agree.proofs.Sparks.{IsSparkItem, IsOfSpark, spark_sends}

-- an item that is neither a message nor news of a neighbour or a peer may wait for anybody
pub record IsQuiet (item : Item) : Type 0 where
  pub no_message : (link : ℕ) (from : List ℕ) (msg : Msg) → item ≡ Net link from msg → ⊥
  pub no_neighbour : (link : ℕ) (peer peer_if : List ℕ) → item ≡ NeighbourUp link peer peer_if → ⊥
  pub no_news : (link : ℕ) (peer : List ℕ) → item ≡ PeerUp link peer → ⊥

pub quiet_may_wait : (all : List Role) (role : Role) (item : Item) → IsQuiet item → MayWaitFor all role item
quiet_may_wait all role item quiet = record {
  at_link = λ l a b is link from msg brings. absurd (quiet.no_message link from msg brings);
  from_peer = λ node setup is link from msg brings. absurd (quiet.no_message link from msg brings);
  heard = λ node setup is link from msg brings. absurd (quiet.no_message link from msg brings);
  of_neighbour = λ node setup is link peer peer_if brings. absurd (quiet.no_neighbour link peer peer_if brings);
  of_peer = λ node setup is link peer brings. absurd (quiet.no_news link peer brings);
}

module_port : (m : NodeModule) → port_of_module m < first_link_port
module_port SparkRole = omega arith
module_port LinkMonitorRole = omega arith
module_port PrefixManagerRole = omega arith
module_port StoreRole = omega arith
module_port DecisionRole = omega arith
module_port FibRole = omega arith
module_port DeskRole = omega arith

-- ---- what a module of a node sends

-- a module's port for a link tells the link, and a module that it names is one of its own node, below the ports of links
record NodeReaches (me : List ℕ) (port : ℕ) (to : Role) : Type 0 where
  link : (l : ℕ) (a b : List ℕ) → to ≡ LinkRole l a b → port ≡ first_link_port + l
  within : (m : NodeModule) (node : List ℕ) (setup : NodeSetup) → to ≡ Node m node setup → (me ≡ node) × (port < first_link_port)

node_reaches : (m : NodeModule) (me : List ℕ) (own : NodeSetup) (to : Role) (reader : ℕ) → has_items_for (Node m me own) to ≡ true
    → NodeReaches me (port_of (Node m me own) to reader) to
node_reaches m me own DriverRole reader joined = record { link = λ l a b is. cc; within = λ n node setup is. cc }
node_reaches m me own (Node other name their) reader joined =
    record { link = λ l a b is. cc; within = λ n node setup is. (ours ∙ same n node setup is, module_port other) } where
      ours : me ≡ name
      ours = (bytes_eq-Decides me name).0 (and_parts (bytes_eq me name) (has_items_within m other) joined).0

      same : (n : NodeModule) (node : List ℕ) (setup : NodeSetup) → Node other name their ≡ Node n node setup → name ≡ node
      same n node setup is = cc
node_reaches m me own (LinkRole k c d) reader joined =
    record { link = λ l a b is. (ap (λ n. first_link_port + n) (same l a b is)); within = λ n node setup is. cc } where
      same : (l : ℕ) (a b : List ℕ) → LinkRole k c d ≡ LinkRole l a b → k ≡ l
      same l a b is = cc

-- what a module of a node may send by a port: a message to the port of its link, and news of the node at the other end of a link
abbrev MayLeave : List Role → List ℕ → ℕ → Item → Type 0
MayLeave all me port (Net link from msg) = port ≡ first_link_port + link
MayLeave all me port (NeighbourUp link peer peer_if) = AreEnds all link peer me
MayLeave all me port (PeerUp link peer) = AreEnds all link peer me
MayLeave all me port _ = Unit {0}

-- so it may wait for its reader
node_sends : (all : List Role) (me : List ℕ) (to : Role) (port : ℕ) (item : Item) → NodeReaches me port to → MayLeave all me port item → MayWaitFor all to item
node_sends all me to port item reaches own = record {
  at_link = λ l a b is link from msg brings. (same_link l link (reaches.link l a b is) (subst (MayLeave all me port) brings own));
  from_peer = λ node setup is link from msg brings.
      absurd (no_message link (reaches.within StoreRole node setup is).1 (subst (MayLeave all me port) brings own));
  heard = λ node setup is link from msg brings.
      absurd (no_message link (reaches.within SparkRole node setup is).1 (subst (MayLeave all me port) brings own));
  of_neighbour = λ node setup is link peer peer_if brings.
      (subst (AreEnds all link peer) (reaches.within LinkMonitorRole node setup is).0 (subst (MayLeave all me port) brings own));
  of_peer = λ node setup is link peer brings.
      (subst (AreEnds all link peer) (reaches.within StoreRole node setup is).0 (subst (MayLeave all me port) brings own));
} where
  same_link : (l link : ℕ) → port ≡ first_link_port + l → port ≡ first_link_port + link → link ≡ l
  same_link l link f g = omega (arith, f, g)

  no_message : (link : ℕ) → port < first_link_port → port ≡ first_link_port + link → ⊥
  no_message link f g = omega (arith, f, g)

-- of one of these outputs
one_of : (P : Output → Type 0) (sent : List Output) (x : Output) → AllByRecursion P sent → Contains sent x → P x
one_of P sent x all among = All-contains P sent x (All-from_recursion P sent all) among

leaves_store : (all : List Role) (me : List ℕ) (port : ℕ) (item : Item) → IsOwnItem port me item → MayLeave all me port item
leaves_store all me port (Net link from msg) own = own.0
leaves_store all me port (NeighbourUp link peer peer_if) own = absurd own
leaves_store all me port (PeerUp link peer) own = absurd own
leaves_store all me port _ own = tt

leaves_spark : (all : List Role) (me : List ℕ) (port : ℕ) (item : Item) → IsSparkItem (λ link peer. AreEnds all link peer me) port item → MayLeave all me port item
leaves_spark all me port (Net link from msg) own = own.0
leaves_spark all me port (NeighbourUp link peer peer_if) own = own
leaves_spark all me port (PeerUp link peer) own = absurd own
leaves_spark all me port _ own = tt

leaves_told : (all : List Role) (me : List ℕ) (port : ℕ) (item : Item) → IsToldItem (λ link peer. AreEnds all link peer me) item → MayLeave all me port item
leaves_told all me port (Net link from msg) own = absurd own
leaves_told all me port (NeighbourUp link peer peer_if) own = absurd own
leaves_told all me port (PeerUp link peer) own = own
leaves_told all me port _ own = tt

-- ---- what a link sends

-- A link has no items for a link or for LinkMonitor, and a module of a node that it names by the port of an end is at that end.
record LinkReaches (s : LinkState) (port : ℕ) (to : Role) : Type 0 where
  no_link : (l : ℕ) (a b : List ℕ) → to ≡ LinkRole l a b → ⊥
  no_monitor : (node : List ℕ) (setup : NodeSetup) → to ≡ Node LinkMonitorRole node setup → ⊥
  at : (m : NodeModule) (node : List ℕ) (setup : NodeSetup) → to ≡ Node m node setup → (p : ℕ) → p < end_b_ports → (end : End) → port ≡ port_at end p → node ≡ node_at s end

-- the port for a module of an end, by whether the node is that of end a
module_at : (s : LinkState) (node : List ℕ) (own : ℕ) (is_a : Bool) → own < end_b_ports → bytes_eq node s.a ≡ is_a → is_link_end node s.a s.b ≡ true
    → (p : ℕ) → p < end_b_ports → (end : End) → cond is_a own (end_b_ports + own) ≡ port_at end p → node ≡ node_at s end
module_at s node own true below at_a is_end p small A port = (bytes_eq-Decides node s.a).0 at_a
module_at s node own true below at_a is_end p small B port = absurd (omega (arith, below, port))
module_at s node own false below at_a is_end p small A port = absurd (omega (arith, small, port))
module_at s node own false below at_a is_end p small B port =
    elim (or_cases (bytes_eq node s.a) (bytes_eq node s.b) is_end) [
      | inl here ↦ absurd (never (sym at_a ∙ here))
      | inr there ↦ (bytes_eq-Decides node s.b).0 there
    ] where
      never : false ≡ true → ⊥
      never wrong = cc

link_reaches : (s : LinkState) (to : Role) (reader : ℕ) → has_items_for (LinkRole s.link s.a s.b) to ≡ true → LinkReaches s (port_of (LinkRole s.link s.a s.b) to reader) to
link_reaches s DriverRole reader joined = record { no_link = λ l a b is. cc; no_monitor = λ node setup is. cc; at = λ m node setup is. cc }
link_reaches s (LinkRole k c d) reader joined = record { no_link = λ l a b is. (never joined); no_monitor = λ node setup is. cc; at = λ m node setup is. cc } where
  never : false ≡ true → ⊥
  never wrong = cc
link_reaches s (Node other name their) reader joined = record {
  no_link = λ l a b is. cc;
  no_monitor = λ node setup is. (never (sym (ap meets_links (module_is LinkMonitorRole node setup is)) ∙ ends.0));
  at = λ m node setup is p small end port.
      (sym (name_is m node setup is) ∙ module_at s name (port_of_module other) (bytes_eq name s.a) (module_port other) refl ends.1 p small end port);
} where
  ends : (meets_links other ≡ true) × (is_link_end name s.a s.b ≡ true)
  ends = and_parts (meets_links other) (is_link_end name s.a s.b) joined

  never : false ≡ true → ⊥
  never wrong = cc

  module_is : (m : NodeModule) (node : List ℕ) (setup : NodeSetup) → Node other name their ≡ Node m node setup → other ≡ m
  module_is m node setup is = cc

  name_is : (m : NodeModule) (node : List ℕ) (setup : NodeSetup) → Node other name their ≡ Node m node setup → name ≡ node
  name_is m node setup is = cc

-- so a message for a module is one for the node at that end
node_for : (s : LinkState) (port : ℕ) (to : Role) (m : NodeModule) (node : List ℕ) (setup : NodeSetup) → LinkReaches s port to → to ≡ Node m node setup
    → (end : End) (msg : Msg) → port ≡ port_for end msg → node ≡ node_at s end
node_for s port to m node setup reaches is end (Hello interface heard restarting) at = reaches.at m node setup is spark_port (omega arith) end at
node_for s port to m node setup reaches is end (Handshake interface done) at = reaches.at m node setup is spark_port (omega arith) end at
node_for s port to m node setup reaches is end Heartbeat at = reaches.at m node setup is spark_port (omega arith) end at
node_for s port to m node setup reaches is end _ at = reaches.at m node setup is store_port (omega arith) end at

-- the two ends of a link
ends_of : (all : List Role) (s : LinkState) (end : End) → Contains all (LinkRole s.link s.a s.b) → AreEnds all s.link (node_at s (other_end end)) (node_at s end)
ends_of all s A among = inr among
ends_of all s B among = inl among

across : (all : List Role) (s : LinkState) (link : ℕ) (from node : List ℕ) (end : End) → Contains all (LinkRole s.link s.a s.b) → link ≡ s.link
    → node ≡ node_at s end → from ≡ node_at s (other_end end) → AreEnds all link from node
across all s link from node end among same here there =
    subst (λ l. AreEnds all l from node) (sym same)
    (subst (λ f. AreEnds all s.link f node) (sym there) (subst (AreEnds all s.link (node_at s (other_end end))) (sym here) (ends_of all s end among)))

-- a message that a link sends to a module comes from the node at the other end
message_across : (all : List Role) (s : LinkState) (taken : Item) (to : Role) (port : ℕ) (m : NodeModule) (node : List ℕ) (setup : NodeSetup) (link : ℕ) (from : List ℕ) (msg : Msg)
    → Contains all (LinkRole s.link s.a s.b) → LinkReaches s port to → to ≡ Node m node setup → Contains (link_step s taken).1 (To port (Net link from msg)) → AreEnds all link from node
message_across all s taken to port m node setup link from msg among reaches is sent =
    let passed = (links_make_nothing_up s taken).sent port link from msg sent in
    across all s link from node passed.1.end among passed.0 (node_for s port to m node setup reaches is passed.1.end msg passed.1.to) passed.1.from

link_sends : (all : List Role) (s : LinkState) (taken : Item) (to : Role) (port : ℕ) (item : Item) → Contains all (LinkRole s.link s.a s.b) → LinkReaches s port to
    → Contains (link_step s taken).1 (To port item) → MayWaitFor all to item
link_sends all s taken to port item among reaches sent = record {
  at_link = λ l a b is link from msg brings. absurd (reaches.no_link l a b is);
  from_peer = λ node setup is link from msg brings. (message_across all s taken to port StoreRole node setup link from msg among reaches is (is_sent (Net link from msg) brings));
  heard = λ node setup is link from msg brings. (message_across all s taken to port SparkRole node setup link from msg among reaches is (is_sent (Net link from msg) brings));
  of_neighbour = λ node setup is link peer peer_if brings. absurd (reaches.no_monitor node setup is);
  of_peer = λ node setup is link peer brings. (
      let told = (links_make_nothing_up s taken).told port link peer (is_sent (PeerUp link peer) brings) in
      across all s link peer node told.1.end among told.0 (reaches.at StoreRole node setup is store_port (omega arith) told.1.end told.1.to) told.1.from);
} where
  is_sent : (i : Item) → item ≡ i → Contains (link_step s taken).1 (To port i)
  is_sent i brings = subst (λ j. Contains (link_step s taken).1 (To port j)) brings sent

-- ---- a turn

-- what a module of this role reaches by the port of its lane
of_node : (m : NodeModule) (me : List ℕ) (from to : Role) (reader port : ℕ) → (setup : NodeSetup) × (from ≡ Node m me setup) → has_items_for from to ≡ true → port ≡ port_of from to reader
    → NodeReaches me port to
of_node m me from to reader port is joined named =
    subst (λ p. NodeReaches me p to) (sym named)
    (subst (λ role. NodeReaches me (port_of role to reader) to) (sym is.1) (node_reaches m me is.0 to reader (subst (λ role. has_items_for role to ≡ true) is.1 joined)))

-- What an actor sends by the port of its lane to another may wait for that other, where a Spark hears its peers and the item that was taken was for the actor.
pub part_sends : (all : List Role) (part : Part) (from to : Role) (reader lane : ℕ) (taken : Item) (at port : ℕ) (item : Item) → IsOf part from → Contains all from
    → ((s : SparkState) → part ≡ Module (Spark s) → HearsPeers all s) → MayWaitFor all from taken
    → has_items_for from to ≡ true → port ≡ port_of from to reader → Contains (part_step part lane taken at).1 (To port item) → MayWaitFor all to item
unfolding part_step module_step
part_sends all Driver from to reader lane taken at port item is among hears may joined named sent = absurd (omega (arith, sent.1))
part_sends all (Desk d) from to reader lane taken at port item is among hears may joined named sent = absurd (omega (arith, sent.1))
part_sends all (Module (Spark s)) from to reader lane taken at port item is among hears may joined named sent =
    let J : ℕ → List ℕ → Type 0 = λ link peer. AreEnds all link peer s.me in
    node_sends all s.me to port item (of_node SparkRole s.me from to reader port is joined named)
    (leaves_spark all s.me port item
    (one_of (IsOfSpark J) (spark_step s taken).1 (To port item) (spark_sends J s taken (λ link node msg brings. may.heard s.me is.0 is.1 link node msg brings) (hears s refl)) sent))
part_sends all (Module (LinkMonitor s)) from to reader lane taken at port item is among hears may joined named sent =
    let J : ℕ → List ℕ → Type 0 = λ link peer. AreEnds all link peer s.me in
    node_sends all s.me to port item (of_node LinkMonitorRole s.me from to reader port is joined named)
    (leaves_told all s.me port item
    (one_of (IsTold J) (link_monitor_step s taken).1 (To port item)
    (link_monitor_sends J s taken (λ link peer peer_if brings. may.of_neighbour s.me is.0 is.1 link peer peer_if brings)) sent))
part_sends all (Module (PrefixManager s)) from to reader lane taken at port item is among hears may joined named sent =
    let J : ℕ → List ℕ → Type 0 = λ link peer. AreEnds all link peer s.me in
    node_sends all s.me to port item (of_node PrefixManagerRole s.me from to reader port is joined named)
    (leaves_told all s.me port item (one_of (IsTold J) (prefix_manager_step s taken).1 (To port item) (prefix_manager_sends J s taken) sent))
part_sends all (Module (Store s)) from to reader lane taken at port item is among hears may joined named sent =
    node_sends all s.me to port item (of_node StoreRole s.me from to reader port is joined named)
    (leaves_store all s.me port item (one_of (IsOwn s.me) (store_step s taken).1 (To port item) (turn_sends s taken) sent))
part_sends all (Module (Decision s)) from to reader lane taken at port item is among hears may joined named sent =
    let J : ℕ → List ℕ → Type 0 = λ link peer. AreEnds all link peer s.me in
    node_sends all s.me to port item (of_node DecisionRole s.me from to reader port is joined named)
    (leaves_told all s.me port item (one_of (IsTold J) (decision_step s taken).1 (To port item) (decision_sends J s taken) sent))
part_sends all (Module (Fib s)) from to reader lane taken at port item is among hears may joined named sent = absurd (omega (arith, sent.1))
part_sends all (Module (Link s)) from to reader lane taken at port item is among hears may joined named sent =
    let reaches : LinkReaches s (port_of from to reader) to =
    subst (λ role. LinkReaches s (port_of role to reader) to) (sym is) (link_reaches s to reader (subst (λ role. has_items_for role to ≡ true) is joined)) in
    link_sends all s taken to port item (subst (Contains all) is among) (subst (λ p. LinkReaches s p to) (sym named) reaches) sent

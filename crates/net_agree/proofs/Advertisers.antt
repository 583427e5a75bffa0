-- What LinkMonitor, PrefixManager and Decision send: news of peers that are neighbours, records for the store, and routes; no messages and no ticks.
use Rattle.std.proofs.Common.{◌≡◌, ℕ, List, [], ◌∷◌, Bool, true, false, map, if◌then◌else◌, refl}
use Rattle.std.specs.List.{Contains, AllByRecursion, flat_map}
use Rattle.std.proofs.lemmas.List.Elements.{All-contains, All-from_recursion}
use Rattle.or_base.specs.declared.item.Item.{Item}
use Rattle.or_base.specs.declared.item.Item.TheVariants.{Tick, Entry, LinkDrain, Metric, Net, NeighbourUp, NeighbourDown, PeerUp, Persist, Routes}
use Rattle.or_base.specs.declared.message.Msg.{Msg}
use Rattle.or_actor.specs.declared.output.Output.{Output}
use Rattle.or_actor.specs.declared.output.Output.TheVariants.{To}
use Rattle.or_actor.specs.Ports.{store_port, prefix_manager_port, fib_port}
use Rattle.own_record.specs.declared.own_record.OwnRecord.{OwnRecord}
use Rattle.own_record.specs.OwnRecord.{is_due, handed_over}
use Rattle.link_monitor.specs.declared.link.MonitoredLink.{MonitoredLink}
use Rattle.link_monitor.specs.LinkMonitor.{LinkMonitorState, is_for, link_turn, link_monitor_step}
use Rattle.prefix_manager.specs.PrefixManager.{PrefixManagerState, prefix_manager_step}
use Rattle.or_base.specs.declared.route.Delta.{Delta}
use Rattle.decision_core.specs.Decision.{DecisionState, is_no_change, told_routes, decision_step}
use Rattle.kv_agree.proofs.Lists.{all_joined}

-- the item is news of a peer that the link may have, or neither a message nor a tick, and no news of a neighbour
abbrev pub IsToldItem : (ℕ → List ℕ → Type 0) → Item → Type 0
IsToldItem J (PeerUp link peer) = J link peer
IsToldItem J (NeighbourUp link peer peer_if) = ⊥
IsToldItem J (Net link from msg) = ⊥
IsToldItem J (Tick at) = ⊥
IsToldItem J _ = Unit {0}

abbrev pub IsTold : (ℕ → List ℕ → Type 0) → Output → Type 0
IsTold J (To port item) = IsToldItem J item

-- the item brings news of no other neighbour
abbrev pub NamesOnly : (ℕ → List ℕ → Type 0) → Item → Type 0
NamesOnly J item = (link : ℕ) (peer peer_if : List ℕ) → item ≡ NeighbourUp link peer peer_if → J link peer

module _ (J : ℕ → List ℕ → Type 0) where
  abbrev AreTold : List Output → Type 0
  AreTold sent = AllByRecursion (IsTold J) sent

  told_if : (test : Bool) (x : Output) → IsTold J x → AreTold (if test then x ∷ [] else [])
  told_if true x told = (told, tt)
  told_if false x told = tt

  told_record : (own : OwnRecord) (text : List ℕ) (is_empty : Bool) → AreTold (handed_over own text is_empty)
  told_record own text is_empty = told_if (is_due own.last text is_empty) (To store_port (Persist own.key text own.ttl)) tt

  -- no message is among what they send
  pub told_no_message : (sent : List Output) (port link : ℕ) (node : List ℕ) (msg : Msg) → AllByRecursion (IsTold J) sent → Contains sent (To port (Net link node msg)) → ⊥
  told_no_message sent port link node msg told among = All-contains (IsTold J) sent (To port (Net link node msg)) (All-from_recursion (IsTold J) sent told) among

  -- ---- LinkMonitor

  told_for : (test : Bool) (t u : MonitoredLink × List Output) → AreTold t.1 → AreTold u.1 → AreTold (if test then t else u).1
  told_for true t u first other = first
  told_for false t u first other = other

  told_turn : (l : MonitoredLink) (item : Item) → NamesOnly J item → AreTold (link_turn l item).1
  unfolding link_turn
  told_turn l (NeighbourUp link peer peer_if) names = told_for (is_for l link) _ _ (names link peer peer_if refl, tt) tt
  told_turn l (NeighbourDown link) names = told_for (is_for l link) _ _ (tt, tt) tt
  told_turn l (LinkDrain link on) names = told_for (is_for l link) _ _ tt tt
  told_turn l (Metric link metric) names = told_for (is_for l link) _ _ tt tt
  told_turn l _ names = tt

  told_turns : (links : List MonitoredLink) (item : Item) → NamesOnly J item
      → AreTold (flat_map (λ (t : MonitoredLink × List Output). t.1) (map (λ l. link_turn l item) links))
  told_turns [] item names = tt
  told_turns (l ∷ links) item names = all_joined (IsTold J) (link_turn l item).1 _ (told_turn l item names) (told_turns links item names)

  -- all that LinkMonitor sends in a turn
  pub link_monitor_sends : (s : LinkMonitorState) (item : Item) → NamesOnly J item → AllByRecursion (IsTold J) (link_monitor_step s item).1
  unfolding link_monitor_step
  link_monitor_sends s item names =
      all_joined (IsTold J) (flat_map (λ (t : MonitoredLink × List Output). t.1) (map (λ l. link_turn l item) s.links)) _ (told_turns s.links item names) (told_record s.own _ _)

  -- ---- PrefixManager

  -- all that PrefixManager sends in a turn
  pub prefix_manager_sends : (s : PrefixManagerState) (item : Item) → AllByRecursion (IsTold J) (prefix_manager_step s item).1
  unfolding prefix_manager_step
  prefix_manager_sends s item = told_record s.own _ _

  -- ---- Decision

  told_delta : (delta : Delta) (none : Bool) → AreTold (if none then [] else To prefix_manager_port (Routes delta) ∷ To fib_port (Routes delta) ∷ [])
  told_delta delta true = tt
  told_delta delta false = (tt, (tt, tt))

  -- all that Decision sends in a turn
  pub decision_sends : (s : DecisionState) (item : Item) → AllByRecursion (IsTold J) (decision_step s item).1
  unfolding decision_step
  decision_sends s (Entry entry) = told_delta _ _
  decision_sends s _ = tt

-- The definitions on a small case: a neighbour comes, and the same is told again.
use Rattle.std.proofs.Common.{◌≡◌, List, [], ◌∷◌, None, codes, refl}
use Rattle.or_base.specs.declared.item.Item.{Item}
use Rattle.or_base.specs.declared.item.Item.TheVariants.{NeighbourUp, PeerUp, Persist}
use Rattle.or_actor.specs.declared.output.Output.{Output}
use Rattle.or_actor.specs.declared.output.Output.TheVariants.{To}
use Rattle.or_json.proofs.Examples.{link_text_of_b, adj_text-link_record_of_b}
use Rattle.link_monitor.specs.LinkMonitor.{LinkMonitorState, new_link_monitor, link_turn, link_monitor_step}

-- what LinkMonitor sends as each of these items comes
pub sent_each : LinkMonitorState → List Item → List (List Output)
sent_each s [] = []
sent_each s (item ∷ items) = (link_monitor_step s item).1 ∷ sent_each (link_monitor_step s item).0 items

-- node b, whose link 0 goes to a
abbrev pub monitor_of_b : LinkMonitorState
monitor_of_b = new_link_monitor (codes "b") (record { link = 0; other = codes "a"; own_if = codes "if-a"; metric = 1 } ∷ []) None

abbrev pub a_is_there : Item
a_is_there = NeighbourUp 0 (codes "a") (codes "if-b")

pub sent_each-one_neighbour : sent_each monitor_of_b (a_is_there ∷ a_is_there ∷ [])
    ≡ (To 4 (PeerUp 0 (codes "a")) ∷ To 4 (Persist (codes "adj:b") link_text_of_b None) ∷ [])
    ∷ (To 4 (PeerUp 0 (codes "a")) ∷ [])
    ∷ []
unfolding link_turn link_monitor_step sent_each
sent_each-one_neighbour = rw adj_text-link_record_of_b refl

-- The definitions on a small case: a neighbour is found, restarts, and is lost.
use Rattle.std.proofs.Common.{◌≡◌, ℕ, List, [], ◌∷◌, Some, None, false, true, refl}
use Rattle.or_base.specs.declared.item.Item.{Item}
use Rattle.or_base.specs.declared.item.Item.TheVariants.{LinkUp, Net, Tick, NeighbourUp, NeighbourDown}
use Rattle.or_base.specs.declared.message.Msg.{Msg}
use Rattle.or_base.specs.declared.message.Msg.TheVariants.{Hello, Handshake}
use Rattle.or_actor.specs.declared.output.Output.{Output}
use Rattle.or_actor.specs.declared.output.Output.TheVariants.{To}
use Rattle.spark_node.specs.Spark.{SparkState, new_spark, happen, take_hello, take_handshake, take_tick, link_turn, spark_step}

-- what Spark sends as each of these items comes
pub sent_each : SparkState → List Item → List (List Output)
sent_each s [] = []
sent_each s (item ∷ items) = (spark_step s item).1 ∷ sent_each (spark_step s item).0 items

-- two nodes, and their interfaces on the link between them
abbrev pub a : List ℕ
a = 1 ∷ []

abbrev pub b : List ℕ
b = 2 ∷ []

abbrev pub if_a : List ℕ
if_a = 3 ∷ []

abbrev pub if_b : List ℕ
if_b = 4 ∷ []

-- Spark of node a, whose link 0 goes to b
abbrev pub spark_of_a : SparkState
spark_of_a = new_spark a (record { link = 0; other = b; own_if = if_a; metric = 1 } ∷ [])

abbrev pub from_b : Msg → Item
from_b msg = Net 0 b msg

abbrev pub sends : Msg → Output
sends msg = To 8 (Net 0 a msg)

pub sent_each-one_neighbour : sent_each spark_of_a
    (LinkUp 0 ∷ from_b (Hello if_b None false) ∷ from_b (Hello if_b (Some a) false) ∷ from_b (Handshake if_b false) ∷ from_b (Hello if_b None true)
    ∷ Tick 29999 ∷ Tick 30000 ∷ [])
    ≡ (sends (Hello if_a None false) ∷ [])
    ∷ (sends (Hello if_a (Some b) false) ∷ [])
    ∷ (sends (Hello if_a (Some b) false) ∷ sends (Handshake if_a false) ∷ [])
    ∷ (To 2 (NeighbourUp 0 b if_b) ∷ sends (Handshake if_a true) ∷ [])
    ∷ (sends (Hello if_a (Some b) false) ∷ [])
    ∷ (sends (Hello if_a (Some b) false) ∷ [])
    ∷ (To 2 (NeighbourDown 0) ∷ sends (Hello if_a None false) ∷ [])
    ∷ []
unfolding happen take_hello take_handshake take_tick link_turn spark_step sent_each
sent_each-one_neighbour = refl

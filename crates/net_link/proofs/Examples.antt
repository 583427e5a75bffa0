-- The definitions on small cases.
use Rattle.std.proofs.Common.{◌≡◌, ℕ, List, [], ◌∷◌, Some, true, false, refl}
use Rattle.or_base.specs.declared.act.Act.{Act}
use Rattle.or_base.specs.declared.act.Act.TheVariants.{Pass, Drop, Twice, Late}
use Rattle.or_base.specs.declared.item.Item.TheVariants.{Up, Down, Net, LinkUp, LinkDown, PeerUp}
use Rattle.or_base.specs.declared.kind.Kind.{Kind}
use Rattle.or_base.specs.declared.kind.Kind.TheVariants.{Stores, Full}
use Rattle.or_base.specs.declared.message.Msg.{Msg}
use Rattle.or_base.specs.declared.message.Msg.TheVariants.{Hello, Flood, Ack}
use Rattle.or_actor.specs.declared.output.Output.TheVariants.{To}
use Rattle.net_link.specs.Link.{Direction, LinkState, new_link, carry_step, link_step, direction_after, forwards, held_messages}

-- a direction after messages with these numbers
pub direction_from : Direction → List ℕ → Direction
direction_from d [] = d
direction_from d (n ∷ ns) = direction_from (direction_after d (Ack n)) ns

-- what it forwards as each of them comes
pub forwards_each : Direction → List ℕ → List (List Msg)
forwards_each d [] = []
forwards_each d (n ∷ ns) = forwards d (Ack n) ∷ forwards_each (direction_after d (Ack n)) ns

abbrev pub with_script : List Act → Direction
with_script acts = record { script = acts; held = [] }

-- pass, drop, twice, and a script that is used up
pub forwards_each-at_once : forwards_each (with_script (Pass ∷ Drop ∷ Twice ∷ [])) (1 ∷ 2 ∷ 3 ∷ 4 ∷ [])
    ≡ (Ack 1 ∷ []) ∷ [] ∷ (Ack 3 ∷ Ack 3 ∷ []) ∷ (Ack 4 ∷ []) ∷ []
unfolding direction_after forwards forwards_each
forwards_each-at_once = refl

-- late by one stands behind the next message, late by two behind the one after that, in the order in which they came
pub forwards_each-late : forwards_each (with_script (Late 2 ∷ Late 1 ∷ [])) (1 ∷ 2 ∷ 3 ∷ 4 ∷ [])
    ≡ [] ∷ [] ∷ (Ack 3 ∷ Ack 1 ∷ Ack 2 ∷ []) ∷ (Ack 4 ∷ []) ∷ []
unfolding direction_after forwards forwards_each
forwards_each-late = refl

-- a message that is dropped counts as one that has come
pub forwards_each-dropped : forwards_each (with_script (Late 1 ∷ Drop ∷ [])) (1 ∷ 2 ∷ [])
    ≡ [] ∷ (Ack 1 ∷ []) ∷ []
unfolding direction_after forwards forwards_each
forwards_each-dropped = refl

-- what is held back after two of three
pub held_messages-late : held_messages (direction_from (with_script (Late 3 ∷ Late 1 ∷ [])) (1 ∷ 2 ∷ [])) ≡ Ack 1 ∷ Ack 2 ∷ []
unfolding direction_after direction_from
held_messages-late = refl

-- link 3 between the nodes named by the bytes 97 and 98, as it starts and once it is up
abbrev pub down_link : Kind → LinkState
down_link kind = new_link kind 3 (97 ∷ []) (98 ∷ [])

abbrev pub up_link : Kind → LinkState
up_link kind = record (down_link kind) { is_up = true }

-- in a full laboratory both Sparks are told, among stores both stores
pub link_step-full_up : (link_step (down_link Full) Up).1 ≡ To 1 (LinkUp 3) ∷ To 9 (LinkUp 3) ∷ []
unfolding link_step
link_step-full_up = refl

pub link_step-full_down : (link_step (up_link Full) Down).1 ≡ To 1 (LinkDown 3) ∷ To 9 (LinkDown 3) ∷ []
unfolding link_step
link_step-full_down = refl

pub link_step-stores_up : (link_step (down_link Stores) Up).1 ≡ To 4 (PeerUp 3 (98 ∷ [])) ∷ To 12 (PeerUp 3 (97 ∷ [])) ∷ []
unfolding link_step
link_step-stores_up = refl

-- a Hello of end a goes to Spark of end b, a Flood to the store there
pub link_step-hello : (link_step (up_link Full) (Net 3 (97 ∷ []) (Hello (105 ∷ []) (Some (98 ∷ [])) false))).1
    ≡ To 9 (Net 3 (97 ∷ []) (Hello (105 ∷ []) (Some (98 ∷ [])) false)) ∷ []
unfolding link_step carry_step direction_after forwards
link_step-hello = refl

pub link_step-flood : (link_step (up_link Full) (Net 3 (97 ∷ []) (Flood [] []))).1 ≡ To 12 (Net 3 (97 ∷ []) (Flood [] [])) ∷ []
unfolding link_step carry_step direction_after forwards
link_step-flood = refl

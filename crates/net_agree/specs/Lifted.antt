-- Every two stores that a link joins are paired, in every world of every run.
use Rattle.std.specs.Prelude.{◌≡◌, ℕ, ◌^◌, ◌<◌, List, [], ◌∷◌, ◌++◌, length, ◌&&◌, ◌==◌, Option, Some, None, slice_get, IsTrue, if◌then◌else◌}
use Rattle.std.specs.Str.{bytes_eq}
use Rattle.std.specs.List.{flat_map}
use Rattle.std.specs.Option.{option_map_or}
use Rattle.or_base.specs.declared.item.Item.{Item}
use Rattle.or_base.specs.declared.item.Stamped.{Stamped}
use Rattle.or_base.specs.declared.message.Msg.{Msg}
use Rattle.or_base.specs.TurnDone.{TurnDone}
use Rattle.kv_store.specs.Store.{StoreState}
use Rattle.kv_agree.specs.Traced.{TracedStore, Carried, carried_by, new_traced, traced_after}
use Rattle.kv_agree.specs.Paired.{OnWay, IsPaired}
use Rattle.net_link.specs.Link.{LinkState}
use Rattle.net_link.specs.Flow.{held_of}
use Rattle.net_laboratory.specs.Scenario.{Laboratory}
use Rattle.net_laboratory.specs.Sound.{is_sound}
use Rattle.net_record.specs.declared.kinds.AnyModule.TheVariants.{Spark, LinkMonitor, PrefixManager, Store, Decision, Fib, Link}
use Rattle.net_record.specs.declared.part.Part.{Part}
use Rattle.net_record.specs.declared.part.Part.TheVariants.{Driver, Desk, Module}
use Rattle.net_record.specs.declared.phase.Phase.{Phase}
use Rattle.net_record.specs.declared.actor.ActorState.{ActorState}
use Rattle.net_record.specs.declared.wire.Wire.{Wire}
use Rattle.net_record.specs.Roles.{roles}
use Rattle.net_record.specs.World.{WorldState, reader_of}
use Rattle.net_record.specs.Reached.{IsReached}
use Rattle.net_agree.specs.Routed.{IsStoreAt, AreEnds}

-- ---- what a store took

-- the items that an actor took in turns, in order
abbrev pub items_taken : List Wire → ℕ → List TurnDone → List Item
items_taken wires number turns = flat_map (λ (t : TurnDone). if reader_of (slice_get wires t.lane) == number then t.item ∷ [] else []) turns

-- those that it took so far
abbrev pub taken_by : WorldState → ℕ → List Item
taken_by w number = items_taken w.wires number w.turns

-- a store as it is after what it took, with the makers of its entries
abbrev pub trace_at : WorldState → ℕ → StoreState → TracedStore
trace_at w number s = traced_after (new_traced s.kind s.me) (taken_by w number)

-- ---- what is on its way

-- the message, if it goes over the link and comes from the node
abbrev pub message_if : ℕ → List ℕ → Carried → List Msg
message_if link node c = if (c.link == link) && bytes_eq c.from node then c.msg ∷ [] else []

abbrev pub messages_in : ℕ → List ℕ → List Stamped → List Msg
messages_in link node items = flat_map (λ (s : Stamped). option_map_or (message_if link node) (carried_by s.item) []) items

-- the link that an actor is, if it is one
abbrev pub link_of : Part → Option LinkState
link_of Driver = None
link_of (Desk d) = None
link_of (Module (Spark s)) = None
link_of (Module (LinkMonitor s)) = None
link_of (Module (PrefixManager s)) = None
link_of (Module (Store s)) = None
link_of (Module (Decision s)) = None
link_of (Module (Fib s)) = None
link_of (Module (Link s)) = Some s

abbrev pub held_on : ℕ → List ℕ → LinkState → List Msg
held_on link node s = if s.link == link then held_of s node else []

-- the messages of a node that are on their way over a link: on a lane, or held back
abbrev pub on_way : WorldState → ℕ → List ℕ → OnWay
on_way w link node = flat_map (messages_in link node) w.lanes ++ flat_map (λ (actor : ActorState). option_map_or (held_on link node) (link_of actor.part) []) w.actors

-- ---- what holds

-- In a world every store is what it took, and every two stores that a link joins are paired over it, each as the starter.
pub record IsLifted (w : WorldState) (lab : Laboratory) : Type 0 where
  pub traced : (number : ℕ) (s : StoreState) → IsStoreAt w number s → (trace_at w number s).store ≡ s
  pub paired : (link x y : ℕ) (s t : StoreState) → IsStoreAt w x s → IsStoreAt w y t → AreEnds (roles lab) link s.me t.me
      → IsPaired link (trace_at w x s) (trace_at w y t) (on_way w link s.me) (on_way w link t.me)

-- So it is in every run that is shorter than 2^31 turns.
abbrev pub RunsArePaired : Type 0
RunsArePaired =
    (lab : Laboratory) (w : WorldState) (later : List Phase) → IsTrue (is_sound lab) → IsReached lab w later → length w.turns < 2 ^ 31 → IsLifted w lab

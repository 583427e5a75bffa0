-- The world: the actors and the lanes among them, and what a turn, the issues of a phase and a settle make of it.
use Rattle.std.specs.Prelude.{ℕ, ◌+◌, max, List, [], ◌∷◌, ◌++◌, length, drop, map, Option, Some, None, option_map, option_to_list, Bool, true, false, slice_get, slice_set, slice_index_or, replicate, if◌then◌else◌}
use Rattle.std.specs.List.{list_all, flat_map}
use Rattle.std.specs.Option.{option_map_or}
use Rattle.or_base.specs.declared.item.Stamped.{Stamped}
use Rattle.or_base.specs.declared.kind.Kind.{Kind}
use Rattle.or_base.specs.declared.route.Route.{Route}
use Rattle.or_base.specs.TurnDone.{TurnDone}
use Rattle.or_actor.specs.declared.output.Output.{Output}
use Rattle.or_actor.specs.declared.output.Output.TheVariants.{To}
use Rattle.or_actor.specs.Steps.{TurnMade, turn_done}
use Rattle.kv_store.specs.Store.{StoreState}
use Rattle.decision_core.specs.Decision.{routes_of}
use Rattle.fib_core.specs.Fib.{FibState}
use Rattle.net_laboratory.specs.Scenario.{Laboratory}
use Rattle.net_record.specs.declared.role.Role.{Role}
use Rattle.net_record.specs.declared.wire.Wire.{Wire}
use Rattle.net_record.specs.declared.actor.ActorState.{ActorState}
use Rattle.net_record.specs.declared.record.AnswerDone.{AnswerDone}
use Rattle.net_record.specs.declared.record.NodeMark.{NodeMark}
use Rattle.net_record.specs.declared.stores.FibMark.{FibMark}
use Rattle.net_record.specs.declared.record.SettleDone.{SettleDone}
use Rattle.net_record.specs.Roles.{roles}
use Rattle.net_record.specs.Wires.{wires, lane_of}
use Rattle.net_record.specs.Actors.{new_actor, store_of, decision_of, fib_of, Range, no_range, range_for, made_by, actor_after, outputs_of, actors_after_settle}
use Rattle.net_record.specs.Answers.{giving_of}

-- The lanes and, for each, the items that wait on it, the oldest first; the actors; the turns and the settles done.
-- A lane is an unbounded list.
pub record WorldState : Type 0 where
  pub wires : List Wire
  pub lanes : List (List Stamped)
  pub actors : List ActorState
  pub turns : List TurnDone
  pub settles : List SettleDone

-- the world of these actors, in a laboratory of this kind, before anything is done
abbrev pub world_of : Kind → List Role → WorldState
world_of kind all =
    record { wires = wires all; lanes = replicate (length (wires all)) []; actors = map (new_actor kind) all; turns = []; settles = [] }

-- the world of a laboratory before anything is done
abbrev pub start : Laboratory → WorldState
start lab = world_of lab.kind (roles lab)

-- ---- lanes

-- the lanes after an item is put on one of them, or on none
abbrev pub put : List (List Stamped) → Option ℕ → Stamped → List (List Stamped)
put lanes None s = lanes
put lanes (Some lane) s = slice_set lanes lane (slice_index_or lanes lane [] ++ s ∷ [])

-- the lanes after a writer's outputs are put on the lanes of their ports, in order, each with this stamp
abbrev pub deliver : List Wire → ℕ → ℕ → List (List Stamped) → List Output → List (List Stamped)
deliver wires writer stamp lanes [] = lanes
deliver wires writer stamp lanes (To port item ∷ outputs) =
    deliver wires writer stamp (put lanes (lane_of wires writer port) (record { stamp = stamp; item = item })) outputs

-- the reader of a lane
abbrev pub reader_of : Option Wire → ℕ
reader_of None = 0
reader_of (Some wire) = wire.reader

-- the items that wait on a lane
abbrev pub waiting : WorldState → ℕ → List Stamped
waiting w lane = slice_index_or w.lanes lane []

abbrev pub is_empty : List Stamped → Bool
is_empty [] = true
is_empty (s ∷ others) = false

-- no item waits
abbrev pub is_drained : WorldState → Bool
is_drained w = list_all is_empty w.lanes

-- ---- a turn

-- the world after this turn of the reader of a lane, which leaves these items on it
unfoldable pub turn_of : WorldState → ℕ → List Stamped → ActorState → TurnMade → WorldState
turn_of w reader others actor m =
    record {
      wires = w.wires;
      lanes = deliver w.wires reader m.stamp (slice_set w.lanes m.lane others) (outputs_of actor m);
      actors = slice_set w.actors reader (actor_after actor m);
      turns = w.turns ++ turn_done m ∷ [];
      settles = w.settles;
    }

-- the same, where there may be no item or no actor: then nothing is done
abbrev pub turn_by : WorldState → ℕ → ℕ → ℕ → List Stamped → Option ActorState → WorldState
turn_by w lane at reader [] actor = w
turn_by w lane at reader (s ∷ others) None = w
turn_by w lane at reader (s ∷ others) (Some actor) = turn_of w reader others actor (made_by w.actors actor lane at s)

-- The turn of a lane, in which a desk finds a journal of this length: the lane's reader takes the front item, and what it sends
-- is put on the lanes of its ports. A lane on which no item waits leaves the world as it is.
unfoldable pub turn : WorldState → ℕ → ℕ → WorldState
turn w lane at =
    let reader = reader_of (slice_get w.wires lane) in
    turn_by w lane at reader (waiting w lane) (slice_get w.actors reader)

-- the lengths that the turn of an actor with the front one of these items may find
abbrev pub range_by : List ActorState → List Stamped → Option ActorState → Range
range_by actors [] actor = no_range
range_by actors (s ∷ others) None = no_range
range_by actors (s ∷ others) (Some actor) = range_for actors actor.part s.item

-- the lengths that the turn of a lane may find
unfoldable pub range : WorldState → ℕ → Range
range w lane = range_by w.actors (waiting w lane) (slice_get w.actors (reader_of (slice_get w.wires lane)))

-- ---- issues and settles

-- the driver is the first actor
abbrev pub driver_clock : List ActorState → ℕ
driver_clock [] = 0
driver_clock (driver ∷ others) = driver.clock

-- a phase begins: the driver's items are put on its lanes, with the driver's clock as their stamp
unfoldable pub issue : WorldState → List Output → WorldState
issue w issues = record w { lanes = deliver w.wires 0 (driver_clock w.actors) w.lanes issues }

abbrev pub greatest_clock : List ActorState → ℕ
greatest_clock [] = 0
greatest_clock (actor ∷ actors) = max actor.clock (greatest_clock actors)

-- What a settle tells of a store that told of so many finished full syncs before: the length of its journal, its count of stale
-- messages, and the full syncs that it started and that were finished since then. Routes are told besides, and where Fib stands.
abbrev pub mark_of_store : ℕ → StoreState → List NodeMark
mark_of_store told s =
    record { entries = length s.journal; stale = s.stale; syncs = drop told s.done; routes = []; fib_dirty = false; fib_routes = 0 } ∷ []

-- a node is told of where its store stands
abbrev pub mark_of : ActorState → List NodeMark
mark_of actor = option_map_or (mark_of_store actor.told) (store_of actor.part) []

abbrev pub marks_of : List ActorState → List NodeMark
marks_of actors = flat_map mark_of actors

-- the routes of an actor that is a Decision
abbrev pub routes_told : ActorState → List (List Route)
routes_told actor = option_to_list (option_map (λ s. map (λ e. e.1) (routes_of s)) (decision_of actor.part))

-- those of each node that has a Decision
abbrev pub all_routes : List ActorState → List (List Route)
all_routes actors = flat_map routes_told actors

-- the marks of nodes with the routes of each; a node without a Decision has none
abbrev pub with_routes : List NodeMark → List (List Route) → List NodeMark
with_routes [] routes = []
with_routes (mark ∷ marks) [] = mark ∷ with_routes marks []
with_routes (mark ∷ marks) (routes ∷ others) = record mark { routes = routes } ∷ with_routes marks others

-- what is told of a Fib: whether it is dirty, and how many routes its agent has
abbrev pub fib_mark : FibState → FibMark
fib_mark fib = record { dirty = fib.dirty; routes = length fib.agent.table }

-- where an actor that is a Fib stands
abbrev pub fibs_told : ActorState → List FibMark
fibs_told actor = option_to_list (option_map fib_mark (fib_of actor.part))

-- where the Fib of each node stands that has one
abbrev pub all_fibs : List ActorState → List FibMark
all_fibs actors = flat_map fibs_told actors

-- the marks of nodes with where the Fib of each stands; a node without one is as it was
abbrev pub with_fibs : List NodeMark → List FibMark → List NodeMark
with_fibs [] fibs = []
with_fibs (mark ∷ marks) [] = mark ∷ with_fibs marks []
with_fibs (mark ∷ marks) (fib ∷ others) = record mark { fib_dirty = fib.dirty; fib_routes = fib.routes } ∷ with_fibs marks others

-- what a settle tells of the nodes; their routes and where Fib stands too, where it shows routes
unfoldable pub nodes_told : List ActorState → Bool → List NodeMark
nodes_told actors shows = if shows then with_fibs (with_routes (marks_of actors) (all_routes actors)) (all_fibs actors) else marks_of actors

-- what a settle at a moment tells of actors after so many turns, with these answers
abbrev pub settle_done : ℕ → ℕ → List ActorState → Bool → List AnswerDone → SettleDone
settle_done moment count actors shows answers = record { turns = count; moment = moment; nodes = nodes_told actors shows; answers = answers }

-- A phase ends at a moment, in which these desks were asked: the settle is recorded, with an answer of each in this order, and with
-- routes where it shows them. Every clock becomes one more than the greatest, and every desk has seen its store's journal.
unfoldable pub settle : ℕ → List ℕ → Bool → WorldState → WorldState
settle moment asked shows w =
    let giving = giving_of w.actors asked in
    record {
      wires = w.wires;
      lanes = w.lanes;
      actors = actors_after_settle (greatest_clock w.actors + 1) giving.actors;
      turns = w.turns;
      settles = w.settles ++ settle_done moment (length w.turns) w.actors shows giving.answers ∷ [];
    }

-- The actors: what each is, one turn of each, and what a settle makes of it.
use Rattle.std.specs.Prelude.{ℕ, zero, suc, ◌-◌, List, [], ◌++◌, length, map, replicate, Option, Some, None, option_map, option_and_then, Bool, ◌&&◌, nat_le, nat_lt, take, slice_index_or, slice_get, if◌then◌else◌}
use Rattle.std.specs.Option.{option_map_or}
use Rattle.or_base.specs.declared.asked.Asked.{Asked}
use Rattle.or_base.specs.declared.asked.Asked.TheVariants.{Key, Prefix}
use Rattle.or_base.specs.declared.asked.Told.{Told}
use Rattle.or_base.specs.declared.asked.Told.TheVariants.{Value, Nothing, Behind}
use Rattle.or_base.specs.declared.entry.JournalEntry.{JournalEntry}
use Rattle.or_base.specs.declared.item.Item.{Item}
use Rattle.or_base.specs.declared.kind.Kind.{Kind}
use Rattle.or_base.specs.declared.item.Stamped.{Stamped}
use Rattle.or_base.specs.declared.value.KvValue.{KvValue}
use Rattle.or_base.specs.Journal.{held_value}
use Rattle.or_actor.specs.declared.output.Output.{Output}
use Rattle.or_actor.specs.Steps.{TurnMade, turn_made, finds_nothing}
use Rattle.kv_store.specs.Store.{StoreState, new_store}
use Rattle.net_link.specs.Link.{new_link}
use Rattle.spark_node.specs.Spark.{new_spark}
use Rattle.link_monitor.specs.LinkMonitor.{new_link_monitor}
use Rattle.prefix_manager.specs.PrefixManager.{new_prefix_manager}
use Rattle.decision_core.specs.Decision.{DecisionState, new_decision, route_at, route_told}
use Rattle.fib_core.specs.Fib.{FibState, new_fib}
use Rattle.net_record.specs.declared.role.NodeModule.{NodeModule}
use Rattle.net_record.specs.declared.role.NodeModule.TheVariants.{Spark as SparkRole, LinkMonitor as LinkMonitorRole, PrefixManager as PrefixManagerRole, Store as StoreRole, Decision as DecisionRole, Fib as FibRole, Desk as DeskRole}
use Rattle.net_record.specs.declared.role.NodeSetup.{NodeSetup}
use Rattle.net_record.specs.declared.role.Role.{Role}
use Rattle.net_record.specs.declared.role.Role.TheVariants.{Driver as DriverRole, Node, Link as LinkRole}
use Rattle.net_record.specs.declared.kinds.AnyModule.TheVariants.{Spark, LinkMonitor, PrefixManager, Store, Decision, Fib, Link}
use Rattle.net_record.specs.declared.part.Part.{Part}
use Rattle.net_record.specs.declared.part.Part.TheVariants.{Driver, Desk, Module}
use Rattle.net_record.specs.declared.actor.ActorState.{ActorState}
use Rattle.net_record.specs.declared.record.AnswerDone.{AnswerDone}
use Rattle.net_record.specs.declared.desk.Question.{Question}
use Rattle.net_record.specs.declared.desk.View.{View}
use Rattle.net_record.specs.Kinds.{module_step, module_may_find, store_in, decision_in, fib_in, entries_in}
use Rattle.net_record.specs.Desk.{DeskState, new_desk, asked_in, view_for, desk_after, desk_may_find, desk_shown, desk_finds, without_question, desk_after_settle}

-- ---- what an actor is

-- a module of the node with this name, as it starts in a laboratory of this kind
abbrev pub node_part : Kind → NodeModule → List ℕ → NodeSetup → Part
node_part kind SparkRole node setup = Module (Spark (new_spark node setup.ends))
node_part kind LinkMonitorRole node setup = Module (LinkMonitor (new_link_monitor node setup.ends setup.ttl))
node_part kind PrefixManagerRole node setup = Module (PrefixManager (new_prefix_manager node setup.ttl))
node_part kind StoreRole node setup = Module (Store (new_store kind node))
node_part kind DecisionRole node setup = Module (Decision (new_decision node))
node_part kind FibRole node setup = Module (Fib (new_fib node setup.faults))
node_part kind DeskRole node setup = Desk (new_desk node setup.store setup.decision)

-- what an actor is as it starts
abbrev pub new_part : Kind → Role → Part
new_part kind DriverRole = Driver
new_part kind (Node module_ node setup) = node_part kind module_ node setup
new_part kind (LinkRole link a b) = Module (Link (new_link kind link a b))

abbrev pub new_actor : Kind → Role → ActorState
new_actor kind role = record { part = new_part kind role; clock = 0; told = 0; made = [] }

-- an actor that does nothing, which stands for one that isn't there
abbrev pub no_actor : ActorState
no_actor = record { part = Driver; clock = 0; told = 0; made = [] }

-- the actor with this number
abbrev pub actor_at : List ActorState → ℕ → ActorState
actor_at actors number = slice_index_or actors number no_actor

-- ---- what others ask of it

abbrev pub desk_of : Part → Option DeskState
desk_of (Desk d) = Some d
desk_of _ = None

abbrev pub store_of : Part → Option StoreState
store_of (Module m) = store_in m
store_of _ = None

abbrev pub decision_of : Part → Option DecisionState
decision_of (Module m) = decision_in m
decision_of _ = None

abbrev pub fib_of : Part → Option FibState
fib_of (Module m) = fib_in m
fib_of _ = None

-- the entries of a store's journal, or those that a Decision took; whatever is neither has none
abbrev pub entries_of : Part → List JournalEntry
entries_of (Module m) = entries_in m
entries_of _ = []

-- how many full syncs that it started were finished, where it is a store
abbrev pub finished_by : Part → ℕ
finished_by part = option_map_or (λ s. length s.done) (store_of part) 0

-- ---- what a desk finds

-- the lengths that a turn may find
pub record Range : Type 0 where
  pub least : ℕ
  pub most : ℕ

abbrev pub is_in_range : Range → ℕ → Bool
is_in_range r at = nat_le r.least at && nat_le at r.most

-- what every turn finds that is no desk's answer
abbrev pub no_range : Range
no_range = record { least = 0; most = 0 }

-- the view in which a desk looks, if it is one, for what it is asked, if it is
abbrev pub view_asked : Option DeskState → Option Asked → Option View
view_asked None asked = None
view_asked (Some d) None = None
view_asked (Some d) (Some asked) = Some (view_for d asked)

-- from what was found last in a view to all entries of the actor that it is of
abbrev pub range_in : List ActorState → View → Range
range_in actors v = record { least = v.last; most = length (entries_of (actor_at actors v.owner).part) }

-- how many entries a turn with an item may find: a desk that is asked finds those of a view, and every other turn none
unfoldable pub range_for : List ActorState → Part → Item → Range
range_for actors part item = option_map_or (range_in actors) (view_asked (desk_of part) (asked_in item)) no_range

-- the stamp of the turn that made so many entries, by the stamps of all; 0 where there are none
abbrev pub made_at : List ℕ → ℕ → ℕ
made_at stamps zero = 0
made_at stamps (suc n) = slice_index_or stamps n 0

abbrev pub made_in : List ActorState → ℕ → View → ℕ
made_in actors at v = made_at (actor_at actors v.owner).made at

-- the stamp of the turn that made as many entries as a turn with an item finds; 0 where it finds none
unfoldable pub made_for : List ActorState → Part → Item → ℕ → ℕ
made_for actors part item at = option_map_or (made_in actors at) (view_asked (desk_of part) (asked_in item)) 0

-- ---- one turn

-- One turn: what an actor is after it, and what it sends. The driver does nothing, and a desk sends nothing.
unfoldable pub part_step : Part → ℕ → Item → ℕ → Part × List Output
part_step Driver lane item at = (Driver, [])
part_step (Desk d) lane item at = (Desk (desk_after d item at), [])
part_step (Module m) lane item at = let after = module_step m lane item in (Module after.0, after.1)

abbrev pub part_may_find : Part → Item → ℕ → Bool
part_may_find Driver item at = finds_nothing at
part_may_find (Desk d) item at = desk_may_find d item at
part_may_find (Module m) item at = module_may_find m item at

-- an actor to which a journal of this length is shown, before its turn with an item; only a desk that is asked looks at it
abbrev pub part_shown : Part → Item → ℕ → Part
part_shown Driver item at = Driver
part_shown (Desk d) item at = Desk (desk_shown d item at)
part_shown (Module m) item at = Module m

-- what its next turn finds, by what was shown to it
abbrev pub part_finds : Part → Item → ℕ
part_finds part item = option_map_or (λ d. desk_finds d item) (desk_of part) 0

-- the stamps of a journal's entries after a turn with this stamp
abbrev pub stamps_after : List ℕ → List JournalEntry → List JournalEntry → ℕ → List ℕ
stamps_after stamps before after stamp = stamps ++ replicate (length after - length before) stamp

-- the turn of one of these actors that takes an item of a lane and finds a journal of this length
abbrev pub made_by : List ActorState → ActorState → ℕ → ℕ → Stamped → TurnMade
made_by actors actor lane at taken = turn_made actor.clock lane at taken (made_for actors actor.part taken.item at)

-- an actor after its turn
unfoldable pub actor_after : ActorState → TurnMade → ActorState
actor_after actor m =
    let after = (part_step actor.part m.lane m.taken.item m.at).0 in
    record { part = after; clock = m.stamp; told = actor.told; made = stamps_after actor.made (entries_of actor.part) (entries_of after) m.stamp }

-- what an actor sends in its turn
unfoldable pub outputs_of : ActorState → TurnMade → List Output
outputs_of actor m = (part_step actor.part m.lane m.taken.item m.at).1

-- ---- a settle

-- how many entries actors have, by their numbers
abbrev pub entry_counts : List ActorState → List ℕ
entry_counts actors = map (λ actor. length (entries_of actor.part)) actors

-- what an actor is after a settle, at which actors have so many entries: a desk has seen all of them
abbrev pub part_after_settle : List ℕ → Part → Part
part_after_settle counts Driver = Driver
part_after_settle counts (Desk d) = Desk (desk_after_settle counts d)
part_after_settle counts (Module m) = Module m

-- an actor after a settle, which sets its clock and tells of all full syncs that it finished
abbrev pub actor_after_settle : ℕ → List ℕ → ActorState → ActorState
actor_after_settle clock counts actor =
    record { part = part_after_settle counts actor.part; clock = clock; told = finished_by actor.part; made = actor.made }

abbrev pub actors_after_settle : ℕ → List ActorState → List ActorState
actors_after_settle clock actors = map (actor_after_settle clock (entry_counts actors)) actors

-- ---- answers

abbrev pub value_told : Option KvValue → Told
value_told None = Nothing
value_told (Some value) = Value value

-- what is told by the first so many entries that the owner of a view has: what a store held then, and where a Decision routed then
abbrev pub told_about : List ActorState → View → ℕ → Asked → Told
told_about actors v at (Key key) = value_told (held_value (take at (entries_of (actor_at actors v.owner).part)) key)
told_about actors v at (Prefix prefix) = route_told (option_and_then (λ s. route_at s at prefix) (decision_of (actor_at actors v.owner).part))

-- what is told to a question of a desk: by as many entries as it found, unless the desk had seen more
unfoldable pub told_to : List ActorState → DeskState → Question → Told
told_to actors d q = if nat_lt q.at q.seen then Behind q.at else told_about actors (view_for d q.asked) q.at q.asked

unfoldable pub question_answer : List ActorState → DeskState → Question → AnswerDone
question_answer actors d q = record { node = d.node; asked = q.asked; told = told_to actors d q }

-- the answer to the oldest question of a desk; whatever is no desk has none
abbrev pub answer_of_desk : List ActorState → DeskState → Option AnswerDone
answer_of_desk actors d = option_map (question_answer actors d) (slice_get d.questions 0)

unfoldable pub answer_of : List ActorState → Part → Option AnswerDone
answer_of actors part = option_and_then (answer_of_desk actors) (desk_of part)

-- an actor without its oldest question
abbrev pub part_without_question : Part → Part
part_without_question Driver = Driver
part_without_question (Desk d) = Desk (without_question d)
part_without_question (Module m) = Module m

abbrev pub actor_without_question : ActorState → ActorState
actor_without_question actor = record actor { part = part_without_question actor.part }

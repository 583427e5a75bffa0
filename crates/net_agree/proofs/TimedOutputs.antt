-- No actor sends a tick, and a store's moment is that of the last tick that it took.
use Rattle.std.proofs.Common.{◌≡◌, ℕ, List, [], ◌∷◌, ◌++◌, Option, Some, None, Bool, true, false, Result, Ok, Err, if◌then◌else◌, map, refl}
use Rattle.std.specs.List.{flat_map, AllByRecursion}
use Rattle.or_base.specs.declared.entry.JournalEntry.{JournalEntry}
use Rattle.or_base.specs.declared.value.Pair.{Pair}
use Rattle.or_base.specs.declared.origin.Origin.TheVariants as origin
use Rattle.or_base.specs.declared.message.Msg.{Msg}
use Rattle.or_base.specs.declared.message.Msg.TheVariants.{Flood}
use Rattle.or_base.specs.declared.message.Msg.TheVariants as msg
use Rattle.or_base.specs.declared.item.Item.{Item}
use Rattle.or_base.specs.declared.item.Item.TheVariants.{Up, Down, Tick, Net}
use Rattle.or_base.specs.declared.kind.Kind.{Kind}
use Rattle.or_base.specs.declared.kind.Kind.TheVariants.{Stores, Full}
use Rattle.or_base.specs.ByLink.{at_link}
use Rattle.or_base.specs.Names.{is_among}
use Rattle.or_actor.specs.declared.output.Output.{Output}
use Rattle.or_actor.specs.declared.output.Output.TheVariants.{To}
use Rattle.spark_node.specs.Spark.{spark_step}
use Rattle.link_monitor.specs.LinkMonitor.{link_monitor_step}
use Rattle.prefix_manager.specs.PrefixManager.{prefix_manager_step}
use Rattle.decision_core.specs.Decision.{decision_step}
use Rattle.kv_sync.specs.declared.session.Session.{Session}
use Rattle.kv_sync.specs.declared.session.Stale.{Stale}
use Rattle.kv_sync.specs.declared.session.SyncPhase.TheVariants.{Dumped, Pushed}
use Rattle.kv_sync.specs.Sessions.{SessionsState, session_on, current}
use Rattle.kv_store.specs.declared.response.Response.{Response}
use Rattle.kv_store.specs.declared.response.Response.TheVariants.{Nothing, Start, StartAll, Reply, Push, Ack}
use Rattle.kv_store.specs.Store.{StoreState, store_after_offers, store_after_reply, store_after_ack, message_change, item_change, store_after_item, message_on, start_with, start_on, start_each, push_on, respond, relay_to, floods_to, floods, entries_told, entries_since, store_step}
use Rattle.net_link.specs.declared.end.End.{End}
use Rattle.net_link.specs.declared.end.End.TheVariants.{A, B}
use Rattle.net_link.specs.Link.{LinkState, direction_from, held_messages, forwards, message_to, up_told, down_told, up_to, down_to, carry_step, held_from, end_of, link_step}
use Rattle.net_link.specs.End.{other_end}
use Rattle.net_record.specs.declared.kinds.AnyModule.{AnyModule}
use Rattle.net_record.specs.declared.kinds.AnyModule.TheVariants.{Spark, LinkMonitor, PrefixManager, Store, Decision, Fib, Link}
use Rattle.net_record.specs.declared.part.Part.{Part}
use Rattle.net_record.specs.declared.part.Part.TheVariants.{Driver, Desk, Module}
use Rattle.net_record.specs.Kinds.{module_step}
use Rattle.net_record.specs.Actors.{part_step}
use Rattle.net_agree.proofs.Advertisers.{IsToldItem, IsTold, link_monitor_sends, prefix_manager_sends, decision_sends}
use Rattle.net_agree.proofs.Sparks.{IsSparkItem, IsOfSpark, Anybody, spark_sends_own}
use Rattle.net_agree.proofs.TimedTicks.{moment_past, tick_of, SendNoTicks, none_sent_then}

-- ---- a store sends none

message_is_none : (me : List ℕ) (link : ℕ) (message : Option Msg) → SendNoTicks (message_on me link message)
message_is_none me link None = tt
message_is_none me link (Some message) = (refl, tt)

start_sends_none : (me : List ℕ) (journal : List JournalEntry) (sessions : SessionsState) (peer : ℕ × List ℕ) → SendNoTicks (start_with me journal sessions peer).1
unfolding start_with
start_sends_none me journal sessions peer = (refl, tt)

each_sends_none : (me : List ℕ) (journal : List JournalEntry) (sessions : SessionsState) (peers : List (ℕ × List ℕ)) → SendNoTicks (start_each me journal sessions peers).1
each_sends_none me journal sessions [] = tt
each_sends_none me journal sessions (p ∷ peers) =
    let first = start_with me journal sessions p in
    none_sent_then first.1 (start_each me journal first.0 peers).1 (start_sends_none me journal sessions p) (each_sends_none me journal first.0 peers)

start_on_sends_none : (me : List ℕ) (journal : List JournalEntry) (sessions : SessionsState) (link : ℕ) (peer : Option (List ℕ)) → SendNoTicks (start_on me journal sessions link peer).1
start_on_sends_none me journal sessions link None = tt
start_on_sends_none me journal sessions link (Some peer) = start_sends_none me journal sessions (link, peer)

push_sends_none : (me : List ℕ) (journal : List JournalEntry) (now : ℕ) (sessions : SessionsState) (link : ℕ) (wanted : List (List ℕ)) (running : Option Session)
    → SendNoTicks (push_on me journal now sessions link wanted running).1
push_sends_none me journal now sessions link wanted None = tt
push_sends_none me journal now sessions link wanted (Some session) = (refl, tt)

response_sends_none : (s : StoreState) (response : Response) → SendNoTicks (respond s response).1
unfolding respond
response_sends_none s Nothing = tt
response_sends_none s (Start link) = start_on_sends_none s.me s.journal s.sessions link (at_link s.peers link)
response_sends_none s StartAll = each_sends_none s.me s.journal s.sessions s.peers
response_sends_none s (Reply link session digest) = (refl, tt)
response_sends_none s (Push link wanted) = push_sends_none s.me s.journal s.moment s.sessions link wanted (session_on s.sessions link)
response_sends_none s (Ack link session) = (refl, tt)

none_if : (test : Bool) (outputs : List Output) → SendNoTicks outputs → SendNoTicks (if test then outputs else [])
none_if true outputs h = h
none_if false outputs h = tt

relay_sends_none : (me : List ℕ) (passed : List (List ℕ)) (peer : ℕ × List ℕ) (message : Option Msg) → SendNoTicks (relay_to me passed peer message)
relay_sends_none me passed peer None = tt
relay_sends_none me passed peer (Some message) =
    none_if _ (message_on me peer.0 (Some message)) (message_is_none me peer.0 (Some message))

each_flood_is_none : (me : List ℕ) (passed : List (List ℕ)) (relayed own : Option Msg) (peers : List (ℕ × List ℕ)) → SendNoTicks (flat_map (floods_to me passed relayed own) peers)
each_flood_is_none me passed relayed own [] = tt
each_flood_is_none me passed relayed own (p ∷ peers) =
    none_sent_then (floods_to me passed relayed own p) (flat_map (floods_to me passed relayed own) peers)
    (none_sent_then (relay_to me passed p relayed) (message_on me p.0 own) (relay_sends_none me passed p relayed) (message_is_none me p.0 own))
    (each_flood_is_none me passed relayed own peers)

floods_are_none : (s : StoreState) (entries : List JournalEntry) (passed : List (List ℕ)) → SendNoTicks (floods s entries passed)
unfolding floods
floods_are_none s entries passed =
    each_flood_is_none s.me passed _ _ s.peers

told_are_none : (kind : Kind) (entries : List JournalEntry) → SendNoTicks (entries_told kind entries)
told_are_none Stores entries = tt
told_are_none Full [] = tt
told_are_none Full (entry ∷ entries) = (refl, told_are_none Full entries)

store_sends_none : (s : StoreState) (item : Item) → SendNoTicks (store_step s item).1
unfolding store_step
store_sends_none s item =
    let change = item_change s item in
    let after = store_after_item s item in
    let entries = entries_since s after in
    none_sent_then (respond after change.response).1 (floods after entries change.passed ++ entries_told after.kind entries) (response_sends_none after change.response)
    (none_sent_then (floods after entries change.passed) (entries_told after.kind entries) (floods_are_none after entries change.passed) (told_are_none after.kind entries))

-- ---- a link sends none

messages_are_none : (s : LinkState) (end : End) (messages : List Msg) → SendNoTicks (map (message_to s end) messages)
messages_are_none s end [] = tt
messages_are_none s end (message ∷ messages) = (refl, messages_are_none s end messages)

carry_sends_none : (s : LinkState) (from : Option End) (message : Msg) → SendNoTicks (carry_step s from message).1
unfolding carry_step
carry_sends_none s None message = tt
carry_sends_none s (Some from) message = messages_are_none s (other_end from) (forwards (direction_from s from) message)

none_where : (test : Bool) (first other : LinkState × List Output) → SendNoTicks first.1 → SendNoTicks other.1 → SendNoTicks (if test then first else other).1
none_where true first other h k = h
none_where false first other h k = k

up_is_none : (kind : Kind) (s : LinkState) (end : End) → SendNoTicks (up_told kind s end ∷ [])
up_is_none Stores s end = (refl, tt)
up_is_none Full s end = (refl, tt)

down_is_none : (kind : Kind) (s : LinkState) (end : End) → SendNoTicks (down_told kind s end ∷ [])
down_is_none Stores s end = (refl, tt)
down_is_none Full s end = (refl, tt)

link_sends_none : (s : LinkState) (item : Item) → SendNoTicks (link_step s item).1
unfolding link_step
link_sends_none s Up = none_where s.is_up _ _ tt (none_sent_then (up_to s A ∷ []) (up_to s B ∷ []) (up_is_none s.kind s A) (up_is_none s.kind s B))
link_sends_none s Down = none_where s.is_up _ _ (none_sent_then (down_to s A ∷ []) (down_to s B ∷ []) (down_is_none s.kind s A) (down_is_none s.kind s B)) tt
link_sends_none s (Tick at) =
    none_sent_then (held_from s A) (held_from s B) (messages_are_none s (other_end A) (held_messages (direction_from s A))) (messages_are_none s (other_end B) (held_messages (direction_from s B)))
link_sends_none s (Net link from message) = none_where s.is_up _ _ (carry_sends_none s (end_of s from) message) tt
link_sends_none s _ = tt

-- ---- the other modules send none

no_tick_of_spark : (port : ℕ) (item : Item) → IsSparkItem Anybody port item → tick_of item ≡ None
no_tick_of_spark port (Tick at) own = absurd own
no_tick_of_spark port _ own = refl

none_of_spark : (outputs : List Output) → AllByRecursion (IsOfSpark Anybody) outputs → SendNoTicks outputs
none_of_spark [] own = tt
none_of_spark (To port item ∷ outputs) own = (no_tick_of_spark port item own.0, none_of_spark outputs own.1)

no_tick_told : (item : Item) → IsToldItem Anybody item → tick_of item ≡ None
no_tick_told (Tick at) told = absurd told
no_tick_told _ told = refl

none_told : (outputs : List Output) → AllByRecursion (IsTold Anybody) outputs → SendNoTicks outputs
none_told [] told = tt
none_told (To port item ∷ outputs) told = (no_tick_told item told.0, none_told outputs told.1)

-- ---- an actor sends none

module_sends_none : (m : AnyModule) (lane : ℕ) (item : Item) → SendNoTicks (module_step m lane item).1
unfolding module_step
module_sends_none (Spark s) lane item = none_of_spark (spark_step s item).1 (spark_sends_own s item)
module_sends_none (LinkMonitor s) lane item = none_told (link_monitor_step s item).1 (link_monitor_sends Anybody s item (λ link peer peer_if brings. tt))
module_sends_none (PrefixManager s) lane item = none_told (prefix_manager_step s item).1 (prefix_manager_sends Anybody s item)
module_sends_none (Store s) lane item = store_sends_none s item
module_sends_none (Decision s) lane item = none_told (decision_step s item).1 (decision_sends Anybody s item)
module_sends_none (Fib s) lane item = tt
module_sends_none (Link s) lane item = link_sends_none s item

pub part_sends_none : (part : Part) (lane : ℕ) (item : Item) (at : ℕ) → SendNoTicks (part_step part lane item at).1
unfolding part_step
part_sends_none Driver lane item at = tt
part_sends_none (Desk d) lane item at = tt
part_sends_none (Module m) lane item at = module_sends_none m lane item

-- ---- the moment of a store

flood_moment : (s : StoreState) (test : Bool) (pairs : List Pair) → (if test then s else store_after_offers s pairs origin.Flood).moment ≡ s.moment
flood_moment s true pairs = refl
flood_moment s false pairs = refl

reply_moment : (s : StoreState) (link b0 : ℕ) (pairs : List Pair) (withheld : ℕ) (running : Result Session Stale) → (store_after_reply s link b0 pairs withheld running).moment ≡ s.moment
reply_moment s link b0 pairs withheld (Ok t) = refl
reply_moment s link b0 pairs withheld (Err stale) = refl

ack_moment : (s : StoreState) (link : ℕ) (running : Result Session Stale) → (store_after_ack s link running).moment ≡ s.moment
ack_moment s link (Ok t) = refl
ack_moment s link (Err stale) = refl

message_moment : (s : StoreState) (link : ℕ) (from : List ℕ) (message : Msg) → (message_change s link from message).store.moment ≡ s.moment
message_moment s link from (Flood passed pairs) = flood_moment s (is_among s.me passed) pairs
message_moment s link from (msg.Reply session b0 pairs wanted withheld) = reply_moment s link b0 pairs withheld (current s.sessions link session Dumped)
message_moment s link from (msg.Ack session) = ack_moment s link (current s.sessions link session Pushed)
message_moment s link from _ = refl

item_moment : (s : StoreState) (item : Item) → (item_change s item).store.moment ≡ moment_past s.moment item
unfolding item_change
item_moment s (Net link from message) = message_moment s link from message
item_moment s _ = refl

pub moment_stepped : (s : StoreState) (item : Item) → (store_step s item).0.moment ≡ moment_past s.moment item
unfolding store_step
moment_stepped s item = item_moment s item

-- A store stays that of its node, and sends messages of its node alone, each to the port of its link.
use Rattle.std.proofs.Common.{◌≡◌, ℕ, ◌+◌, List, [], ◌∷◌, ◌++◌, Bool, true, false, Option, Some, None, Result, Ok, Err, if◌then◌else◌, refl, ◌∙◌}
use Rattle.std.specs.List.{Contains, AllByRecursion}
use Rattle.std.proofs.lemmas.List.Elements.{All-contains, All-from_recursion}
use Rattle.or_base.specs.declared.entry.JournalEntry.{JournalEntry}
use Rattle.or_base.specs.declared.kind.Kind.{Kind}
use Rattle.or_base.specs.declared.kind.Kind.TheVariants.{Stores, Full}
use Rattle.or_base.specs.declared.message.Msg.{Msg}
use Rattle.or_base.specs.declared.message.Msg.TheVariants as msg
use Rattle.or_base.specs.declared.item.Item.{Item}
use Rattle.or_base.specs.declared.item.Item.TheVariants.{Net}
use Rattle.or_base.specs.declared.value.Pair.{Pair}
use Rattle.or_base.specs.ByLink.{at_link}
use Rattle.or_base.specs.Names.{is_among}
use Rattle.or_actor.specs.declared.output.Output.{Output}
use Rattle.or_actor.specs.declared.output.Output.TheVariants.{To}
use Rattle.or_actor.specs.Ports.{first_link_port}
use Rattle.kv_sync.specs.declared.session.Session.{Session}
use Rattle.kv_sync.specs.declared.session.Stale.{Stale}
use Rattle.kv_sync.specs.declared.session.SyncPhase.TheVariants.{Dumped, Pushed}
use Rattle.kv_sync.specs.Sessions.{SessionsState, session_on, current}
use Rattle.kv_store.specs.declared.response.Response.{Response}
use Rattle.kv_store.specs.declared.response.Response.TheVariants.{Nothing, Start, StartAll, Reply, Push, Ack}
use Rattle.kv_store.specs.Store.{StoreState, store_after_reply, store_after_ack, message_change, item_change, store_after_item, message_on, start_with, start_on, start_each, push_on, respond, relay_to, floods_to, floods, entries_told, entries_since, store_step}
use Rattle.kv_agree.specs.Traced.{Carried, carried_by}
use Rattle.kv_agree.proofs.Lists.{all_joined}
use Rattle.net_agree.proofs.LiftedLists.{all_given, all_if}

-- ---- the store of a node

-- of the same kind and of the same node
abbrev pub AreOfOne : StoreState → StoreState → Type 0
AreOfOne s t = (t.me ≡ s.me) × (t.kind ≡ s.kind)

flood_of_one : (s : StoreState) (test : Bool) (pairs : List Pair) (t : StoreState) → AreOfOne s t → AreOfOne s (if test then s else t)
flood_of_one s true pairs t one = (refl, refl)
flood_of_one s false pairs t one = one

reply_of_one : (s : StoreState) (link b0 : ℕ) (pairs : List Pair) (withheld : ℕ) (running : Result Session Stale) → AreOfOne s (store_after_reply s link b0 pairs withheld running)
reply_of_one s link b0 pairs withheld (Ok session) = (refl, refl)
reply_of_one s link b0 pairs withheld (Err stale) = (refl, refl)

ack_of_one : (s : StoreState) (link : ℕ) (running : Result Session Stale) → AreOfOne s (store_after_ack s link running)
ack_of_one s link (Ok session) = (refl, refl)
ack_of_one s link (Err stale) = (refl, refl)

message_of_one : (s : StoreState) (link : ℕ) (from : List ℕ) (m : Msg) → AreOfOne s (message_change s link from m).store
message_of_one s link from (msg.Flood passed pairs) = flood_of_one s (is_among s.me passed) pairs _ (refl, refl)
message_of_one s link from (msg.Reply session b0 pairs wanted withheld) = reply_of_one s link b0 pairs withheld (current s.sessions link session Dumped)
message_of_one s link from (msg.Ack session) = ack_of_one s link (current s.sessions link session Pushed)
message_of_one s link from _ = (refl, refl)

item_of_one : (s : StoreState) (item : Item) → AreOfOne s (item_change s item).store
unfolding item_change
item_of_one s (Net link from m) = message_of_one s link from m
item_of_one s _ = (refl, refl)

after_item_of_one : (s : StoreState) (item : Item) → AreOfOne s (store_after_item s item)
after_item_of_one s item = item_of_one s item

-- a turn changes neither
pub turn_of_one : (s : StoreState) (item : Item) → AreOfOne s (store_step s item).0
unfolding store_step
turn_of_one s item = after_item_of_one s item

-- ---- what a store sends

abbrev IsOwnMessage : List ℕ → ℕ → Option Carried → Type 0
IsOwnMessage me port None = Unit {0}
IsOwnMessage me port (Some c) = (c.from ≡ me) × (port ≡ first_link_port + c.link)

-- where it is a message over a link, it is of this node, and to the port of the link
abbrev pub IsOwn : List ℕ → Output → Type 0
IsOwn me (To port item) = IsOwnMessage me port (carried_by item)

abbrev AllOwn : List ℕ → List Output → Type 0
AllOwn me sent = AllByRecursion (IsOwn me) sent

message_own : (me : List ℕ) (link : ℕ) (m : Option Msg) → AllOwn me (message_on me link m)
message_own me link None = tt
message_own me link (Some m) = ((refl, refl), tt)

start_own : (me : List ℕ) (journal : List JournalEntry) (sessions : SessionsState) (peer : ℕ × List ℕ) → AllOwn me (start_with me journal sessions peer).1
unfolding start_with
start_own me journal sessions peer = ((refl, refl), tt)

start_on_own : (me : List ℕ) (journal : List JournalEntry) (sessions : SessionsState) (link : ℕ) (peer : Option (List ℕ)) → AllOwn me (start_on me journal sessions link peer).1
start_on_own me journal sessions link None = tt
start_on_own me journal sessions link (Some peer) = start_own me journal sessions (link, peer)

starts_own : (me : List ℕ) (journal : List JournalEntry) (sessions : SessionsState) (peers : List (ℕ × List ℕ)) → AllOwn me (start_each me journal sessions peers).1
starts_own me journal sessions [] = tt
starts_own me journal sessions (peer ∷ peers) =
    let first = start_with me journal sessions peer in
    all_joined (IsOwn me) first.1 (start_each me journal first.0 peers).1 (start_own me journal sessions peer) (starts_own me journal first.0 peers)

push_own : (me : List ℕ) (journal : List JournalEntry) (now : ℕ) (sessions : SessionsState) (link : ℕ) (wanted : List (List ℕ)) (running : Option Session)
    → AllOwn me (push_on me journal now sessions link wanted running).1
push_own me journal now sessions link wanted None = tt
push_own me journal now sessions link wanted (Some session) = ((refl, refl), tt)

response_own : (s : StoreState) (response : Response) → AllOwn s.me (respond s response).1
unfolding respond
response_own s Nothing = tt
response_own s (Start link) = start_on_own s.me s.journal s.sessions link (at_link s.peers link)
response_own s StartAll = starts_own s.me s.journal s.sessions s.peers
response_own s (Reply link session digest) = ((refl, refl), tt)
response_own s (Push link wanted) = push_own s.me s.journal s.moment s.sessions link wanted (session_on s.sessions link)
response_own s (Ack link session) = ((refl, refl), tt)

relay_own : (me : List ℕ) (passed : List (List ℕ)) (peer : ℕ × List ℕ) (m : Option Msg) → AllOwn me (relay_to me passed peer m)
relay_own me passed peer None = tt
relay_own me passed peer (Some m) = all_if (IsOwn me) _ (message_on me peer.0 (Some m)) (message_own me peer.0 (Some m))

flood_own : (me : List ℕ) (passed : List (List ℕ)) (relayed own : Option Msg) (peer : ℕ × List ℕ) → AllOwn me (floods_to me passed relayed own peer)
flood_own me passed relayed own peer =
    all_joined (IsOwn me) (relay_to me passed peer relayed) (message_on me peer.0 own) (relay_own me passed peer relayed) (message_own me peer.0 own)

floods_own : (s : StoreState) (entries : List JournalEntry) (passed : List (List ℕ)) → AllOwn s.me (floods s entries passed)
unfolding floods
floods_own s entries passed = all_given (IsOwn s.me) _ s.peers (λ peer. flood_own s.me passed _ _ peer)

told_own : (me : List ℕ) (kind : Kind) (entries : List JournalEntry) → AllOwn me (entries_told kind entries)
told_own me Stores entries = tt
told_own me Full [] = tt
told_own me Full (entry ∷ entries) = (tt, told_own me Full entries)

turn_own : (s : StoreState) (item : Item) → AllOwn (store_after_item s item).me (store_step s item).1
unfolding store_step
turn_own s item =
    let change = item_change s item in
    let after = store_after_item s item in
    let entries = entries_since s after in
    all_joined (IsOwn after.me) (respond after change.response).1 (floods after entries change.passed ++ entries_told after.kind entries)
    (response_own after change.response)
    (all_joined (IsOwn after.me) (floods after entries change.passed) (entries_told after.kind entries) (floods_own after entries change.passed) (told_own after.me after.kind entries))

-- a message that a turn sends is of the store's node, and goes to the port of its link
pub sent_own : (s : StoreState) (item : Item) (port link : ℕ) (node : List ℕ) (m : Msg) → Contains (store_step s item).1 (To port (Net link node m))
    → (node ≡ s.me) × (port ≡ first_link_port + link)
sent_own s item port link node m sent =
    let me = (store_after_item s item).me in
    let own : IsOwn me (To port (Net link node m)) = All-contains (IsOwn me) (store_step s item).1 (To port (Net link node m)) (All-from_recursion (IsOwn me) (store_step s item).1 (turn_own s item)) sent in
    (own.0 ∙ (after_item_of_one s item).0, own.1)

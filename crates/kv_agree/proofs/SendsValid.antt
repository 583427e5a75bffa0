-- What a turn of an orderly store sends: the pairs of each reply and of each push are within the limits.
use Rattle.std.proofs.Common.{ℕ, List, [], ◌∷◌, ◌++◌, Option, Some, None, IfSome}
use Rattle.std.specs.List.{AllByRecursion, flat_map}
use Rattle.std.proofs.lemmas.Bool.{cond_both}
use Rattle.std.proofs.lemmas.List.Elements.{All-contains, All-from_recursion}
use Rattle.or_base.specs.declared.digest.DigestRow.{DigestRow}
use Rattle.or_base.specs.declared.value.Pair.{Pair}
use Rattle.or_base.specs.declared.entry.JournalEntry.{JournalEntry}
use Rattle.or_base.specs.declared.kind.Kind.{Kind}
use Rattle.or_base.specs.declared.kind.Kind.TheVariants.{Stores, Full}
use Rattle.or_base.specs.declared.message.Msg.{Msg}
use Rattle.or_base.specs.declared.message.Msg.TheVariants as msg
use Rattle.or_base.specs.declared.item.Item.{Item}
use Rattle.or_base.specs.declared.item.Item.TheVariants.{Net}
use Rattle.or_base.specs.ByLink.{at_link}
use Rattle.or_actor.specs.declared.output.Output.{Output}
use Rattle.or_actor.specs.declared.output.Output.TheVariants.{To}
use Rattle.kv_flood.specs.Flooding.{is_target, flood_of, flood_message}
use Rattle.kv_sync.specs.declared.session.Session.{Session}
use Rattle.kv_sync.specs.Sessions.{SessionsState, session_on}
use Rattle.kv_sync.specs.Difference.{better_keys}
use Rattle.kv_sync.specs.Messages.{dump_message, reply_message, push_message}
use Rattle.kv_store.specs.declared.response.Response.{Response}
use Rattle.kv_store.specs.declared.response.Response.TheVariants.{Nothing, Start, StartAll, Reply, Push, Ack}
use Rattle.kv_store.specs.Store.{StoreState, message_on, start_with, start_on, start_each, push_on, respond, relayed_keys, own_keys, relay_to, floods_to, floods, entries_told, entries_since, item_change, store_after_item, store_step}
use Rattle.kv_agree.specs.Orderly.{IsOrderly, IsNotBefore, AreValid, StaysOrderly}
use Rattle.kv_agree.proofs.Lists.{all_joined}
use Rattle.kv_agree.proofs.Orderly.{IsOrderlyAt, HasOrderly, after_item_orderly, turn_orderly}
use Rattle.kv_agree.proofs.Valid.{sent_are_valid}

-- the pairs of a reply or a push are within the limits
abbrev HasValid : Msg → Type 0
HasValid (msg.Reply session b0 pairs wanted withheld) = AreValid pairs
HasValid (msg.Push session pairs) = AreValid pairs
HasValid _ = Unit {0}

abbrev BringsValid : Item → Type 0
BringsValid (Net link from msg) = HasValid msg
BringsValid _ = Unit {0}

abbrev SendsValid : Output → Type 0
SendsValid (To port item) = BringsValid item

abbrev AllSendValid : List Output → Type 0
AllSendValid outputs = AllByRecursion SendsValid outputs

message_valid : (me : List ℕ) (link : ℕ) (msg : Option Msg) → IfSome msg HasValid → AllSendValid (message_on me link msg)
message_valid me link None valid = tt
message_valid me link (Some msg) valid = (valid, tt)

-- ---- the response

start_valid : (me : List ℕ) (journal : List JournalEntry) (sessions : SessionsState) (peer : ℕ × List ℕ) → AllSendValid (start_with me journal sessions peer).1
unfolding start_with dump_message
start_valid me journal sessions peer = (tt, tt)

start_on_valid : (me : List ℕ) (journal : List JournalEntry) (sessions : SessionsState) (link : ℕ) (peer : Option (List ℕ)) → AllSendValid (start_on me journal sessions link peer).1
start_on_valid me journal sessions link None = tt
start_on_valid me journal sessions link (Some peer) = start_valid me journal sessions (link, peer)

starts_valid : (me : List ℕ) (journal : List JournalEntry) (peers : List (ℕ × List ℕ)) (sessions : SessionsState) → AllSendValid (start_each me journal sessions peers).1
starts_valid me journal [] sessions = tt
starts_valid me journal (peer ∷ peers) sessions =
    let first = start_with me journal sessions peer in
    all_joined SendsValid first.1 (start_each me journal first.0 peers).1 (start_valid me journal sessions peer) (starts_valid me journal peers first.0)

reply_valid : (moment : ℕ) (journal : List JournalEntry) (session : ℕ) (rows : List DigestRow) → IsOrderlyAt moment journal → HasValid (reply_message journal moment session rows)
unfolding reply_message
reply_valid moment journal session rows orderly = sent_are_valid moment journal (better_keys rows journal) orderly

push_valid : (me : List ℕ) (moment : ℕ) (journal : List JournalEntry) (sessions : SessionsState) (link : ℕ) (wanted : List (List ℕ)) (running : Option Session) → IsOrderlyAt moment journal
    → AllSendValid (push_on me journal moment sessions link wanted running).1
unfolding push_message
push_valid me moment journal sessions link wanted None orderly = tt
push_valid me moment journal sessions link wanted (Some session) orderly = (sent_are_valid moment journal wanted orderly, tt)

response_valid : (s : StoreState) (response : Response) → HasOrderly s → AllSendValid (respond s response).1
unfolding respond
response_valid s Nothing orderly = tt
response_valid s (Start link) orderly = start_on_valid s.me s.journal s.sessions link (at_link s.peers link)
response_valid s StartAll orderly = starts_valid s.me s.journal s.peers s.sessions
response_valid s (Reply link session rows) orderly = (reply_valid s.moment s.journal session rows orderly, tt)
response_valid s (Push link wanted) orderly = push_valid s.me s.moment s.journal s.sessions link wanted (session_on s.sessions link) orderly
response_valid s (Ack link session) orderly = (tt, tt)

-- ---- floods, and what Decision is told

flood_valid : (passed : List (List ℕ)) (me : List ℕ) (pairs : List Pair) → IfSome (flood_of passed me pairs) HasValid
flood_valid passed me [] = tt
flood_valid passed me (pair ∷ pairs) = tt

relay_valid : (me : List ℕ) (passed : List (List ℕ)) (peer : ℕ × List ℕ) (relayed : Option Msg) → IfSome relayed HasValid → AllSendValid (relay_to me passed peer relayed)
relay_valid me passed peer None valid = tt
relay_valid me passed peer (Some msg) valid = cond_both (is_target me peer.1 passed) (message_on me peer.0 (Some msg)) [] AllSendValid (λ target. (valid, tt)) (λ other. tt)

flooded_valid : (me : List ℕ) (passed : List (List ℕ)) (relayed own : Option Msg) (peers : List (ℕ × List ℕ)) → IfSome relayed HasValid → IfSome own HasValid
    → AllSendValid (flat_map (floods_to me passed relayed own) peers)
flooded_valid me passed relayed own [] valid_relayed valid_own = tt
flooded_valid me passed relayed own (peer ∷ peers) valid_relayed valid_own =
    all_joined SendsValid (floods_to me passed relayed own peer) (flat_map (floods_to me passed relayed own) peers)
    (all_joined SendsValid (relay_to me passed peer relayed) (message_on me peer.0 own) (relay_valid me passed peer relayed valid_relayed) (message_valid me peer.0 own valid_own))
    (flooded_valid me passed relayed own peers valid_relayed valid_own)

message_of_flood_valid : (s : StoreState) (keys passed : List (List ℕ)) → IfSome (flood_message s.journal s.moment keys passed s.me) HasValid
unfolding flood_message
message_of_flood_valid s keys passed = flood_valid passed s.me _

floods_valid : (s : StoreState) (entries : List JournalEntry) (passed : List (List ℕ)) → AllSendValid (floods s entries passed)
unfolding floods
floods_valid s entries passed =
    let relayed = flood_message s.journal s.moment (relayed_keys entries) passed s.me in
    let own = flood_message s.journal s.moment (own_keys entries) [] s.me in
    flooded_valid s.me passed relayed own s.peers (message_of_flood_valid s (relayed_keys entries) passed) (message_of_flood_valid s (own_keys entries) [])

told_valid : (kind : Kind) (entries : List JournalEntry) → AllSendValid (entries_told kind entries)
told_valid Stores entries = tt
told_valid Full [] = tt
told_valid Full (entry ∷ entries) = (tt, told_valid Full entries)

-- ---- a turn

turn_valid : (s : StoreState) (item : Item) → IsNotBefore s.moment item → IsOrderly s → AllSendValid (store_step s item).1
unfolding store_step
turn_valid s item not_before orderly =
    let change = item_change s item in
    let after = store_after_item s item in
    let entries = entries_since s after in
    all_joined SendsValid (respond after change.response).1 (floods after entries change.passed ++ entries_told after.kind entries)
    (response_valid after change.response (after_item_orderly s item not_before orderly))
    (all_joined SendsValid (floods after entries change.passed) (entries_told after.kind entries) (floods_valid after entries change.passed) (told_valid after.kind entries))

pub stores_stay_orderly : StaysOrderly
stores_stay_orderly = record {
  starts = λ kind me. record { made = tt; timely = tt };
  goes_on = turn_orderly;
  replies = λ s item port link session b0 pairs wanted withheld not_before orderly sent.
      let outputs = (store_step s item).1 in
      All-contains SendsValid outputs (To port (Net link s.me (msg.Reply session b0 pairs wanted withheld))) (All-from_recursion SendsValid outputs (turn_valid s item not_before orderly)) sent;
  pushes = λ s item port link session pairs not_before orderly sent.
      let outputs = (store_step s item).1 in
      All-contains SendsValid outputs (To port (Net link s.me (msg.Push session pairs))) (All-from_recursion SendsValid outputs (turn_valid s item not_before orderly)) sent;
}

-- A store sends Decision the entries that its turn appended to its journal, in order, and nothing else; Decision takes each.
use Rattle.std.proofs.Common.{◌≡◌, ℕ, List, [], ◌∷◌, ◌++◌, Option, Some, None, Bool, true, false, cond, ◌==◌, length, drop, refl, sym, ap, ◌∙◌, append-nil, eq-eqb, ne_eqb}
use Rattle.std.specs.List.{flat_map}
use Rattle.std.proofs.lemmas.List.Concat.{flat_map-append}
use Rattle.std.proofs.Math.Seq.{drop-append_seam}
use Rattle.or_base.specs.ByLink.{at_link}
use Rattle.or_base.specs.declared.entry.JournalEntry.{JournalEntry}
use Rattle.or_base.specs.declared.item.Item.{Item}
use Rattle.or_base.specs.declared.item.Item.TheVariants.{Entry}
use Rattle.or_base.specs.declared.kind.Kind.{Kind}
use Rattle.or_base.specs.declared.kind.Kind.TheVariants.{Full}
use Rattle.or_base.specs.declared.message.Msg.{Msg}
use Rattle.or_actor.specs.declared.output.Output.{Output}
use Rattle.or_actor.specs.declared.output.Output.TheVariants.{To}
use Rattle.or_actor.specs.Ports.{decision_port}
use Rattle.kv_store.specs.declared.response.Response.{Response}
use Rattle.kv_store.specs.declared.response.Response.TheVariants.{Nothing, Start, StartAll, Reply, Push, Ack}
use Rattle.kv_store.specs.Store.{StoreState, message_on, start_with, start_on, start_each, push_on, respond, relay_to, floods_to, floods, entries_told, entries_since, item_change, store_after_item, store_step}
use Rattle.kv_store.proofs.Growth.{journals_grow}
use Rattle.decision_core.specs.Decision.{DecisionState, decision_step}
use Rattle.net_agree.proofs.LiftedSends.{turn_of_one}

-- ---- the entries among items and outputs

-- the entry that an item brings, if it brings one
abbrev pub entry_in : Item → List JournalEntry
entry_in (Entry entry) = entry ∷ []
entry_in _ = []

-- the entry that an output sends by this port
abbrev pub entry_by : ℕ → Output → List JournalEntry
entry_by port (To to (Entry entry)) = cond (to == port) (entry ∷ []) []
entry_by port (To to _) = []

-- those that all of them send, in order
abbrev pub entries_by : ℕ → List Output → List JournalEntry
entries_by port outputs = flat_map (entry_by port) outputs

pub entry_by_port : (port : ℕ) (item : Item) → entry_by port (To port item) ≡ entry_in item
entry_by_port port (Entry entry) = ap (λ b. cond b (entry ∷ []) []) (eq-eqb port port refl)
entry_by_port port _ = refl

pub entry_by_other : (port to : ℕ) (item : Item) → (to ≡ port → ⊥) → entry_by port (To to item) ≡ []
entry_by_other port to (Entry entry) other = ap (λ b. cond b (entry ∷ []) []) (ne_eqb to port other)
entry_by_other port to _ other = refl

-- ---- what else a store sends

abbrev SendNone : List Output → Type 0
SendNone outputs = entries_by decision_port outputs ≡ []

none_both : (some more : List Output) → SendNone some → SendNone more → SendNone (some ++ more)
none_both some more none others =
    flat_map-append (entry_by decision_port) some more ∙ ap (λ es. es ++ entries_by decision_port more) none ∙ others

none_if : (test : Bool) (outputs : List Output) → SendNone outputs → SendNone (cond test outputs [])
none_if true outputs none = none
none_if false outputs none = refl

none_message : (me : List ℕ) (link : ℕ) (msg : Option Msg) → SendNone (message_on me link msg)
none_message me link None = refl
none_message me link (Some msg) = refl

none_start : (me : List ℕ) (journal : List JournalEntry) (s : StoreState) (peer : ℕ × List ℕ) → SendNone (start_with me journal s.sessions peer).1
unfolding start_with
none_start me journal s peer = refl

none_start_on : (me : List ℕ) (journal : List JournalEntry) (s : StoreState) (link : ℕ) (peer : Option (List ℕ)) → SendNone (start_on me journal s.sessions link peer).1
none_start_on me journal s link None = refl
none_start_on me journal s link (Some peer) = none_start me journal s (link, peer)

none_starts : (me : List ℕ) (journal : List JournalEntry) (peers : List (ℕ × List ℕ)) (s : StoreState) → SendNone (start_each me journal s.sessions peers).1
none_starts me journal [] s = refl
none_starts me journal (peer ∷ peers) s =
    let first = start_with me journal s.sessions peer in
    let next : StoreState = record s { sessions = first.0 } in
    none_both first.1 (start_each me journal first.0 peers).1 (none_start me journal s peer) (none_starts me journal peers next)

-- of what may be there or not
by_option : {A : Type 0} (sends : Option A → List Output) (found : Option A) → SendNone (sends None) → ((a : A) → SendNone (sends (Some a))) → SendNone (sends found)
by_option sends None none some = none
by_option sends (Some a) none some = some a

none_response : (s : StoreState) (response : Response) → SendNone (respond s response).1
unfolding respond
none_response s Nothing = refl
none_response s (Start link) = none_start_on s.me s.journal s link (at_link s.peers link)
none_response s StartAll = none_starts s.me s.journal s.peers s
none_response s (Reply link session digest) = refl
none_response s (Push link wanted) = by_option (λ session. (push_on s.me s.journal s.moment s.sessions link wanted session).1) _ refl (λ session. refl)
none_response s (Ack link session) = refl

none_relay : (me : List ℕ) (passed : List (List ℕ)) (peer : ℕ × List ℕ) (relayed : Option Msg) → SendNone (relay_to me passed peer relayed)
none_relay me passed peer None = refl
none_relay me passed peer (Some msg) = none_if _ (message_on me peer.0 (Some msg)) refl

none_floods_to : (me : List ℕ) (passed : List (List ℕ)) (relayed own : Option Msg) (peers : List (ℕ × List ℕ)) → SendNone (flat_map (floods_to me passed relayed own) peers)
none_floods_to me passed relayed own [] = refl
none_floods_to me passed relayed own (peer ∷ peers) =
    none_both (floods_to me passed relayed own peer) (flat_map (floods_to me passed relayed own) peers)
    (none_both (relay_to me passed peer relayed) (message_on me peer.0 own) (none_relay me passed peer relayed) (none_message me peer.0 own))
    (none_floods_to me passed relayed own peers)

none_floods : (s : StoreState) (entries : List JournalEntry) (passed : List (List ℕ)) → SendNone (floods s entries passed)
unfolding floods
none_floods s entries passed = none_floods_to s.me passed _ _ s.peers

-- ---- what it tells Decision

all_told : (entries : List JournalEntry) → entries_by decision_port (entries_told Full entries) ≡ entries
all_told [] = refl
all_told (entry ∷ entries) = ap (λ es. entry ∷ es) (all_told entries)

told_last : (some more : List Output) (kind : Kind) (entries : List JournalEntry) → kind ≡ Full → SendNone some → SendNone more
    → entries_by decision_port (some ++ (more ++ entries_told kind entries)) ≡ entries
told_last some more kind entries full none others =
    let told = entries_told kind entries in
    flat_map-append (entry_by decision_port) some (more ++ told)
    ∙ ap (λ es. es ++ entries_by decision_port (more ++ told)) none
    ∙ flat_map-append (entry_by decision_port) more told
    ∙ ap (λ es. es ++ entries_by decision_port told) others
    ∙ ap (λ (k : Kind). entries_by decision_port (entries_told k entries)) full
    ∙ all_told entries

-- the store of a full node sends Decision what its turn appended to its journal
pub store_tells : (s : StoreState) (item : Item) → s.kind ≡ Full → (store_step s item).0.journal ≡ s.journal ++ entries_by decision_port (store_step s item).1
unfolding store_step
store_tells s item full =
    let change = item_change s item in
    let after = store_after_item s item in
    let entries = entries_since s after in
    let front = journals_grow s item in
    let new : entries ≡ front.more = ap (drop (length s.journal)) front.is ∙ drop-append_seam s.journal front.more in
    let sent = told_last (respond after change.response).1 (floods after entries change.passed) after.kind entries ((turn_of_one s item).1 ∙ full)
    (none_response after change.response) (none_floods after entries change.passed) in
    front.is ∙ ap (λ es. s.journal ++ es) (sym new) ∙ ap (λ es. s.journal ++ es) (sym sent)

-- ---- what Decision takes

pub decision_takes : (s : DecisionState) (item : Item) → (decision_step s item).0.taken ≡ s.taken ++ entry_in item
unfolding decision_step
decision_takes s (Entry entry) = refl
decision_takes s _ = sym (append-nil s.taken)

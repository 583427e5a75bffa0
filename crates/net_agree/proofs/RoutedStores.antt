-- A store keeps its name, learns of peers from their news alone, and sends messages under its own name over the links of its ports.
use Rattle.std.proofs.Common.{◌≡◌, ℕ, ◌+◌, List, [], ◌∷◌, ◌++◌, Option, Some, None, Result, Ok, Err, Bool, true, false, cond, if◌then◌else◌, refl, sym, ◌∙◌, subst}
use Rattle.std.specs.List.{AllByRecursion, flat_map}
use Rattle.std.specs.Ordering.{nat_cmp, is_eq, match_ordering}
use Rattle.std.specs.declared.cmp.Ordering.{Ordering}
use Rattle.std.specs.declared.cmp.Ordering.TheVariants.{Less, Equal, Greater}
use Rattle.std.proofs.lemmas.Cmp.{ranked}
use Rattle.std.proofs.lemmas.Option.{none-some}
use Rattle.or_base.specs.ByLink.{at_link, with_link, without_link}
use Rattle.or_base.specs.Names.{is_among}
use Rattle.or_base.specs.declared.entry.JournalEntry.{JournalEntry}
use Rattle.or_base.specs.declared.item.Item.{Item}
use Rattle.or_base.specs.declared.item.Item.TheVariants.{NeighbourUp, PeerUp, PeerDown, Net, Restart}
use Rattle.or_base.specs.declared.kind.Kind.{Kind}
use Rattle.or_base.specs.declared.kind.Kind.TheVariants.{Stores, Full}
use Rattle.or_base.specs.declared.message.Msg.{Msg}
use Rattle.or_base.specs.declared.message.Msg.TheVariants as msg
use Rattle.or_base.specs.declared.origin.Origin.TheVariants as origin
use Rattle.or_base.specs.declared.session.SyncDone.{SyncDone}
use Rattle.or_base.specs.declared.value.Pair.{Pair}
use Rattle.or_actor.specs.declared.output.Output.{Output}
use Rattle.or_actor.specs.declared.output.Output.TheVariants.{To}
use Rattle.or_actor.specs.Ports.{first_link_port}
use Rattle.kv_sync.specs.declared.session.Session.{Session}
use Rattle.kv_sync.specs.declared.session.Stale.{Stale}
use Rattle.kv_sync.specs.declared.session.SyncPhase.{SyncPhase}
use Rattle.kv_sync.specs.declared.session.SyncPhase.TheVariants.{Dumped, Pushed}
use Rattle.kv_sync.specs.Sessions.{SessionsState, session_on, with_started_session, current, done_of}
use Rattle.kv_store.specs.declared.response.Response.{Response}
use Rattle.kv_store.specs.declared.response.Response.TheVariants.{Nothing, Start, StartAll, Reply, Push, Ack}
use Rattle.kv_store.specs.Store.{StoreState, store_after_offers, store_after_reply, store_after_ack, message_change, item_change, message_on, start_with, start_on, start_each, push_on, respond, relay_to, floods_to, floods, entries_told, entries_since, store_after_item, store_step}
use Rattle.kv_agree.proofs.Lists.{all_joined}
use Rattle.kv_agree.proofs.OnLink.{runs_where_current}

-- ---- maps by link

pub all_with : {A : Type 0} (P : ℕ × A → Type 0) (link : ℕ) (a : A) (es : List (ℕ × A)) → P (link, a) → AllByRecursion P es → AllByRecursion P (with_link es link a)
all_with P link a [] here all = (here, tt)
all_with {A = A} P link a (e ∷ es) here all = by_order (all_with P link a es here all.1) (nat_cmp link e.0) refl where
  by_order : AllByRecursion P (with_link es link a)
      → (o : Ordering) → nat_cmp link e.0 ≡ o
      → AllByRecursion P (match_ordering o ((link, a) ∷ e ∷ es) ((e.0, a) ∷ es) (e ∷ with_link es link a))
  by_order later Less is = (here, all)
  by_order later Equal is = (subst (λ n. P (n, a)) (ranked link e.0 Equal (sym is)) here, all.1)
  by_order later Greater is = (all.0, later)

pub all_without : {A : Type 0} (P : ℕ × A → Type 0) (link : ℕ) (es : List (ℕ × A)) → AllByRecursion P es → AllByRecursion P (without_link es link)
all_without P link [] all = tt
all_without P link (e ∷ es) all = by_test (all_without P link es all.1) (is_eq (nat_cmp link e.0)) where
  by_test : AllByRecursion P (without_link es link) → (test : Bool) → AllByRecursion P (cond test es (e ∷ without_link es link))
  by_test later true = all.1
  by_test later false = (all.0, later)

-- what holds of all holds of what the map has for a link
pub all_at : {A : Type 0} (P : ℕ × A → Type 0) (link : ℕ) (a : A) (es : List (ℕ × A)) → AllByRecursion P es → at_link es link ≡ Some a → P (link, a)
all_at P link a [] all found = absurd (none-some a found)
all_at {A = A} P link a (e ∷ es) all found = by_order (λ later. all_at P link a es all.1 later) (nat_cmp link e.0) refl found where
  here : (o : Ordering) → nat_cmp link e.0 ≡ o → o ≡ Equal → Some e.1 ≡ Some a → P (link, a)
  here o is equal same =
      let one : e.1 ≡ a = cc in
      subst (λ (b : A). P (link, b)) one (subst (λ n. P (n, e.1)) (sym (ranked link e.0 Equal (sym (is ∙ equal)))) all.0)

  by_order : (at_link es link ≡ Some a → P (link, a)) → (o : Ordering) → nat_cmp link e.0 ≡ o → cond (is_eq o) (Some e.1) (at_link es link) ≡ Some a → P (link, a)
  by_order later Less is same = later same
  by_order later Equal is same = here Equal is refl same
  by_order later Greater is same = later same

-- ---- what a store knows

-- each of its peers, and of those of its full syncs, is one that the link may have
pub record Knows (J : ℕ → List ℕ → Type 0) (s : StoreState) : Type 0 where
  pub peers : AllByRecursion (λ (p : ℕ × List ℕ). J p.0 p.1) s.peers
  pub running : AllByRecursion (λ (r : ℕ × Session). J r.0 r.1.peer) s.sessions.running
  pub done : AllByRecursion (λ (d : SyncDone). J d.link d.peer) s.done

-- the item brings news of no other peer
abbrev pub BringsOnly : (ℕ → List ℕ → Type 0) → Item → Type 0
BringsOnly J item = (link : ℕ) (peer : List ℕ) → item ≡ PeerUp link peer → J link peer

running_found : (s : StoreState) (link number : ℕ) (phase : SyncPhase) (session : Session) → current s.sessions link number phase ≡ Ok session → session_on s.sessions link ≡ Some session
unfolding current
running_found s link number phase session is = (runs_where_current (session_on s.sessions link) number phase session is).found

module _ (J : ℕ → List ℕ → Type 0) where
  abbrev RunsWith : ℕ × Session → Type 0
  RunsWith r = J r.0 r.1.peer

  abbrev AllRun : SessionsState → Type 0
  AllRun sessions = AllByRecursion RunsWith sessions.running

  reply_knows : (s : StoreState) (link b0 : ℕ) (pairs : List Pair) (withheld : ℕ) (r : Result Session Stale) → ((u : Session) → r ≡ Ok u → session_on s.sessions link ≡ Some u)
      → Knows J s → Knows J (store_after_reply s link b0 pairs withheld r)
  reply_knows s link b0 pairs withheld (Ok session) found k = record {
    peers = k.peers;
    running = all_with RunsWith link _ s.sessions.running (all_at RunsWith link session s.sessions.running k.running (found session refl)) k.running;
    done = k.done;
  }
  reply_knows s link b0 pairs withheld (Err stale) found k = record { peers = k.peers; running = k.running; done = k.done }

  ack_knows : (s : StoreState) (link : ℕ) (r : Result Session Stale) → ((u : Session) → r ≡ Ok u → session_on s.sessions link ≡ Some u)
      → Knows J s → Knows J (store_after_ack s link r)
  ack_knows s link (Ok session) found k = record {
    peers = k.peers;
    running = all_without RunsWith link s.sessions.running k.running;
    done = all_joined (λ (d : SyncDone). J d.link d.peer) s.done (done_of link session ∷ []) k.done (all_at RunsWith link session s.sessions.running k.running (found session refl), tt);
  }
  ack_knows s link (Err stale) found k = record { peers = k.peers; running = k.running; done = k.done }

  message_knows : (s : StoreState) (link : ℕ) (from : List ℕ) (msg : Msg) → Knows J s → Knows J (message_change s link from msg).store
  message_knows s link from (msg.Flood passed pairs) k = by_test (is_among s.me passed) where
    by_test : (test : Bool) → Knows J (if test then s else store_after_offers s pairs origin.Flood)
    by_test true = k
    by_test false = record { peers = k.peers; running = k.running; done = k.done }
  message_knows s link from (msg.Reply number b0 pairs wanted withheld) k =
      reply_knows s link b0 pairs withheld (current s.sessions link number Dumped) (λ u is. running_found s link number Dumped u is) k
  message_knows s link from (msg.Ack number) k = ack_knows s link (current s.sessions link number Pushed) (λ u is. running_found s link number Pushed u is) k
  message_knows s link from (msg.Push number pairs) k = record { peers = k.peers; running = k.running; done = k.done }
  message_knows s link from _ k = k

  item_knows : (s : StoreState) (item : Item) → BringsOnly J item → Knows J s → Knows J (item_change s item).store
  unfolding item_change
  item_knows s (PeerUp link peer) news k = record {
    peers = all_with (λ (p : ℕ × List ℕ). J p.0 p.1) link peer s.peers (news link peer refl) k.peers;
    running = k.running;
    done = k.done;
  }
  item_knows s (PeerDown link) news k = record {
    peers = all_without (λ (p : ℕ × List ℕ). J p.0 p.1) link s.peers k.peers;
    running = all_without RunsWith link s.sessions.running k.running;
    done = k.done;
  }
  item_knows s Restart news k = record { peers = k.peers; running = tt; done = k.done }
  item_knows s (Net link from msg) news k = message_knows s link from msg k
  item_knows s _ news k = record { peers = k.peers; running = k.running; done = k.done }

  -- ---- the full syncs that a response starts

  starts_with : (me : List ℕ) (journal : List JournalEntry) (sessions : SessionsState) (peer : ℕ × List ℕ) → J peer.0 peer.1 → AllRun sessions
      → AllRun (start_with me journal sessions peer).0
  unfolding start_with with_started_session
  starts_with me journal sessions peer here all = all_with RunsWith peer.0 _ sessions.running here all

  starts_on : (me : List ℕ) (journal : List JournalEntry) (sessions : SessionsState) (link : ℕ) (peer : Option (List ℕ)) → ((p : List ℕ) → peer ≡ Some p → J link p)
      → AllRun sessions → AllRun (start_on me journal sessions link peer).0
  starts_on me journal sessions link None here all = all
  starts_on me journal sessions link (Some peer) here all = starts_with me journal sessions (link, peer) (here peer refl) all

  starts_each : (me : List ℕ) (journal : List JournalEntry) (peers : List (ℕ × List ℕ)) (sessions : SessionsState) → AllByRecursion (λ (p : ℕ × List ℕ). J p.0 p.1) peers
      → AllRun sessions → AllRun (start_each me journal sessions peers).0
  starts_each me journal [] sessions here all = all
  starts_each me journal (peer ∷ peers) sessions here all =
      starts_each me journal peers (start_with me journal sessions peer).0 here.1 (starts_with me journal sessions peer here.0 all)

  pushes_on : (me : List ℕ) (journal : List JournalEntry) (now : ℕ) (sessions : SessionsState) (link : ℕ) (wanted : List (List ℕ)) (running : Option Session)
      → session_on sessions link ≡ running → AllRun sessions → AllRun (push_on me journal now sessions link wanted running).0
  pushes_on me journal now sessions link wanted None found all = all
  pushes_on me journal now sessions link wanted (Some session) found all =
      all_with RunsWith link _ sessions.running (all_at RunsWith link session sessions.running all found) all

  responds : (s : StoreState) (response : Response) → Knows J s → AllRun (respond s response).0
  unfolding respond
  responds s Nothing k = k.running
  responds s (Start link) k = starts_on s.me s.journal s.sessions link (at_link s.peers link) (λ p found. all_at (λ (p : ℕ × List ℕ). J p.0 p.1) link p s.peers k.peers found) k.running
  responds s StartAll k = starts_each s.me s.journal s.peers s.sessions k.peers k.running
  responds s (Reply link session digest) k = k.running
  responds s (Push link wanted) k = pushes_on s.me s.journal s.moment s.sessions link wanted (session_on s.sessions link) refl k.running
  responds s (Ack link session) k = k.running

  -- a turn keeps what a store knows
  pub turn_knows : (s : StoreState) (item : Item) → BringsOnly J item → Knows J s → Knows J (store_step s item).0
  unfolding store_step
  turn_knows s item news k =
      let c = item_knows s item news k in
      let after : Knows J (store_after_item s item) = record { peers = c.peers; running = c.running; done = c.done } in
      record { peers = after.peers; running = responds (store_after_item s item) (item_change s item).response after; done = after.done }

-- ---- its name

message_me : (s : StoreState) (link : ℕ) (from : List ℕ) (msg : Msg) → (message_change s link from msg).store.me ≡ s.me
message_me s link from (msg.Flood passed pairs) = by_test (is_among s.me passed) where
  by_test : (test : Bool) → (if test then s else store_after_offers s pairs origin.Flood).me ≡ s.me
  by_test true = refl
  by_test false = refl
message_me s link from (msg.Reply number b0 pairs wanted withheld) = by_running (current s.sessions link number Dumped) where
  by_running : (running : Result Session Stale) → (store_after_reply s link b0 pairs withheld running).me ≡ s.me
  by_running (Ok session) = refl
  by_running (Err stale) = refl
message_me s link from (msg.Ack number) = by_running (current s.sessions link number Pushed) where
  by_running : (running : Result Session Stale) → (store_after_ack s link running).me ≡ s.me
  by_running (Ok session) = refl
  by_running (Err stale) = refl
message_me s link from _ = refl

item_me : (s : StoreState) (item : Item) → (item_change s item).store.me ≡ s.me
unfolding item_change
item_me s (Net link from msg) = message_me s link from msg
item_me s _ = refl

pub turn_me : (s : StoreState) (item : Item) → (store_step s item).0.me ≡ s.me
unfolding store_step
turn_me s item = item_me s item

-- ---- what it sends

-- the item is a message under this name over the link of the port, or brings neither a message nor news of a neighbour or a peer
abbrev pub IsOwnItem : ℕ → List ℕ → Item → Type 0
IsOwnItem port me (Net link from msg) = (port ≡ first_link_port + link) × (from ≡ me)
IsOwnItem port me (NeighbourUp link peer peer_if) = ⊥
IsOwnItem port me (PeerUp link peer) = ⊥
IsOwnItem port me _ = Unit {0}

abbrev pub IsOwn : List ℕ → Output → Type 0
IsOwn me (To port item) = IsOwnItem port me item

abbrev AreOwn : List ℕ → List Output → Type 0
AreOwn me sent = AllByRecursion (IsOwn me) sent

own_message : (me : List ℕ) (link : ℕ) (msg : Option Msg) → AreOwn me (message_on me link msg)
own_message me link None = tt
own_message me link (Some msg) = ((refl, refl), tt)

own_start : (me : List ℕ) (journal : List JournalEntry) (sessions : SessionsState) (peer : ℕ × List ℕ) → AreOwn me (start_with me journal sessions peer).1
unfolding start_with
own_start me journal sessions peer = ((refl, refl), tt)

own_start_on : (me : List ℕ) (journal : List JournalEntry) (sessions : SessionsState) (link : ℕ) (peer : Option (List ℕ)) → AreOwn me (start_on me journal sessions link peer).1
own_start_on me journal sessions link None = tt
own_start_on me journal sessions link (Some peer) = own_start me journal sessions (link, peer)

own_starts : (me : List ℕ) (journal : List JournalEntry) (peers : List (ℕ × List ℕ)) (sessions : SessionsState) → AreOwn me (start_each me journal sessions peers).1
own_starts me journal [] sessions = tt
own_starts me journal (peer ∷ peers) sessions =
    let first = start_with me journal sessions peer in
    all_joined (IsOwn me) first.1 (start_each me journal first.0 peers).1 (own_start me journal sessions peer) (own_starts me journal peers first.0)

own_push : (me : List ℕ) (journal : List JournalEntry) (now : ℕ) (sessions : SessionsState) (link : ℕ) (wanted : List (List ℕ)) (running : Option Session)
    → AreOwn me (push_on me journal now sessions link wanted running).1
own_push me journal now sessions link wanted None = tt
own_push me journal now sessions link wanted (Some session) = ((refl, refl), tt)

own_response : (s : StoreState) (response : Response) → AreOwn s.me (respond s response).1
unfolding respond
own_response s Nothing = tt
own_response s (Start link) = own_start_on s.me s.journal s.sessions link (at_link s.peers link)
own_response s StartAll = own_starts s.me s.journal s.peers s.sessions
own_response s (Reply link session digest) = ((refl, refl), tt)
own_response s (Push link wanted) = own_push s.me s.journal s.moment s.sessions link wanted (session_on s.sessions link)
own_response s (Ack link session) = ((refl, refl), tt)

own_if : (me : List ℕ) (test : Bool) (sent : List Output) → AreOwn me sent → AreOwn me (if test then sent else [])
own_if me true sent own = own
own_if me false sent own = tt

own_relay : (me : List ℕ) (passed : List (List ℕ)) (peer : ℕ × List ℕ) (relayed : Option Msg) → AreOwn me (relay_to me passed peer relayed)
own_relay me passed peer None = tt
own_relay me passed peer (Some msg) = own_if me _ (message_on me peer.0 (Some msg)) (own_message me peer.0 (Some msg))

own_floods_to : (me : List ℕ) (passed : List (List ℕ)) (relayed own : Option Msg) (peers : List (ℕ × List ℕ)) → AreOwn me (flat_map (floods_to me passed relayed own) peers)
own_floods_to me passed relayed own [] = tt
own_floods_to me passed relayed own (peer ∷ peers) =
    all_joined (IsOwn me) (floods_to me passed relayed own peer) (flat_map (floods_to me passed relayed own) peers)
    (all_joined (IsOwn me) (relay_to me passed peer relayed) (message_on me peer.0 own) (own_relay me passed peer relayed) (own_message me peer.0 own))
    (own_floods_to me passed relayed own peers)

own_floods : (s : StoreState) (entries : List JournalEntry) (passed : List (List ℕ)) → AreOwn s.me (floods s entries passed)
unfolding floods
own_floods s entries passed = own_floods_to s.me passed _ _ s.peers

own_told : (me : List ℕ) (kind : Kind) (entries : List JournalEntry) → AreOwn me (entries_told kind entries)
own_told me Stores entries = tt
own_told me Full [] = tt
own_told me Full (entry ∷ entries) = (tt, own_told me Full entries)

-- all that a store sends in a turn is its own
pub turn_sends : (s : StoreState) (item : Item) → AllByRecursion (IsOwn s.me) (store_step s item).1
unfolding store_step
turn_sends s item =
    let change = item_change s item in
    let after = store_after_item s item in
    let entries = entries_since s after in
    subst (λ me. AreOwn me ((respond after change.response).1 ++ (floods after entries change.passed ++ entries_told after.kind entries))) (item_me s item)
    (all_joined (IsOwn after.me) (respond after change.response).1 (floods after entries change.passed ++ entries_told after.kind entries)
    (own_response after change.response)
    (all_joined (IsOwn after.me) (floods after entries change.passed) (entries_told after.kind entries) (own_floods after entries change.passed) (own_told after.me after.kind entries)))

-- The numbers of a store's full syncs stay apart in its turns.
use Rattle.std.proofs.Common.{◌≡◌, ℕ, ◌+◌, ◌*◌, ◌≤◌, max, List, [], ◌∷◌, length, Option, Some, None, Bool, true, false, cond, Result, Ok, Err, if◌then◌else◌, refl, sym, ap, subst, arith}
use Rattle.std.specs.Map.{remove_entry}
use Rattle.std.specs.Ordering.{nat_cmp, match_ordering}
use Rattle.std.specs.declared.cmp.Ordering.{Ordering}
use Rattle.std.specs.declared.cmp.Ordering.TheVariants.{Less, Equal, Greater}
use Rattle.std.specs.BTreeMap.{is_at}
use Rattle.std.proofs.Math.Nat.{add-mul, mul-add}
use Rattle.or_base.specs.declared.entry.JournalEntry.{JournalEntry}
use Rattle.or_base.specs.declared.value.Pair.{Pair}
use Rattle.or_base.specs.declared.session.SyncDone.{SyncDone}
use Rattle.or_base.specs.declared.origin.Origin.TheVariants as origin
use Rattle.or_base.specs.declared.message.Msg.{Msg}
use Rattle.or_base.specs.declared.message.Msg.TheVariants.{Flood}
use Rattle.or_base.specs.declared.message.Msg.TheVariants as msg
use Rattle.or_base.specs.declared.item.Item.{Item}
use Rattle.or_base.specs.declared.item.Item.TheVariants.{Tick, Set, Persist, Unset, PeerUp, PeerDown, Restart, Net}
use Rattle.or_base.specs.ByLink.{at_link, with_link}
use Rattle.or_base.specs.Journal.{offer}
use Rattle.or_base.specs.Names.{is_among}
use Rattle.kv_self.specs.Owned.{with_owned, without_owned}
use Rattle.kv_table.specs.Sending.{withheld_count}
use Rattle.kv_sync.specs.declared.session.Session.{Session}
use Rattle.kv_sync.specs.declared.session.Stale.{Stale}
use Rattle.kv_sync.specs.declared.session.SyncPhase.TheVariants.{Dumped, Pushed}
use Rattle.kv_sync.specs.Sessions.{SessionsState, session_on, current, with_started_session, done_of}
use Rattle.kv_sync.specs.Running.{AreAllNumbered}
use Rattle.kv_sync.proofs.Law.{found_where_current}
use Rattle.kv_sync.proofs.Finished.{all_numbered_none, all_numbered_started, all_numbered_replied, all_numbered_pushed, all_numbered_without, all_numbered_dropped, all_numbered_finished}
use Rattle.kv_store.specs.declared.response.Response.{Response}
use Rattle.kv_store.specs.declared.response.Response.TheVariants.{Start, StartAll, Push}
use Rattle.kv_store.specs.Store.{StoreState, store_after_offers, store_after_reply, store_after_ack, message_change, item_change, store_after_tick, store_after_item, start_with, start_on, start_each, push_on, respond, store_step}
use Rattle.kv_store.specs.Growth.{IsFront}
use Rattle.kv_store.specs.Numbered.{IsNumbered, NumbersStayApart}
use Rattle.kv_store.proofs.Growth.{front_same, front_with}

-- ---- what an item changes

-- What an item keeps of a store: it starts no full sync and brings at most one peer, and what was finished stays so.
record Keeps (s t : StoreState) : Type 0 where
  pub peers : length t.peers ≤ length s.peers + 1
  pub last : t.sessions.last ≡ s.sessions.last
  pub syncs : AreAllNumbered s.sessions s.done → AreAllNumbered t.sessions t.done
  pub done : IsFront s.done t.done

-- a store with the same peers and full syncs
same_syncs : (s t : StoreState) → t.peers ≡ s.peers → t.sessions ≡ s.sessions → t.done ≡ s.done → Keeps s t
same_syncs s t peers sessions done = record {
  peers = omega (arith, ap length peers);
  last = ap (λ (u : SessionsState). u.last) sessions;
  syncs = λ all. rw (sessions, done) all;
  done = subst (IsFront s.done) (sym done) (front_same s.done);
}

flood_keeps : (s : StoreState) (test : Bool) (pairs : List Pair) → Keeps s (if test then s else store_after_offers s pairs origin.Flood)
flood_keeps s true pairs = same_syncs s s refl refl refl
flood_keeps s false pairs = same_syncs s (store_after_offers s pairs origin.Flood) refl refl refl

reply_keeps : (s : StoreState) (link b0 : ℕ) (pairs : List Pair) (withheld : ℕ) (running : Result Session Stale)
    → ((t : Session) → running ≡ Ok t → session_on s.sessions link ≡ Some t) → Keeps s (store_after_reply s link b0 pairs withheld running)
reply_keeps s link b0 pairs withheld (Ok t) found = record {
  peers = omega arith;
  last = refl;
  syncs = all_numbered_replied s.sessions link b0 withheld t s.done (found t refl);
  done = front_same s.done;
}
reply_keeps s link b0 pairs withheld (Err stale) found = same_syncs s (store_after_reply s link b0 pairs withheld (Err stale)) refl refl refl

ack_keeps : (s : StoreState) (link : ℕ) (running : Result Session Stale) → ((t : Session) → running ≡ Ok t → session_on s.sessions link ≡ Some t)
    → Keeps s (store_after_ack s link running)
ack_keeps s link (Ok t) found = record {
  peers = omega arith;
  last = refl;
  syncs = all_numbered_finished s.sessions link t s.done (found t refl);
  done = front_with s.done (done_of link t ∷ []);
}
ack_keeps s link (Err stale) found = same_syncs s (store_after_ack s link (Err stale)) refl refl refl

message_keeps : (s : StoreState) (link : ℕ) (from : List ℕ) (msg : Msg) → Keeps s (message_change s link from msg).store
unfolding current
message_keeps s link from (Flood passed pairs) = flood_keeps s (is_among s.me passed) pairs
message_keeps s link from (msg.Reply session b0 pairs wanted withheld) =
    reply_keeps s link b0 pairs withheld (current s.sessions link session Dumped) (found_where_current (session_on s.sessions link) session Dumped)
message_keeps s link from (msg.Push session pairs) = same_syncs s (store_after_offers s pairs origin.SyncPush) refl refl refl
message_keeps s link from (msg.Ack session) =
    ack_keeps s link (current s.sessions link session Pushed) (found_where_current (session_on s.sessions link) session Pushed)
message_keeps s link from _ = same_syncs s s refl refl refl

length-with_link : (peers : List (ℕ × List ℕ)) (link : ℕ) (peer : List ℕ) → length (with_link peers link peer) ≤ length peers + 1
length-with_link [] link peer = omega arith
length-with_link (p ∷ peers) link peer = by_order (length-with_link peers link peer) (nat_cmp link p.0) where
  by_order : length (with_link peers link peer) ≤ length peers + 1
      → (o : Ordering) → length (match_ordering o ((link, peer) ∷ p ∷ peers) ((p.0, peer) ∷ peers) (p ∷ with_link peers link peer)) ≤ length (p ∷ peers) + 1
  by_order later Less = omega arith
  by_order later Equal = omega arith
  by_order later Greater = omega (arith, later)

length-remove_entry : (test : ℕ → Bool) (peers : List (ℕ × List ℕ)) → length (remove_entry test peers) ≤ length peers
length-remove_entry test [] = omega arith
length-remove_entry test (p ∷ peers) = by_test (length-remove_entry test peers) (test p.0) where
  by_test : length (remove_entry test peers) ≤ length peers → (here : Bool) → length (cond here peers (p ∷ remove_entry test peers)) ≤ length (p ∷ peers)
  by_test later true = omega arith
  by_test later false = omega (arith, later)

item_keeps : (s : StoreState) (item : Item) → Keeps s (item_change s item).store
unfolding item_change
item_keeps s (Tick at) = same_syncs s (store_after_tick s at) refl refl refl
item_keeps s (Persist key value ttl) = same_syncs s (record s { owned = with_owned s.owned key (record { value = value; ttl = ttl }) }) refl refl refl
item_keeps s (Unset key) = same_syncs s (record s { owned = without_owned s.owned key }) refl refl refl
item_keeps s (Set pair) = same_syncs s (record s { journal = offer s.journal pair s.moment origin.Local }) refl refl refl
item_keeps s (PeerUp link peer) = record {
  peers = length-with_link s.peers link peer;
  last = refl;
  syncs = λ all. all;
  done = front_same s.done;
}
item_keeps s (PeerDown link) = record {
  peers = omega (arith, length-remove_entry (is_at (nat_cmp link)) s.peers);
  last = refl;
  syncs = all_numbered_without s.sessions link s.done;
  done = front_same s.done;
}
item_keeps s Restart = record {
  peers = omega arith;
  last = refl;
  syncs = all_numbered_dropped s.sessions s.done;
  done = front_same s.done;
}
item_keeps s (Net link from msg) = message_keeps s link from msg
item_keeps s _ = same_syncs s s refl refl refl

-- ---- how it is responded to

-- what a response makes of the full syncs of a store: it starts one, or one with each peer
record Responds (s : StoreState) (after : SessionsState) : Type 0 where
  pub last : after.last ≤ s.sessions.last + max 1 (length s.peers)
  pub syncs : AreAllNumbered s.sessions s.done → AreAllNumbered after s.done

responds_not : (s : StoreState) → Responds s s.sessions
responds_not s = record { last = omega arith; syncs = λ all. all }

start_numbered : (me : List ℕ) (journal : List JournalEntry) (sessions : SessionsState) (peer : ℕ × List ℕ) (done : List SyncDone) → AreAllNumbered sessions done
    → AreAllNumbered (start_with me journal sessions peer).0 done
unfolding start_with
start_numbered me journal sessions peer done all = all_numbered_started sessions peer.0 peer.1 (length journal) done all

start_last : (me : List ℕ) (journal : List JournalEntry) (sessions : SessionsState) (peer : ℕ × List ℕ) → (start_with me journal sessions peer).0.last ≤ sessions.last + 1
unfolding start_with with_started_session
start_last me journal sessions peer = omega arith

each_numbered : (me : List ℕ) (journal : List JournalEntry) (sessions : SessionsState) (peers : List (ℕ × List ℕ)) (done : List SyncDone) → AreAllNumbered sessions done
    → AreAllNumbered (start_each me journal sessions peers).0 done
each_numbered me journal sessions [] done all = all
each_numbered me journal sessions (p ∷ peers) done all =
    each_numbered me journal (start_with me journal sessions p).0 peers done (start_numbered me journal sessions p done all)

each_last : (me : List ℕ) (journal : List JournalEntry) (sessions : SessionsState) (peers : List (ℕ × List ℕ))
    → (start_each me journal sessions peers).0.last ≤ sessions.last + length peers
each_last me journal sessions [] = omega arith
each_last me journal sessions (p ∷ peers) =
    omega (arith, start_last me journal sessions p, each_last me journal (start_with me journal sessions p).0 peers)

start_responds : (s : StoreState) (link : ℕ) (peer : Option (List ℕ)) → Responds s (start_on s.me s.journal s.sessions link peer).0
start_responds s link None = responds_not s
start_responds s link (Some peer) = record {
  last = omega (arith, start_last s.me s.journal s.sessions (link, peer));
  syncs = start_numbered s.me s.journal s.sessions (link, peer) s.done;
}

push_responds : (s : StoreState) (link : ℕ) (wanted : List (List ℕ)) (running : Option Session) → session_on s.sessions link ≡ running
    → Responds s (push_on s.me s.journal s.moment s.sessions link wanted running).0
push_responds s link wanted None found = responds_not s
push_responds s link wanted (Some t) found = record {
  last = omega arith;
  syncs = all_numbered_pushed s.sessions link (withheld_count s.journal s.moment wanted) (Some t) s.done found;
}

response_responds : (s : StoreState) (response : Response) → Responds s (respond s response).0
unfolding respond
response_responds s (Start link) = start_responds s link (at_link s.peers link)
response_responds s StartAll = record {
  last = omega (arith, each_last s.me s.journal s.sessions s.peers);
  syncs = each_numbered s.me s.journal s.sessions s.peers s.done;
}
response_responds s (Push link wanted) = push_responds s link wanted (session_on s.sessions link) refl
response_responds s _ = responds_not s

-- ---- a turn

square : (n : ℕ) → (n + 1) * (n + 1) ≡ n * n + n + n + 1
square n = omega (arith, mul-add (n + 1) n 1, add-mul n 1 n)

-- a store that had no turn is numbered after it as well
pub numbered_later : (turns : ℕ) (s : StoreState) → IsNumbered turns s → IsNumbered (turns + 1) s
numbered_later turns s numbered = record {
  peers = omega (arith, numbered.peers);
  last = omega (arith, numbered.last, square turns);
  syncs = numbered.syncs;
}

turn_numbered : (turns : ℕ) (s : StoreState) (item : Item) → IsNumbered turns s → IsNumbered (turns + 1) (store_step s item).0
unfolding store_step
turn_numbered turns s item numbered =
    let keeps = item_keeps s item in
    let responds = response_responds (store_after_item s item) (item_change s item).response in
    record {
      peers = omega (arith, keeps.peers, numbered.peers);
      last = omega (arith, responds.last, keeps.last, keeps.peers, numbered.peers, numbered.last, square turns);
      syncs = responds.syncs (keeps.syncs numbered.syncs);
    }

turn_finished : (s : StoreState) (item : Item) → IsFront s.done (store_step s item).0.done
unfolding store_step
turn_finished s item = (item_keeps s item).done

pub numbers_stay_apart : NumbersStayApart
numbers_stay_apart = record {
  start = λ kind me. record { peers = omega arith; last = omega arith; syncs = all_numbered_none };
  turn = turn_numbered;
  differ = λ turns s numbered within. numbered.syncs.apart (omega (arith, numbered.last, within));
  finished = turn_finished;
}

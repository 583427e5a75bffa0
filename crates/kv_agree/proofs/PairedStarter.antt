-- A turn of the starter: what is known of its full syncs over a link is known after it as well.
use Rattle.std.proofs.Common.{◌≡◌, ◌≢◌, ℕ, ◌-◌, ◌^◌, ◌<◌, ◌≤◌, List, [], ◌++◌, length, false, Option, Some, None, inl, inr, refl, sym, ◌∙◌, ap, subst, arith}
use Rattle.std.specs.Prelude.{◌==◌}
use Rattle.std.specs.List.{Contains, AllByRecursion}
use Rattle.std.proofs.lemmas.Bool.{and_right, ne_eqb}
use Rattle.std.proofs.lemmas.List.{append-nil}
use Rattle.or_base.specs.declared.value.Pair.{Pair}
use Rattle.or_base.specs.declared.origin.Origin.TheVariants as origin
use Rattle.or_base.specs.declared.entry.JournalEntry.{JournalEntry}
use Rattle.or_base.specs.declared.message.Msg.{Msg}
use Rattle.or_base.specs.declared.message.Msg.TheVariants as msg
use Rattle.or_base.specs.declared.item.Item.{Item}
use Rattle.or_base.specs.declared.item.Item.TheVariants.{Net}
use Rattle.or_actor.specs.declared.output.Output.{Output}
use Rattle.kv_table.specs.Digest.{digest}
use Rattle.kv_table.specs.Sending.{sent_pairs, withheld_count}
use Rattle.kv_sync.specs.declared.session.Session.{Session}
use Rattle.kv_sync.specs.declared.session.SyncPhase.TheVariants.{Dumped, Pushed}
use Rattle.kv_sync.specs.Sessions.{SessionsState, session_on, with_session, with_more_withheld, session_after_reply}
use Rattle.kv_sync.specs.Running.{AreNumbered}
use Rattle.kv_sync.specs.Messages.{push_message}
use Rattle.kv_sync.proofs.Numbers.{found_given}
use Rattle.kv_sync.proofs.Onward.{at_link-with_link}
use Rattle.kv_store.specs.declared.response.Response.TheVariants as response
use Rattle.kv_store.specs.Growth.{IsFront}
use Rattle.kv_store.specs.Own.{keys_to_write}
use Rattle.kv_store.specs.Store.{StoreState, Change, SyncsAndOutputs, message_on, push_on, respond, floods, entries_told, entries_since, with_own_written, persisted_by}
use Rattle.kv_agree.specs.Exchange.{Covers}
use Rattle.kv_agree.specs.Traced.{TracedStore, Trace, trace_of, came_in_reply}
use Rattle.kv_agree.specs.Orderly.{AreValid}
use Rattle.kv_agree.specs.Paired.{OnWay, IsNoReplyOf, ComesOf}
use Rattle.kv_agree.proofs.PairedGrowth.{Between}
use Rattle.kv_agree.proofs.PairedSteps.{AreTied, with_made, after_starter, OnlySends, IsNotStarters, IsOldOrDump, IsOldOrPush, IsNewSession, MakesNoReplies, IsUpTo, Becomes, tied_after_starts, tied_after_ack, tied_after_reply}
use Rattle.kv_agree.proofs.PairedEntries.{GrewBy, MergesIfCame, came_and_written, nothing_written, covered_and_written}
use Rattle.kv_agree.proofs.PairedSent.{SendsOn, sends_both, sends_one, FloodsAreFloods, floods_start_nothing, sends_beside, Starts, starter_responds}
use Rattle.kv_agree.proofs.PairedTurns.{session_removed, KeepsStarter, replied_change, acked_change}

-- ---- a turn, by what its item changes

-- the store after it and after what its node writes then
abbrev pub written : StoreState → Item → Change → StoreState
written s item change = with_own_written change.store (persisted_by item) (entries_since s change.store)

-- what is sent beside the response
abbrev pub sent_beside : StoreState → Item → Change → List Output
sent_beside s item change =
    let after = written s item change in
    let entries = entries_since s after in
    floods after entries change.passed ++ entries_told after.kind entries

-- the store after the turn
abbrev pub turned : StoreState → Item → Change → StoreState
turned s item change =
    let after = written s item change in
    record after { sessions = (respond after change.response).0 }

abbrev pub turn_sends : StoreState → Item → Change → List Output
turn_sends s item change = (respond (written s item change) change.response).1 ++ sent_beside s item change

-- the turn does this to the full syncs that the starter has over the link
pub record StarterTurned (link : ℕ) (a : TracedStore) (b : Trace) (item : Item) (after back : OnWay) (t : StoreState) : Type 0 where
  pub front : IsFront a.store.journal t.journal
  pub tied : AreTied link t.sessions.last (session_on t.sessions link) t.done (record { a = with_made (trace_of a) item front.more; b = b; out = after; back = back })

abbrev pub before_turn : TracedStore → Trace → OnWay → OnWay → Between
before_turn a b out back = record { a = trace_of a; b = b; out = out; back = back }

upto_last : (link : ℕ) (s : SessionsState) → AreNumbered s.last s.running → IsUpTo s.last (session_on s link)
upto_last link s numbered = by_session (session_on s link) refl where
  by_session : (running : Option Session) → session_on s link ≡ running → IsUpTo s.last running
  by_session None is = tt
  by_session (Some t) is = found_given s.last link t s.running numbered.given is

pub only_sends : (link : ℕ) (me : List ℕ) (P : Msg → Type 0) (before after : OnWay) (sent : List Output) → ComesOf before after me link sent
    → SendsOn link me P sent → OnlySends P before after
only_sends link me P before after sent comes sends msg there = elim (comes msg there) [ inl old ↦ inl old | inr now ↦ inr (sends msg now) ]

-- ---- a turn of the starter

module _ (flooded : FloodsAreFloods) (link : ℕ) (a : TracedStore) (b : Trace) (out back after : OnWay) (item : Item)
    (made_a : length a.makers ≡ length a.store.journal) (made_b : length b.makers ≡ length b.journal)
    (numbered : AreNumbered a.store.sessions.last a.store.sessions.running)
    (tied : AreTied link a.store.sessions.last (session_on a.store.sessions link) a.store.done (before_turn a b out back)) where
  abbrev s : StoreState
  s = a.store

  -- what is on its way, where the response sends only such messages
  beside_only : (change : Change) (P : Msg → Type 0) → change.store.me ≡ s.me → ComesOf out after s.me link (turn_sends s item change)
      → ((m : Msg) → IsNotStarters m → P m) → SendsOn link s.me P (respond (written s item change) change.response).1 → OnlySends P out after
  beside_only change P me comes weaker sends =
      let t = written s item change in
      only_sends link s.me P out after (turn_sends s item change) comes
      (sends_both link s.me P (respond t change.response).1 (sent_beside s item change) sends
      (subst (λ you. SendsOn link you P (sent_beside s item change)) me
      (λ m there. weaker m (floods_start_nothing m (sends_beside flooded link t (entries_since s t) change.passed m there)))))

  module _ (change : Change) (within : (turned s item change).sessions.last < 2 ^ 64 - 1) (comes : ComesOf out after s.me link (turn_sends s item change)) where
    -- the store after what its node writes, and after the turn
    abbrev own_written : StoreState
    own_written = written s item change

    abbrev next : StoreState
    next = turned s item change

    abbrev sent : List Output
    sent = (respond own_written change.response).1

    -- the session of the link, before and after
    abbrev session : Option Session
    session = session_on s.sessions link

    abbrev session_after : Option Session
    session_after = session_on next.sessions link

    becomes : (keeps : KeepsStarter link s item change) → Starts link s.me own_written.journal change.store.sessions next.sessions sent
        → Becomes s.sessions.last next.sessions.last own_written.journal session session_after
    becomes keeps starts =
        elim starts.running [
          | inr new ↦ inr (inr (subst (λ last. IsNewSession last next.sessions.last own_written.journal session_after) keeps.last new))
          | inl same ↦
              elim (keeps.session (numbered.apart (omega (arith, starts.rises, keeps.last, within)))) [
                | inl still ↦ inl (same ∙ still)
                | inr gone ↦ inr (inl (same ∙ gone))
              ]
        ]

    kept_starts : KeepsStarter link s item change → Starts link s.me own_written.journal change.store.sessions next.sessions sent
    kept_starts keeps =
        subst (λ you. Starts link you own_written.journal change.store.sessions next.sessions sent) keeps.me (starter_responds link own_written change.response keeps.pushes within)

    only_dumps : KeepsStarter link s item change → OnlySends (IsOldOrDump s.sessions.last next.sessions.last (digest own_written.journal)) out after
    only_dumps keeps =
        beside_only change (IsOldOrDump s.sessions.last next.sessions.last (digest own_written.journal)) keeps.me comes (λ m old. inl old)
        (subst (λ last. SendsOn link s.me (IsOldOrDump last next.sessions.last (digest own_written.journal)) sent) keeps.last (kept_starts keeps).sends)

    starter_kept_with : (keeps : KeepsStarter link s item change) (front : IsFront s.journal own_written.journal) → MakesNoReplies link item front.more
        → StarterTurned link a b item after back next
    starter_kept_with keeps front none =
        let starts = kept_starts keeps in
        let v = before_turn a b out back in
        record {
          front = front;
          tied =
              subst (λ done. AreTied link next.sessions.last session_after done (after_starter v item front.more after)) (sym keeps.done)
              (tied_after_starts link s.sessions.last next.sessions.last v item front.more after made_a (omega (arith, starts.rises, keeps.last)) none
              (subst (λ journal. OnlySends (IsOldOrDump s.sessions.last next.sessions.last (digest journal)) out after) front.is (only_dumps keeps))
              session session_after s.done keeps.others keeps.elsewhere (upto_last link s.sessions numbered)
              (subst (λ journal. Becomes s.sessions.last next.sessions.last journal session session_after) front.is (becomes keeps starts)) tied);
        }

    pub starter_kept : KeepsStarter link s item change → IsFront s.journal (written s item change).journal → StarterTurned link a b item after back (turned s item change)
    starter_kept keeps front =
        elim keeps.none [
          | inl never ↦ starter_kept_with keeps front (inr never)
          | inr still ↦
              let same : (written s item change).journal ≡ s.journal =
              ap (λ keys. (with_own_written change.store keys (entries_since s change.store)).journal) still.1 ∙ nothing_written s change.store still.0 in
              starter_kept_with keeps (record { more = []; is = same ∙ sym (append-nil s.journal) }) (inl refl)
        ]

-- what is pushed once a reply was taken
push_is : (journal : List JournalEntry) (now number : ℕ) (wanted : List (List ℕ)) → push_message journal now number wanted ≡ msg.Push number (sent_pairs journal now wanted)
unfolding push_message
push_is journal now number wanted = refl

push_responds : (t : StoreState) (l : ℕ) (wanted : List (List ℕ)) (u : Session) → session_on t.sessions l ≡ Some u
    → respond t (response.Push l wanted)
    ≡ (with_session t.sessions l (with_more_withheld u (withheld_count t.journal t.moment wanted)), message_on t.me l (Some (push_message t.journal t.moment u.number wanted)))
unfolding respond
push_responds t l wanted u found = ap (push_on t.me t.journal t.moment t.sessions l wanted) found

nothing_responds : (t : StoreState) → respond t response.Nothing ≡ (t.sessions, [])
unfolding respond
nothing_responds t = refl

only_this_reply : (link number : ℕ) (from : List ℕ) (b0 : ℕ) (pairs : List Pair) (wanted : List (List ℕ)) (withheld n : ℕ) → n ≢ number
    → IsNoReplyOf link n (Net link from (msg.Reply number b0 pairs wanted withheld))
only_this_reply link number from b0 pairs wanted withheld n other = and_right (link == link) (number == n) (ne_eqb number n (λ same. other (sym same)))

no_ack_reply : (link number n : ℕ) (from : List ℕ) → IsNoReplyOf link n (Net link from (msg.Ack number))
no_ack_reply link number n from = and_right (link == link) false refl

module _ (flooded : FloodsAreFloods) (link : ℕ) (a : TracedStore) (b : Trace) (out back after : OnWay)
    (made_a : length a.makers ≡ length a.store.journal) (made_b : length b.makers ≡ length b.journal)
    (numbered : AreNumbered a.store.sessions.last a.store.sessions.running)
    (tied : AreTied link a.store.sessions.last (session_on a.store.sessions link) a.store.done (before_turn a b out back)) (u : Session) (from : List ℕ) (number : ℕ)
    (given : u.number ≤ a.store.sessions.last) (running : session_on a.store.sessions link ≡ Some u) (number_is : u.number ≡ number) where
  tied_running : AreTied link a.store.sessions.last (Some u) a.store.done (before_turn a b out back)
  tied_running = subst (λ o. AreTied link a.store.sessions.last o a.store.done (before_turn a b out back)) running tied

  pub starter_acked : u.phase ≡ Pushed → Contains back (msg.Ack number)
      → (turned a.store (Net link from (msg.Ack number)) (acked_change a.store link u)).sessions.last < 2 ^ 64 - 1
      → ComesOf out after a.store.me link (turn_sends a.store (Net link from (msg.Ack number)) (acked_change a.store link u))
      → IsFront a.store.journal (written a.store (Net link from (msg.Ack number)) (acked_change a.store link u)).journal
      → StarterTurned link a b (Net link from (msg.Ack number)) after back (turned a.store (Net link from (msg.Ack number)) (acked_change a.store link u))
  starter_acked phase there within comes front =
      let item : Item = Net link from (msg.Ack number) in
      let change = acked_change a.store link u in
      let t = written a.store item change in
      let within_before : a.store.sessions.last < 2 ^ 64 - 1 = subst (λ (r : SyncsAndOutputs). r.0.last < 2 ^ 64 - 1) (nothing_responds t) within in
      let only : OnlySends IsNotStarters out after =
      beside_only flooded link a b out back after item made_a made_b numbered tied change IsNotStarters refl comes (λ m old. old)
      (subst (λ (r : SyncsAndOutputs). SendsOn link a.store.me IsNotStarters r.1) (sym (nothing_responds t)) (λ m now. absurd (omega (arith, now.1)))) in
      record {
        front = front;
        tied =
            subst (λ (r : SyncsAndOutputs). AreTied link r.0.last (session_on r.0 link) t.done (after_starter (before_turn a b out back) item front.more after)) (sym (nothing_responds t))
            (subst (λ o. AreTied link a.store.sessions.last o t.done (after_starter (before_turn a b out back) item front.more after))
            (sym (session_removed link a.store.sessions (numbered.apart within_before)))
            (tied_after_ack link a.store.sessions.last u a.store.done (before_turn a b out back) item front.more after made_a (λ n. no_ack_reply link number n from) only phase given
            (subst (λ n. Contains back (msg.Ack n)) (sym number_is) there) tied_running));
      }

  module _ (b0 : ℕ) (pairs : List Pair) (wanted : List (List ℕ)) (withheld : ℕ) where
    abbrev item : Item
    item = Net link from (msg.Reply number b0 pairs wanted withheld)

    abbrev change : Change
    change = replied_change a.store link from b0 pairs wanted withheld u

    abbrev t : StoreState
    t = written a.store item change

    abbrev pushed : Session
    pushed = session_after_reply u b0 withheld

    -- the session after the push, where the journal is this
    abbrev session_pushed : List JournalEntry → Session
    session_pushed journal = with_more_withheld pushed (withheld_count journal t.moment wanted)

    responds : respond t (response.Push link wanted)
        ≡ (with_session t.sessions link (session_pushed t.journal), message_on a.store.me link (Some (push_message t.journal t.moment u.number wanted)))
    responds = push_responds t link wanted pushed (at_link-with_link link pushed a.store.sessions.running)

    only_push : ComesOf out after a.store.me link (turn_sends a.store item change) → OnlySends (IsOldOrPush u.number (sent_pairs t.journal t.moment wanted)) out after
    only_push comes =
        let P = IsOldOrPush u.number (sent_pairs t.journal t.moment wanted) in
        let push = push_message t.journal t.moment u.number wanted in
        beside_only flooded link a b out back after item made_a made_b numbered tied change P refl comes (λ m old. inl old)
        (subst (λ (r : SyncsAndOutputs). SendsOn link a.store.me P r.1) (sym responds)
        (sends_one link link a.store.me P push (λ here. inr (push_is t.journal t.moment u.number wanted))))

    pub starter_replied : u.phase ≡ Dumped → Contains back (msg.Reply number b0 pairs wanted withheld) → AreValid pairs → ComesOf out after a.store.me link (turn_sends a.store item change)
        → StarterTurned link a b item after back (turned a.store item change)
    starter_replied phase there valid comes =
        let v = before_turn a b out back in
        let keys = keys_to_write a.store.owned [] (entries_since a.store change.store) in
        let grew : GrewBy (MergesIfCame came_in_reply pairs) a.store.journal t.journal = came_and_written a.store keys pairs origin.SyncReply came_in_reply refl in
        let covered : AllByRecursion (Covers t.journal) pairs = covered_and_written a.store keys pairs origin.SyncReply valid in
        let now = a.store.moment in
        let result =
        tied_after_reply link a.store.sessions.last u a.store.done v item grew.more after b0 pairs wanted withheld now made_a made_b grew.each
        (subst (λ journal. AllByRecursion (Covers journal) pairs) grew.is covered)
        (subst (λ journal. OnlySends (IsOldOrPush u.number (sent_pairs journal now wanted)) out after) grew.is (only_push comes)) phase given
        (subst (λ n. Contains back (msg.Reply n b0 pairs wanted withheld)) (sym number_is) there)
        (λ n other. only_this_reply link number from b0 pairs wanted withheld n (λ same. other (same ∙ sym number_is))) tied_running in
        record {
          front = record { more = grew.more; is = grew.is };
          tied =
              subst (λ (r : SyncsAndOutputs). AreTied link r.0.last (session_on r.0 link) a.store.done (after_starter v item grew.more after)) (sym responds)
              (subst (λ o. AreTied link a.store.sessions.last o a.store.done (after_starter v item grew.more after))
              (sym (at_link-with_link link (session_pushed t.journal) t.sessions.running))
              (subst (λ journal. AreTied link a.store.sessions.last (Some (session_pushed journal)) a.store.done (after_starter v item grew.more after)) (sym grew.is)
              result));
        }

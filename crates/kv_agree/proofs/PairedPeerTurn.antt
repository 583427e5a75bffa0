-- A turn of the peer: what is known of the starter's full syncs over a link is known after it as well.
use Rattle.std.proofs.Common.{◌≡◌, ◌≢◌, ℕ, List, [], ◌∷◌, length, false, Some, inl, inr, refl, sym, subst}
use Rattle.std.specs.Prelude.{◌==◌}
use Rattle.std.specs.List.{Contains, AllByRecursion}
use Rattle.std.proofs.lemmas.Bool.{and_right, ne_eqb}
use Rattle.or_base.specs.declared.digest.DigestRow.{DigestRow}
use Rattle.or_base.specs.declared.value.Pair.{Pair}
use Rattle.or_base.specs.declared.origin.Origin.TheVariants as origin
use Rattle.or_base.specs.declared.message.Msg.{Msg}
use Rattle.or_base.specs.declared.message.Msg.TheVariants as msg
use Rattle.or_base.specs.declared.item.Item.{Item}
use Rattle.or_base.specs.declared.item.Item.TheVariants.{Net}
use Rattle.kv_sync.specs.Sessions.{session_on}
use Rattle.kv_sync.specs.Messages.{reply_message, ack_message}
use Rattle.kv_store.specs.declared.response.Response.TheVariants as response
use Rattle.kv_store.specs.Growth.{IsFront}
use Rattle.kv_store.specs.Own.{keys_to_write}
use Rattle.kv_store.specs.Store.{StoreState, Change, change_by, change_with_response, store_after_offers, SyncsAndOutputs, message_on, respond, entries_since}
use Rattle.kv_agree.specs.Exchange.{Covers}
use Rattle.kv_agree.specs.Traced.{TracedStore, trace_of, came_in_push}
use Rattle.kv_agree.specs.Orderly.{AreValid}
use Rattle.kv_agree.specs.Paired.{OnWay, IsNoPushOf, ComesOf}
use Rattle.kv_agree.proofs.PairedSteps.{AreTied, with_made, OnlySends}
use Rattle.kv_agree.proofs.PairedPeer.{IsNotPeers, IsOldOr, tied_while_quiet, tied_after_dump, tied_after_push}
use Rattle.kv_agree.proofs.PairedEntries.{GrewBy, MergesIfCame, came_and_written, covered_and_written}
use Rattle.kv_agree.proofs.PairedSent.{SendsOn, sends_both, sends_one, FloodsAreFloods, floods_answer_nothing, sends_beside, peer_responds}
use Rattle.kv_agree.proofs.PairedTurns.{KeepsPeer}
use Rattle.kv_agree.proofs.PairedStarter.{written, sent_beside, turned, turn_sends, before_turn, only_sends}

-- the turn does this to the full syncs that the starter has over the link
pub record PeerTurned (link : ℕ) (a b : TracedStore) (item : Item) (out after : OnWay) (t : StoreState) : Type 0 where
  pub front : IsFront b.store.journal t.journal
  pub tied : AreTied link a.store.sessions.last (session_on a.store.sessions link) a.store.done
      (record { a = trace_of a; b = with_made (trace_of b) item front.more; out = out; back = after })

reply_responds : (t : StoreState) (l number : ℕ) (rows : List DigestRow)
    → respond t (response.Reply l number rows) ≡ (t.sessions, message_on t.me l (Some (reply_message t.journal t.moment number rows)))
unfolding respond
reply_responds t l number rows = refl

ack_responds : (t : StoreState) (l number : ℕ) → respond t (response.Ack l number) ≡ (t.sessions, message_on t.me l (Some (ack_message number)))
unfolding respond
ack_responds t l number = refl

only_this_push : (link number : ℕ) (from : List ℕ) (pairs : List Pair) (n : ℕ) → n ≢ number → IsNoPushOf link n (Net link from (msg.Push number pairs))
only_this_push link number from pairs n other = and_right (link == link) (number == n) (ne_eqb number n (λ same. other (sym same)))

no_dump_push : (link number n : ℕ) (from : List ℕ) (rows : List DigestRow) → IsNoPushOf link n (Net link from (msg.Dump number rows))
no_dump_push link number n from rows = and_right (link == link) false refl

abbrev pub dumped_change : StoreState → ℕ → ℕ → List DigestRow → Change
dumped_change s link number rows = change_with_response s (response.Reply link number rows)

abbrev pub pushed_change : StoreState → ℕ → List ℕ → ℕ → List Pair → Change
pushed_change s link from number pairs = change_by (store_after_offers s pairs origin.SyncPush) (response.Ack link number) (from ∷ [])

module _ (flooded : FloodsAreFloods) (link : ℕ) (a b : TracedStore) (out back after : OnWay) (made : length a.makers ≡ length a.store.journal)
    (tied : AreTied link a.store.sessions.last (session_on a.store.sessions link) a.store.done (before_turn a (trace_of b) out back)) where
  abbrev s : StoreState
  s = b.store

  beside_only : (item : Item) (change : Change) (P : Msg → Type 0) → change.store.me ≡ s.me → ComesOf back after s.me link (turn_sends s item change)
      → ((m : Msg) → IsNotPeers m → P m) → SendsOn link s.me P (respond (written s item change) change.response).1 → OnlySends P back after
  beside_only item change P me comes weaker sends =
      let t = written s item change in
      only_sends link s.me P back after (turn_sends s item change) comes
      (sends_both link s.me P (respond t change.response).1 (sent_beside s item change) sends
      (subst (λ you. SendsOn link you P (sent_beside s item change)) me
      (λ m there. weaker m (floods_answer_nothing m (sends_beside flooded link t (entries_since s t) change.passed m there)))))

  pub peer_kept : (item : Item) (change : Change) → KeepsPeer link s item change → ComesOf back after s.me link (turn_sends s item change)
      → IsFront s.journal (written s item change).journal → PeerTurned link a b item out after (turned s item change)
  peer_kept item change keeps comes front =
      let t = written s item change in
      record {
        front = front;
        tied =
            tied_while_quiet link a.store.sessions.last (session_on a.store.sessions link) a.store.done (before_turn a (trace_of b) out back) item front.more after made keeps.none
            (beside_only item change IsNotPeers keeps.me comes (λ m old. old)
            (subst (λ you. SendsOn link you IsNotPeers (respond t change.response).1) keeps.me (peer_responds link t change.response keeps.answers))) tied;
      }

  pub peer_dumped : (from : List ℕ) (number : ℕ) (rows : List DigestRow) → Contains out (msg.Dump number rows)
      → ComesOf back after s.me link (turn_sends s (Net link from (msg.Dump number rows)) (dumped_change s link number rows))
      → IsFront s.journal (written s (Net link from (msg.Dump number rows)) (dumped_change s link number rows)).journal
      → PeerTurned link a b (Net link from (msg.Dump number rows)) out after (turned s (Net link from (msg.Dump number rows)) (dumped_change s link number rows))
  peer_dumped from number rows there comes front =
      let item : Item = Net link from (msg.Dump number rows) in
      let change = dumped_change s link number rows in
      let t = written s item change in
      let P = IsOldOr (reply_message t.journal s.moment number rows) in
      let only : OnlySends P back after =
      beside_only item change P refl comes (λ m old. inl old)
      (subst (λ (r : SyncsAndOutputs). SendsOn link s.me P r.1) (sym (reply_responds t link number rows))
      (sends_one link link s.me P (reply_message t.journal s.moment number rows) (λ here. inr refl))) in
      record {
        front = front;
        tied =
            tied_after_dump link a.store.sessions.last (session_on a.store.sessions link) a.store.done (before_turn a (trace_of b) out back) item front.more after made number s.moment rows
            (λ n. no_dump_push link number n from rows)
            (subst (λ journal. OnlySends (IsOldOr (reply_message journal s.moment number rows)) back after) front.is only) there tied;
      }

  pub peer_pushed : (from : List ℕ) (number : ℕ) (pairs : List Pair) → Contains out (msg.Push number pairs) → AreValid pairs
      → ComesOf back after s.me link (turn_sends s (Net link from (msg.Push number pairs)) (pushed_change s link from number pairs))
      → PeerTurned link a b (Net link from (msg.Push number pairs)) out after (turned s (Net link from (msg.Push number pairs)) (pushed_change s link from number pairs))
  peer_pushed from number pairs there valid comes =
      let item : Item = Net link from (msg.Push number pairs) in
      let change = pushed_change s link from number pairs in
      let t = written s item change in
      let keys = keys_to_write s.owned [] (entries_since s change.store) in
      let grew : GrewBy (MergesIfCame came_in_push pairs) s.journal t.journal = came_and_written s keys pairs origin.SyncPush came_in_push refl in
      let covered : AllByRecursion (Covers t.journal) pairs = covered_and_written s keys pairs origin.SyncPush valid in
      let P = IsOldOr (msg.Ack number) in
      let only : OnlySends P back after =
      beside_only item change P refl comes (λ m old. inl old)
      (subst (λ (r : SyncsAndOutputs). SendsOn link s.me P r.1) (sym (ack_responds t link number)) (sends_one link link s.me P (ack_message number) (λ here. inr refl))) in
      record {
        front = record { more = grew.more; is = grew.is };
        tied =
            tied_after_push link a.store.sessions.last (session_on a.store.sessions link) a.store.done (before_turn a (trace_of b) out back) item grew.more after made number pairs grew.each
            (subst (λ journal. AllByRecursion (Covers journal) pairs) grew.is covered) (λ n other. only_this_push link number from pairs n other) only there tied;
      }

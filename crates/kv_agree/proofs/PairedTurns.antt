-- What an item changes in a store, as far as the full syncs of one link go.
use Rattle.std.proofs.Common.{◌≡◌, ◌≢◌, ℕ, List, [], ◌∷◌, ◌++◌, Bool, true, false, cond, Option, Some, None, Result, Ok, Err, ◌⊎◌, inl, inr, refl, sym, ◌∙◌, ap, subst, arith}
use Rattle.std.specs.Prelude.{◌==◌, is_ok}
use Rattle.std.specs.List.{AllByRecursion}
use Rattle.std.specs.Ordering.{nat_cmp, is_eq}
use Rattle.std.specs.declared.cmp.Ordering.{Ordering}
use Rattle.std.specs.declared.cmp.Ordering.TheVariants.{Less, Equal, Greater}
use Rattle.std.proofs.lemmas.Bool.{and_left, and_right, ne_eqb, eqb-true, cases_eq, and_parts}
use Rattle.std.proofs.lemmas.Cmp.{ranked}
use Rattle.std.proofs.lemmas.List.{append-nil}
use Rattle.or_base.specs.declared.digest.DigestRow.{DigestRow}
use Rattle.or_base.specs.declared.value.Pair.{Pair}
use Rattle.or_base.specs.declared.origin.Origin.TheVariants as origin
use Rattle.or_base.specs.declared.message.Msg.{Msg}
use Rattle.or_base.specs.declared.message.Msg.TheVariants as msg
use Rattle.or_base.specs.declared.item.Item.{Item}
use Rattle.or_base.specs.declared.item.Item.TheVariants.{PeerDown, Restart, Net}
use Rattle.or_base.specs.declared.session.SyncDone.{SyncDone}
use Rattle.or_base.specs.ByLink.{at_link, without_link}
use Rattle.or_base.specs.Names.{is_among}
use Rattle.kv_sync.specs.declared.session.Session.{Session}
use Rattle.kv_sync.specs.declared.session.Stale.{Stale}
use Rattle.kv_sync.specs.declared.session.SyncPhase.{SyncPhase}
use Rattle.kv_sync.specs.declared.session.SyncPhase.TheVariants.{Dumped, Pushed}
use Rattle.kv_sync.specs.Sessions.{SessionsState, session_on, without_session, session_after_reply, done_of, same_phase, is_in, current, current_if, current_of}
use Rattle.kv_sync.specs.Running.{IsApart, AreApart}
use Rattle.kv_sync.proofs.Onward.{at_link-with_other, at_link-without_other}
use Rattle.kv_store.specs.declared.response.Response.TheVariants as response
use Rattle.kv_store.specs.Store.{StoreState, Change, change_by, change_to, change_with_response, store_after_offers, store_after_reply, store_after_ack, response_to_reply, message_change, item_change, persisted_by}
use Rattle.kv_agree.specs.Traced.{is_reply, is_push}
use Rattle.kv_agree.specs.Paired.{IsNoReplyOf, IsNoPushOf}
use Rattle.kv_agree.proofs.PairedSteps.{AreElsewhere}
use Rattle.kv_agree.proofs.PairedSent.{PushesElsewhere, AnswersElsewhere}

-- ---- the session of a link

none_later : (entry : ℕ × Session) (later : List (ℕ × Session)) → AllByRecursion (IsApart entry) later → at_link later entry.0 ≡ None
none_later entry [] apart = refl
none_later entry (e ∷ later) apart = by_order (none_later entry later apart.1) (nat_cmp entry.0 e.0) refl where
  by_order : at_link later entry.0 ≡ None → (o : Ordering) → o ≡ nat_cmp entry.0 e.0 → cond (is_eq o) (Some e.1) (at_link later entry.0) ≡ None
  by_order rest Less is = rest
  by_order rest Equal is = absurd (omega (arith, apart.0.0, ranked entry.0 e.0 Equal is))
  by_order rest Greater is = rest

is_removed : (link : ℕ) (running : List (ℕ × Session)) → AreApart running → at_link (without_link running link) link ≡ None
is_removed link [] apart = refl
is_removed link (e ∷ running) apart = by_order (is_removed link running apart.1) (nat_cmp link e.0) refl where
  by_order : at_link (without_link running link) link ≡ None → (o : Ordering) → nat_cmp link e.0 ≡ o → at_link (cond (is_eq o) running (e ∷ without_link running link)) link ≡ None
  by_order rest Less is = ap (λ order. cond (is_eq order) (Some e.1) (at_link (without_link running link) link)) is ∙ rest
  by_order rest Equal is = ap (at_link running) (ranked link e.0 Equal (sym is)) ∙ none_later e running apart.0
  by_order rest Greater is = ap (λ order. cond (is_eq order) (Some e.1) (at_link (without_link running link) link)) is ∙ rest

pub session_removed : (link : ℕ) (s : SessionsState) → AreApart s.running → session_on (without_session s link) link ≡ None
session_removed link s apart = is_removed link s.running apart

-- the running session is this one, with this number and in this phase
pub record IsRunningSession (running : Option Session) (number : ℕ) (phase : SyncPhase) (session : Session) : Type 0 where
  pub found : running ≡ Some session
  pub number_is : session.number ≡ number
  pub phase_is : session.phase ≡ phase

same_phases : (p q : SyncPhase) → same_phase p q ≡ true → p ≡ q
same_phases Dumped Dumped same = refl
same_phases Dumped Pushed same = cc
same_phases Pushed Dumped same = cc
same_phases Pushed Pushed same = refl

running_if : (test : Bool) (t u : Session) (number : ℕ) (phase : SyncPhase) → is_in t number phase ≡ test → current_if test t ≡ Ok u → IsRunningSession (Some t) number phase u
running_if true t u number phase is ok =
    let parts = and_parts (t.number == number) (same_phase t.phase phase) is in
    let same : t ≡ u = cc in
    record {
      found = ap Some same;
      number_is = subst (λ (v : Session). v.number ≡ number) same (eqb-true t.number number parts.0);
      phase_is = subst (λ (v : Session). v.phase ≡ phase) same (same_phases t.phase phase parts.1);
    }
running_if false t u number phase is ok = cc

pub running_where_current : (running : Option Session) (number : ℕ) (phase : SyncPhase) (u : Session) → current_of running number phase ≡ Ok u → IsRunningSession running number phase u
running_where_current None number phase u ok = cc
running_where_current (Some t) number phase u ok = running_if (is_in t number phase) t u number phase refl ok

-- ---- items that are no reply, or no push

not_the_reply : (link l n : ℕ) (from : List ℕ) (m : Msg) → is_reply n m ≡ false → IsNoReplyOf link n (Net l from m)
not_the_reply link l n from m other = and_right (l == link) (is_reply n m) other

not_here_reply : (link l n : ℕ) (from : List ℕ) (m : Msg) → l ≢ link → IsNoReplyOf link n (Net l from m)
not_here_reply link l n from m other = and_left (l == link) (is_reply n m) (ne_eqb l link other)

not_the_push : (link l n : ℕ) (from : List ℕ) (m : Msg) → is_push n m ≡ false → IsNoPushOf link n (Net l from m)
not_the_push link l n from m other = and_right (l == link) (is_push n m) other

not_here_push : (link l n : ℕ) (from : List ℕ) (m : Msg) → l ≢ link → IsNoPushOf link n (Net l from m)
not_here_push link l n from m other = and_left (l == link) (is_push n m) (ne_eqb l link other)

-- ---- the starter

-- what an item changes where the full sync of the link neither gets its reply nor its acknowledgement
pub record KeepsStarter (link : ℕ) (s : StoreState) (item : Item) (change : Change) : Type 0 where
  pub me : change.store.me ≡ s.me
  pub last : change.store.sessions.last ≡ s.sessions.last
  pub session : AreApart s.sessions.running → (session_on change.store.sessions link ≡ session_on s.sessions link) ⊎ (session_on change.store.sessions link ≡ None)
  pub others : List SyncDone
  pub done : change.store.done ≡ s.done ++ others
  pub elsewhere : AreElsewhere link others
  pub pushes : PushesElsewhere link change.response
  pub none : ((n : ℕ) → IsNoReplyOf link n item) ⊎ ((change.store.journal ≡ s.journal) × (persisted_by item ≡ []))

abbrev pub replied_change : StoreState → ℕ → List ℕ → ℕ → List Pair → List (List ℕ) → ℕ → Session → Change
replied_change s link from b0 pairs wanted withheld u = change_by (store_after_reply s link b0 pairs withheld (Ok u)) (response.Push link wanted) (from ∷ [])

-- the full sync of the link gets its reply
pub record TakesReply (link : ℕ) (s : StoreState) (item : Item) (change : Change) : Type 0 where
  pub from : List ℕ
  pub number : ℕ
  pub b0 : ℕ
  pub pairs : List Pair
  pub wanted : List (List ℕ)
  pub withheld : ℕ
  pub session : Session
  pub item_is : item ≡ Net link from (msg.Reply number b0 pairs wanted withheld)
  pub runs : IsRunningSession (session_on s.sessions link) number Dumped session
  pub change_is : change ≡ replied_change s link from b0 pairs wanted withheld session

abbrev pub acked_change : StoreState → ℕ → Session → Change
acked_change s link u = change_to (store_after_ack s link (Ok u))

-- it gets its acknowledgement
pub record TakesAck (link : ℕ) (s : StoreState) (item : Item) (change : Change) : Type 0 where
  pub from : List ℕ
  pub number : ℕ
  pub session : Session
  pub item_is : item ≡ Net link from (msg.Ack number)
  pub runs : IsRunningSession (session_on s.sessions link) number Pushed session
  pub change_is : change ≡ acked_change s link session

abbrev pub StarterChange : ℕ → StoreState → Item → Change → Type 0
StarterChange link s item change = KeepsStarter link s item change ⊎ (TakesReply link s item change ⊎ TakesAck link s item change)

-- the store has the same full syncs
keeps_starter : (link : ℕ) (s : StoreState) (item : Item) (change : Change) → change.store.me ≡ s.me → change.store.sessions ≡ s.sessions → change.store.done ≡ s.done
    → PushesElsewhere link change.response → ((n : ℕ) → IsNoReplyOf link n item) ⊎ ((change.store.journal ≡ s.journal) × (persisted_by item ≡ [])) → StarterChange link s item change
keeps_starter link s item change me sessions done pushes none = inl (record {
  me = me;
  last = ap (λ (t : SessionsState). t.last) sessions;
  session = λ apart. inl (ap (λ t. session_on t link) sessions);
  others = [];
  done = done ∙ sym (append-nil s.done);
  elsewhere = tt;
  pushes = pushes;
  none = none;
})

flood_at_starter : (link l : ℕ) (s : StoreState) (from : List ℕ) (passed : List (List ℕ)) (pairs : List Pair) (test : Bool)
    → StarterChange link s (Net l from (msg.Flood passed pairs)) (change_by (cond test s (store_after_offers s pairs origin.Flood)) response.Nothing passed)
flood_at_starter link l s from passed pairs true =
    keeps_starter link s (Net l from (msg.Flood passed pairs)) (change_by s response.Nothing passed) refl refl refl tt
    (inl (λ n. not_the_reply link l n from (msg.Flood passed pairs) refl))
flood_at_starter link l s from passed pairs false =
    keeps_starter link s (Net l from (msg.Flood passed pairs)) (change_by (store_after_offers s pairs origin.Flood) response.Nothing passed) refl refl refl tt
    (inl (λ n. not_the_reply link l n from (msg.Flood passed pairs) refl))

reply_at_starter : (link l : ℕ) (s : StoreState) (from : List ℕ) (number b0 : ℕ) (pairs : List Pair) (wanted : List (List ℕ)) (withheld : ℕ) (r : Result Session Stale)
    → ((u : Session) → r ≡ Ok u → IsRunningSession (session_on s.sessions l) number Dumped u)
    → StarterChange link s (Net l from (msg.Reply number b0 pairs wanted withheld))
    (change_by (store_after_reply s l b0 pairs withheld r) (response_to_reply l wanted (is_ok r)) (from ∷ []))
reply_at_starter link l s from number b0 pairs wanted withheld (Err stale) runs =
    keeps_starter link s (Net l from (msg.Reply number b0 pairs wanted withheld))
    (change_by (store_after_reply s l b0 pairs withheld (Err stale)) response.Nothing (from ∷ [])) refl refl refl tt
    (inr (refl, refl))
reply_at_starter link l s from number b0 pairs wanted withheld (Ok u) runs =
    elim (cases_eq l link) [
      | inl same ↦
          inr (inl (record {
            from = from;
            number = number;
            b0 = b0;
            pairs = pairs;
            wanted = wanted;
            withheld = withheld;
            session = u;
            item_is = ap (λ k. Net k from (msg.Reply number b0 pairs wanted withheld)) same;
            runs = subst (λ k. IsRunningSession (session_on s.sessions k) number Dumped u) same (runs u refl);
            change_is = ap (λ k. replied_change s k from b0 pairs wanted withheld u) same;
          }))
      | inr other ↦
          inl (record {
            me = refl;
            last = refl;
            session = λ apart. inl (at_link-with_other link l (session_after_reply u b0 withheld) s.sessions.running (λ same. other (sym same)));
            others = [];
            done = sym (append-nil s.done);
            elsewhere = tt;
            pushes = other;
            none = inl (λ n. not_here_reply link l n from (msg.Reply number b0 pairs wanted withheld) other);
          })
    ]

ack_at_starter : (link l : ℕ) (s : StoreState) (from : List ℕ) (number : ℕ) (r : Result Session Stale)
    → ((u : Session) → r ≡ Ok u → IsRunningSession (session_on s.sessions l) number Pushed u)
    → StarterChange link s (Net l from (msg.Ack number)) (change_to (store_after_ack s l r))
ack_at_starter link l s from number (Err stale) runs =
    keeps_starter link s (Net l from (msg.Ack number)) (change_to (store_after_ack s l (Err stale))) refl refl refl tt (inr (refl, refl))
ack_at_starter link l s from number (Ok u) runs =
    elim (cases_eq l link) [
      | inl same ↦
          inr (inr (record {
            from = from;
            number = number;
            session = u;
            item_is = ap (λ k. Net k from (msg.Ack number)) same;
            runs = subst (λ k. IsRunningSession (session_on s.sessions k) number Pushed u) same (runs u refl);
            change_is = ap (λ k. acked_change s k u) same;
          }))
      | inr other ↦
          inl (record {
            me = refl;
            last = refl;
            session = λ apart. inl (at_link-without_other link l s.sessions.running (λ same. other (sym same)));
            others = done_of l u ∷ [];
            done = refl;
            elsewhere = (other, tt);
            pushes = tt;
            none = inl (λ n. not_the_reply link l n from (msg.Ack number) refl);
          })
    ]

message_at_starter : (link l : ℕ) (s : StoreState) (from : List ℕ) (m : Msg) → StarterChange link s (Net l from m) (message_change s l from m)
unfolding current
message_at_starter link l s from (msg.Flood passed pairs) = flood_at_starter link l s from passed pairs (is_among s.me passed)
message_at_starter link l s from (msg.Reply number b0 pairs wanted withheld) =
    reply_at_starter link l s from number b0 pairs wanted withheld (current s.sessions l number Dumped) (running_where_current (session_on s.sessions l) number Dumped)
message_at_starter link l s from (msg.Ack number) =
    ack_at_starter link l s from number (current s.sessions l number Pushed) (running_where_current (session_on s.sessions l) number Pushed)
message_at_starter link l s from (msg.Dump number rows) =
    keeps_starter link s (Net l from (msg.Dump number rows)) (message_change s l from (msg.Dump number rows)) refl refl refl tt (inr (refl, refl))
message_at_starter link l s from (msg.Push number pairs) =
    keeps_starter link s (Net l from (msg.Push number pairs)) (message_change s l from (msg.Push number pairs)) refl refl refl tt
    (inl (λ n. not_the_reply link l n from (msg.Push number pairs) refl))
message_at_starter link l s from m = keeps_starter link s (Net l from m) (change_to s) refl refl refl tt (inr (refl, refl))

-- the sessions of one link go
without_at_starter : (link l : ℕ) (s : SessionsState) → AreApart s.running → (session_on (without_session s l) link ≡ session_on s link) ⊎ (session_on (without_session s l) link ≡ None)
without_at_starter link l s apart =
    elim (cases_eq link l) [
      | inl same ↦ inr (subst (λ k. session_on (without_session s k) link ≡ None) same (session_removed link s apart))
      | inr other ↦ inl (at_link-without_other link l s.running other)
    ]

pub item_at_starter : (link : ℕ) (s : StoreState) (item : Item) → StarterChange link s item (item_change s item)
unfolding item_change
item_at_starter link s (Net l from m) = message_at_starter link l s from m
item_at_starter link s (PeerDown l) = inl (record {
  me = refl;
  last = refl;
  session = without_at_starter link l s.sessions;
  others = [];
  done = sym (append-nil s.done);
  elsewhere = tt;
  pushes = tt;
  none = inl (λ n. refl);
})
item_at_starter link s Restart = inl (record {
  me = refl;
  last = refl;
  session = λ apart. inr refl;
  others = [];
  done = sym (append-nil s.done);
  elsewhere = tt;
  pushes = tt;
  none = inl (λ n. refl);
})
item_at_starter link s item = keeps_starter link s item (item_change s item) refl refl refl tt (inl (λ n. refl))

-- ---- the peer

-- what an item changes where it is neither a dump nor a push of the link
pub record KeepsPeer (link : ℕ) (s : StoreState) (item : Item) (change : Change) : Type 0 where
  pub me : change.store.me ≡ s.me
  pub none : (n : ℕ) → IsNoPushOf link n item
  pub answers : AnswersElsewhere link change.response

pub record TakesDump (link : ℕ) (s : StoreState) (item : Item) (change : Change) : Type 0 where
  pub from : List ℕ
  pub number : ℕ
  pub rows : List DigestRow
  pub item_is : item ≡ Net link from (msg.Dump number rows)
  pub change_is : change ≡ change_with_response s (response.Reply link number rows)

pub record TakesPush (link : ℕ) (s : StoreState) (item : Item) (change : Change) : Type 0 where
  pub from : List ℕ
  pub number : ℕ
  pub pairs : List Pair
  pub item_is : item ≡ Net link from (msg.Push number pairs)
  pub change_is : change ≡ change_by (store_after_offers s pairs origin.SyncPush) (response.Ack link number) (from ∷ [])

abbrev pub PeerChange : ℕ → StoreState → Item → Change → Type 0
PeerChange link s item change = KeepsPeer link s item change ⊎ (TakesDump link s item change ⊎ TakesPush link s item change)

flood_at_peer : (link l : ℕ) (s : StoreState) (from : List ℕ) (passed : List (List ℕ)) (pairs : List Pair) (test : Bool)
    → PeerChange link s (Net l from (msg.Flood passed pairs)) (change_by (cond test s (store_after_offers s pairs origin.Flood)) response.Nothing passed)
flood_at_peer link l s from passed pairs true = inl (record { me = refl; none = λ n. not_the_push link l n from (msg.Flood passed pairs) refl; answers = tt })
flood_at_peer link l s from passed pairs false = inl (record { me = refl; none = λ n. not_the_push link l n from (msg.Flood passed pairs) refl; answers = tt })

reply_at_peer : (link l : ℕ) (s : StoreState) (from : List ℕ) (number b0 : ℕ) (pairs : List Pair) (wanted : List (List ℕ)) (withheld : ℕ) (r : Result Session Stale)
    → PeerChange link s (Net l from (msg.Reply number b0 pairs wanted withheld))
    (change_by (store_after_reply s l b0 pairs withheld r) (response_to_reply l wanted (is_ok r)) (from ∷ []))
reply_at_peer link l s from number b0 pairs wanted withheld (Err stale) =
    inl (record { me = refl; none = λ n. not_the_push link l n from (msg.Reply number b0 pairs wanted withheld) refl; answers = tt })
reply_at_peer link l s from number b0 pairs wanted withheld (Ok u) =
    inl (record { me = refl; none = λ n. not_the_push link l n from (msg.Reply number b0 pairs wanted withheld) refl; answers = tt })

ack_at_peer : (link l : ℕ) (s : StoreState) (from : List ℕ) (number : ℕ) (r : Result Session Stale) → PeerChange link s (Net l from (msg.Ack number)) (change_to (store_after_ack s l r))
ack_at_peer link l s from number (Err stale) = inl (record { me = refl; none = λ n. not_the_push link l n from (msg.Ack number) refl; answers = tt })
ack_at_peer link l s from number (Ok u) = inl (record { me = refl; none = λ n. not_the_push link l n from (msg.Ack number) refl; answers = tt })

dump_at_peer : (link l : ℕ) (s : StoreState) (from : List ℕ) (number : ℕ) (rows : List DigestRow)
    → PeerChange link s (Net l from (msg.Dump number rows)) (change_with_response s (response.Reply l number rows))
dump_at_peer link l s from number rows =
    elim (cases_eq l link) [
      | inl same ↦
          inr (inl (record {
            from = from;
            number = number;
            rows = rows;
            item_is = ap (λ k. Net k from (msg.Dump number rows)) same;
            change_is = ap (λ k. change_with_response s (response.Reply k number rows)) same;
          }))
      | inr other ↦ inl (record { me = refl; none = λ n. not_the_push link l n from (msg.Dump number rows) refl; answers = other })
    ]

push_at_peer : (link l : ℕ) (s : StoreState) (from : List ℕ) (number : ℕ) (pairs : List Pair)
    → PeerChange link s (Net l from (msg.Push number pairs)) (change_by (store_after_offers s pairs origin.SyncPush) (response.Ack l number) (from ∷ []))
push_at_peer link l s from number pairs =
    elim (cases_eq l link) [
      | inl same ↦
          inr (inr (record {
            from = from;
            number = number;
            pairs = pairs;
            item_is = ap (λ k. Net k from (msg.Push number pairs)) same;
            change_is = ap (λ k. change_by (store_after_offers s pairs origin.SyncPush) (response.Ack k number) (from ∷ [])) same;
          }))
      | inr other ↦ inl (record { me = refl; none = λ n. not_here_push link l n from (msg.Push number pairs) other; answers = other })
    ]

message_at_peer : (link l : ℕ) (s : StoreState) (from : List ℕ) (m : Msg) → PeerChange link s (Net l from m) (message_change s l from m)
message_at_peer link l s from (msg.Flood passed pairs) = flood_at_peer link l s from passed pairs (is_among s.me passed)
message_at_peer link l s from (msg.Reply number b0 pairs wanted withheld) =
    reply_at_peer link l s from number b0 pairs wanted withheld (current s.sessions l number Dumped)
message_at_peer link l s from (msg.Ack number) = ack_at_peer link l s from number (current s.sessions l number Pushed)
message_at_peer link l s from (msg.Dump number rows) = dump_at_peer link l s from number rows
message_at_peer link l s from (msg.Push number pairs) = push_at_peer link l s from number pairs
message_at_peer link l s from m = inl (record { me = refl; none = λ n. not_the_push link l n from m refl; answers = tt })

pub item_at_peer : (link : ℕ) (s : StoreState) (item : Item) → PeerChange link s item (item_change s item)
unfolding item_change
item_at_peer link s (Net l from m) = message_at_peer link l s from m
item_at_peer link s item = inl (record { me = refl; none = λ n. refl; answers = tt })

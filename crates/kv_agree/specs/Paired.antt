-- What holds between a store that starts full syncs over a link, the starter, and the store at the other end, its peer, while messages are lost,
-- repeated, held back and put in another order between them.
use Rattle.std.specs.Prelude.{◌≡◌, ℕ, ◌+◌, ◌-◌, ◌^◌, ◌<◌, ◌≤◌, List, [], ◌∷◌, length, take, drop, true, false, Option, Some, None, ◌⊎◌}
use Rattle.std.specs.List.{Contains, AllByRecursion}
use Rattle.or_base.specs.declared.digest.DigestRow.{DigestRow}
use Rattle.or_base.specs.declared.value.Pair.{Pair}
use Rattle.or_base.specs.declared.entry.JournalEntry.{JournalEntry}
use Rattle.or_base.specs.declared.kind.Kind.{Kind}
use Rattle.or_base.specs.declared.message.Msg.{Msg}
use Rattle.or_base.specs.declared.message.Msg.TheVariants.{Dump, Reply, Push, Ack}
use Rattle.or_base.specs.declared.item.Item.{Item}
use Rattle.or_base.specs.declared.item.Item.TheVariants.{Net}
use Rattle.or_base.specs.declared.session.SyncDone.{SyncDone}
use Rattle.or_base.specs.Counting.{saturate}
use Rattle.or_actor.specs.declared.output.Output.{Output}
use Rattle.or_actor.specs.declared.output.Output.TheVariants.{To}
use Rattle.or_actor.specs.Ports.{first_link_port}
use Rattle.kv_table.specs.Digest.{digest}
use Rattle.kv_sync.specs.declared.session.Session.{Session}
use Rattle.kv_sync.specs.declared.session.SyncPhase.{SyncPhase}
use Rattle.kv_sync.specs.declared.session.SyncPhase.TheVariants.{Dumped, Pushed}
use Rattle.kv_sync.specs.Sessions.{session_on}
use Rattle.kv_sync.specs.Running.{AreNumbered}
use Rattle.kv_sync.specs.Messages.{reply_message}
use Rattle.kv_store.specs.Store.{store_step}
use Rattle.kv_agree.specs.Agreement.{Agree, NoCollision}
use Rattle.kv_agree.specs.Exchange.{Exchange, MergesOneOf, reply_pairs, push_pairs, reply_withheld, push_withheld, HasReplied, HasPushed}
use Rattle.kv_agree.specs.Traced.{TracedStore, Trace, trace_of, new_traced, traced_step, is_reply_of, is_push_of, is_merged_from, came_in_reply, came_in_push}
use Rattle.kv_agree.specs.Orderly.{IsOrderly, IsNotBefore, CarryValid}

-- The messages of one node that are on their way over a link. Only which there are counts: not their order, nor how often.
abbrev pub OnWay : Type 0
OnWay = List Msg

-- ---- entries with their makers

-- this holds of each entry with its maker, and there are as many of the one as of the other
abbrev pub AllMade : (Item → JournalEntry → Type 0) → List Item → List JournalEntry → Type 0
AllMade P [] [] = Unit {0}
AllMade P [] (entry ∷ entries) = ⊥
AllMade P (item ∷ items) [] = ⊥
AllMade P (item ∷ items) (entry ∷ entries) = P item entry × AllMade P items entries

-- an entry that came in the reply of a full sync, or in its push, merged one of these pairs
abbrev pub IsOfReply : ℕ → ℕ → List Pair → Item → JournalEntry → Type 0
IsOfReply link number pairs item entry = is_reply_of link number item ≡ true → is_merged_from came_in_reply entry ≡ true → MergesOneOf pairs entry

abbrev pub IsOfPush : ℕ → ℕ → List Pair → Item → JournalEntry → Type 0
IsOfPush link number pairs item entry = is_push_of link number item ≡ true → is_merged_from came_in_push entry ≡ true → MergesOneOf pairs entry

abbrev pub IsNoReplyOf : ℕ → ℕ → Item → Type 0
IsNoReplyOf link number item = is_reply_of link number item ≡ false

abbrev pub IsNoPushOf : ℕ → ℕ → Item → Type 0
IsNoPushOf link number item = is_push_of link number item ≡ false

-- ---- one full sync, by its link and its number

-- the message is a reply that the peer, with journal b, made to the digest of the starter's first a0 entries
pub record IsReplyTo (a0 : ℕ) (a b : List JournalEntry) (session : ℕ) (msg : Msg) : Type 0 where
  pub b0 : ℕ
  pub moment : ℕ
  pub within : b0 ≤ length b
  pub is : msg ≡ reply_message (take b0 b) moment session (digest (take a0 a))

-- a full sync of which the dump was sent, and no reply has arrived
pub record IsDumped (link : ℕ) (s : Session) (a b : Trace) (out back : OnWay) : Type 0 where
  pub started : s.a0 ≤ length a.journal
  pub dumps : (rows : List DigestRow) → Contains out (Dump s.number rows) → rows ≡ digest (take s.a0 a.journal)
  pub replies : (b0 : ℕ) (pairs : List Pair) (wanted : List (List ℕ)) (withheld : ℕ) → Contains back (Reply s.number b0 pairs wanted withheld)
      → IsReplyTo s.a0 a.journal b.journal s.number (Reply s.number b0 pairs wanted withheld)
  pub no_push : (pairs : List Pair) → Contains out (Push s.number pairs) → ⊥
  pub no_ack : Contains back (Ack s.number) → ⊥
  pub no_reply_taken : AllByRecursion (IsNoReplyOf link s.number) a.makers
  pub no_push_taken : AllByRecursion (IsNoPushOf link s.number) b.makers

-- a full sync of which the reply has arrived, and the push was sent
pub record IsExchanged (link number : ℕ) (a b : Trace) (out : OnWay) (x : Exchange) : Type 0 where
  pub replied : HasReplied a.journal b.journal x
  pub pushes : (pairs : List Pair) → Contains out (Push number pairs) → pairs ≡ push_pairs a.journal b.journal x
  pub of_reply : AllMade (IsOfReply link number (reply_pairs a.journal b.journal x)) a.makers a.journal
  pub once : AllByRecursion (IsNoReplyOf link number) (drop x.a1 a.makers)
  pub of_push : AllMade (IsOfPush link number (push_pairs a.journal b.journal x)) b.makers b.journal

-- so many pairs were withheld
abbrev pub Withheld : ℕ → List JournalEntry → List JournalEntry → Exchange → Type 0
Withheld count a b x = count ≡ saturate (reply_withheld a b x + push_withheld a b x)

-- a full sync that awaits its acknowledgement
pub record IsPushing (link : ℕ) (s : Session) (a b : Trace) (out back : OnWay) : Type 0 where
  pub x : Exchange
  pub a0 : x.a0 ≡ s.a0
  pub b0 : x.b0 ≡ s.b0
  pub exchanged : IsExchanged link s.number a b out x
  pub withheld : Withheld s.withheld a.journal b.journal x
  pub acks : Contains back (Ack s.number) → HasPushed a.journal b.journal x

-- a full sync that was finished
pub record IsFinished (link : ℕ) (d : SyncDone) (a b : Trace) (out : OnWay) : Type 0 where
  pub x : Exchange
  pub a0 : x.a0 ≡ d.a0
  pub b0 : x.b0 ≡ d.b0
  pub exchanged : IsExchanged link d.session a b out x
  pub withheld : Withheld d.withheld a.journal b.journal x
  pub pushed : HasPushed a.journal b.journal x

abbrev pub IsInPhase : SyncPhase → ℕ → Session → Trace → Trace → OnWay → OnWay → Type 0
IsInPhase Dumped link s a b out back = IsDumped link s a b out back
IsInPhase Pushed link s a b out back = IsPushing link s a b out back

-- the full sync that runs over the link, if one does
abbrev pub IsRunning : ℕ → Option Session → Trace → Trace → OnWay → OnWay → Type 0
IsRunning link None a b out back = Unit {0}
IsRunning link (Some s) a b out back = IsInPhase s.phase link s a b out back

-- the number is below that of the full sync that runs over the link, if one does
abbrev pub IsBelow : ℕ → Option Session → Type 0
IsBelow number None = Unit {0}
IsBelow number (Some s) = number < s.number

-- a finished full sync, if it went over this link
pub record IsFinishedOn (link : ℕ) (running : Option Session) (a b : Trace) (out : OnWay) (d : SyncDone) : Type 0 where
  pub finished : d.link ≡ link → IsFinished link d a b out
  pub below : d.link ≡ link → IsBelow d.session running

-- ---- numbers

-- every number on its way, and every number that made an entry, was given
pub record AreGiven (link last : ℕ) (done : List SyncDone) (a b : Trace) (out back : OnWay) : Type 0 where
  pub dumps : (n : ℕ) (rows : List DigestRow) → Contains out (Dump n rows) → n ≤ last
  pub pushes : (n : ℕ) (pairs : List Pair) → Contains out (Push n pairs) → n ≤ last
  pub replies : (n b0 : ℕ) (pairs : List Pair) (wanted : List (List ℕ)) (withheld : ℕ) → Contains back (Reply n b0 pairs wanted withheld) → n ≤ last
  pub acks : (n : ℕ) → Contains back (Ack n) → n ≤ last
  pub replies_taken : AllByRecursion (λ item. (n : ℕ) → last < n → IsNoReplyOf link n item) a.makers
  pub pushes_taken : AllByRecursion (λ item. (n : ℕ) → last < n → IsNoPushOf link n item) b.makers
  pub finished : AllByRecursion (λ d. d.link ≡ link → d.session ≤ last) done

-- ---- all of it

-- Between a starter and its peer, with what is on its way from the starter (out) and from the peer (back).
pub record IsPaired (link : ℕ) (a b : TracedStore) (out back : OnWay) : Type 0 where
  pub starter : IsOrderly a.store
  pub peer : IsOrderly b.store
  pub made_a : length a.makers ≡ length a.store.journal
  pub made_b : length b.makers ≡ length b.store.journal
  pub valid_out : CarryValid out
  pub valid_back : CarryValid back
  pub numbered : AreNumbered a.store.sessions.last a.store.sessions.running
  pub given : AreGiven link a.store.sessions.last a.store.done (trace_of a) (trace_of b) out back
  pub running : IsRunning link (session_on a.store.sessions link) (trace_of a) (trace_of b) out back
  pub finished : AllByRecursion (IsFinishedOn link (session_on a.store.sessions link) (trace_of a) (trace_of b) out) a.store.done

-- ---- what is promised

-- what is on its way after a turn was on its way before, or the turn sent it on the link
abbrev pub ComesOf : OnWay → OnWay → List ℕ → ℕ → List Output → Type 0
ComesOf before after me link sent = (msg : Msg) → Contains after msg → Contains before msg ⊎ Contains sent (To (first_link_port + link) (Net link me msg))

-- a message that an item brings over the link is on its way
abbrev pub IsBrought : ℕ → OnWay → Item → Type 0
IsBrought link way item = (from : List ℕ) (msg : Msg) → item ≡ Net link from msg → Contains way msg

-- Two new stores are paired, and paired stores stay so, whatever is lost or comes again, over each turn of either.
pub record StaysPaired : Type 0 where
  pub starts : (link : ℕ) (kind : Kind) (me you : List ℕ) → IsPaired link (new_traced kind me) (new_traced kind you) [] []
  pub fewer : (link : ℕ) (a b : TracedStore) (out back out_after back_after : OnWay) → ((msg : Msg) → Contains out_after msg → Contains out msg)
      → ((msg : Msg) → Contains back_after msg → Contains back msg) → IsPaired link a b out back → IsPaired link a b out_after back_after
  -- a turn of the starter, as long as the counter of its numbers doesn't saturate
  pub starter : (link : ℕ) (a b : TracedStore) (out back after : OnWay) (item : Item) → IsBrought link back item → IsNotBefore a.store.moment item
      → ComesOf out after a.store.me link (store_step a.store item).1 → (store_step a.store item).0.sessions.last < 2 ^ 64 - 1
      → IsPaired link a b out back → IsPaired link (traced_step a item) b after back
  pub peer : (link : ℕ) (a b : TracedStore) (out back after : OnWay) (item : Item) → IsBrought link out item → IsNotBefore b.store.moment item
      → ComesOf back after b.store.me link (store_step b.store item).1
      → IsPaired link a b out back → IsPaired link a (traced_step b item) out after

-- the entry came in the reply of the full sync, or in its push
abbrev pub CameInReply : ℕ → ℕ → Item → JournalEntry → Type 0
CameInReply link number item entry = (is_reply_of link number item ≡ true) × (is_merged_from came_in_reply entry ≡ true)

abbrev pub CameInPush : ℕ → ℕ → Item → JournalEntry → Type 0
CameInPush link number item entry = (is_push_of link number item ≡ true) × (is_merged_from came_in_push entry ≡ true)

-- all that either journal has past the lengths of a full sync came in its reply, or in its push
pub record IsOneRound (link : ℕ) (d : SyncDone) (a b : Trace) : Type 0 where
  pub starter : AllMade (CameInReply link d.session) (drop d.a0 a.makers) (drop d.a0 a.journal)
  pub peer : AllMade (CameInPush link d.session) (drop d.b0 b.makers) (drop d.b0 b.journal)

-- One round is enough: after a finished full sync of which nothing was withheld, and where all that either journal has more came in it, the two
-- paired stores agree.
abbrev pub PairedAgree : Type 0
PairedAgree =
    (link : ℕ) (a b : TracedStore) (out back : OnWay) (d : SyncDone) → IsPaired link a b out back → NoCollision a.store.journal b.store.journal
    → Contains a.store.done d → d.link ≡ link → d.withheld ≡ 0 → IsOneRound link d (trace_of a) (trace_of b) → Agree a.store.journal b.store.journal

-- What a turn of the peer does to the full syncs of a link.
use Rattle.std.proofs.Common.{◌≡◌, ◌≢◌, ℕ, ◌<◌, ◌≤◌, List, [], ◌∷◌, ◌++◌, length, Bool, true, false, Option, Some, None, ◌⊎◌, inl, inr, sym, ◌∙◌, ap, subst, take, replicate, arith}
use Rattle.std.specs.List.{Contains, AllByRecursion}
use Rattle.std.proofs.lemmas.Bool.{false≢true, cases_eq}
use Rattle.std.proofs.lemmas.List.{take_all}
use Rattle.or_base.specs.declared.digest.DigestRow.{DigestRow}
use Rattle.or_base.specs.declared.value.Pair.{Pair}
use Rattle.or_base.specs.declared.entry.JournalEntry.{JournalEntry}
use Rattle.or_base.specs.declared.message.Msg.{Msg}
use Rattle.or_base.specs.declared.message.Msg.TheVariants.{Dump, Reply, Push, Ack, Hello, Handshake, Heartbeat, Flood}
use Rattle.or_base.specs.declared.item.Item.{Item}
use Rattle.or_base.specs.declared.session.SyncDone.{SyncDone}
use Rattle.kv_table.specs.Digest.{digest}
use Rattle.kv_sync.specs.declared.session.Session.{Session}
use Rattle.kv_sync.specs.declared.session.SyncPhase.{SyncPhase}
use Rattle.kv_sync.specs.declared.session.SyncPhase.TheVariants.{Dumped, Pushed}
use Rattle.kv_sync.specs.Messages.{reply_message}
use Rattle.kv_store.specs.Growth.{IsFront}
use Rattle.kv_store.proofs.Growth.{front_same, front_with, front_shorter}
use Rattle.kv_agree.specs.Exchange.{Exchange, MergesOneOf, Covers, push_pairs, HasPushed}
use Rattle.kv_agree.specs.Traced.{is_merged_from, came_in_push}
use Rattle.kv_agree.specs.Paired.{OnWay, IsOfPush, IsNoPushOf, IsReplyTo, IsDumped, IsExchanged, IsFinished, IsInPhase, IsRunning, IsFinishedOn, AreGiven}
use Rattle.kv_agree.proofs.PairedGrowth.{all_join, all_copies, all_weaker, made_join, made_by_one, same_push, pushed_later, withheld_later, Between, GoesOn, OnlyReplies, exchanged_later, finished_on, phase_on}
use Rattle.kv_agree.proofs.PairedSteps.{AreTied, with_made, OnlySends, still_there, true_not_false, finished_stay}

-- after a turn of the peer
abbrev pub after_peer : Between → Item → List JournalEntry → OnWay → Between
after_peer v item more after = record { a = v.a; b = with_made v.b item more; out = v.out; back = after }

-- the message replies to a dump, or acknowledges a push
abbrev pub is_peers : Msg → Bool
is_peers (Reply session b0 pairs wanted withheld) = true
is_peers (Ack session) = true
is_peers (Dump session rows) = false
is_peers (Push session pairs) = false
is_peers (Hello iface heard restarting) = false
is_peers (Handshake iface done) = false
is_peers Heartbeat = false
is_peers (Flood passed pairs) = false

abbrev pub IsNotPeers : Msg → Type 0
IsNotPeers msg = is_peers msg ≡ false

abbrev pub IsOldOr : Msg → Msg → Type 0
IsOldOr new msg = IsNotPeers msg ⊎ (msg ≡ new)

not_of_push : (link number : ℕ) (pairs : List Pair) (item : Item) (more : List JournalEntry) → IsNoPushOf link number item → AllByRecursion (IsOfPush link number pairs item) more
not_of_push link number pairs item [] never = tt
not_of_push link number pairs item (entry ∷ more) never = ((λ is came. absurd (false≢true (sym never ∙ is))), not_of_push link number pairs item more never)

peer_goes_on : (link number : ℕ) (v : Between) (item : Item) (more : List JournalEntry) (after : OnWay) → IsNoPushOf link number item
    → (Contains after (Ack number) → Contains v.back (Ack number)) → GoesOn link number v (after_peer v item more after)
peer_goes_on link number v item more after never acks = record {
  starter = front_same v.a.journal;
  peer = front_with v.b.journal more;
  of_reply = λ pairs all. all;
  no_reply = λ m within all. all;
  of_push = λ pairs all.
      made_join (IsOfPush link number pairs) v.b.makers (replicate (length more) item) v.b.journal more all
      (made_by_one (IsOfPush link number pairs) item more (not_of_push link number pairs item more never));
  no_push = λ all. all_join (IsNoPushOf link number) v.b.makers (replicate (length more) item) all (all_copies (IsNoPushOf link number) (length more) item never);
  dumps = λ rows there. there;
  pushes = λ pairs there. there;
  acks = acks;
}

given_at_peer : (link last : ℕ) (done : List SyncDone) (v : Between) (item : Item) (more : List JournalEntry) (after : OnWay)
    → AllByRecursion (λ i. (n : ℕ) → last < n → IsNoPushOf link n i) (replicate (length more) item)
    → ((n b0 : ℕ) (pairs : List Pair) (wanted : List (List ℕ)) (withheld : ℕ) → Contains after (Reply n b0 pairs wanted withheld) → n ≤ last)
    → ((n : ℕ) → Contains after (Ack n) → n ≤ last) → AreGiven link last done v.a v.b v.out v.back → AreGiven link last done v.a (with_made v.b item more) v.out after
given_at_peer link last done v item more after copies replies acks g = record {
  dumps = g.dumps;
  pushes = g.pushes;
  replies = replies;
  acks = acks;
  replies_taken = g.replies_taken;
  pushes_taken = all_join (λ i. (n : ℕ) → last < n → IsNoPushOf link n i) v.b.makers (replicate (length more) item) g.pushes_taken copies;
  finished = g.finished;
}

-- ---- the item is no push of the link

module _ (link last : ℕ) (session : Option Session) (done : List SyncDone) (v : Between) (item : Item) (more : List JournalEntry) (after : OnWay)
    (made : length v.a.makers ≡ length v.a.journal) (never : (n : ℕ) → IsNoPushOf link n item) (acks : (n : ℕ) → Contains after (Ack n) → Contains v.back (Ack n)) where
  abbrev w : Between
  w = after_peer v item more after

  runs_on : (running : Option Session) → ((s : Session) → IsDumped link s v.a v.b v.out v.back → OnlyReplies s v w) → IsRunning link running v.a v.b v.out v.back
      → IsRunning link running w.a w.b w.out w.back
  runs_on None only running = tt
  runs_on (Some s) only running = phase_on s.phase link s v w made (peer_goes_on link s.number v item more after (never s.number) (acks s.number)) (only s) running

  tied_without_push : ((n b0 : ℕ) (pairs : List Pair) (wanted : List (List ℕ)) (withheld : ℕ) → Contains after (Reply n b0 pairs wanted withheld) → n ≤ last)
      → ((s : Session) → IsDumped link s v.a v.b v.out v.back → OnlyReplies s v w) → AreTied link last session done v → AreTied link last session done w
  tied_without_push replies only tied = record {
    given =
        given_at_peer link last done v item more after (all_copies (λ i. (n : ℕ) → last < n → IsNoPushOf link n i) (length more) item (λ n above. never n)) replies
        (λ n there. tied.given.acks n (acks n there)) tied.given;
    running = runs_on session only tied.running;
    finished =
        finished_stay link last session session v w done made (λ n upto below. peer_goes_on link n v item more after (never n) (acks n))
        (λ n upto below. below) tied;
  }

-- it responds with nothing that belongs to a full sync of the link
pub tied_while_quiet : (link last : ℕ) (session : Option Session) (done : List SyncDone) (v : Between) (item : Item) (more : List JournalEntry) (after : OnWay)
    → length v.a.makers ≡ length v.a.journal → ((n : ℕ) → IsNoPushOf link n item) → OnlySends IsNotPeers v.back after
    → AreTied link last session done v → AreTied link last session done (after_peer v item more after)
tied_while_quiet link last session done v item more after made never only tied =
    tied_without_push link last session done v item more after made never (λ n. still_there IsNotPeers v.back after (Ack n) only true_not_false)
    (λ n b0 pairs wanted withheld there.
    tied.given.replies n b0 pairs wanted withheld (still_there IsNotPeers v.back after (Reply n b0 pairs wanted withheld) only true_not_false there))
    (λ s dumped b0 pairs wanted withheld there. inl (still_there IsNotPeers v.back after (Reply s.number b0 pairs wanted withheld) only true_not_false there)) tied

-- ---- a dump arrives

reply_number : (n m b0 : ℕ) (pairs : List Pair) (wanted : List (List ℕ)) (withheld : ℕ) (journal : List JournalEntry) (now : ℕ) (rows : List DigestRow)
    → Reply n b0 pairs wanted withheld ≡ reply_message journal now m rows → n ≡ m
unfolding reply_message
reply_number n m b0 pairs wanted withheld journal now rows same = cc

no_ack : (n m : ℕ) (journal : List JournalEntry) (now : ℕ) (rows : List DigestRow) → Ack n ≡ reply_message journal now m rows → ⊥
unfolding reply_message
no_ack n m journal now rows same = cc

module _ (link last : ℕ) (session : Option Session) (done : List SyncDone) (v : Between) (item : Item) (more : List JournalEntry) (after : OnWay)
    (made : length v.a.makers ≡ length v.a.journal) (m now : ℕ) (rows : List DigestRow) (never : (n : ℕ) → IsNoPushOf link n item)
    (only : OnlySends (IsOldOr (reply_message (v.b.journal ++ more) now m rows)) v.back after) where
  abbrev answer : Msg
  answer = reply_message (v.b.journal ++ more) now m rows

  reply_or : (n b0 : ℕ) (pairs : List Pair) (wanted : List (List ℕ)) (withheld : ℕ) → Contains after (Reply n b0 pairs wanted withheld)
      → Contains v.back (Reply n b0 pairs wanted withheld) ⊎ (Reply n b0 pairs wanted withheld ≡ answer)
  reply_or n b0 pairs wanted withheld there =
      elim (only (Reply n b0 pairs wanted withheld) there) [
        | inl old ↦ inl old
        | inr new ↦ elim new [ inl none ↦ absurd (true_not_false none) | inr is ↦ inr is ]
      ]

  is_reply_to : (s : Session) (msg : Msg) → Contains v.out (Dump m rows) → IsDumped link s v.a v.b v.out v.back → m ≡ s.number → msg ≡ answer
      → IsReplyTo s.a0 v.a.journal (v.b.journal ++ more) s.number msg
  is_reply_to s msg there dumped same is =
      let b = v.b.journal ++ more in
      let rows_are : rows ≡ digest (take s.a0 v.a.journal) = dumped.dumps rows (subst (λ n. Contains v.out (Dump n rows)) same there) in
      record {
        b0 = length b;
        moment = now;
        within = omega arith;
        is =
            is ∙ ap (λ n. reply_message b now n rows) same ∙ ap (reply_message b now s.number) rows_are
            ∙ ap (λ journal. reply_message journal now s.number (digest (take s.a0 v.a.journal))) (sym (take_all (length b) b (omega arith)));
      }

  pub tied_after_dump : Contains v.out (Dump m rows) → AreTied link last session done v → AreTied link last session done (after_peer v item more after)
  tied_after_dump there tied =
      tied_without_push link last session done v item more after made never
      (λ n. still_there (IsOldOr answer) v.back after (Ack n) only (λ new. elim new [ inl none ↦ true_not_false none | inr is ↦ no_ack n m (v.b.journal ++ more) now rows is ]))
      (λ n b0 pairs wanted withheld now_there.
      elim (reply_or n b0 pairs wanted withheld now_there) [
        | inl old ↦ tied.given.replies n b0 pairs wanted withheld old
        | inr is ↦ omega (arith, tied.given.dumps m rows there, reply_number n m b0 pairs wanted withheld (v.b.journal ++ more) now rows is)
      ])
      (λ s dumped b0 pairs wanted withheld now_there.
      elim (reply_or s.number b0 pairs wanted withheld now_there) [
        | inl old ↦ inl old
        | inr is ↦
            inr (is_reply_to s (Reply s.number b0 pairs wanted withheld) there dumped
            (sym (reply_number s.number m b0 pairs wanted withheld (v.b.journal ++ more) now rows is)) is)
      ]) tied

-- ---- a push arrives

-- of these entries, those that came in a push merged one of the pairs
abbrev pub CameInPush : List Pair → List JournalEntry → Type 0
CameInPush pairs more = AllByRecursion (λ entry. is_merged_from came_in_push entry ≡ true → MergesOneOf pairs entry) more

module _ (link last : ℕ) (session : Option Session) (done : List SyncDone) (v : Between) (item : Item) (more : List JournalEntry) (after : OnWay)
    (made : length v.a.makers ≡ length v.a.journal) (m : ℕ) (pairs : List Pair) (came : CameInPush pairs more)
    (covered : AllByRecursion (Covers (v.b.journal ++ more)) pairs) (others : (n : ℕ) → n ≢ m → IsNoPushOf link n item)
    (only : OnlySends (IsOldOr (Ack m)) v.back after) where
  abbrev pushed : Between
  pushed = after_peer v item more after

  ack_or : (n : ℕ) → Contains after (Ack n) → Contains v.back (Ack n) ⊎ (n ≡ m)
  ack_or n there =
      elim (only (Ack n) there) [
        | inl old ↦ inl old
        | inr new ↦ elim new [ inl none ↦ absurd (true_not_false none) | inr is ↦ inr cc ]
      ]

  reply_before : (n b0 : ℕ) (ps : List Pair) (wanted : List (List ℕ)) (withheld : ℕ) → Contains after (Reply n b0 ps wanted withheld)
      → Contains v.back (Reply n b0 ps wanted withheld)
  reply_before n b0 ps wanted withheld =
      still_there (IsOldOr (Ack m)) v.back after (Reply n b0 ps wanted withheld) only (λ new. elim new [ inl none ↦ true_not_false none | inr is ↦ no_reply is ]) where
        no_reply : Reply n b0 ps wanted withheld ≡ Ack m → ⊥
        no_reply same = cc

  -- a full sync with another number goes on
  other_goes_on : (n : ℕ) → n ≢ m → GoesOn link n v pushed
  other_goes_on n other =
      peer_goes_on link n v item more after (others n other) (λ there. elim (ack_or n there) [ inl old ↦ old | inr same ↦ absurd (other same) ])

  front : IsFront v.b.journal pushed.b.journal
  front = front_with v.b.journal more

  exchanged_still : (x : Exchange) → Contains v.out (Push m pairs) → IsExchanged link m v.a v.b v.out x → IsExchanged link m pushed.a pushed.b pushed.out x
  exchanged_still x there exchanged =
      let push = push_pairs v.a.journal v.b.journal x in
      exchanged_later link m v pushed x (front_same v.a.journal) front exchanged (λ ps now. now) exchanged.of_reply exchanged.once
      (made_join (IsOfPush link m push) v.b.makers (replicate (length more) item) v.b.journal more exchanged.of_push
      (made_by_one (IsOfPush link m push) item more
      (all_weaker (λ entry. is_merged_from came_in_push entry ≡ true → MergesOneOf pairs entry) (IsOfPush link m push item) more
      (λ entry merges is from. subst (λ ps. MergesOneOf ps entry) (exchanged.pushes pairs there) (merges from)) came)))

  has_pushed : (x : Exchange) → Contains v.out (Push m pairs) → IsExchanged link m v.a v.b v.out x → HasPushed v.a.journal (v.b.journal ++ more) x
  has_pushed x there exchanged =
      let b = v.b.journal ++ more in
      let same = same_push v.a.journal v.b.journal v.a.journal b x (front_same v.a.journal) front exchanged.replied ∙ sym (exchanged.pushes pairs there) in
      record {
        b1 = length b;
        after = omega (arith, exchanged.replied.peer, front_shorter v.b.journal b front);
        within = omega arith;
        covered =
            subst (λ journal. AllByRecursion (Covers journal) (push_pairs v.a.journal b x)) (sym (take_all (length b) b (omega arith)))
            (subst (AllByRecursion (Covers b)) (sym same) covered);
      }

  phase_after_push : (phase : SyncPhase) (s : Session) → s.number ≡ m → Contains v.out (Push m pairs) → IsInPhase phase link s v.a v.b v.out v.back
      → IsInPhase phase link s pushed.a pushed.b pushed.out pushed.back
  phase_after_push Dumped s same there dumped = absurd (dumped.no_push pairs (subst (λ n. Contains v.out (Push n pairs)) (sym same) there))
  phase_after_push Pushed s same there p =
      let exchanged = subst (λ n. IsExchanged link n v.a v.b v.out p.x) same p.exchanged in
      record {
        x = p.x;
        a0 = p.a0;
        b0 = p.b0;
        exchanged = subst (λ n. IsExchanged link n pushed.a pushed.b pushed.out p.x) (sym same) (exchanged_still p.x there exchanged);
        withheld = withheld_later v.a.journal v.b.journal v.a.journal (v.b.journal ++ more) p.x (front_same v.a.journal) front s.withheld exchanged.replied p.withheld;
        acks = λ now. has_pushed p.x there exchanged;
      }

  finished_after_push : (d : SyncDone) → d.session ≡ m → Contains v.out (Push m pairs) → IsFinished link d v.a v.b v.out → IsFinished link d pushed.a pushed.b pushed.out
  finished_after_push d same there f =
      let exchanged = subst (λ n. IsExchanged link n v.a v.b v.out f.x) same f.exchanged in
      record {
        x = f.x;
        a0 = f.a0;
        b0 = f.b0;
        exchanged = subst (λ n. IsExchanged link n pushed.a pushed.b pushed.out f.x) (sym same) (exchanged_still f.x there exchanged);
        withheld = withheld_later v.a.journal v.b.journal v.a.journal (v.b.journal ++ more) f.x (front_same v.a.journal) front d.withheld exchanged.replied f.withheld;
        pushed = pushed_later v.a.journal v.b.journal v.a.journal (v.b.journal ++ more) f.x (front_same v.a.journal) front exchanged.replied f.pushed;
      }

  runs_after_push : (running : Option Session) → Contains v.out (Push m pairs) → IsRunning link running v.a v.b v.out v.back
      → IsRunning link running pushed.a pushed.b pushed.out pushed.back
  runs_after_push None there running = tt
  runs_after_push (Some s) there running =
      elim (cases_eq s.number m) [
        | inl same ↦ phase_after_push s.phase s same there running
        | inr other ↦
            phase_on s.phase link s v pushed made (other_goes_on s.number other)
            (λ dumped b0 ps wanted withheld now. inl (reply_before s.number b0 ps wanted withheld now)) running
      ]

  pub tied_after_push : Contains v.out (Push m pairs) → AreTied link last session done v → AreTied link last session done pushed
  tied_after_push there tied = record {
    given =
        given_at_peer link last done v item more after
        (all_copies (λ i. (n : ℕ) → last < n → IsNoPushOf link n i) (length more) item (λ n above. others n (omega (arith, above, tied.given.pushes m pairs there))))
        (λ n b0 ps wanted withheld now. tied.given.replies n b0 ps wanted withheld (reply_before n b0 ps wanted withheld now))
        (λ n now. elim (ack_or n now) [ inl old ↦ tied.given.acks n old | inr same ↦ omega (arith, same, tied.given.pushes m pairs there) ]) tied.given;
    running = runs_after_push session there tied.running;
    finished =
        all_weaker (IsFinishedOn link session v.a v.b v.out) (IsFinishedOn link session pushed.a pushed.b pushed.out) done
        (λ d is. record {
          finished = λ here.
              elim (cases_eq d.session m) [
                | inl same ↦ finished_after_push d same there (is.finished here)
                | inr other ↦ finished_on link d v pushed made (other_goes_on d.session other) (is.finished here)
              ];
          below = is.below;
        })
        tied.finished;
  }

-- What a turn of the starter does to the full syncs of a link.
use Rattle.std.proofs.Common.{◌≡◌, ◌≢◌, ℕ, ◌+◌, ◌<◌, ◌≤◌, List, [], ◌∷◌, ◌++◌, length, Bool, true, false, Option, Some, None, ◌⊎◌, inl, inr, refl, sym, ◌∙◌, ap, subst, take, drop, replicate, arith, length-append}
use Rattle.std.specs.List.{Contains, AllByRecursion}
use Rattle.std.proofs.lemmas.Bool.{false≢true}
use Rattle.std.proofs.lemmas.List.{take_all, drop_all, length-replicate, length-take-le}
use Rattle.or_base.specs.declared.digest.DigestRow.{DigestRow}
use Rattle.or_base.specs.declared.value.Pair.{Pair}
use Rattle.or_base.specs.declared.entry.JournalEntry.{JournalEntry}
use Rattle.or_base.specs.declared.message.Msg.{Msg}
use Rattle.or_base.specs.declared.message.Msg.TheVariants.{Dump, Reply, Push, Ack, Hello, Handshake, Heartbeat, Flood}
use Rattle.or_base.specs.declared.item.Item.{Item}
use Rattle.or_base.specs.declared.session.SyncDone.{SyncDone}
use Rattle.or_base.specs.Counting.{saturate}
use Rattle.kv_table.specs.Digest.{digest}
use Rattle.kv_table.specs.Sending.{sent_pairs, withheld_count}
use Rattle.kv_sync.specs.declared.session.Session.{Session}
use Rattle.kv_sync.specs.declared.session.SyncPhase.TheVariants.{Dumped, Pushed}
use Rattle.kv_sync.specs.Difference.{better_keys, wanted_keys}
use Rattle.kv_sync.specs.Messages.{reply_message}
use Rattle.kv_sync.specs.Sessions.{session_after_reply, with_more_withheld, done_of}
use Rattle.kv_store.specs.Growth.{IsFront}
use Rattle.kv_store.proofs.Growth.{front_same, front_with, front_shorter}
use Rattle.kv_agree.specs.Exchange.{Exchange, MergesOneOf, Covers, keys_wanted, reply_pairs, push_pairs, reply_withheld, push_withheld, HasReplied}
use Rattle.kv_agree.specs.Traced.{Trace, is_merged_from, came_in_reply}
use Rattle.kv_agree.specs.Paired.{OnWay, IsOfReply, IsOfPush, IsNoReplyOf, IsNoPushOf, IsReplyTo, IsDumped, IsExchanged, IsPushing, IsFinished, IsInPhase, IsRunning, IsBelow, IsFinishedOn, AreGiven}
use Rattle.kv_agree.proofs.PairedGrowth.{all_join, all_copies, all_weaker, all_past, made_join, made_by_one, made_from_makers, front_take, Between, GoesOn, finished_on, phase_on}

-- ---- the full syncs of a link

-- all that is known of the full syncs of a link, of which the running one and the finished ones are these
pub record AreTied (link last : ℕ) (session : Option Session) (done : List SyncDone) (v : Between) : Type 0 where
  pub given : AreGiven link last done v.a v.b v.out v.back
  pub running : IsRunning link session v.a v.b v.out v.back
  pub finished : AllByRecursion (IsFinishedOn link session v.a v.b v.out) done

-- a trace with more entries, which one item made
abbrev pub with_made : Trace → Item → List JournalEntry → Trace
with_made t item more = record { journal = t.journal ++ more; makers = t.makers ++ replicate (length more) item }

pub length-made : (t : Trace) (item : Item) (more : List JournalEntry) → length t.makers ≡ length t.journal → length (with_made t item more).makers ≡ length (with_made t item more).journal
length-made t item more made =
    length-append t.makers (replicate (length more) item) ∙ ap (λ n. length t.makers + n) (length-replicate (length more) item) ∙ ap (λ n. n + length more) made
    ∙ sym (length-append t.journal more)

-- after a turn of the starter
abbrev pub after_starter : Between → Item → List JournalEntry → OnWay → Between
after_starter v item more after = record { a = with_made v.a item more; b = v.b; out = after; back = v.back }

-- every message that is on its way after was so before, or is such
abbrev pub OnlySends : (Msg → Type 0) → OnWay → OnWay → Type 0
OnlySends P before after = (msg : Msg) → Contains after msg → Contains before msg ⊎ P msg

-- the message starts a full sync, or goes on with it
abbrev pub is_starters : Msg → Bool
is_starters (Dump session rows) = true
is_starters (Push session pairs) = true
is_starters (Reply session b0 pairs wanted withheld) = false
is_starters (Ack session) = false
is_starters (Hello iface heard restarting) = false
is_starters (Handshake iface done) = false
is_starters Heartbeat = false
is_starters (Flood passed pairs) = false

abbrev pub IsNotStarters : Msg → Type 0
IsNotStarters msg = is_starters msg ≡ false

-- a dump of these rows, with a number above one and up to another
pub record IsNewDump (last later : ℕ) (rows : List DigestRow) (msg : Msg) : Type 0 where
  pub number : ℕ
  pub is : msg ≡ Dump number rows
  pub above : last < number
  pub upto : number ≤ later

-- a session that was started with the journal as it is
pub record IsNewSession (last later : ℕ) (journal : List JournalEntry) (running : Option Session) : Type 0 where
  pub session : Session
  pub found : running ≡ Some session
  pub above : last < session.number
  pub upto : session.number ≤ later
  pub phase : session.phase ≡ Dumped
  pub a0 : session.a0 ≡ length journal

abbrev pub IsOldOrDump : ℕ → ℕ → List DigestRow → Msg → Type 0
IsOldOrDump last later rows msg = IsNotStarters msg ⊎ IsNewDump last later rows msg

abbrev pub IsOldOrPush : ℕ → List Pair → Msg → Type 0
IsOldOrPush number pairs msg = IsNotStarters msg ⊎ (msg ≡ Push number pairs)

pub still_there : (P : Msg → Type 0) (before after : OnWay) (msg : Msg) → OnlySends P before after → (P msg → ⊥) → Contains after msg → Contains before msg
still_there P before after msg only never there = elim (only msg there) [ inl old ↦ old | inr new ↦ absurd (never new) ]

-- ---- what goes on

-- the item made nothing, or isn't the reply of this full sync
abbrev pub MakesNoReply : ℕ → ℕ → Item → List JournalEntry → Type 0
MakesNoReply link number item more = (more ≡ []) ⊎ IsNoReplyOf link number item

abbrev pub MakesNoReplies : ℕ → Item → List JournalEntry → Type 0
MakesNoReplies link item more = (more ≡ []) ⊎ ((number : ℕ) → IsNoReplyOf link number item)

no_reply_among : (link number : ℕ) (item : Item) (more : List JournalEntry) → MakesNoReplies link item more → MakesNoReply link number item more
no_reply_among link number item more (inl none) = inl none
no_reply_among link number item more (inr never) = inr (never number)

none_or_copies : (P : Item → Type 0) (item : Item) (more : List JournalEntry) → (more ≡ []) ⊎ P item → AllByRecursion P (replicate (length more) item)
none_or_copies P item more (inl none) = rw none tt
none_or_copies P item more (inr holds) = all_copies P (length more) item holds

not_of_reply : (link number : ℕ) (pairs : List Pair) (item : Item) (more : List JournalEntry) → MakesNoReply link number item more → AllByRecursion (IsOfReply link number pairs item) more
not_of_reply link number pairs item more (inl none) = rw none tt
not_of_reply link number pairs item [] (inr never) = tt
not_of_reply link number pairs item (entry ∷ more) (inr never) = ((λ is came. absurd (false≢true (sym never ∙ is))), not_of_reply link number pairs item more (inr never))

starter_goes_on : (link number : ℕ) (v : Between) (item : Item) (more : List JournalEntry) (after : OnWay) → MakesNoReply link number item more
    → ((rows : List DigestRow) → Contains after (Dump number rows) → Contains v.out (Dump number rows))
    → ((pairs : List Pair) → Contains after (Push number pairs) → Contains v.out (Push number pairs)) → GoesOn link number v (after_starter v item more after)
starter_goes_on link number v item more after none dumps pushes = record {
  starter = front_with v.a.journal more;
  peer = front_same v.b.journal;
  of_reply = λ pairs all.
      made_join (IsOfReply link number pairs) v.a.makers (replicate (length more) item) v.a.journal more all
      (made_by_one (IsOfReply link number pairs) item more (not_of_reply link number pairs item more none));
  no_reply = λ m within all.
      all_past (IsNoReplyOf link number) m v.a.makers (replicate (length more) item) within all (none_or_copies (IsNoReplyOf link number) item more none);
  of_push = λ pairs all. all;
  no_push = λ all. all;
  dumps = dumps;
  pushes = pushes;
  acks = λ there. there;
}

-- numbers are given, where the last one rises
module _ (link last later : ℕ) (v : Between) (item : Item) (more : List JournalEntry) (after : OnWay) (rises : last ≤ later) where
  abbrev above_reply : Item → Type 0
  above_reply i = (n : ℕ) → later < n → IsNoReplyOf link n i

  given_later : (done done_after : List SyncDone) → AllByRecursion (λ d. d.link ≡ link → d.session ≤ later) done_after → AllByRecursion above_reply (replicate (length more) item)
      → ((n : ℕ) (rows : List DigestRow) → Contains after (Dump n rows) → n ≤ later) → ((n : ℕ) (pairs : List Pair) → Contains after (Push n pairs) → n ≤ later)
      → AreGiven link last done v.a v.b v.out v.back → AreGiven link later done_after (with_made v.a item more) v.b after v.back
  given_later done done_after finished copies dumps pushes g = record {
    dumps = dumps;
    pushes = pushes;
    replies = λ n b0 pairs wanted withheld there. omega (arith, rises, g.replies n b0 pairs wanted withheld there);
    acks = λ n there. omega (arith, rises, g.acks n there);
    replies_taken =
        all_join above_reply v.a.makers (replicate (length more) item)
        (all_weaker (λ i. (n : ℕ) → last < n → IsNoReplyOf link n i) above_reply v.a.makers (λ i none n above. none n (omega (arith, rises, above))) g.replies_taken) copies;
    pushes_taken =
        all_weaker (λ i. (n : ℕ) → last < n → IsNoPushOf link n i) (λ i. (n : ℕ) → later < n → IsNoPushOf link n i) v.b.makers
        (λ i none n above. none n (omega (arith, rises, above))) g.pushes_taken;
    finished = finished;
  }

  given_so_far : (done : List SyncDone) → AllByRecursion (λ d. d.link ≡ link → d.session ≤ last) done → AllByRecursion (λ d. d.link ≡ link → d.session ≤ later) done
  given_so_far done = all_weaker (λ d. d.link ≡ link → d.session ≤ last) (λ d. d.link ≡ link → d.session ≤ later) done (λ d given on. omega (arith, rises, given on))

-- a finished full sync that was given its number
abbrev IsGivenAndDone : ℕ → ℕ → Option Session → Between → SyncDone → Type 0
IsGivenAndDone link last session v d = IsFinishedOn link session v.a v.b v.out d × (d.link ≡ link → d.session ≤ last)

given_and_done : (link last : ℕ) (session : Option Session) (v : Between) (done : List SyncDone) → AllByRecursion (λ d. d.link ≡ link → d.session ≤ last) done
    → AllByRecursion (IsFinishedOn link session v.a v.b v.out) done → AllByRecursion (IsGivenAndDone link last session v) done
given_and_done link last session v [] given finished = tt
given_and_done link last session v (d ∷ done) given finished = ((finished.0, given.0), given_and_done link last session v done given.1 finished.1)

-- those that were finished stay so
pub finished_stay : (link last : ℕ) (session next : Option Session) (v w : Between) (done : List SyncDone) → length v.a.makers ≡ length v.a.journal
    → ((n : ℕ) → n ≤ last → IsBelow n session → GoesOn link n v w) → ((n : ℕ) → n ≤ last → IsBelow n session → IsBelow n next) → AreTied link last session done v
    → AllByRecursion (IsFinishedOn link next w.a w.b w.out) done
finished_stay link last session next v w done made on below tied =
    all_weaker (IsGivenAndDone link last session v) (IsFinishedOn link next w.a w.b w.out) done
    (λ d is. record {
      finished = λ here. finished_on link d v w made (on d.session (is.1 here) (is.0.below here)) (is.0.finished here);
      below = λ here. below d.session (is.1 here) (is.0.below here);
    })
    (given_and_done link last session v done tied.given.finished tied.finished)

-- full syncs of other links
abbrev pub AreElsewhere : ℕ → List SyncDone → Type 0
AreElsewhere link others = AllByRecursion (λ d. d.link ≢ link) others

finished_elsewhere : (link : ℕ) (session : Option Session) (v : Between) (others : List SyncDone) → AreElsewhere link others
    → AllByRecursion (IsFinishedOn link session v.a v.b v.out) others
finished_elsewhere link session v others =
    all_weaker (λ d. d.link ≢ link) (IsFinishedOn link session v.a v.b v.out) others
    (λ d other. record { finished = λ here. absurd (other here); below = λ here. absurd (other here) })

given_elsewhere : (link last : ℕ) (others : List SyncDone) → AreElsewhere link others → AllByRecursion (λ d. d.link ≡ link → d.session ≤ last) others
given_elsewhere link last others = all_weaker (λ d. d.link ≢ link) (λ d. d.link ≡ link → d.session ≤ last) others (λ d other here. absurd (other here))

-- the number of the session that runs was given
abbrev pub IsUpTo : ℕ → Option Session → Type 0
IsUpTo last None = Unit {0}
IsUpTo last (Some s) = s.number ≤ last

-- ---- full syncs start

pub true_not_false : true ≡ false → ⊥
true_not_false same = cc

dump_or : (last later n : ℕ) (now rows : List DigestRow) (out after : OnWay) → OnlySends (IsOldOrDump last later now) out after → Contains after (Dump n rows)
    → Contains out (Dump n rows) ⊎ ((rows ≡ now) × (last < n) × (n ≤ later))
dump_or last later n now rows out after only there =
    elim (only (Dump n rows) there) [
      | inl old ↦ inl old
      | inr new ↦ elim new [ inl none ↦ absurd (true_not_false none) | inr dump ↦ inr (parts dump) ]
    ] where
      number_is : {m : ℕ} → Dump n rows ≡ Dump m now → n ≡ m
      number_is same = cc

      rows_are : {m : ℕ} → Dump n rows ≡ Dump m now → rows ≡ now
      rows_are same = cc

      parts : IsNewDump last later now (Dump n rows) → (rows ≡ now) × (last < n) × (n ≤ later)
      parts dump = (rows_are dump.is, omega (arith, dump.above, number_is dump.is), omega (arith, dump.upto, number_is dump.is))

push_before : (last later n : ℕ) (now : List DigestRow) (pairs : List Pair) (out after : OnWay) → OnlySends (IsOldOrDump last later now) out after → Contains after (Push n pairs)
    → Contains out (Push n pairs)
push_before last later n now pairs out after only =
    still_there (IsOldOrDump last later now) out after (Push n pairs) only
    (λ new. elim new [ inl none ↦ true_not_false none | inr dump ↦ no_dump dump.is ]) where
      no_dump : {m : ℕ} → Push n pairs ≡ Dump m now → ⊥
      no_dump same = cc

-- what becomes of the session of the link: it stays, ends, or is a new one
abbrev pub Becomes : ℕ → ℕ → List JournalEntry → Option Session → Option Session → Type 0
Becomes last later journal session next = (next ≡ session) ⊎ ((next ≡ None) ⊎ IsNewSession last later journal next)

module _ (link last later : ℕ) (v : Between) (item : Item) (more : List JournalEntry) (after : OnWay) (made : length v.a.makers ≡ length v.a.journal)
    (rises : last ≤ later) (none : MakesNoReplies link item more)
    (only : OnlySends (IsOldOrDump last later (digest (v.a.journal ++ more))) v.out after) where
  abbrev w : Between
  w = after_starter v item more after

  old_goes_on : (n : ℕ) → n ≤ last → GoesOn link n v w
  old_goes_on n given =
      starter_goes_on link n v item more after (no_reply_among link n item more none)
      (λ rows there.
      elim (dump_or last later n (digest (v.a.journal ++ more)) rows v.out after only there) [ inl old ↦ old | inr new ↦ absurd (omega (arith, given, new.1)) ])
      (λ pairs. push_before last later n (digest (v.a.journal ++ more)) pairs v.out after only)

  is_dumped : (s : Session) (done : List SyncDone) → last < s.number → s.a0 ≡ length (v.a.journal ++ more) → AreGiven link last done v.a v.b v.out v.back
      → IsDumped link s w.a w.b w.out w.back
  is_dumped s done new whole g = record {
    started = omega (arith, whole);
    dumps = λ rows there.
        elim (dump_or last later s.number (digest (v.a.journal ++ more)) rows v.out after only there) [
          | inl old ↦ absurd (omega (arith, new, g.dumps s.number rows old))
          | inr is ↦ is.0 ∙ ap digest (sym (take_all s.a0 (v.a.journal ++ more) (omega (arith, whole))))
        ];
    replies = λ b0 pairs wanted withheld there. absurd (omega (arith, new, g.replies s.number b0 pairs wanted withheld there));
    no_push = λ pairs there. omega (arith, new, g.pushes s.number pairs (push_before last later s.number (digest (v.a.journal ++ more)) pairs v.out after only there));
    no_ack = λ there. omega (arith, new, g.acks s.number there);
    no_reply_taken =
        all_join (IsNoReplyOf link s.number) v.a.makers (replicate (length more) item)
        (all_weaker (λ i. (n : ℕ) → last < n → IsNoReplyOf link n i) (IsNoReplyOf link s.number) v.a.makers (λ i never. never s.number new) g.replies_taken)
        (none_or_copies (IsNoReplyOf link s.number) item more (no_reply_among link s.number item more none));
    no_push_taken = all_weaker (λ i. (n : ℕ) → last < n → IsNoPushOf link n i) (IsNoPushOf link s.number) v.b.makers (λ i never. never s.number new) g.pushes_taken;
  }

  runs_on : (session : Option Session) → IsUpTo last session → IsRunning link session v.a v.b v.out v.back → IsRunning link session w.a w.b w.out w.back
  runs_on None upto running = tt
  runs_on (Some s) upto running = phase_on s.phase link s v w made (old_goes_on s.number upto) (λ dumped b0 pairs wanted withheld there. inl there) running

  runs_next : (session next : Option Session) (done : List SyncDone) → IsUpTo last session → Becomes last later (v.a.journal ++ more) session next → AreTied link last session done v
      → IsRunning link next w.a w.b w.out w.back
  runs_next session next done upto (inl same) tied = subst (λ s. IsRunning link s w.a w.b w.out w.back) (sym same) (runs_on session upto tied.running)
  runs_next session next done upto (inr (inl gone)) tied = subst (λ s. IsRunning link s w.a w.b w.out w.back) (sym gone) tt
  runs_next session next done upto (inr (inr new)) tied =
      subst (λ s. IsRunning link s w.a w.b w.out w.back) (sym new.found)
      (subst (λ phase. IsInPhase phase link new.session w.a w.b w.out w.back) (sym new.phase) (is_dumped new.session done new.above new.a0 tied.given))

  below_next : (n : ℕ) (session next : Option Session) → Becomes last later (v.a.journal ++ more) session next → n ≤ last → IsBelow n session → IsBelow n next
  below_next n session next (inl same) given below = subst (IsBelow n) (sym same) below
  below_next n session next (inr (inl gone)) given below = subst (IsBelow n) (sym gone) tt
  below_next n session next (inr (inr new)) given below = subst (IsBelow n) (sym new.found) (omega (arith, given, new.above))

  -- Its journal grows by no reply of the link, its session there stays, ends or is a new one, and full syncs of other links are
  -- finished.
  pub tied_after_starts : (session next : Option Session) (done others : List SyncDone) → AreElsewhere link others → IsUpTo last session
      → Becomes last later (v.a.journal ++ more) session next → AreTied link last session done v → AreTied link later next (done ++ others) w
  tied_after_starts session next done others elsewhere upto becomes tied = record {
    given =
        given_later link last later v item more after rises done (done ++ others)
        (all_join (λ d. d.link ≡ link → d.session ≤ later) done others
        (given_so_far link last later v item more after rises done tied.given.finished) (given_elsewhere link later others elsewhere))
        (none_or_copies (λ i. (n : ℕ) → later < n → IsNoReplyOf link n i) item more (never_above none))
        (λ n rows there.
        elim (dump_or last later n (digest (v.a.journal ++ more)) rows v.out after only there) [ inl old ↦ omega (arith, rises, tied.given.dumps n rows old) | inr new ↦ new.2 ])
        (λ n pairs there. omega (arith, rises, tied.given.pushes n pairs (push_before last later n (digest (v.a.journal ++ more)) pairs v.out after only there))) tied.given;
    running = runs_next session next done upto becomes tied;
    finished =
        all_join (IsFinishedOn link next w.a w.b w.out) done others
        (finished_stay link last session next v w done made (λ n given below. old_goes_on n given) (λ n given below. below_next n session next becomes given below) tied)
        (finished_elsewhere link next w others elsewhere);
  } where
    never_above : MakesNoReplies link item more → (more ≡ []) ⊎ ((n : ℕ) → later < n → IsNoReplyOf link n item)
    never_above (inl empty) = inl empty
    never_above (inr never) = inr (λ n above. never n)

-- ---- an acknowledgement arrives

module _ (link last : ℕ) (s : Session) (done : List SyncDone) (v : Between) (item : Item) (more : List JournalEntry) (after : OnWay)
    (made : length v.a.makers ≡ length v.a.journal) (none : (number : ℕ) → IsNoReplyOf link number item) (only : OnlySends IsNotStarters v.out after) where
  abbrev acked : Between
  acked = after_starter v item more after

  goes_on_acked : (n : ℕ) → GoesOn link n v acked
  goes_on_acked n =
      starter_goes_on link n v item more after (inr (none n)) (λ rows. still_there IsNotStarters v.out after (Dump n rows) only true_not_false)
      (λ pairs. still_there IsNotStarters v.out after (Push n pairs) only true_not_false)

  is_finished : s.phase ≡ Pushed → Contains v.back (Ack s.number) → AreTied link last (Some s) done v → IsFinished link (done_of link s) v.a v.b v.out
  is_finished phase there tied =
      let p : IsPushing link s v.a v.b v.out v.back = subst (λ phase. IsInPhase phase link s v.a v.b v.out v.back) phase tied.running in
      record { x = p.x; a0 = p.a0; b0 = p.b0; exchanged = p.exchanged; withheld = p.withheld; pushed = p.acks there }

  pub tied_after_ack : s.phase ≡ Pushed → s.number ≤ last → Contains v.back (Ack s.number) → AreTied link last (Some s) done v
      → AreTied link last None (done ++ done_of link s ∷ []) acked
  tied_after_ack phase given there tied = record {
    given =
        given_later link last last v item more after (omega arith) done (done ++ done_of link s ∷ [])
        (all_join (λ d. d.link ≡ link → d.session ≤ last) done (done_of link s ∷ []) tied.given.finished ((λ here. given), tt))
        (all_copies (λ i. (n : ℕ) → last < n → IsNoReplyOf link n i) (length more) item (λ n above. none n))
        (λ n rows now. tied.given.dumps n rows ((goes_on_acked n).dumps rows now)) (λ n pairs now. tied.given.pushes n pairs ((goes_on_acked n).pushes pairs now)) tied.given;
    running = tt;
    finished =
        all_join (IsFinishedOn link None acked.a acked.b acked.out) done (done_of link s ∷ [])
        (finished_stay link last (Some s) None v acked done made (λ n upto below. goes_on_acked n) (λ n upto below. tt) tied)
        (record { finished = λ here. finished_on link (done_of link s) v acked made (goes_on_acked s.number) (is_finished phase there tied); below = λ here. tt }, tt);
  }

-- ---- a reply arrives

-- what a reply says
reply_says : (n b0 : ℕ) (pairs : List Pair) (wanted : List (List ℕ)) (withheld : ℕ) (journal : List JournalEntry) (now : ℕ) (rows : List DigestRow)
    → Reply n b0 pairs wanted withheld ≡ reply_message journal now n rows
    → (b0 ≡ length journal) × (pairs ≡ sent_pairs journal now (better_keys rows journal)) × (wanted ≡ wanted_keys rows journal)
    × (withheld ≡ withheld_count journal now (better_keys rows journal))
unfolding reply_message
reply_says n b0 pairs wanted withheld journal now rows same = (cc, cc, cc, cc)

-- the reply is that of the exchange
record IsReplyOfExchange (a b : List JournalEntry) (x : Exchange) (b0 : ℕ) (pairs : List Pair) (wanted : List (List ℕ)) (withheld : ℕ) : Type 0 where
  pub b0_is : x.b0 ≡ b0
  pub pairs_are : reply_pairs a b x ≡ pairs
  pub keys_are : keys_wanted a b x ≡ wanted
  pub count_is : reply_withheld a b x ≡ withheld

reply_of_exchange : (s : Session) (a c b : List JournalEntry) (b0 : ℕ) (pairs : List Pair) (wanted : List (List ℕ)) (withheld a1 moment : ℕ) → IsFront a c → s.a0 ≤ length a
    → (r : IsReplyTo s.a0 a b s.number (Reply s.number b0 pairs wanted withheld))
    → IsReplyOfExchange c b (record { a0 = s.a0; b0 = r.b0; a1 = a1; reply_moment = r.moment; push_moment = moment }) b0 pairs wanted withheld
reply_of_exchange s a c b b0 pairs wanted withheld a1 moment f within r =
    let says = reply_says s.number b0 pairs wanted withheld (take r.b0 b) r.moment (digest (take s.a0 a)) r.is in
    let same = front_take s.a0 a c f within in
    record {
      b0_is = sym (length-take-le r.b0 b r.within) ∙ sym says.0;
      pairs_are = ap (λ journal. sent_pairs (take r.b0 b) r.moment (better_keys (digest journal) (take r.b0 b))) same ∙ sym says.1;
      keys_are = ap (λ journal. wanted_keys (digest journal) (take r.b0 b)) same ∙ sym says.2;
      count_is = ap (λ journal. withheld_count (take r.b0 b) r.moment (better_keys (digest journal) (take r.b0 b))) same ∙ sym says.3;
    }

-- of these entries, those that came in a reply merged one of the pairs
abbrev pub CameInReply : List Pair → List JournalEntry → Type 0
CameInReply pairs more = AllByRecursion (λ entry. is_merged_from came_in_reply entry ≡ true → MergesOneOf pairs entry) more

push_or : (out after : OnWay) (m n : ℕ) (now pairs : List Pair) → OnlySends (IsOldOrPush m now) out after → Contains after (Push n pairs)
    → Contains out (Push n pairs) ⊎ ((n ≡ m) × (pairs ≡ now))
push_or out after m n now pairs only there =
    elim (only (Push n pairs) there) [
      | inl old ↦ inl old
      | inr new ↦ elim new [ inl none ↦ absurd (true_not_false none) | inr is ↦ inr (cc, cc) ]
    ]

dump_before : (out after : OnWay) (m n : ℕ) (now : List Pair) (rows : List DigestRow) → OnlySends (IsOldOrPush m now) out after → Contains after (Dump n rows) → Contains out (Dump n rows)
dump_before out after m n now rows only =
    still_there (IsOldOrPush m now) out after (Dump n rows) only (λ new. elim new [ inl none ↦ true_not_false none | inr is ↦ no_push is ]) where
      no_push : Dump n rows ≡ Push m now → ⊥
      no_push same = cc

module _ (link last : ℕ) (s : Session) (done : List SyncDone) (v : Between) (item : Item) (more : List JournalEntry) (after : OnWay)
    (b0 : ℕ) (pairs : List Pair) (wanted : List (List ℕ)) (withheld moment : ℕ)
    (made_a : length v.a.makers ≡ length v.a.journal) (made_b : length v.b.makers ≡ length v.b.journal)
    (came : CameInReply pairs more) (covered : AllByRecursion (Covers (v.a.journal ++ more)) pairs)
    (only : OnlySends (IsOldOrPush s.number (sent_pairs (v.a.journal ++ more) moment wanted)) v.out after) where
  abbrev replied : Between
  replied = after_starter v item more after

  abbrev pushed_pairs : List Pair
  pushed_pairs = sent_pairs (v.a.journal ++ more) moment wanted

  abbrev pushed_session : Session
  pushed_session = with_more_withheld (session_after_reply s b0 withheld) (withheld_count (v.a.journal ++ more) moment wanted)

  abbrev reply : Msg
  reply = Reply s.number b0 pairs wanted withheld

  -- by the reply that was made to the starter's digest
  module _ (r : IsReplyTo s.a0 v.a.journal v.b.journal s.number reply) (dumped : IsDumped link s v.a v.b v.out v.back) where
    abbrev c : List JournalEntry
    c = v.a.journal ++ more

    abbrev b : List JournalEntry
    b = v.b.journal

    abbrev x : Exchange
    x = record { a0 = s.a0; b0 = r.b0; a1 = length c; reply_moment = r.moment; push_moment = moment }

    fits : IsReplyOfExchange c b x b0 pairs wanted withheld
    fits = reply_of_exchange s v.a.journal c b b0 pairs wanted withheld (length c) moment (front_with v.a.journal more) dumped.started r

    whole : take x.a1 c ≡ c
    whole = take_all x.a1 c (omega arith)

    pairs_pushed : push_pairs c b x ≡ pushed_pairs
    pairs_pushed = ap (λ journal. sent_pairs journal moment (keys_wanted c b x)) whole ∙ ap (sent_pairs c moment) fits.keys_are

    count_withheld : push_withheld c b x ≡ withheld_count c moment wanted
    count_withheld = ap (λ journal. withheld_count journal moment (keys_wanted c b x)) whole ∙ ap (withheld_count c moment) fits.keys_are

    has_replied : HasReplied c b x
    has_replied = record {
      after = omega (arith, dumped.started, front_shorter v.a.journal c (front_with v.a.journal more));
      starter = omega arith;
      peer = r.within;
      covered =
          subst (λ journal. AllByRecursion (Covers journal) (reply_pairs c b x)) (sym whole)
          (subst (AllByRecursion (Covers c)) (sym fits.pairs_are) covered);
    }

    none_past : (n : ℕ) (items : List Item) → length items ≡ n → drop n items ≡ []
    none_past n items same = drop_all n items (omega (arith, same))

    is_exchanged : IsExchanged link s.number replied.a replied.b replied.out x
    is_exchanged = record {
      replied = has_replied;
      pushes = λ others there.
          elim (push_or v.out after s.number s.number pushed_pairs others only there) [
            | inl old ↦ absurd (dumped.no_push others old)
            | inr is ↦ is.1 ∙ sym pairs_pushed
          ];
      of_reply =
          made_join (IsOfReply link s.number (reply_pairs c b x)) v.a.makers (replicate (length more) item) v.a.journal more
          (made_from_makers (IsNoReplyOf link s.number) (IsOfReply link s.number (reply_pairs c b x)) v.a.makers v.a.journal
          (λ i entry never is from. absurd (false≢true (sym never ∙ is))) made_a dumped.no_reply_taken)
          (made_by_one (IsOfReply link s.number (reply_pairs c b x)) item more
          (all_weaker (λ entry. is_merged_from came_in_reply entry ≡ true → MergesOneOf pairs entry) (IsOfReply link s.number (reply_pairs c b x) item) more
          (λ entry merges is from. subst (λ ps. MergesOneOf ps entry) (sym fits.pairs_are) (merges from)) came));
      once = subst (AllByRecursion (IsNoReplyOf link s.number)) (sym (none_past (length c) replied.a.makers (length-made v.a item more made_a))) tt;
      of_push =
          made_from_makers (IsNoPushOf link s.number) (IsOfPush link s.number (push_pairs c b x)) v.b.makers v.b.journal
          (λ i entry never is from. absurd (false≢true (sym never ∙ is))) made_b dumped.no_push_taken;
    }

    is_pushing : IsPushing link pushed_session replied.a replied.b replied.out replied.back
    is_pushing = record {
      x = x;
      a0 = refl;
      b0 = fits.b0_is;
      exchanged = is_exchanged;
      withheld = ap saturate (ap (λ n. n + withheld_count c moment wanted) (sym fits.count_is) ∙ ap (λ n. reply_withheld c b x + n) (sym count_withheld));
      acks = λ there. absurd (dumped.no_ack there);
    }

  pub tied_after_reply : s.phase ≡ Dumped → s.number ≤ last → Contains v.back (Reply s.number b0 pairs wanted withheld)
      → ((n : ℕ) → n ≢ s.number → IsNoReplyOf link n item) → AreTied link last (Some s) done v → AreTied link last (Some pushed_session) done replied
  tied_after_reply phase given there others tied =
      let dumped : IsDumped link s v.a v.b v.out v.back = subst (λ phase. IsInPhase phase link s v.a v.b v.out v.back) phase tied.running in
      record {
        given =
            given_later link last last v item more after (omega arith) done done tied.given.finished
            (all_copies (λ i. (n : ℕ) → last < n → IsNoReplyOf link n i) (length more) item (λ n above. others n (omega (arith, above, given))))
            (λ n rows now. tied.given.dumps n rows (dump_before v.out after s.number n pushed_pairs rows only now))
            (λ n ps now. elim (push_or v.out after s.number n pushed_pairs ps only now) [ inl old ↦ tied.given.pushes n ps old | inr is ↦ omega (arith, given, is.0) ]) tied.given;
        running = is_pushing (dumped.replies b0 pairs wanted withheld there) dumped;
        finished =
            finished_stay link last (Some s) (Some pushed_session) v replied done made_a
            (λ n upto below.
            starter_goes_on link n v item more after (inr (others n (omega (arith, below)))) (λ rows. dump_before v.out after s.number n pushed_pairs rows only)
            (λ ps now. elim (push_or v.out after s.number n pushed_pairs ps only now) [ inl old ↦ old | inr is ↦ absurd (omega (arith, below, is.0)) ]))
            (λ n upto below. below) tied;
      }

-- What is known of a full sync stays so while journals grow and messages get fewer.
use Rattle.std.proofs.Common.{◌≡◌, ℕ, zero, suc, ◌+◌, ◌≤◌, List, [], ◌∷◌, ◌++◌, length, ◌⊎◌, inl, inr, refl, sym, ◌∙◌, ap, subst, take, drop, replicate, arith}
use Rattle.std.specs.List.{Contains, AllByRecursion}
use Rattle.std.proofs.lemmas.List.{take-append-le, drop-append-le}
use Rattle.or_base.specs.declared.digest.DigestRow.{DigestRow}
use Rattle.or_base.specs.declared.value.Pair.{Pair}
use Rattle.or_base.specs.declared.entry.JournalEntry.{JournalEntry}
use Rattle.or_base.specs.declared.message.Msg.{Msg}
use Rattle.or_base.specs.declared.message.Msg.TheVariants.{Dump, Reply, Push, Ack}
use Rattle.or_base.specs.declared.item.Item.{Item}
use Rattle.or_base.specs.declared.session.SyncDone.{SyncDone}
use Rattle.or_base.specs.Counting.{saturate}
use Rattle.kv_table.specs.Digest.{digest}
use Rattle.kv_sync.specs.declared.session.Session.{Session}
use Rattle.kv_sync.specs.declared.session.SyncPhase.{SyncPhase}
use Rattle.kv_sync.specs.declared.session.SyncPhase.TheVariants.{Dumped, Pushed}
use Rattle.kv_sync.specs.Messages.{reply_message}
use Rattle.kv_store.specs.Growth.{IsFront}
use Rattle.kv_store.proofs.Growth.{front_shorter}
use Rattle.kv_agree.specs.Exchange.{Exchange, Covers, reply_pairs, push_pairs, reply_withheld, push_withheld, HasReplied, HasPushed}
use Rattle.kv_agree.specs.Traced.{Trace}
use Rattle.kv_agree.specs.Paired.{OnWay, AllMade, IsOfReply, IsOfPush, IsNoReplyOf, IsNoPushOf, IsReplyTo, IsDumped, IsExchanged, Withheld, IsPushing, IsFinished, IsInPhase}

-- ---- lists

pub all_join : {X : Type 0} (P : X → Type 0) (xs ys : List X) → AllByRecursion P xs → AllByRecursion P ys → AllByRecursion P (xs ++ ys)
all_join P [] ys f g = g
all_join P (x ∷ xs) ys f g = (f.0, all_join P xs ys f.1 g)

pub all_copies : {X : Type 0} (P : X → Type 0) (n : ℕ) (x : X) → P x → AllByRecursion P (replicate n x)
all_copies P zero x holds = tt
all_copies P (suc n) x holds = (holds, all_copies P n x holds)

pub all_weaker : {X : Type 0} (P Q : X → Type 0) (xs : List X) → ((x : X) → P x → Q x) → AllByRecursion P xs → AllByRecursion Q xs
all_weaker P Q [] weaker all = tt
all_weaker P Q (x ∷ xs) weaker all = (weaker x all.0, all_weaker P Q xs weaker all.1)

-- what holds past a place holds past it with more behind
pub all_past : {X : Type 0} (P : X → Type 0) (n : ℕ) (xs ys : List X) → n ≤ length xs → AllByRecursion P (drop n xs) → AllByRecursion P ys → AllByRecursion P (drop n (xs ++ ys))
all_past P n xs ys within f g = subst (AllByRecursion P) (sym (drop-append-le n xs ys within)) (all_join P (drop n xs) ys f g)

pub made_join : (P : Item → JournalEntry → Type 0) (items more_items : List Item) (entries more : List JournalEntry) → AllMade P items entries → AllMade P more_items more
    → AllMade P (items ++ more_items) (entries ++ more)
made_join P [] more_items [] more f g = g
made_join P [] more_items (entry ∷ entries) more f g = absurd f
made_join P (item ∷ items) more_items [] more f g = absurd f
made_join P (item ∷ items) more_items (entry ∷ entries) more f g = (f.0, made_join P items more_items entries more f.1 g)

-- entries that one item made
pub made_by_one : (P : Item → JournalEntry → Type 0) (item : Item) (more : List JournalEntry) → AllByRecursion (P item) more → AllMade P (replicate (length more) item) more
made_by_one P item [] all = tt
made_by_one P item (entry ∷ more) all = (all.0, made_by_one P item more all.1)

-- what holds of each maker gives what holds of each entry with its maker
pub made_from_makers : (P : Item → Type 0) (Q : Item → JournalEntry → Type 0) (items : List Item) (entries : List JournalEntry)
    → ((item : Item) (entry : JournalEntry) → P item → Q item entry)
    → length items ≡ length entries → AllByRecursion P items → AllMade Q items entries
made_from_makers P Q [] [] gives same all = tt
made_from_makers P Q [] (entry ∷ entries) gives same all = absurd (omega (arith, same))
made_from_makers P Q (item ∷ items) [] gives same all = absurd (omega (arith, same))
made_from_makers P Q (item ∷ items) (entry ∷ entries) gives same all = (gives item entry all.0, made_from_makers P Q items entries gives (omega (arith, same)) all.1)

-- ---- journals that grow

pub front_take : (n : ℕ) (a c : List JournalEntry) → IsFront a c → n ≤ length a → take n c ≡ take n a
front_take n a c f within = ap (take n) f.is ∙ take-append-le n a f.more within

-- the journals a and b grow to c and e
module _ (a b c e : List JournalEntry) (x : Exchange) (f : IsFront a c) (g : IsFront b e) where
  pub same_reply : HasReplied a b x → reply_pairs c e x ≡ reply_pairs a b x
  same_reply r = rw (front_take x.a0 a c f (omega (arith, r.after, r.starter)), front_take x.b0 b e g r.peer) refl

  pub same_push : HasReplied a b x → push_pairs c e x ≡ push_pairs a b x
  same_push r = rw (front_take x.a0 a c f (omega (arith, r.after, r.starter)), front_take x.a1 a c f r.starter, front_take x.b0 b e g r.peer) refl

  same_withheld : HasReplied a b x → reply_withheld c e x + push_withheld c e x ≡ reply_withheld a b x + push_withheld a b x
  same_withheld r = rw (front_take x.a0 a c f (omega (arith, r.after, r.starter)), front_take x.a1 a c f r.starter, front_take x.b0 b e g r.peer) refl

  replied_later : HasReplied a b x → HasReplied c e x
  replied_later r = record {
    after = r.after;
    starter = omega (arith, r.starter, front_shorter a c f);
    peer = omega (arith, r.peer, front_shorter b e g);
    covered =
        subst (λ journal. AllByRecursion (Covers journal) (reply_pairs c e x)) (sym (front_take x.a1 a c f r.starter))
        (subst (AllByRecursion (Covers (take x.a1 a))) (sym (same_reply r)) r.covered);
  }

  pub pushed_later : HasReplied a b x → HasPushed a b x → HasPushed c e x
  pushed_later r p = record {
    b1 = p.b1;
    after = p.after;
    within = omega (arith, p.within, front_shorter b e g);
    covered =
        subst (λ journal. AllByRecursion (Covers journal) (push_pairs c e x)) (sym (front_take p.b1 b e g p.within))
        (subst (AllByRecursion (Covers (take p.b1 b))) (sym (same_push r)) p.covered);
  }

  pub withheld_later : (count : ℕ) → HasReplied a b x → Withheld count a b x → Withheld count c e x
  withheld_later count r w = w ∙ ap saturate (sym (same_withheld r))

reply_to_later : (a0 number : ℕ) (a b c e : List JournalEntry) (msg : Msg) → IsFront a c → IsFront b e → a0 ≤ length a → IsReplyTo a0 a b number msg → IsReplyTo a0 c e number msg
reply_to_later a0 number a b c e msg f g within r = record {
  b0 = r.b0;
  moment = r.moment;
  within = omega (arith, r.within, front_shorter b e g);
  is =
      r.is ∙ ap (λ journal. reply_message journal r.moment number (digest (take a0 a))) (sym (front_take r.b0 b e g r.within))
      ∙ ap (λ journal. reply_message (take r.b0 e) r.moment number (digest journal)) (sym (front_take a0 a c f within));
}

-- ---- two stores, as far as a link sees them

-- the traces of a starter and of its peer, and what is on its way from either
pub record Between : Type 0 where
  pub a : Trace
  pub b : Trace
  pub out : OnWay
  pub back : OnWay

-- As far as the full sync with this number goes, traces grow by nothing of it, and messages of it are no more than they were.
pub record GoesOn (link number : ℕ) (v w : Between) : Type 0 where
  pub starter : IsFront v.a.journal w.a.journal
  pub peer : IsFront v.b.journal w.b.journal
  pub of_reply : (pairs : List Pair) → AllMade (IsOfReply link number pairs) v.a.makers v.a.journal → AllMade (IsOfReply link number pairs) w.a.makers w.a.journal
  pub no_reply : (m : ℕ) → m ≤ length v.a.makers → AllByRecursion (IsNoReplyOf link number) (drop m v.a.makers) → AllByRecursion (IsNoReplyOf link number) (drop m w.a.makers)
  pub of_push : (pairs : List Pair) → AllMade (IsOfPush link number pairs) v.b.makers v.b.journal → AllMade (IsOfPush link number pairs) w.b.makers w.b.journal
  pub no_push : AllByRecursion (IsNoPushOf link number) v.b.makers → AllByRecursion (IsNoPushOf link number) w.b.makers
  pub dumps : (rows : List DigestRow) → Contains w.out (Dump number rows) → Contains v.out (Dump number rows)
  pub pushes : (pairs : List Pair) → Contains w.out (Push number pairs) → Contains v.out (Push number pairs)
  pub acks : Contains w.back (Ack number) → Contains v.back (Ack number)

-- an exchange is the same over longer traces, of which each entry that came in its reply or its push merged a pair of it
pub exchanged_later : (link number : ℕ) (v w : Between) (x : Exchange) → IsFront v.a.journal w.a.journal → IsFront v.b.journal w.b.journal → IsExchanged link number v.a v.b v.out x
    → ((pairs : List Pair) → Contains w.out (Push number pairs) → Contains v.out (Push number pairs))
    → AllMade (IsOfReply link number (reply_pairs v.a.journal v.b.journal x)) w.a.makers w.a.journal → AllByRecursion (IsNoReplyOf link number) (drop x.a1 w.a.makers)
    → AllMade (IsOfPush link number (push_pairs v.a.journal v.b.journal x)) w.b.makers w.b.journal → IsExchanged link number w.a w.b w.out x
exchanged_later link number v w x f g exchanged pushes of_reply once of_push =
    let reply = same_reply v.a.journal v.b.journal w.a.journal w.b.journal x f g exchanged.replied in
    let push = same_push v.a.journal v.b.journal w.a.journal w.b.journal x f g exchanged.replied in
    record {
      replied = replied_later v.a.journal v.b.journal w.a.journal w.b.journal x f g exchanged.replied;
      pushes = λ pairs there. exchanged.pushes pairs (pushes pairs there) ∙ sym push;
      of_reply = subst (λ pairs. AllMade (IsOfReply link number pairs) w.a.makers w.a.journal) (sym reply) of_reply;
      once = once;
      of_push = subst (λ pairs. AllMade (IsOfPush link number pairs) w.b.makers w.b.journal) (sym push) of_push;
    }

exchanged_on : (link number : ℕ) (v w : Between) (x : Exchange) → length v.a.makers ≡ length v.a.journal → GoesOn link number v w → IsExchanged link number v.a v.b v.out x
    → IsExchanged link number w.a w.b w.out x
exchanged_on link number v w x made on exchanged =
    exchanged_later link number v w x on.starter on.peer exchanged on.pushes (on.of_reply (reply_pairs v.a.journal v.b.journal x) exchanged.of_reply)
    (on.no_reply x.a1 (omega (arith, made, exchanged.replied.starter)) exchanged.once) (on.of_push (push_pairs v.a.journal v.b.journal x) exchanged.of_push)

pub finished_on : (link : ℕ) (d : SyncDone) (v w : Between) → length v.a.makers ≡ length v.a.journal → GoesOn link d.session v w → IsFinished link d v.a v.b v.out
    → IsFinished link d w.a w.b w.out
finished_on link d v w made on done = record {
  x = done.x;
  a0 = done.a0;
  b0 = done.b0;
  exchanged = exchanged_on link d.session v w done.x made on done.exchanged;
  withheld = withheld_later v.a.journal v.b.journal w.a.journal w.b.journal done.x on.starter on.peer d.withheld done.exchanged.replied done.withheld;
  pushed = pushed_later v.a.journal v.b.journal w.a.journal w.b.journal done.x on.starter on.peer done.exchanged.replied done.pushed;
}

-- the replies to a dump that are on their way were so before, or are such replies
abbrev pub OnlyReplies : Session → Between → Between → Type 0
OnlyReplies s v w =
    (b0 : ℕ) (pairs : List Pair) (wanted : List (List ℕ)) (withheld : ℕ) → Contains w.back (Reply s.number b0 pairs wanted withheld)
    → Contains v.back (Reply s.number b0 pairs wanted withheld) ⊎ IsReplyTo s.a0 w.a.journal w.b.journal s.number (Reply s.number b0 pairs wanted withheld)

dumped_on : (link : ℕ) (s : Session) (v w : Between) → GoesOn link s.number v w → OnlyReplies s v w → IsDumped link s v.a v.b v.out v.back → IsDumped link s w.a w.b w.out w.back
dumped_on link s v w on only dumped = record {
  started = omega (arith, dumped.started, front_shorter v.a.journal w.a.journal on.starter);
  dumps = λ rows there. dumped.dumps rows (on.dumps rows there) ∙ ap digest (sym (front_take s.a0 v.a.journal w.a.journal on.starter dumped.started));
  replies = λ b0 pairs wanted withheld there.
      elim (only b0 pairs wanted withheld there) [
        | inl before ↦
            reply_to_later s.a0 s.number v.a.journal v.b.journal w.a.journal w.b.journal (Reply s.number b0 pairs wanted withheld) on.starter on.peer dumped.started
            (dumped.replies b0 pairs wanted withheld before)
        | inr new ↦ new
      ];
  no_push = λ pairs there. dumped.no_push pairs (on.pushes pairs there);
  no_ack = λ there. dumped.no_ack (on.acks there);
  no_reply_taken = on.no_reply 0 (omega arith) dumped.no_reply_taken;
  no_push_taken = on.no_push dumped.no_push_taken;
}

pushing_on : (link : ℕ) (s : Session) (v w : Between) → length v.a.makers ≡ length v.a.journal → GoesOn link s.number v w → IsPushing link s v.a v.b v.out v.back
    → IsPushing link s w.a w.b w.out w.back
pushing_on link s v w made on p = record {
  x = p.x;
  a0 = p.a0;
  b0 = p.b0;
  exchanged = exchanged_on link s.number v w p.x made on p.exchanged;
  withheld = withheld_later v.a.journal v.b.journal w.a.journal w.b.journal p.x on.starter on.peer s.withheld p.exchanged.replied p.withheld;
  acks = λ there. pushed_later v.a.journal v.b.journal w.a.journal w.b.journal p.x on.starter on.peer p.exchanged.replied (p.acks (on.acks there));
}

pub phase_on : (phase : SyncPhase) (link : ℕ) (s : Session) (v w : Between) → length v.a.makers ≡ length v.a.journal → GoesOn link s.number v w
    → (IsDumped link s v.a v.b v.out v.back → OnlyReplies s v w)
    → IsInPhase phase link s v.a v.b v.out v.back → IsInPhase phase link s w.a w.b w.out w.back
phase_on Dumped link s v w made on only dumped = dumped_on link s v w on (only dumped) dumped
phase_on Pushed link s v w made on only pushing = pushing_on link s v w made on pushing

-- One round is enough for paired stores.
use Rattle.std.proofs.Common.{◌≡◌, ℕ, zero, suc, ◌+◌, ◌≤◌, List, [], ◌∷◌, length, Bool, true, false, refl, sym, ◌∙◌, ap, subst, drop, arith}
use Rattle.std.specs.List.{AllByRecursion}
use Rattle.std.proofs.lemmas.Bool.{false≢true}
use Rattle.std.proofs.lemmas.List.Elements.{All-contains, All-from_recursion}
use Rattle.or_base.specs.declared.entry.JournalEntry.{JournalEntry}
use Rattle.or_base.specs.declared.item.Item.{Item}
use Rattle.or_base.specs.declared.session.SyncDone.{SyncDone}
use Rattle.or_base.specs.Counting.{saturate}
use Rattle.kv_sync.specs.Sessions.{session_on}
use Rattle.kv_agree.specs.Agreement.{Agree, NoCollision}
use Rattle.kv_agree.specs.Exchange.{MergesOneOf, reply_pairs, push_pairs, reply_withheld, push_withheld, IsUndisturbed}
use Rattle.kv_agree.specs.Traced.{TracedStore, Trace, trace_of, is_reply_of, is_push_of, is_merged_from, came_in_reply, came_in_push}
use Rattle.kv_agree.specs.Paired.{OnWay, AllMade, IsOfReply, IsOfPush, IsFinished, IsFinishedOn, IsPaired, IsOneRound, PairedAgree}
use Rattle.kv_agree.proofs.Agreeing.{exchanges_agree}

-- what holds of each entry with its maker holds of those past a place
made_past : (P : Item → JournalEntry → Type 0) (n : ℕ) (items : List Item) (entries : List JournalEntry) → AllMade P items entries → AllMade P (drop n items) (drop n entries)
made_past P zero items entries all = all
made_past P (suc n) [] [] all = tt
made_past P (suc n) [] (entry ∷ entries) all = absurd all
made_past P (suc n) (item ∷ items) [] all = absurd all
made_past P (suc n) (item ∷ items) (entry ∷ entries) all = made_past P n items entries all.1

-- the maker passes one test, and its entry another
abbrev IsMadeSo : (Item → Bool) → (JournalEntry → Bool) → Item → JournalEntry → Type 0
IsMadeSo makes came item entry = (makes item ≡ true) × (came entry ≡ true)

-- where makers and entries pass, the entries are as is said of those that do
entries_made_so : (makes : Item → Bool) (came : JournalEntry → Bool) (P : JournalEntry → Type 0) (items : List Item) (entries : List JournalEntry)
    → AllMade (IsMadeSo makes came) items entries
    → AllMade (λ item entry. makes item ≡ true → came entry ≡ true → P entry) items entries → AllByRecursion P entries
entries_made_so makes came P [] [] pass all = tt
entries_made_so makes came P [] (entry ∷ entries) pass all = absurd all
entries_made_so makes came P (item ∷ items) [] pass all = absurd all
entries_made_so makes came P (item ∷ items) (entry ∷ entries) pass all = (all.0 pass.0.0 pass.0.1, entries_made_so makes came P items entries pass.1 all.1)

makers_pass : (makes : Item → Bool) (came : JournalEntry → Bool) (items : List Item) (entries : List JournalEntry) → AllMade (IsMadeSo makes came) items entries
    → AllByRecursion (λ item. makes item ≡ true) items
makers_pass makes came [] [] pass = tt
makers_pass makes came [] (entry ∷ entries) pass = absurd pass
makers_pass makes came (item ∷ items) [] pass = absurd pass
makers_pass makes came (item ∷ items) (entry ∷ entries) pass = (pass.0.0, makers_pass makes came items entries pass.1)

-- where all past one place pass, and none past a later one does, nothing is past the later one
ends_there : (makes : Item → Bool) (n m : ℕ) (items : List Item) → n ≤ m → m ≤ length items → AllByRecursion (λ item. makes item ≡ true) (drop n items)
    → AllByRecursion (λ item. makes item ≡ false) (drop m items) → m ≡ length items
ends_there makes zero zero [] before within pass fail = refl
ends_there makes zero zero (item ∷ items) before within pass fail = absurd (false≢true (sym fail.0 ∙ pass.0))
ends_there makes zero (suc m) [] before within pass fail = absurd (omega (arith, within))
ends_there makes zero (suc m) (item ∷ items) before within pass fail = ap suc (ends_there makes zero m items (omega arith) (omega (arith, within)) pass.1 fail)
ends_there makes (suc n) zero items before within pass fail = absurd (omega (arith, before))
ends_there makes (suc n) (suc m) [] before within pass fail = absurd (omega (arith, within))
ends_there makes (suc n) (suc m) (item ∷ items) before within pass fail = ap suc (ends_there makes n m items (omega (arith, before)) (omega (arith, within)) pass fail)

-- where all that either journal has more came in it, nothing disturbed a finished full sync
undisturbed : (link : ℕ) (d : SyncDone) (a b : Trace) (out : OnWay) (done : IsFinished link d a b out) → length a.makers ≡ length a.journal → IsOneRound link d a b
    → IsUndisturbed a.journal b.journal done.x
undisturbed link d a b out done made one =
    let x = done.x in
    let exchanged = done.exchanged in
    let reply = reply_pairs a.journal b.journal x in
    let push = push_pairs a.journal b.journal x in
    let by_reply = is_reply_of link d.session in
    let by_push = is_push_of link d.session in
    let from_reply = is_merged_from came_in_reply in
    let from_push = is_merged_from came_in_push in
    let starter_more = subst (λ n. AllMade (IsMadeSo by_reply from_reply) (drop n a.makers) (drop n a.journal)) (sym done.a0) one.starter in
    let peer_more = subst (λ n. AllMade (IsMadeSo by_push from_push) (drop n b.makers) (drop n b.journal)) (sym done.b0) one.peer in
    record {
      whole =
          ends_there by_reply x.a0 x.a1 a.makers exchanged.replied.after (omega (arith, made, exchanged.replied.starter))
          (makers_pass by_reply from_reply (drop x.a0 a.makers) (drop x.a0 a.journal) starter_more) exchanged.once ∙ made;
      starter =
          entries_made_so by_reply from_reply (MergesOneOf reply) (drop x.a0 a.makers) (drop x.a0 a.journal) starter_more
          (made_past (IsOfReply link d.session reply) x.a0 a.makers a.journal exchanged.of_reply);
      peer =
          entries_made_so by_push from_push (MergesOneOf push) (drop x.b0 b.makers) (drop x.b0 b.journal) peer_more
          (made_past (IsOfPush link d.session push) x.b0 b.makers b.journal exchanged.of_push);
    }

agree_when_finished : (link : ℕ) (a b : TracedStore) (out back : OnWay) (d : SyncDone) → IsPaired link a b out back → NoCollision a.store.journal b.store.journal
    → IsFinished link d (trace_of a) (trace_of b) out → d.withheld ≡ 0 → IsOneRound link d (trace_of a) (trace_of b) → Agree a.store.journal b.store.journal
agree_when_finished link a b out back d paired apart done none one =
    let both : saturate (reply_withheld a.store.journal b.store.journal done.x + push_withheld a.store.journal b.store.journal done.x) ≡ 0 = sym done.withheld ∙ none in
    exchanges_agree a.store.journal b.store.journal done.x paired.starter.made paired.peer.made apart done.exchanged.replied done.pushed
    (omega (arith, both)) (omega (arith, both)) (undisturbed link d (trace_of a) (trace_of b) out done paired.made_a one)

pub paired_agree : PairedAgree
paired_agree link a b out back d paired apart among on none one =
    let IsDone = IsFinishedOn link (session_on a.store.sessions link) (trace_of a) (trace_of b) out in
    let done = All-contains IsDone a.store.done d (All-from_recursion IsDone a.store.done paired.finished) among in
    agree_when_finished link a b out back d paired apart (done.finished on) none one

-- One round is enough: a full sync makes each store hold at least what the other holds, and nothing greater.
use Rattle.std.proofs.Common.{◌≡◌, ℕ, ◌-◌, ◌≤◌, List, Bool, true, false, refl, sym, ◌∙◌, ap, subst, take, drop, arith}
use Rattle.std.specs.List.{Contains, All, AllByRecursion}
use Rattle.std.proofs.lemmas.Option.{IfSome_then}
use Rattle.std.proofs.lemmas.List.{take_all, drop-drop}
use Rattle.std.proofs.lemmas.List.Elements.{All-drop, All-from_recursion}
use Rattle.or_base.specs.declared.value.Pair.{Pair}
use Rattle.or_base.specs.declared.entry.JournalEntry.{JournalEntry}
use Rattle.or_base.specs.Journal.{held_value}
use Rattle.or_base.specs.Law.{AreSame}
use Rattle.kv_table.specs.Digest.{digest}
use Rattle.kv_table.specs.Sending.{sent_pairs, withheld_count}
use Rattle.kv_sync.specs.Difference.{row_for, is_better_than, is_wanted_over, better_keys, wanted_keys}
use Rattle.kv_agree.specs.Agreement.{NoCollision}
use Rattle.kv_agree.specs.Exchange.{IsMade, Covers, MergesOneOf, reply_pairs, push_pairs, ExchangesAgree}
use Rattle.kv_agree.proofs.Order.{IsAtLeast, at_least_trans, same_from_both}
use Rattle.kv_agree.proofs.Differs.{AreHeldApart, held_apart_back, at_least_unless_better, wanted_over-better_than}
use Rattle.kv_agree.proofs.Rows.{row_for_digest, better_listed, wanted_listed}
use Rattle.kv_agree.proofs.Sent.{CoversAll, covers_all, at_least_where_covered, covers_what_it_sends, covers_later}
use Rattle.kv_agree.proofs.Grown.{Rises, rises_past}
use Rattle.kv_agree.proofs.Held.{held_was_merged}

-- Where a key differs it is listed, and what is sent of it is covered; where it doesn't, as much is held already.
sent_or_there : (sender : List JournalEntry) (now : ℕ) (keys : List (List ℕ)) (journal : List JournalEntry) (key : List ℕ) (differs : Bool)
    → (differs ≡ true → Contains keys key) → (differs ≡ false → IsAtLeast (held_value journal key) (held_value sender key))
    → CoversAll journal (sent_pairs sender now keys) → withheld_count sender now keys ≡ 0 → IsAtLeast (held_value journal key) (held_value sender key)
sent_or_there sender now keys journal key true listed there covers none = at_least_where_covered sender now keys journal key covers none (listed refl)
sent_or_there sender now keys journal key false listed there covers none = there refl

-- the journals of the starter and of its peer, as the digest and the reply were made, and after the full sync; and the
-- moments of the reply and of the push
module _ (a0 b0 a b : List JournalEntry) (reply_moment push_moment : ℕ) (key : List ℕ) where
  abbrev better : List (List ℕ)
  better = better_keys (digest a0) b0

  abbrev wanted : List (List ℕ)
  wanted = wanted_keys (digest a0) b0

  -- what isn't better at the peer the starter held as well then, and it holds no less now
  starter_reaches : AreHeldApart (held_value b0 key) (held_value a0 key) → CoversAll a (sent_pairs b0 reply_moment better) → withheld_count b0 reply_moment better ≡ 0
      → IsAtLeast (held_value a key) (held_value a0 key) → IsAtLeast (held_value a key) (held_value b0 key)
  starter_reaches apart covers none up =
      sent_or_there b0 reply_moment better a key (is_better_than (held_value b0 key) (row_for (digest a0) key))
      (better_listed (digest a0) b0 key)
      (λ not_better. at_least_trans (held_value a key) (held_value a0 key) (held_value b0 key) up
      (at_least_unless_better (held_value b0 key) (held_value a0 key) key apart
      (ap (is_better_than (held_value b0 key)) (sym (row_for_digest a0 key)) ∙ not_better)))
      covers none

  -- what isn't wanted the peer held as well then, and since then the starter merged only what the peer sent
  peer_reaches : AreHeldApart (held_value a0 key) (held_value b0 key) → CoversAll b (sent_pairs a push_moment wanted) → withheld_count a push_moment wanted ≡ 0
      → Rises (sent_pairs b0 reply_moment better) key (held_value a0 key) (held_value a key) → IsAtLeast (held_value b key) (held_value b0 key)
      → IsAtLeast (held_value b key) (held_value a key)
  peer_reaches apart covers none rises up =
      sent_or_there a push_moment wanted b key (is_wanted_over (held_value b0 key) (row_for (digest a0) key))
      (wanted_listed (digest a0) b0 key)
      (λ not_wanted. at_least_trans (held_value b key) (held_value b0 key) (held_value a key) up
      (rises.no_further b0 (covers_what_it_sends b0 reply_moment better)
      (at_least_unless_better (held_value a0 key) (held_value b0 key) key apart
      (sym (wanted_over-better_than (held_value b0 key) (held_value a0 key) key)
      ∙ ap (is_wanted_over (held_value b0 key)) (sym (row_for_digest a0 key)) ∙ not_wanted))))
      covers none

  both_reach : AreHeldApart (held_value a0 key) (held_value b0 key)
      → CoversAll a (sent_pairs b0 reply_moment better) → withheld_count b0 reply_moment better ≡ 0 → Rises (sent_pairs b0 reply_moment better) key (held_value a0 key) (held_value a key)
      → CoversAll b (sent_pairs a push_moment wanted) → withheld_count a push_moment wanted ≡ 0 → Rises (sent_pairs a push_moment wanted) key (held_value b0 key) (held_value b key)
      → AreSame (held_value a key) (held_value b key)
  both_reach apart covers_reply none_replied a_rises covers_push none_pushed b_rises =
      same_from_both (held_value a key) (held_value b key)
      (b_rises.no_further a (covers_what_it_sends a push_moment wanted)
      (starter_reaches (held_apart_back (held_value a0 key) (held_value b0 key) apart) covers_reply none_replied a_rises.up))
      (peer_reaches apart covers_push none_pushed a_rises b_rises.up)

held_apart : (a b : List JournalEntry) (n m : ℕ) (key : List ℕ) → NoCollision a b → AreHeldApart (held_value (take n a) key) (held_value (take m b) key)
held_apart a b n m key apart =
    IfSome_then (held_value (take n a) key) (held_was_merged a n key)
    (λ v merged_v. IfSome_then (held_value (take m b) key) (held_was_merged b m key) (λ w merged_w. apart v w merged_v merged_w))

-- where each entry past the first merged one of some pairs, pairs that were covered are still covered
covers_since : (pairs : List Pair) (journal : List JournalEntry) (first n : ℕ) → IsMade journal → first ≤ n
    → All (MergesOneOf pairs) (drop first journal) → AllByRecursion (Covers (take n journal)) pairs → CoversAll journal pairs
covers_since pairs journal first n made after merge covered pair among =
    covers_later (take n journal) journal pair
    (rises_past pairs journal n pair.key made
    (subst (All (MergesOneOf pairs)) (drop-drop (n - first) first journal ∙ ap (λ k. drop k journal) (omega (arith, after)))
    (All-drop (MergesOneOf pairs) (n - first) (drop first journal) merge))).up
    (covers_all (take n journal) pairs covered pair among)

pub exchanges_agree : ExchangesAgree
exchanges_agree a b x made_a made_b apart replied pushed none_replied none_pushed quiet key =
    let reply = reply_pairs a b x in
    let push = push_pairs a b x in
    let whole : take x.a1 a ≡ a = take_all x.a1 a (omega (arith, quiet.whole)) in
    let merged_reply = All-from_recursion (MergesOneOf reply) (drop x.a0 a) quiet.starter in
    let merged_push = All-from_recursion (MergesOneOf push) (drop x.b0 b) quiet.peer in
    subst (λ journal. AreSame (held_value journal key) (held_value b key)) whole
    (both_reach (take x.a0 a) (take x.b0 b) (take x.a1 a) b x.reply_moment x.push_moment key (held_apart a b x.a0 x.b0 key apart)
    (covers_all (take x.a1 a) reply replied.covered) none_replied
    (subst (λ journal. Rises reply key (held_value (take x.a0 a) key) (held_value journal key)) (sym whole) (rises_past reply a x.a0 key made_a merged_reply))
    (covers_since push b x.b0 pushed.b1 made_b pushed.after merged_push pushed.covered) none_pushed
    (rises_past push b x.b0 key made_b merged_push))

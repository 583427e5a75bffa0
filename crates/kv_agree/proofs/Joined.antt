-- The stores of a joined part agree where they are paired: an agreement goes along each chain of synced pairs.
use Rattle.std.proofs.Common.{◌≡◌, ℕ, ◌≤◌, List, [], length, inl, inr, refl, sym, ◌∙◌, ap, subst, drop, arith}
use Rattle.std.specs.List.{Contains}
use Rattle.std.proofs.lemmas.List.{drop_all}
use Rattle.or_base.specs.declared.entry.JournalEntry.{JournalEntry}
use Rattle.or_base.specs.declared.item.Item.{Item}
use Rattle.or_base.specs.declared.session.SyncDone.{SyncDone}
use Rattle.or_base.specs.Journal.{held_value}
use Rattle.kv_agree.specs.Agreement.{Agree, NoCollision}
use Rattle.kv_agree.specs.Traced.{TracedStore, Trace, trace_of}
use Rattle.kv_agree.specs.Paired.{AllMade, CameInReply, CameInPush, IsOneRound}
use Rattle.kv_agree.specs.Joined.{StoreSeen, IsSyncedBy, AreSynced, AreJoined, alone, next, NoneCollide, trace_seen, IsPairOn, ArePaired, QuietlyAgree, AgreeAfterOneRound, PairedStoresAgree}
use Rattle.kv_agree.proofs.Order.{same_itself, same_back, same_trans}
use Rattle.kv_agree.proofs.PairedAgree.{paired_agree}

-- ---- to agree is an equivalence

agree_itself : (j : List JournalEntry) → Agree j j
agree_itself j key = same_itself (held_value j key)

agree_back : (j k : List JournalEntry) → Agree j k → Agree k j
agree_back j k agree key = same_back (held_value j key) (held_value k key) (agree key)

agree_trans : (j k l : List JournalEntry) → Agree j k → Agree k l → Agree j l
agree_trans j k l first second key = same_trans (held_value j key) (held_value k key) (held_value l key) (first key) (second key)

-- ---- one round over a pair

-- what is to be shown of the traces of a starter and of its peer
abbrev AgreeIfOneRound : SyncDone → Trace → Trace → Type 0
AgreeIfOneRound d a b = NoCollision a.journal b.journal → IsOneRound d.link d a b → Agree a.journal b.journal

same_trace : (t : TracedStore) (s : StoreSeen) → t.store.journal ≡ s.journal → t.makers ≡ s.makers → trace_of t ≡ trace_seen s
same_trace t s journals makers = cc

-- a settle sees the journals and makers of the pair, so what the law says of the one holds of the other
pair_agrees : (d : SyncDone) (a b : StoreSeen) → IsPairOn d.link a b → Contains a.syncs d → d.withheld ≡ 0 → AgreeIfOneRound d (trace_seen a) (trace_seen b)
pair_agrees d a b pair among none =
    let starter = trace_of pair.starter in
    let peer = trace_of pair.peer in
    let agree : AgreeIfOneRound d starter peer =
    (λ apart one. paired_agree d.link pair.starter pair.peer pair.out pair.back d pair.paired apart
    (subst (λ syncs. Contains syncs d) (sym pair.syncs_a) among) refl none one) in
    subst (λ t. AgreeIfOneRound d t (trace_seen b)) (same_trace pair.starter a pair.journal_a pair.makers_a)
    (subst (λ t. AgreeIfOneRound d starter t) (same_trace pair.peer b pair.journal_b pair.makers_b) agree)

-- ---- synced pairs

-- past the end there is nothing, so anything holds of it
all_past_end : (P : Item → JournalEntry → Type 0) (n : ℕ) (items : List Item) (entries : List JournalEntry) → length items ≤ n → length entries ≤ n
    → AllMade P (drop n items) (drop n entries)
all_past_end P n items entries items_end entries_end =
    subst (λ left. AllMade P left (drop n entries)) (sym (drop_all n items items_end)) (subst (AllMade P []) (sym (drop_all n entries entries_end)) tt)

-- a synced pair has nothing past the lengths of its full sync, so it is one round
synced_one_round : (a b : StoreSeen) (synced : IsSyncedBy a b) → IsPairOn synced.sync.link a b → IsOneRound synced.sync.link synced.sync (trace_seen a) (trace_seen b)
synced_one_round a b synced pair =
    let d = synced.sync in
    let made_a : length a.makers ≡ length a.journal = ap length (sym pair.makers_a) ∙ pair.paired.made_a ∙ ap length pair.journal_a in
    let made_b : length b.makers ≡ length b.journal = ap length (sym pair.makers_b) ∙ pair.paired.made_b ∙ ap length pair.journal_b in
    record {
      starter = all_past_end (CameInReply d.link d.session) d.a0 a.makers a.journal (omega (arith, made_a, synced.a0)) (omega (arith, synced.a0));
      peer = all_past_end (CameInPush d.link d.session) d.b0 b.makers b.journal (omega (arith, made_b, synced.b0)) (omega (arith, synced.b0));
    }

-- ---- joined parts

module _ (stores : List StoreSeen) (paired : ArePaired stores) (none_collide : NoneCollide stores) where
  starter_agrees : (a b : StoreSeen) → Contains stores a → Contains stores b → IsSyncedBy a b → Agree a.journal b.journal
  starter_agrees a b in_a in_b synced =
      let pair = paired synced.sync a b in_a in_b synced.finished synced.with in
      pair_agrees synced.sync a b pair synced.finished synced.nothing_withheld (none_collide a b in_a in_b) (synced_one_round a b synced pair)

  synced_agree : (a b : StoreSeen) → Contains stores a → Contains stores b → AreSynced a b → Agree a.journal b.journal
  synced_agree a b in_a in_b (inl by_a) = starter_agrees a b in_a in_b by_a
  synced_agree a b in_a in_b (inr by_b) = agree_back b.journal a.journal (starter_agrees b a in_b in_a by_b)

  -- the end of a chain is one of the stores
  joined_among : (a b : StoreSeen) → AreJoined stores a b → Contains stores b
  joined_among a b (alone c among) = among
  joined_among a b (next start last end joined among synced) = among

  joined_agree : (a b : StoreSeen) → AreJoined stores a b → Agree a.journal b.journal
  joined_agree a b (alone c among) = agree_itself a.journal
  joined_agree a b (next start last end joined among synced) =
      agree_trans a.journal last.journal b.journal (joined_agree a last joined) (synced_agree last b (joined_among a last joined) among synced)

quietly_agree : (stores : List StoreSeen) → ArePaired stores → QuietlyAgree stores
quietly_agree stores paired none_collide = joined_agree stores paired none_collide

agree_after_one_round : (stores : List StoreSeen) → ArePaired stores → AgreeAfterOneRound stores
agree_after_one_round stores paired none_collide d a b in_a in_b one =
    pair_agrees d a b (paired d a b in_a in_b one.finished one.with) one.finished one.nothing_withheld (none_collide a b in_a in_b) one.round

pub joined_stores_agree : PairedStoresAgree
joined_stores_agree = record { quiet = quietly_agree; one_round = agree_after_one_round }

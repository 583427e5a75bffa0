-- The definitions of joined parts on a small case: three stores that hold one value with lifetimes of their own, joined by two finished
-- full syncs. They meet the law's premises, so the first agrees with the last.
use Rattle.std.proofs.Common.{◌≡◌, ℕ, ◌+◌, ◌<◌, ◌≤◌, List, [], ◌∷◌, true, false, ◌==◌, Some, inl, inr, refl, sym, ◌∙◌, ap, subst, cond, arith}
use Rattle.std.specs.List.{Contains, AllByRecursion}
use Rattle.std.proofs.lemmas.Bool.{false≢true}
use Rattle.std.proofs.lemmas.Cmp.{nat_eq_equiv}
use Rattle.std.proofs.lemmas.List.Elements.{All-contains, All-from_recursion}
use Rattle.or_base.specs.declared.value.KvValue.{KvValue}
use Rattle.or_base.specs.declared.value.Pair.{Pair}
use Rattle.or_base.specs.declared.origin.Origin.{Origin}
use Rattle.or_base.specs.declared.origin.Origin.TheVariants.{Local}
use Rattle.or_base.specs.declared.kind.Kind.TheVariants.{Stores}
use Rattle.or_base.specs.declared.entry.JournalEntry.{JournalEntry}
use Rattle.or_base.specs.declared.entry.JournalEntry.TheVariants.{Merged}
use Rattle.or_base.specs.declared.item.Item.{Item}
use Rattle.or_base.specs.declared.item.Item.TheVariants.{Set}
use Rattle.or_base.specs.declared.session.SyncDone.{SyncDone}
use Rattle.or_base.specs.Counting.{saturate}
use Rattle.or_base.specs.Limits.{is_valid_pair, is_valid_value, is_key, is_node_name}
use Rattle.or_base.proofs.Members.{Contains-first, Contains-later, Contains-cases}
use Rattle.kv_value.specs.Hashing.{hash_of, framing}
use Rattle.kv_table.specs.Digest.{digest, row_with}
use Rattle.kv_table.specs.Sending.{sent_pairs, withheld_count}
use Rattle.kv_sync.specs.Difference.{is_better, is_wanted, better_keys, wanted_keys}
use Rattle.kv_store.specs.Store.{StoreState, new_store}
use Rattle.kv_agree.specs.Agreement.{Agree, HasMerged}
use Rattle.kv_agree.specs.Exchange.{Exchange, Covers, keys_better, keys_wanted, reply_pairs, push_pairs, reply_withheld, push_withheld, HasReplied, HasPushed}
use Rattle.kv_agree.specs.Traced.{TracedStore, Trace}
use Rattle.kv_agree.specs.Orderly.{IsOrderly, CarryValid}
use Rattle.kv_agree.specs.Paired.{IsNoReplyOf, IsNoPushOf, IsFinished, AreGiven}
use Rattle.kv_agree.specs.Joined.{StoreSeen, IsSyncedBy, AreJoined, alone, next, NoneCollide, trace_seen, IsPairOn, ArePaired}
use Rattle.kv_agree.proofs.Joined.{joined_stores_agree}

-- ---- three stores

abbrev value_for : ℕ → KvValue
value_for ttl = record { version = 1; originator = 120 ∷ []; value = 1 ∷ []; ttl = Some ttl; ttl_version = 0 }

abbrev pair_for : ℕ → Pair
pair_for ttl = record { key = 97 ∷ []; value = value_for ttl }

abbrev journal_for : ℕ → List JournalEntry
journal_for ttl = Merged (pair_for ttl) 0 Local ∷ []

abbrev makers_for : ℕ → List Item
makers_for ttl = Set (pair_for ttl) ∷ []

-- a finished full sync between journals of one entry
abbrev sync_with : ℕ → List ℕ → SyncDone
sync_with link peer = record { link = link; peer = peer; session = 1; a0 = 1; b0 = 1; withheld = 0 }

abbrev seen_store : List ℕ → ℕ → List SyncDone → StoreSeen
seen_store name ttl syncs = record { name = name; journal = journal_for ttl; makers = makers_for ttl; syncs = syncs }

-- x started a full sync with y, and y one with z
abbrev x : StoreSeen
x = seen_store (120 ∷ []) 100 (sync_with 0 (121 ∷ []) ∷ [])

abbrev y : StoreSeen
y = seen_store (121 ∷ []) 90 (sync_with 1 (122 ∷ []) ∷ [])

abbrev z : StoreSeen
z = seen_store (122 ∷ []) 80 []

abbrev stores : List StoreSeen
stores = x ∷ y ∷ z ∷ []

-- ---- a full sync between two that hold the same sends nothing

abbrev exchange : Exchange
exchange = record { a0 = 1; b0 = 1; a1 = 1; reply_moment = 0; push_moment = 0 }

-- a lifetime isn't hashed
same_hash : (t u : ℕ) → (hash_of (value_for t) == hash_of (value_for u)) ≡ true
unfolding hash_of framing
same_hash t u = nat_eq_equiv.refl (hash_of (value_for u))

not_better : (t u : ℕ) → is_better (value_for t) (row_with (97 ∷ []) (value_for u)) ≡ false
unfolding is_better
not_better t u = ap (λ same. cond same false true) (same_hash t u)

not_wanted : (t u : ℕ) → is_wanted (value_for t) (row_with (97 ∷ []) (value_for u)) ≡ false
unfolding is_wanted
not_wanted t u = ap (λ same. cond same false true) (same_hash t u)

none_better : (t u : ℕ) → keys_better (journal_for t) (journal_for u) exchange ≡ []
unfolding digest better_keys
none_better t u = ap (λ better. cond better ((97 ∷ []) ∷ []) []) (not_better u t)

none_wanted : (t u : ℕ) → keys_wanted (journal_for t) (journal_for u) exchange ≡ []
unfolding digest wanted_keys
none_wanted t u = ap (λ wanted. cond wanted ((97 ∷ []) ∷ []) []) (not_wanted u t)

module _ (t u : ℕ) where
  reply_is_empty : reply_pairs (journal_for t) (journal_for u) exchange ≡ []
  reply_is_empty = ap (sent_pairs (journal_for u) 0) (none_better t u)

  push_is_empty : push_pairs (journal_for t) (journal_for u) exchange ≡ []
  push_is_empty = ap (sent_pairs (journal_for t) 0) (none_wanted t u)

  none_withheld : (reply_withheld (journal_for t) (journal_for u) exchange ≡ 0) × (push_withheld (journal_for t) (journal_for u) exchange ≡ 0)
  unfolding withheld_count
  none_withheld = (ap (withheld_count (journal_for u) 0) (none_better t u), ap (withheld_count (journal_for t) 0) (none_wanted t u))

  none_counted : 0 ≡ saturate (reply_withheld (journal_for t) (journal_for u) exchange + push_withheld (journal_for t) (journal_for u) exchange)
  none_counted = omega (arith, none_withheld.0, none_withheld.1)

  has_replied : HasReplied (journal_for t) (journal_for u) exchange
  has_replied = record { after = omega arith; starter = omega arith; peer = omega arith; covered = subst (AllByRecursion (Covers (journal_for t))) (sym reply_is_empty) tt }

  has_pushed : HasPushed (journal_for t) (journal_for u) exchange
  has_pushed = record { b1 = 1; after = omega arith; within = omega arith; covered = subst (AllByRecursion (Covers (journal_for u))) (sym push_is_empty) tt }

-- ---- each full sync is of a pair

-- it was finished, and nothing came in it, since no message made an entry
is_finished : (link : ℕ) (peer : List ℕ) (t u : ℕ) → IsFinished link (sync_with link peer) (trace_seen (seen_store [] t [])) (trace_seen (seen_store [] u [])) []
is_finished link peer t u = record {
  x = exchange;
  a0 = refl;
  b0 = refl;
  exchanged = record {
    replied = has_replied t u;
    pushes = λ pairs among. absurd (omega (arith, among.1));
    of_reply = ((λ made _. absurd (false≢true made)), tt);
    once = tt;
    of_push = ((λ made _. absurd (false≢true made)), tt);
  };
  withheld = none_counted t u;
  pushed = has_pushed t u;
}

abbrev store_for : List ℕ → ℕ → List SyncDone → StoreState
store_for me ttl done =
    record (new_store Stores me) { journal = journal_for ttl; sessions = record { last = 1; running = [] }; done = done }

abbrev traced_for : List ℕ → ℕ → List SyncDone → TracedStore
traced_for me ttl done = record { store = store_for me ttl done; makers = makers_for ttl }

is_orderly : (me : List ℕ) (ttl : ℕ) (done : List SyncDone) → is_valid_pair (pair_for ttl) ≡ true → IsOrderly (store_for me ttl done)
is_orderly me ttl done valid = record { made = (valid, refl, tt); timely = (omega arith, tt) }

pub nothing_valid : CarryValid []
nothing_valid = record {
  replies = λ session b0 pairs wanted withheld among. absurd (omega (arith, among.1));
  pushes = λ session pairs among. absurd (omega (arith, among.1));
}

-- where nothing is on its way, only what made entries and what was finished has numbers
pub nothing_given : (link last : ℕ) (done : List SyncDone) (a b : Trace)
    → AllByRecursion (λ item. (n : ℕ) → last < n → IsNoReplyOf link n item) a.makers → AllByRecursion (λ item. (n : ℕ) → last < n → IsNoPushOf link n item) b.makers
    → AllByRecursion (λ d. d.link ≡ link → d.session ≤ last) done → AreGiven link last done a b [] []
nothing_given link last done a b replies_taken pushes_taken finished = record {
  dumps = λ n rows among. absurd (omega (arith, among.1));
  pushes = λ n pairs among. absurd (omega (arith, among.1));
  replies = λ n b0 pairs wanted withheld among. absurd (omega (arith, among.1));
  acks = λ n among. absurd (omega (arith, among.1));
  replies_taken = replies_taken;
  pushes_taken = pushes_taken;
  finished = finished;
}

pair_for_sync : (link : ℕ) (me peer : List ℕ) (t u : ℕ) (syncs : List SyncDone) → is_valid_pair (pair_for t) ≡ true → is_valid_pair (pair_for u) ≡ true
    → IsPairOn link (seen_store me t (sync_with link peer ∷ [])) (seen_store peer u syncs)
pair_for_sync link me peer t u syncs valid_a valid_b = record {
  starter = traced_for me t (sync_with link peer ∷ []);
  peer = traced_for peer u syncs;
  out = [];
  back = [];
  paired = record {
    starter = is_orderly me t (sync_with link peer ∷ []) valid_a;
    peer = is_orderly peer u syncs valid_b;
    made_a = refl;
    made_b = refl;
    valid_out = nothing_valid;
    valid_back = nothing_valid;
    numbered = record { fits = omega arith; given = tt; apart = λ _. tt };
    given =
        nothing_given link 1 (sync_with link peer ∷ []) (trace_seen (seen_store me t [])) (trace_seen (seen_store peer u []))
        ((λ n _. refl), tt) ((λ n _. refl), tt) ((λ _. omega arith), tt);
    running = tt;
    finished = (record { finished = λ _. is_finished link peer t u; below = λ _. tt }, tt);
  };
  journal_a = refl;
  makers_a = refl;
  syncs_a = refl;
  journal_b = refl;
  makers_b = refl;
}

valid-example : (is_valid_pair (pair_for 100) ≡ true) × (is_valid_pair (pair_for 90) ≡ true) × (is_valid_pair (pair_for 80) ≡ true)
unfolding is_valid_pair is_valid_value is_key is_node_name
valid-example = (refl, refl, refl)

-- each full sync that a started with b is of a pair
abbrev ArePairs : StoreSeen → StoreSeen → Type 0
ArePairs a b = AllByRecursion (λ d. d.peer ≡ b.name → IsPairOn d.link a b) a.syncs

of_each : (P : StoreSeen → Type 0) → P x → P y → P z → AllByRecursion P stores
of_each P of_x of_y of_z = (of_x, (of_y, (of_z, tt)))

pub other_name : (n m : ℕ) → n ∷ [] ≡ m ∷ [] → n ≡ m
other_name n m same = cc

-- x started one with y alone, y one with z alone, and z none
pairs_of_x : AllByRecursion (ArePairs x) stores
pairs_of_x =
    of_each (ArePairs x) ((λ named. absurd (omega (arith, other_name 121 120 named))), tt)
    ((λ _. pair_for_sync 0 x.name y.name 100 90 y.syncs valid-example.0 valid-example.1), tt)
    ((λ named. absurd (omega (arith, other_name 121 122 named))), tt)

pairs_of_y : AllByRecursion (ArePairs y) stores
pairs_of_y =
    of_each (ArePairs y) ((λ named. absurd (omega (arith, other_name 122 120 named))), tt)
    ((λ named. absurd (omega (arith, other_name 122 121 named))), tt)
    ((λ _. pair_for_sync 1 y.name z.name 90 80 z.syncs valid-example.1 valid-example.2), tt)

pairs_of_each : AllByRecursion (λ a. AllByRecursion (ArePairs a) stores) stores
pairs_of_each = of_each (λ a. AllByRecursion (ArePairs a) stores) pairs_of_x pairs_of_y (of_each (ArePairs z) tt tt tt)

pub among_all : {X : Type 0} (P : X → Type 0) (xs : List X) (x : X) → AllByRecursion P xs → Contains xs x → P x
among_all P xs x all among = All-contains P xs x (All-from_recursion P xs all) among

pub are_paired-example : ArePaired stores
are_paired-example d a b in_a in_b finished named =
    let of_a = among_all (λ s. AllByRecursion (ArePairs s) stores) stores a pairs_of_each in_a in
    among_all (λ d. d.peer ≡ b.name → IsPairOn d.link a b) a.syncs d (among_all (ArePairs a) stores b of_a in_b) finished named

-- ---- nothing collides, all are joined, and all agree

-- a store merged one value, with some lifetime
record HasOneEntry (s : StoreSeen) : Type 0 where
  ttl : ℕ
  journal : s.journal ≡ journal_for ttl

one_entry_each : AllByRecursion HasOneEntry stores
one_entry_each = of_each HasOneEntry (record { ttl = 100; journal = refl }) (record { ttl = 90; journal = refl }) (record { ttl = 80; journal = refl })

merged_value : {p q : Pair} {at until : ℕ} {o r : Origin} → Merged p at o ≡ Merged q until r → p.value ≡ q.value
merged_value same = cc

bytes_merged : (s : StoreSeen) (v : KvValue) → Contains stores s → HasMerged s.journal v → v.value ≡ 1 ∷ []
bytes_merged s v among merged =
    let own = among_all HasOneEntry stores s one_entry_each among in
    let entry = Merged merged.pair merged.at merged.origin in
    elim (Contains-cases (Merged (pair_for own.ttl) 0 Local) [] entry (subst (λ journal. Contains journal entry) own.journal merged.among)) [
      | inl first ↦ sym (ap (λ w. w.value) (merged_value first ∙ merged.value))
      | inr none ↦ absurd (omega (arith, none.1))
    ]

pub none_collide-example : NoneCollide stores
none_collide-example a b in_a in_b v w merged_a merged_b _ _ _ = bytes_merged a v in_a merged_a ∙ sym (bytes_merged b w in_b merged_b)

-- the full sync was of the whole of both journals
is_synced : (link : ℕ) (me peer : List ℕ) (t u : ℕ) (syncs : List SyncDone) → IsSyncedBy (seen_store me t (sync_with link peer ∷ [])) (seen_store peer u syncs)
is_synced link me peer t u syncs =
    record { sync = sync_with link peer; finished = Contains-first (sync_with link peer) []; with = refl; a0 = refl; b0 = refl; nothing_withheld = refl }

pub joined-example : AreJoined stores x z
joined-example =
    let in_x = Contains-first x (y ∷ z ∷ []) in
    let in_y = Contains-later x (y ∷ z ∷ []) y (Contains-first y (z ∷ [])) in
    let in_z = Contains-later x (y ∷ z ∷ []) z (Contains-later y (z ∷ []) z (Contains-first z [])) in
    let x_to_y = next x x y (alone x in_x) in_y (inl (is_synced 0 x.name y.name 100 90 y.syncs)) in
    next x y z x_to_y in_z (inl (is_synced 1 y.name z.name 90 80 z.syncs))

pub joined_agree-example : Agree x.journal z.journal
joined_agree-example = joined_stores_agree.quiet stores are_paired-example none_collide-example x z joined-example

-- The definitions of one round on a small case: two paired stores, and the full sync in which each got the other's key. They meet the law's
-- premises, so they agree.
use Rattle.std.proofs.Common.{◌≡◌, ℕ, ◌+◌, ◌<◌, List, [], ◌∷◌, false, ◌==◌, ◌⊎◌, inl, inr, refl, sym, ◌∙◌, ap, subst, arith}
use Rattle.std.specs.List.{Contains, AllByRecursion}
use Rattle.std.proofs.lemmas.Bool.{false≢true, ne_eqb}
use Rattle.or_base.specs.declared.value.KvValue.{KvValue}
use Rattle.or_base.specs.declared.origin.Origin.TheVariants.{Local, SyncReply, SyncPush}
use Rattle.or_base.specs.declared.kind.Kind.TheVariants.{Stores}
use Rattle.or_base.specs.declared.message.Msg.TheVariants.{Reply, Push}
use Rattle.or_base.specs.declared.item.Item.TheVariants.{Set, Net}
use Rattle.or_base.specs.declared.session.SyncDone.{SyncDone}
use Rattle.or_base.specs.Counting.{saturate}
use Rattle.or_base.proofs.Members.{Contains-first, Contains-later}
use Rattle.kv_store.specs.Store.{StoreState, new_store}
use Rattle.kv_agree.specs.Agreement.{Agree, HasMerged, AreToldApart}
use Rattle.kv_agree.specs.Exchange.{reply_pairs, push_pairs, reply_withheld, push_withheld}
use Rattle.kv_agree.specs.Orderly.{IsOrderly}
use Rattle.kv_agree.specs.Paired.{AllMade, IsOfReply, IsOfPush, IsFinished}
use Rattle.kv_agree.specs.Joined.{StoreSeen, NoneCollide, trace_seen, IsOneRoundOf, IsPairOn, ArePaired}
use Rattle.kv_agree.proofs.Examples.{a_kept, a_sent, b_kept, starter, peer, exchange, reply_pairs-example, push_pairs-example, withheld-example, made-example, replied-example, pushed-example, one_of_two}
use Rattle.kv_agree.proofs.Joined.{joined_stores_agree}
use Rattle.kv_agree.proofs.JoinedExamples.{nothing_valid, nothing_given, other_name, among_all}

-- ---- the two stores

abbrev sync : SyncDone
sync = record { link = 0; peer = 121 ∷ []; session = 1; a0 = 1; b0 = 1; withheld = 0 }

-- a user set a key at each, and the other's came in the reply and in the push
abbrev x : StoreSeen
x = record {
  name = 120 ∷ [];
  journal = starter;
  makers = Set a_kept ∷ Net 0 (121 ∷ []) (Reply 1 1 (b_kept ∷ []) ((97 ∷ []) ∷ []) 0) ∷ [];
  syncs = sync ∷ [];
}

abbrev y : StoreSeen
y = record { name = 121 ∷ []; journal = peer; makers = Set b_kept ∷ Net 0 (120 ∷ []) (Push 1 (a_sent ∷ [])) ∷ []; syncs = [] }

abbrev stores : List StoreSeen
stores = x ∷ y ∷ []

-- ---- they are paired

made_of_reply : AllMade (IsOfReply 0 1 (reply_pairs starter peer exchange)) x.makers starter
made_of_reply =
    ((λ made _. absurd (false≢true made)), ((λ _ _. subst (λ pairs. Contains pairs b_kept) (sym reply_pairs-example) (Contains-first b_kept [])), tt))

made_of_push : AllMade (IsOfPush 0 1 (push_pairs starter peer exchange)) y.makers peer
made_of_push =
    ((λ made _. absurd (false≢true made)), ((λ _ _. subst (λ pairs. Contains pairs a_sent) (sym push_pairs-example) (Contains-first a_sent [])), tt))

none_counted : 0 ≡ saturate (reply_withheld starter peer exchange + push_withheld starter peer exchange)
none_counted = omega (arith, withheld-example.0, withheld-example.1)

is_finished : IsFinished 0 sync (trace_seen x) (trace_seen y) []
is_finished = record {
  x = exchange;
  a0 = refl;
  b0 = refl;
  exchanged = record {
    replied = replied-example;
    pushes = λ pairs among. absurd (omega (arith, among.1));
    of_reply = made_of_reply;
    once = tt;
    of_push = made_of_push;
  };
  withheld = none_counted;
  pushed = pushed-example;
}

abbrev store_of : StoreSeen → StoreState
store_of s = record (new_store Stores s.name) { journal = s.journal; moment = 9; sessions = record { last = 1; running = [] }; done = s.syncs }

x_is_orderly : IsOrderly (store_of x)
x_is_orderly = record { made = made-example.0; timely = (omega arith, (omega arith, tt)) }

y_is_orderly : IsOrderly (store_of y)
y_is_orderly = record { made = made-example.1; timely = (omega arith, (omega arith, tt)) }

not_first : (n : ℕ) → 1 < n → (1 == n) ≡ false
not_first n above = ne_eqb 1 n (λ same. omega (arith, above, same))

pair_of_sync : IsPairOn 0 x y
pair_of_sync = record {
  starter = record { store = store_of x; makers = x.makers };
  peer = record { store = store_of y; makers = y.makers };
  out = [];
  back = [];
  paired = record {
    starter = x_is_orderly;
    peer = y_is_orderly;
    made_a = refl;
    made_b = refl;
    valid_out = nothing_valid;
    valid_back = nothing_valid;
    numbered = record { fits = omega arith; given = tt; apart = λ _. tt };
    given =
        nothing_given 0 1 x.syncs (trace_seen x) (trace_seen y) ((λ n _. refl), (not_first, tt)) ((λ n _. refl), (not_first, tt))
        ((λ _. omega arith), tt);
    running = tt;
    finished = (record { finished = λ _. is_finished; below = λ _. tt }, tt);
  };
  journal_a = refl;
  makers_a = refl;
  syncs_a = refl;
  journal_b = refl;
  makers_b = refl;
}

-- each full sync that a started with b is of a pair
abbrev ArePairs : StoreSeen → StoreSeen → Type 0
ArePairs a b = AllByRecursion (λ d. d.peer ≡ b.name → IsPairOn d.link a b) a.syncs

pairs_of_each : AllByRecursion (λ a. AllByRecursion (ArePairs a) stores) stores
pairs_of_each = ((((λ named. absurd (omega (arith, other_name 121 120 named))), tt), (((λ _. pair_of_sync), tt), tt)), ((tt, (tt, tt)), tt))

pub are_paired_in_round-example : ArePaired stores
are_paired_in_round-example d a b in_a in_b finished named =
    let of_a = among_all (λ s. AllByRecursion (ArePairs s) stores) stores a pairs_of_each in_a in
    among_all (λ d. d.peer ≡ b.name → IsPairOn d.link a b) a.syncs d (among_all (ArePairs a) stores b of_a in_b) finished named

-- ---- nothing collides, and they agree

-- of what was merged the version tells the bytes
abbrev IsOneOfTwo : KvValue → Type 0
IsOneOfTwo v = ((v.version ≡ 1) × (v.value ≡ 1 ∷ [])) ⊎ ((v.version ≡ 4) × (v.value ≡ 2 ∷ []))

of_x : (v : KvValue) → HasMerged x.journal v → IsOneOfTwo v
of_x v merged =
    elim (one_of_two a_kept b_kept 0 6 Local SyncReply v merged) [
      | inl same ↦ inl (sym (ap (λ w. w.version) same), sym (ap (λ w. w.value) same))
      | inr same ↦ inr (sym (ap (λ w. w.version) same), sym (ap (λ w. w.value) same))
    ]

of_y : (v : KvValue) → HasMerged y.journal v → IsOneOfTwo v
of_y v merged =
    elim (one_of_two b_kept a_sent 2 8 Local SyncPush v merged) [
      | inl same ↦ inr (sym (ap (λ w. w.version) same), sym (ap (λ w. w.value) same))
      | inr same ↦ inl (sym (ap (λ w. w.version) same), sym (ap (λ w. w.value) same))
    ]

told_apart : (v w : KvValue) → IsOneOfTwo v → IsOneOfTwo w → AreToldApart v w
told_apart v w (inl one) (inl same) = λ _ _ _. one.1 ∙ sym same.1
told_apart v w (inl one) (inr other) = λ version _ _. absurd (omega (arith, one.0, other.0, version))
told_apart v w (inr one) (inl other) = λ version _ _. absurd (omega (arith, one.0, other.0, version))
told_apart v w (inr one) (inr same) = λ _ _ _. one.1 ∙ sym same.1

merged_by_each : AllByRecursion (λ s. (v : KvValue) → HasMerged s.journal v → IsOneOfTwo v) stores
merged_by_each = (of_x, (of_y, tt))

pub none_collide_in_round-example : NoneCollide stores
none_collide_in_round-example a b in_a in_b v w merged_a merged_b =
    told_apart v w (among_all (λ s. (v : KvValue) → HasMerged s.journal v → IsOneOfTwo v) stores a merged_by_each in_a v merged_a)
    (among_all (λ s. (v : KvValue) → HasMerged s.journal v → IsOneOfTwo v) stores b merged_by_each in_b w merged_b)

pub one_round-example : IsOneRoundOf sync x y
one_round-example = record {
  finished = Contains-first sync [];
  with = refl;
  nothing_withheld = refl;
  round = record { starter = ((refl, refl), tt); peer = ((refl, refl), tt) };
}

pub agree_after_round-example : Agree x.journal y.journal
agree_after_round-example =
    joined_stores_agree.one_round stores are_paired_in_round-example none_collide_in_round-example sync x y
    (Contains-first x (y ∷ [])) (Contains-later x (y ∷ []) y (Contains-first y [])) one_round-example

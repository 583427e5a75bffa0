-- Where a held value isn't better than a row, it is no greater than the value of which the row tells.
use Rattle.std.proofs.Common.{◌≡◌, ℕ, List, Bool, true, false, cond, ◌==◌, Option, Some, None, IfSome, refl, sym, ◌∙◌, ap}
use Rattle.std.specs.Prelude.{nat_lt}
use Rattle.std.specs.Option.{option_map}
use Rattle.std.specs.Cmp.{IsTotalOrder}
use Rattle.std.specs.Ordering.{nat_cmp, ordering_then, ordering_reverse, is_gt}
use Rattle.std.specs.declared.cmp.Ordering.{Ordering}
use Rattle.std.specs.declared.cmp.Ordering.TheVariants.{Less, Equal, Greater}
use Rattle.std.proofs.lemmas.Bool.{eqb-true}
use Rattle.std.proofs.lemmas.Cmp.{nat_cmp_total, nat_list_cmp_total, nat_eq_equiv, on_total, then_total, tied_itself}
use Rattle.std.proofs.lemmas.Map.Lookups.{exact_unsigned, exact_bytes, exact_pairs}
use Rattle.or_base.specs.declared.value.KvValue.{KvValue}
use Rattle.or_base.specs.Order.{bytes_cmp, value_cmp, is_below}
use Rattle.or_base.proofs.Ordered.{is_below_back}
use Rattle.kv_value.specs.Hashing.{hash_of}
use Rattle.kv_table.specs.Digest.{row_with}
use Rattle.kv_sync.specs.Difference.{rank_cmp, is_better_by, is_wanted_by, is_better, is_wanted, is_better_than, is_wanted_over}
use Rattle.kv_agree.specs.Agreement.{AreToldApart}
use Rattle.kv_agree.proofs.Order.{IsAtLeast}

-- ---- what is wanted of one side is what is better on the other

ranks_are_total : (key : List ℕ) → IsTotalOrder (λ v w. rank_cmp v (row_with key w))
ranks_are_total key = then_total (on_total (λ v. v.version) nat_cmp_total) (on_total (λ v. v.originator) nat_list_cmp_total)

wanted_by-better_by : (o : Ordering) (v w : KvValue) (key : List ℕ) → is_wanted_by o v (row_with key w) ≡ is_better_by (ordering_reverse o) w (row_with key v)
wanted_by-better_by Less v w key = refl
wanted_by-better_by Equal v w key = ap (λ same. cond same (nat_lt v.ttl_version w.ttl_version) true) (nat_eq_equiv.symm (hash_of v) (hash_of w))
wanted_by-better_by Greater v w key = refl

wanted-better : (v w : KvValue) (key : List ℕ) → is_wanted v (row_with key w) ≡ is_better w (row_with key v)
unfolding is_wanted is_better
wanted-better v w key =
    wanted_by-better_by (rank_cmp v (row_with key w)) v w key
    ∙ ap (λ o. is_better_by o w (row_with key v)) (sym ((ranks_are_total key).antisymm w v))

pub wanted_over-better_than : (v w : Option KvValue) (key : List ℕ) → is_wanted_over v (option_map (row_with key) w) ≡ is_better_than w (option_map (row_with key) v)
wanted_over-better_than None None key = refl
wanted_over-better_than None (Some w) key = refl
wanted_over-better_than (Some v) None key = refl
wanted_over-better_than (Some v) (Some w) key = wanted-better v w key

-- ---- what isn't better

-- what decides behind the rank
abbrev tail_cmp : KvValue → KvValue → Ordering
tail_cmp v w = ordering_then (bytes_cmp v.value w.value) (nat_cmp v.ttl_version w.ttl_version)

then_then : (o p q : Ordering) → ordering_then o (ordering_then p q) ≡ ordering_then (ordering_then o p) q
then_then Less p q = refl
then_then Equal p q = refl
then_then Greater p q = refl

value_cmp-rank : (v w : KvValue) (key : List ℕ) → value_cmp v w ≡ ordering_then (rank_cmp v (row_with key w)) (tail_cmp v w)
unfolding value_cmp
value_cmp-rank v w key = then_then (nat_cmp v.version w.version) (bytes_cmp v.originator w.originator) (tail_cmp v w)

not_greater : (n m : ℕ) → nat_lt m n ≡ false → is_gt (nat_cmp n m) ≡ false
not_greater n m no_less = ap is_gt (nat_cmp_total.antisymm n m) ∙ by_tests (nat_lt m n) (m == n) no_less where
  by_tests : (less equal : Bool) → less ≡ false → is_gt (ordering_reverse (cond less Less (cond equal Equal Greater))) ≡ false
  by_tests true equal e = cc
  by_tests false true e = refl
  by_tests false false e = refl

-- of one rank, the hashes tell whether the bytes are equal
tail_not_greater : (v w : KvValue) (key : List ℕ) (same : Bool) → AreToldApart v w → rank_cmp v (row_with key w) ≡ Equal
    → (hash_of v == hash_of w) ≡ same → cond same (nat_lt w.ttl_version v.ttl_version) true ≡ false → is_gt (tail_cmp v w) ≡ false
tail_not_greater v w key false apart tied e not_better = cc
tail_not_greater v w key true apart tied e not_better =
    let ranks = exact_pairs nat_cmp bytes_cmp exact_unsigned exact_bytes (v.version, v.originator) (w.version, w.originator) tied in
    let bytes : v.value ≡ w.value = apart (ap (λ r. r.0) ranks) (ap (λ r. r.1) ranks) (eqb-true (hash_of v) (hash_of w) e) in
    ap (λ o. is_gt (ordering_then o (nat_cmp v.ttl_version w.ttl_version))) (ap (λ x. bytes_cmp x w.value) bytes ∙ tied_itself nat_list_cmp_total w.value)
    ∙ not_greater v.ttl_version w.ttl_version not_better

by_rank : (o : Ordering) (v w : KvValue) (key : List ℕ) → AreToldApart v w → rank_cmp v (row_with key w) ≡ o
    → is_better_by o v (row_with key w) ≡ false → is_gt (ordering_then o (tail_cmp v w)) ≡ false
by_rank Less v w key apart e not_better = refl
by_rank Equal v w key apart e not_better = tail_not_greater v w key (hash_of v == hash_of w) apart e refl not_better
by_rank Greater v w key apart e not_better = cc

not_below_unless_better : (v w : KvValue) (key : List ℕ) → AreToldApart v w → is_better v (row_with key w) ≡ false → is_below w v ≡ false
unfolding is_better
not_below_unless_better v w key apart not_better =
    is_below_back w v ∙ ap is_gt (value_cmp-rank v w key) ∙ by_rank (rank_cmp v (row_with key w)) v w key apart refl not_better

-- of two that may be held, the values are told apart
abbrev pub AreHeldApart : Option KvValue → Option KvValue → Type 0
AreHeldApart v w = IfSome v (λ x. IfSome w (AreToldApart x))

pub held_apart_back : (v w : Option KvValue) → AreHeldApart v w → AreHeldApart w v
held_apart_back None None apart = tt
held_apart_back None (Some w) apart = tt
held_apart_back (Some v) None apart = tt
held_apart_back (Some v) (Some w) apart = λ version originator hash. sym (apart (sym version) (sym originator) (sym hash))

pub at_least_unless_better : (v w : Option KvValue) (key : List ℕ) → AreHeldApart v w
    → is_better_than v (option_map (row_with key) w) ≡ false → IsAtLeast w v
at_least_unless_better None w key apart not_better = refl
at_least_unless_better (Some v) None key apart not_better = cc
at_least_unless_better (Some v) (Some w) key apart not_better = not_below_unless_better v w key apart not_better

-- Joining is commutative, associative and idempotent, but for lifetimes.
use Rattle.std.proofs.Common.{◌≡◌, Bool, true, false, cond, refl, sym, ◌∙◌, ap, subst}
use Rattle.std.proofs.lemmas.Cmp.{tied_itself}
use Rattle.or_base.specs.declared.value.KvValue.{KvValue}
use Rattle.or_base.specs.Order.{is_below, IsSame}
use Rattle.or_base.proofs.Ordered.{value_cmp_total, below_not_above, not_below_trans, same_from_neither}
use Rattle.kv_value.specs.Joined.{greater_of, JoinLaws}

-- The tests stand as variables beside their equations, so that each lemma goes by cases on them.

both_ways : (a b : KvValue) (up down : Bool) → is_below a b ≡ up → is_below b a ≡ down → IsSame (cond up b a) (cond down a b)
both_ways a b true true e f = cc (below_not_above b a e)
both_ways a b true false e f = tied_itself value_cmp_total b
both_ways a b false true e f = tied_itself value_cmp_total a
both_ways a b false false e f = same_from_neither a b e f

-- a below b and b below c give a below c
below_trans : (a b c : KvValue) (up : Bool) → is_below a c ≡ up → is_below a b ≡ true → is_below b c ≡ true → up ≡ true
below_trans a b c true e f g = refl
below_trans a b c false e f g = cc (not_below_trans b c a (below_not_above c b g) e)

-- both groupings give the same value
same_in_both_groupings : (a b c : KvValue) (low high : Bool) → is_below a b ≡ low → is_below b c ≡ high
    → greater_of (cond low b a) c ≡ greater_of a (cond high c b)
same_in_both_groupings a b c true true e f =
    ap (λ up. cond up c b) f ∙ sym (ap (λ up. cond up c a) (below_trans a b c (is_below a c) refl e f))
same_in_both_groupings a b c true false e f = ap (λ up. cond up c b) f ∙ sym (ap (λ up. cond up b a) e)
same_in_both_groupings a b c false true e f = refl
same_in_both_groupings a b c false false e f =
    ap (λ up. cond up c a) (not_below_trans c b a f e) ∙ sym (ap (λ up. cond up b a) e)

with_itself : (a : KvValue) (up : Bool) → IsSame (cond up a a) a
with_itself a true = tied_itself value_cmp_total a
with_itself a false = tied_itself value_cmp_total a

pub join_laws : JoinLaws
join_laws = record {
  commutative = λ a b. both_ways a b (is_below a b) (is_below b a) refl refl;
  associative = λ a b c.
      subst (λ v. IsSame (greater_of (greater_of a b) c) v) (same_in_both_groupings a b c (is_below a b) (is_below b c) refl refl)
      (tied_itself value_cmp_total (greater_of (greater_of a b) c));
  idempotent = λ a. with_itself a (is_below a a);
}

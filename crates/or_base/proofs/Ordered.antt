-- The order of values is total, and what follows for `is_below`.
use Rattle.std.proofs.Common.{◌≡◌, true, false, refl, sym, ◌∙◌, ap}
use Rattle.std.specs.declared.cmp.Ordering.{Ordering}
use Rattle.std.specs.declared.cmp.Ordering.TheVariants.{Less, Equal, Greater}
use Rattle.std.specs.Cmp.{IsTotalOrder}
use Rattle.std.specs.Ordering.{is_lt, is_gt, ordering_reverse}
use Rattle.std.proofs.lemmas.Cmp.{upto, tied_itself, on_total, then_total, nat_cmp_total, nat_list_cmp_total}
use Rattle.or_base.specs.declared.value.KvValue.{KvValue}
use Rattle.or_base.specs.Order.{value_cmp, is_below}

pub value_cmp_total : IsTotalOrder value_cmp
unfolding value_cmp
value_cmp_total =
    then_total (on_total (λ v. v.version) nat_cmp_total)
    (then_total (on_total (λ v. v.originator) nat_list_cmp_total)
    (then_total (on_total (λ v. v.value) nat_list_cmp_total) (on_total (λ v. v.ttl_version) nat_cmp_total)))

is_lt-reverse : (o : Ordering) → is_lt (ordering_reverse o) ≡ is_gt o
is_lt-reverse Less = refl
is_lt-reverse Equal = refl
is_lt-reverse Greater = refl

-- v is below w exactly where w compares as greater
pub is_below_back : (v w : KvValue) → is_below v w ≡ is_gt (value_cmp w v)
is_below_back v w = ap is_lt (value_cmp_total.antisymm v w) ∙ is_lt-reverse (value_cmp w v)

-- v ≤ w and w ≤ x give v ≤ x
pub not_below_trans : (v w x : KvValue) → is_below w v ≡ false → is_below x w ≡ false → is_below x v ≡ false
not_below_trans v w x w_up x_up =
    is_below_back x v ∙ upto value_cmp_total v w x (sym (is_below_back w v) ∙ w_up) (sym (is_below_back x w) ∙ x_up)

less_not_greater : (o : Ordering) → is_lt o ≡ true → is_gt o ≡ false
less_not_greater Less e = refl
less_not_greater Equal e = refl
less_not_greater Greater e = cc

-- what is below isn't above
pub below_not_above : (v w : KvValue) → is_below w v ≡ true → is_below v w ≡ false
below_not_above v w e = is_below_back v w ∙ less_not_greater (value_cmp w v) e

pub not_below_itself : (v : KvValue) → is_below v v ≡ false
not_below_itself v = ap is_lt (tied_itself value_cmp_total v)

neither : (o : Ordering) → is_lt o ≡ false → is_gt o ≡ false → o ≡ Equal
neither Less e f = cc
neither Equal e f = refl
neither Greater e f = cc

-- of which neither is below the other, they are the same
pub same_from_neither : (v w : KvValue) → is_below v w ≡ false → is_below w v ≡ false → value_cmp v w ≡ Equal
same_from_neither v w e f = neither (value_cmp v w) e (sym (is_below_back w v) ∙ f)

-- The order of names and places tells all of them apart.
use Rattle.std.proofs.Common.{◌≡◌, ℕ, List, Bool, true, false, refl, sym, ◌∙◌, ap}
use Rattle.std.specs.declared.cmp.Ordering.{Ordering}
use Rattle.std.specs.declared.cmp.Ordering.TheVariants.{Less, Equal, Greater}
use Rattle.std.specs.Cmp.{IsTotalOrder}
use Rattle.std.specs.Ordering.{is_eq, ordering_reverse}
use Rattle.std.specs.BTreeMap.{is_at}
use Rattle.std.specs.Str.{bytes_eq}
use Rattle.std.proofs.lemmas.Cmp.{tied_itself, on_total, then_total, nat_list_cmp_total}
use Rattle.std.proofs.lemmas.Map.Lookups.{exact_bytes, exact_pairs, CmpEqualImpliesEq}
use Rattle.std.proofs.lemmas.Slice.Eq.{bytes_eq-Decides}
use Rattle.or_base.specs.Order.{bytes_cmp}
use Rattle.ls_graph.specs.Changes.{place_cmp}
use Rattle.ls_graph.specs.Places.{pair_cmp, place_of}

pub pair_total : IsTotalOrder pair_cmp
pair_total = then_total (on_total (λ p. p.0) nat_list_cmp_total) (on_total (λ p. p.1) nat_list_cmp_total)

pub place_total : IsTotalOrder place_cmp
place_total = on_total place_of pair_total

pub pair_exact : CmpEqualImpliesEq pair_cmp
pair_exact = exact_pairs bytes_cmp bytes_cmp exact_bytes exact_bytes

pub equal_from_test : (o : Ordering) → is_eq o ≡ true → o ≡ Equal
equal_from_test Less e = cc
equal_from_test Equal e = refl
equal_from_test Greater e = cc

-- ---- places

pub same_place : (p q : List ℕ × List ℕ) → is_at (pair_cmp p) q ≡ true → p ≡ q
same_place p q e = pair_exact p q (equal_from_test (pair_cmp p q) e)

pub at_itself : (p : List ℕ × List ℕ) → is_at (pair_cmp p) p ≡ true
at_itself p = ap is_eq (tied_itself pair_total p)

reversed_test : (o : Ordering) → is_eq (ordering_reverse o) ≡ is_eq o
reversed_test Less = refl
reversed_test Equal = refl
reversed_test Greater = refl

pub test_back : (p q : List ℕ × List ℕ) → is_at (pair_cmp q) p ≡ is_at (pair_cmp p) q
test_back p q = ap is_eq (pair_total.antisymm q p) ∙ reversed_test (pair_cmp p q)

pub apart_less : (p q : List ℕ × List ℕ) → pair_cmp p q ≡ Less → is_at (pair_cmp p) q ≡ false
apart_less p q e = ap is_eq e

pub apart_greater : (p q : List ℕ × List ℕ) → pair_cmp p q ≡ Less → is_at (pair_cmp q) p ≡ false
apart_greater p q e = test_back p q ∙ ap is_eq e

-- ---- names

pub same_name : (x y : List ℕ) → is_at (bytes_cmp x) y ≡ true → x ≡ y
same_name x y e = exact_bytes x y (equal_from_test (bytes_cmp x y) e)

pub name_itself : (x : List ℕ) → is_at (bytes_cmp x) x ≡ true
name_itself x = ap is_eq (tied_itself nat_list_cmp_total x)

pub name_back : (x y : List ℕ) → is_at (bytes_cmp y) x ≡ is_at (bytes_cmp x) y
name_back x y = ap is_eq (nat_list_cmp_total.antisymm y x) ∙ reversed_test (bytes_cmp x y)

pub bytes_same : (x y : List ℕ) → bytes_eq x y ≡ true → x ≡ y
bytes_same x y e = (bytes_eq-Decides x y).0 e

pub bytes_itself : (x : List ℕ) → bytes_eq x x ≡ true
bytes_itself x = (bytes_eq-Decides x x).1 refl

-- two tests that are true of the same are the same test
pub tests_agree : (s t : Bool) → (s ≡ true → t ≡ true) → (t ≡ true → s ≡ true) → s ≡ t
tests_agree true true there back = refl
tests_agree true false there back = sym (there refl)
tests_agree false true there back = back refl
tests_agree false false there back = refl

-- both tests of names say whether they are the same
pub name_tests : (x y : List ℕ) → bytes_eq x y ≡ is_at (bytes_cmp x) y
name_tests x y =
    tests_agree (bytes_eq x y) (is_at (bytes_cmp x) y) (λ e. ap (λ z. is_at (bytes_cmp x) z) (sym (bytes_same x y e)) ∙ name_itself x)
    (λ e. ap (λ z. bytes_eq x z) (sym (same_name x y e)) ∙ bytes_itself x)

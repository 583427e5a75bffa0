-- The order of prefixes tells all of them apart.
use Rattle.std.proofs.Common.{◌≡◌, Bool, true, false, refl, sym, ◌∙◌, ap}
use Rattle.std.specs.Option.{unwrap_or}
use Rattle.std.specs.declared.cmp.Ordering.{Ordering}
use Rattle.std.specs.declared.cmp.Ordering.TheVariants.{Less, Equal, Greater}
use Rattle.std.specs.Cmp.{IsTotalOrder, bool_cmp_total}
use Rattle.std.specs.Ordering.{bool_cmp, nat_cmp, ordering_then}
use Rattle.std.proofs.lemmas.Cmp.{nat_cmp_total, on_total, then_total}
use Rattle.std.proofs.lemmas.Map.Lookups.{CmpEqualImpliesEq, exact_unsigned}
use Rattle.or_base.specs.Prefixes.{prefix_cmp, prefix_from}
use Rattle.or_base.specs.declared.prefix.Prefix.{Prefix}
use Rattle.or_base.proofs.Prefixes.{prefix_from_parts}

pub prefix_total : IsTotalOrder prefix_cmp
prefix_total = then_total (on_total (λ p. p.v6) bool_cmp_total) (then_total (on_total (λ p. p.bits) nat_cmp_total) (on_total (λ p. p.len) nat_cmp_total))

both_equal : (a b : Ordering) → ordering_then a b ≡ Equal → (a ≡ Equal) × (b ≡ Equal)
both_equal Less b e = cc
both_equal Equal b e = (refl, e)
both_equal Greater b e = cc

same_family : (s t : Bool) → bool_cmp s t ≡ Equal → s ≡ t
same_family true true e = refl
same_family true false e = cc
same_family false true e = cc
same_family false false e = refl

-- prefixes with the same parts are the same
same_parts : (p q : Prefix) → p.v6 ≡ q.v6 → p.bits ≡ q.bits → p.len ≡ q.len → p ≡ q
same_parts p q family bits len =
    ap (λ found. unwrap_or found p)
    (sym (prefix_from_parts p.v6 p.bits p.len p.sound) ∙ (λ i. prefix_from (family i) (bits i) (len i)) ∙ prefix_from_parts q.v6 q.bits q.len q.sound)

pub prefix_exact : CmpEqualImpliesEq prefix_cmp
prefix_exact p q e =
    let parts = both_equal (bool_cmp p.v6 q.v6) (ordering_then (nat_cmp p.bits q.bits) (nat_cmp p.len q.len)) e in
    let numbers = both_equal (nat_cmp p.bits q.bits) (nat_cmp p.len q.len) parts.1 in
    same_parts p q (same_family p.v6 q.v6 parts.0) (exact_unsigned p.bits q.bits numbers.0) (exact_unsigned p.len q.len numbers.1)

-- The number that groups around `::` make, and where the first `::` stands.
use Rattle.std.proofs.Common.{◌≡◌, ℕ, zero, suc, ◌+◌, ◌-◌, ◌*◌, ◌^◌, ◌≤◌, ◌==◌, Bool, true, false, cond, List, [], ◌∷◌, ◌++◌, length, Option, Some, None, refl, sym, ap, ◌∙◌, arith, replicate}
use Rattle.std.specs.Prelude.{nat_le, fold}
use Rattle.std.specs.Option.{option_map, option_and_then}
use Rattle.std.proofs.lemmas.Grind.{fold-append}
use Rattle.std.proofs.lemmas.Nat.{pow-add}
use Rattle.std.proofs.lemmas.Bool.{leb-true, leb-false, eqb-true}
use Rattle.std.proofs.Math.Nat.{pow-succ', mul_assoc}
use Rattle.or_prefix.specs.declared.groups.Groups.{Groups}
use Rattle.or_prefix.specs.Reading.{groups_in, groups_beside, all_groups, filled_groups, groups_around, around_double, v6_address}
use Rattle.or_prefix.specs.Steps.{groups_value, value_and_count_in, value_and_count}

value_from : ℕ → List ℕ → ℕ
value_from n groups = fold (λ m g. 65536 * m + g) n groups

-- groups behind a number shift it by their count
pub value_behind : (groups : List ℕ) (n : ℕ) → fold (λ m g. 65536 * m + g) n groups ≡ n * 65536 ^ length groups + groups_value groups
value_behind [] n = omega arith
value_behind (g ∷ groups) n =
    let here = value_behind groups (65536 * n + g) in
    let first = value_behind groups (65536 * 0 + g) in
    rw (pow-succ' 65536 (length groups)) (omega (arith, here, first))

pub value_of_zeros : (count n : ℕ) → fold (λ m g. 65536 * m + g) n (replicate count 0) ≡ n * 65536 ^ count
value_of_zeros zero n = omega arith
value_of_zeros (suc count) n = rw (pow-succ' 65536 count) (omega (arith, value_of_zeros count (65536 * n + 0)))

pub value_filled : (before behind : List ℕ) → length before + length behind ≤ 7
    → groups_value (before ++ replicate (8 - (length before + length behind)) 0 ++ behind)
    ≡ groups_value before * 65536 ^ (8 - length before) + groups_value behind
unfolding value_from
value_filled before behind few =
    let zeros : ℕ = 8 - (length before + length behind) in
    let power : zeros + length behind ≡ 8 - length before = omega arith in
    fold-append (λ m g. 65536 * m + g) 0 (before ++ replicate zeros 0) behind
    ∙ ap (λ n. value_from n behind) (fold-append (λ m g. 65536 * m + g) 0 before (replicate zeros 0) ∙ value_of_zeros zeros (groups_value before))
    ∙ value_behind behind (groups_value before * 65536 ^ zeros)
    ∙ ap (λ n. n + groups_value behind)
    (mul_assoc (groups_value before) (65536 ^ zeros) (65536 ^ length behind)
    ∙ ap (λ n. groups_value before * n) (sym (pow-add 65536 zeros (length behind)) ∙ ap (λ k. 65536 ^ k) power))

-- the address of eight groups
abbrev pub of_eight : ℕ × ℕ → Option ℕ
of_eight groups = cond (groups.1 == 8) (Some groups.0) None

abbrev pub of_filled : ℕ × ℕ → ℕ × ℕ → Option ℕ
of_filled before behind = cond (nat_le (before.1 + behind.1) 7) (Some (before.0 * 65536 ^ (8 - before.1) + behind.0)) None

whole_if : (groups : List ℕ) (few all : Bool) → nat_le (length groups) 8 ≡ few → (length groups == 8) ≡ all
    → option_map groups_value (cond all (Some groups) None) ≡ option_and_then of_eight (cond few (Some (groups_value groups, length groups)) None)
whole_if groups true true is_few is_all = sym (ap (λ t. cond t (Some (groups_value groups)) None) is_all)
whole_if groups true false is_few is_all = sym (ap (λ t. cond t (Some (groups_value groups)) None) is_all)
whole_if groups false true is_few is_all = absurd (omega (arith, leb-false (length groups) 8 is_few, eqb-true (length groups) 8 is_all))
whole_if groups false false is_few is_all = refl

whole : (groups : Option (List ℕ)) → option_map groups_value (option_and_then all_groups groups) ≡ option_and_then of_eight (value_and_count_in groups)
whole None = refl
whole (Some groups) = whole_if groups (nat_le (length groups) 8) (length groups == 8) refl refl

-- without `::`
pub v6_whole : (text : List ℕ) → around_double text ≡ None → v6_address text ≡ option_and_then of_eight (value_and_count_in (groups_in text))
unfolding v6_address
v6_whole text none = ap (λ halves. option_map groups_value (groups_around halves text)) none ∙ whole (groups_in text)

no_behind : (test : Bool) (groups : ℕ × ℕ)
    → option_map groups_value None ≡ option_and_then (λ b. option_and_then (λ h. of_filled b h) None) (cond test (Some groups) None)
no_behind true groups = refl
no_behind false groups = refl

filled_if : (b h : List ℕ) (few_b few_h fit : Bool) → nat_le (length b) 8 ≡ few_b → nat_le (length h) 8 ≡ few_h
    → nat_le (length b + length h) 7 ≡ fit
    → option_map groups_value (cond fit (Some (b ++ replicate (8 - (length b + length h)) 0 ++ h)) None)
    ≡ option_and_then (λ x. option_and_then (λ y. of_filled x y) (cond few_h (Some (groups_value h, length h)) None))
    (cond few_b (Some (groups_value b, length b)) None)
filled_if b h true true true is_b is_h is =
    ap Some (value_filled b h (leb-true (length b + length h) 7 is))
    ∙ sym (ap (λ t. cond t (Some (groups_value b * 65536 ^ (8 - length b) + groups_value h)) None) is)
filled_if b h true true false is_b is_h is =
    sym (ap (λ t. cond t (Some (groups_value b * 65536 ^ (8 - length b) + groups_value h)) None) is)
filled_if b h true false true is_b is_h is = absurd (omega (arith, leb-true (length b + length h) 7 is, leb-false (length h) 8 is_h))
filled_if b h true false false is_b is_h is = refl
filled_if b h false few_h true is_b is_h is = absurd (omega (arith, leb-true (length b + length h) 7 is, leb-false (length b) 8 is_b))
filled_if b h false few_h false is_b is_h is = refl

filled : (before behind : Option (List ℕ))
    → option_map groups_value (option_and_then (λ b. option_and_then (λ h. filled_groups b h) behind) before)
    ≡ option_and_then (λ b. option_and_then (λ h. of_filled b h) (value_and_count_in behind)) (value_and_count_in before)
filled None behind = refl
filled (Some b) None = no_behind (nat_le (length b) 8) (groups_value b, length b)
filled (Some b) (Some h) = filled_if b h (nat_le (length b) 8) (nat_le (length h) 8) (nat_le (length b + length h) 7) refl refl refl

-- around `::`
around : (text before behind : List ℕ) → around_double text ≡ Some (before, behind)
    → v6_address text ≡ option_and_then (λ b. option_and_then (λ h. of_filled b h) (value_and_count_in (groups_beside behind))) (value_and_count_in (groups_beside before))
unfolding v6_address
around text before behind found =
    ap (λ halves. option_map groups_value (groups_around halves text)) found ∙ filled (groups_beside before) (groups_beside behind)

-- no groups before it
pub v6_no_before : (text before behind : List ℕ) → around_double text ≡ Some (before, behind) → None ≡ value_and_count_in (groups_beside before)
    → v6_address text ≡ None
v6_no_before text before behind found is =
    around text before behind found
    ∙ ap (λ c. option_and_then (λ b. option_and_then (λ h. of_filled b h) (value_and_count_in (groups_beside behind))) c) (sym is)

-- no groups behind it
pub v6_no_behind : (text before behind : List ℕ) (b : Groups) → around_double text ≡ Some (before, behind)
    → Some (value_and_count b) ≡ value_and_count_in (groups_beside before) → None ≡ value_and_count_in (groups_beside behind) → v6_address text ≡ None
v6_no_behind text before behind b found is_b is_h =
    around text before behind found
    ∙ ap (λ c. option_and_then (λ x. option_and_then (λ y. of_filled x y) (value_and_count_in (groups_beside behind))) c) (sym is_b)
    ∙ ap (λ c. option_and_then (λ y. of_filled (value_and_count b) y) c) (sym is_h)

-- groups on both sides
pub v6_joined : (text before behind : List ℕ) (b h : Groups) → around_double text ≡ Some (before, behind)
    → Some (value_and_count b) ≡ value_and_count_in (groups_beside before) → Some (value_and_count h) ≡ value_and_count_in (groups_beside behind)
    → v6_address text ≡ cond (nat_le (b.count + h.count) 7) (Some (b.bits * 65536 ^ (8 - b.count) + h.bits)) None
v6_joined text before behind b h found is_b is_h =
    around text before behind found
    ∙ ap (λ c. option_and_then (λ x. option_and_then (λ y. of_filled x y) (value_and_count_in (groups_beside behind))) c) (sym is_b)
    ∙ ap (λ c. option_and_then (λ y. of_filled (value_and_count b) y) c) (sym is_h)

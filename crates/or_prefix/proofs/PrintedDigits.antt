-- Numbers of addresses and lengths are read again.
use Rattle.std.proofs.Common.{◌≡◌, ◌≢◌, ℕ, zero, suc, ◌+◌, ◌*◌, ◌/◌, ◌%◌, ◌^◌, ◌==◌, ◌<◌, ◌≤◌, Bool, true, false, cond, ◌&&◌, nat_lt, List, [], ◌∷◌, length, refl, ap, ◌∙◌, arith, inl, inr, decimal}
use Rattle.std.specs.Prelude.{fold}
use Rattle.std.specs.List.{list_all}
use Rattle.std.specs.Fmt.{digits, digits_onto, digit_glyph}
use Rattle.std.proofs.lemmas.Bool.{and_parts, and_from, cases_eq, eqb-true, eqb-false, le-leb}
use Rattle.std.proofs.lemmas.Bool.Decides.{nat_tests}
use Rattle.std.proofs.Math.Nat.{pow-succ'}
use Rattle.or_prefix.specs.Reading.{decimal_value, is_octet, is_hex_digit, hex_digit_value, is_group, group_value}

-- ---- numbers below 256, one by one

abbrev below : (ℕ → Bool) → ℕ → Bool
below test zero = true
below test (suc n) = test n && below test n

one_below : (test : ℕ → Bool) (n : ℕ) → below test n ≡ true → (x : ℕ) → x < n → test x ≡ true
one_below test zero all x small = absurd (omega arith)
one_below test (suc n) all x small =
    let parts = and_parts _ _ all in
    elim (cases_eq x n) [ inl same ↦ ap test same ∙ parts.0 | inr other ↦ one_below test n parts.1 x (omega arith) ]

abbrev is_again : ℕ → Bool
is_again n = is_octet (decimal n) && decimal_value (decimal n) == n

all_again : below is_again 256 ≡ true
unfolding digits
all_again = refl

pub octet_again : (n : ℕ) → n < 256 → is_octet (decimal n) ≡ true
octet_again n small = (and_parts _ _ (one_below is_again 256 all_again n small)).0

pub decimal_again : (n : ℕ) → n < 256 → decimal_value (decimal n) ≡ n
decimal_again n small = eqb-true _ _ (and_parts _ _ (one_below is_again 256 all_again n small)).1

-- ---- groups

glyph_if : (d : ℕ) (test : Bool) → nat_lt d 10 ≡ test → d < 16
    → (is_hex_digit (cond test (48 + d) (87 + d)) ≡ true) × (hex_digit_value (cond test (48 + d) (87 + d)) ≡ d)
glyph_if d true is small = (grind (arith, nat_tests), grind (arith, nat_tests))
glyph_if d false is small = (grind (arith, nat_tests), grind (arith, nat_tests))

glyph : (n : ℕ) → (is_hex_digit (digit_glyph false (n % 16)) ≡ true) × (hex_digit_value (digit_glyph false (n % 16)) ≡ n % 16)
glyph n = glyph_if (n % 16) (nat_lt (n % 16) 10) refl (omega arith)

value_from : ℕ → List ℕ → ℕ
value_from n text = fold (λ m b. 16 * m + hex_digit_value b) n text

value_if : (test : Bool) (n : ℕ) (after more : List ℕ) → (n / 16 == 0) ≡ test
    → (test ≡ false → value_from 0 more ≡ value_from (n / 16) (digit_glyph false (n % 16) ∷ after))
    → value_from 0 (cond test (digit_glyph false (n % 16) ∷ after) more) ≡ value_from n after
unfolding value_from
value_if true n after more is rest =
    let none = eqb-true (n / 16) 0 is in
    let same : 16 * 0 + hex_digit_value (digit_glyph false (n % 16)) ≡ n = omega (arith, (glyph n).1) in
    ap (λ m. value_from m after) same
value_if false n after more is rest =
    let same : 16 * (n / 16) + hex_digit_value (digit_glyph false (n % 16)) ≡ n = omega (arith, (glyph n).1) in
    rest refl ∙ ap (λ m. value_from m after) same

value_onto : (k n : ℕ) (after : List ℕ) → n < 16 ^ k → value_from 0 (digits_onto k 16 false n after) ≡ value_from n after
value_onto zero n after small = let none : 0 ≡ n = omega arith in ap (λ m. value_from m after) none
value_onto (suc k) n after small =
    let power = pow-succ' 16 k in
    let smaller : n / 16 < 16 ^ k = omega arith in
    value_if (n / 16 == 0) n after (digits_onto k 16 false (n / 16) (digit_glyph false (n % 16) ∷ after)) refl
    (λ _. value_onto k (n / 16) (digit_glyph false (n % 16) ∷ after) smaller)

pub group_again : (g : ℕ) → g < 65536 → group_value (digits 16 false g) ≡ g
unfolding value_from digits
group_again g small =
    let fits : g < 16 ^ 64 = omega arith in
    value_onto 64 g [] fits

either_hex : (test : Bool) (xs ys : List ℕ) → list_all is_hex_digit xs ≡ true → list_all is_hex_digit ys ≡ true → list_all is_hex_digit (cond test xs ys) ≡ true
either_hex true xs ys first second = first
either_hex false xs ys first second = second

hex_onto : (k n : ℕ) (after : List ℕ) → list_all is_hex_digit after ≡ true → list_all is_hex_digit (digits_onto k 16 false n after) ≡ true
hex_onto zero n after all = all
hex_onto (suc k) n after all =
    let more : List ℕ = digit_glyph false (n % 16) ∷ after in
    let and_more : list_all is_hex_digit more ≡ true = and_from _ _ (glyph n).0 all in
    either_hex (n / 16 == 0) more _ and_more (hex_onto k (n / 16) more and_more)

-- some bytes, and at most this many
Few : ℕ → List ℕ → Type 0
Few most text = (1 ≤ length text) × (length text ≤ most)

few_if : (test : Bool) (b most : ℕ) (after more : List ℕ) → length after < most → (test ≡ false → Few most more) → Few most (cond test (b ∷ after) more)
unfolding Few
few_if true b most after more less rest = (omega arith, omega arith)
few_if false b most after more less rest = rest refl

-- a number below 16 ^ j has at most j digits
few_onto : (j k n b : ℕ) (after : List ℕ) → n < 16 ^ j → n ≢ 0 → Few (j + length (b ∷ after)) (digits_onto k 16 false n (b ∷ after))
unfolding Few
few_onto zero k n b after small some = absurd (omega arith)
few_onto (suc j) zero n b after small some = (omega arith, omega arith)
few_onto (suc j) (suc k) n b after small some =
    let power = pow-succ' 16 j in
    let smaller : n / 16 < 16 ^ j = omega arith in
    let d = digit_glyph false (n % 16) in
    let most : ℕ = suc j + length (b ∷ after) in
    let more : List ℕ = digits_onto k 16 false (n / 16) (d ∷ b ∷ after) in
    let rest : (n / 16 == 0) ≡ false → Few most more =
    λ is. let few = few_onto j k (n / 16) d (b ∷ after) smaller (eqb-false (n / 16) 0 is) in (few.0, omega (arith, few.1)) in
    few_if (n / 16 == 0) d most (b ∷ after) more (omega arith) rest

few_digits : (g : ℕ) → g < 65536 → Few 4 (digits 16 false g)
unfolding digits Few
few_digits g small =
    let smaller : g / 16 < 16 ^ 3 = omega arith in
    let d = digit_glyph false (g % 16) in
    let more : List ℕ = digits_onto 63 16 false (g / 16) (d ∷ []) in
    let rest : (g / 16 == 0) ≡ false → Few 4 more =
    λ is. let few = few_onto 3 63 (g / 16) d [] smaller (eqb-false (g / 16) 0 is) in (few.0, omega (arith, few.1)) in
    few_if (g / 16 == 0) d 4 [] more (omega arith) rest

pub is_group_again : (g : ℕ) → g < 65536 → is_group (digits 16 false g) ≡ true
unfolding digits Few
is_group_again g small =
    let few = few_digits g small in
    and_from _ _ (and_from _ _ (le-leb 1 _ few.0) (le-leb _ 4 few.1)) (hex_onto 64 g [] refl)

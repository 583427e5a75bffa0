-- Digits that pass a test, one by one, and the numbers that a few of them make.
use Rattle.std.proofs.Common.{◌≡◌, ℕ, zero, suc, ◌+◌, ◌-◌, ◌*◌, ◌^◌, ◌<◌, ◌≤◌, Bool, true, List, [], ◌∷◌, length, get_or, take, refl, arith}
use Rattle.std.specs.List.{list_all}
use Rattle.std.proofs.lemmas.Bool.Decides.{nat_tests}
use Rattle.std.proofs.lemmas.Bool.{and_parts}
use Rattle.std.proofs.lemmas.List.Sums.{fold_more}
use Rattle.or_prefix.specs.Reading.{is_digit, is_hex_digit, hex_digit_value, decimal_value, group_value}

each_passes : (test : ℕ → Bool) (text : List ℕ) (i : ℕ) → list_all test text ≡ true → i < length text → test (get_or text i 0) ≡ true
each_passes test [] i all within = absurd (omega arith)
each_passes test (b ∷ text) zero all within = (and_parts (test b) (list_all test text) all).0
each_passes test (b ∷ text) (suc i) all within = each_passes test text i (and_parts (test b) (list_all test text) all).1 (omega arith)

digit_range : (b : ℕ) → is_digit b ≡ true → (48 ≤ b) × (b ≤ 57)
digit_range b h = (grind (arith, nat_tests), grind (arith, nat_tests))

pub digit_at : (digits : List ℕ) (i : ℕ) → list_all is_digit digits ≡ true → i < length digits → (48 ≤ get_or digits i 0) × (get_or digits i 0 ≤ 57)
digit_at digits i all within = digit_range (get_or digits i 0) (each_passes is_digit digits i all within)

pub decimal_value_more : (digits : List ℕ) (i : ℕ) → i < length digits → decimal_value (take (i + 1) digits) ≡ 10 * decimal_value (take i digits) + (get_or digits i 0 - 48)
decimal_value_more digits i within = fold_more (λ n b. 10 * n + (b - 48)) 0 digits i 0 within

pub ten_power : (i : ℕ) → i < 3 → (10 ^ i ≤ 100) × (10 ^ (i + 1) ≡ 10 * 10 ^ i)
ten_power zero small = (omega arith, refl)
ten_power (suc zero) small = (omega arith, refl)
ten_power (suc (suc zero)) small = (omega arith, refl)
ten_power (suc (suc (suc i))) small = absurd (omega arith)

pub ruleset decimal_steps = (digit_at, decimal_value_more, ten_power)

pub hex_digit_at : (digits : List ℕ) (i : ℕ) → list_all is_hex_digit digits ≡ true → i < length digits → is_hex_digit (get_or digits i 0) ≡ true
hex_digit_at digits i all within = each_passes is_hex_digit digits i all within

pub group_value_more : (digits : List ℕ) (i : ℕ) → i < length digits → group_value (take (i + 1) digits) ≡ 16 * group_value (take i digits) + hex_digit_value (get_or digits i 0)
group_value_more digits i within = fold_more (λ n b. 16 * n + hex_digit_value b) 0 digits i 0 within

pub sixteen_power : (i : ℕ) → i < 4 → (16 ^ i ≤ 4096) × (16 ^ (i + 1) ≡ 16 * 16 ^ i)
sixteen_power zero small = (omega arith, refl)
sixteen_power (suc zero) small = (omega arith, refl)
sixteen_power (suc (suc zero)) small = (omega arith, refl)
sixteen_power (suc (suc (suc zero))) small = (omega arith, refl)
sixteen_power (suc (suc (suc (suc i)))) small = absurd (omega arith)

pub ruleset group_steps = (hex_digit_at, group_value_more, sixteen_power)

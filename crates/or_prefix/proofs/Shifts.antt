-- Groups in base 65536 as bits.
use Rattle.std.proofs.Common.{◌≡◌, ℕ, zero, suc, ◌+◌, ◌-◌, ◌*◌, ◌^◌, ◌%◌, ◌≤◌, ◌<◌, refl, sym, ap, ◌∙◌, arith, lit<}
use Rattle.std.proofs.lemmas.Nat.{pow-add}
use Rattle.std.proofs.Math.Nat.{pow-succ', pow-le-pow_right, mul-le-mul_right, mod-eq_of_lt}

power_of_groups : (k : ℕ) → 2 ^ (16 * k) ≡ 65536 ^ k
power_of_groups zero = refl
power_of_groups (suc k) =
    let sum : 16 * suc k ≡ 16 + 16 * k = omega arith in
    ap (λ n. 2 ^ n) sum ∙ pow-add 2 16 (16 * k) ∙ ap (λ n. 65536 * n) (power_of_groups k) ∙ sym (pow-succ' 65536 k)

-- a number of some groups, shifted to the front of eight
pub front_fits : (bits count : ℕ) → count ≤ 8 → bits < 65536 ^ count → bits * 65536 ^ (8 - count) + 65536 ^ (8 - count) ≤ 2 ^ 128
front_fits bits count few within =
    let sum : count + (8 - count) ≡ 8 = omega arith in
    let all : 65536 ^ count * 65536 ^ (8 - count) ≡ 2 ^ 128 = sym (pow-add 65536 count (8 - count)) ∙ ap (λ n. 65536 ^ n) sum in
    let above : (bits + 1) * 65536 ^ (8 - count) ≤ 65536 ^ count * 65536 ^ (8 - count) = mul-le-mul_right (65536 ^ (8 - count)) (omega arith) in
    omega (arith, all, above)

pub behind_fits : (bits count room : ℕ) → bits < 65536 ^ count → count ≤ room → bits < 65536 ^ room
behind_fits bits count room within small =
    let more : 65536 ^ count ≤ 65536 ^ room = pow-le-pow_right (lit< tt) small in
    omega arith

pub shift_of_groups : (bits count : ℕ) → count ≤ 8 → bits < 65536 ^ count → bits * 2 ^ (16 * (8 - count)) % 2 ^ 128 ≡ bits * 65536 ^ (8 - count)
shift_of_groups bits count few within =
    let power = power_of_groups (8 - count) in
    let fits = front_fits bits count few within in
    let some : 0 < 65536 ^ (8 - count) = behind_fits 0 0 (8 - count) (lit< tt) (omega arith) in
    rw power (mod-eq_of_lt (omega arith))

-- the sum of the front and of what stands behind it
pub both_fit : (bits count more behind : ℕ) → count + behind ≤ 7 → bits < 65536 ^ count → more < 65536 ^ behind
    → bits * 65536 ^ (8 - count) + more < 2 ^ 128
both_fit bits count more behind few within within_more =
    let front = front_fits bits count (omega arith) within in
    let back = behind_fits more behind (8 - count) within_more (omega arith) in
    omega arith

pub ruleset shift_steps = (shift_of_groups, both_fit)

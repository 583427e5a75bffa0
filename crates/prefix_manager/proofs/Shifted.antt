-- An address without all of its bits.
use Rattle.std.proofs.Common.{◌≡◌, ℕ, ◌/◌, ◌^◌, ◌<◌, ◌≤◌, arith}
use Rattle.std.proofs.Math.Nat.{div-eq_of_lt, pow-le-pow_right}

pub none_without_all : (n k : ℕ) → n < 2 ^ 128 → 128 ≤ k → n / 2 ^ k ≡ 0
none_without_all n k below enough =
    let p : 2 ^ 128 ≤ 2 ^ k = pow-le-pow_right (omega arith) enough in
    div-eq_of_lt (omega (arith, p))

pub ruleset shifting = (none_without_all)

-- A number of 128 bits is its own last 128 bits or more.
use Rattle.std.proofs.Common.{◌≡◌, ℕ, ◌%◌, ◌^◌, ◌<◌, ◌≤◌, arith}
use Rattle.std.proofs.Math.Nat.{mod-eq_of_lt, pow-le-pow_right}

pub remainder_of_all : (n k : ℕ) → n < 2 ^ 128 → 128 ≤ k → n % 2 ^ k ≡ n
remainder_of_all n k below enough =
    let p : 2 ^ 128 ≤ 2 ^ k = pow-le-pow_right (omega arith) enough in
    mod-eq_of_lt (omega (arith, p))

-- The low 32 bits of a number have the same 4 low bytes.
use Rattle.std.proofs.Common.{◌≡◌, ℕ, ◌%◌, ◌/◌, arith}
use Rattle.std.specs.Int.{w32, to_be_bytes}

pub low_word : (n : ℕ) → to_be_bytes w32 (n % 0x100000000) ≡ to_be_bytes w32 n
low_word n =
    let a : n % 0x100000000 / 16777216 % 256 ≡ n / 16777216 % 256 = omega arith in
    let b : n % 0x100000000 / 65536 % 256 ≡ n / 65536 % 256 = omega arith in
    let c : n % 0x100000000 / 256 % 256 ≡ n / 256 % 256 = omega arith in
    let d : n % 0x100000000 % 256 ≡ n % 256 = omega arith in
    cc

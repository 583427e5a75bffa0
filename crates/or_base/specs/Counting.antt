-- Counters of 64 bits.
use Rattle.std.specs.Prelude.{ℕ, ◌-◌, ◌^◌, min}

-- a counter saturates: it stays at the greatest number that 64 bits hold
abbrev pub saturate : ℕ → ℕ
saturate n = min n (2 ^ 64 - 1)

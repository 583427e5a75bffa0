-- What is left of a lifetime when a value is sent. Each sending takes one millisecond of it.
use Rattle.std.specs.Prelude.{ℕ, ◌+◌, ◌-◌, Option, Some, None, nat_le, if◌then◌else◌}
use Rattle.or_base.specs.Counting.{saturate}
use Rattle.kv_value.specs.declared.sent.Sent.{Sent}
use Rattle.kv_value.specs.declared.sent.Sent.TheVariants.{Forever, Left, Withheld}

-- what is left at a moment of a lifetime that began at another, in milliseconds
abbrev pub lifetime_left : ℕ → ℕ → ℕ → ℕ
lifetime_left ttl merged_at now = merged_at + ttl - now

-- The lifetime with which a value is sent; a value with at most 1 millisecond left isn't sent. The lifetime saturates, which no
-- run shows, since its moments and lifetimes are at most 2^40.
unfoldable pub sent_ttl : Option ℕ → ℕ → ℕ → Sent
sent_ttl None merged_at now = Forever
sent_ttl (Some ttl) merged_at now =
    if nat_le (lifetime_left ttl merged_at now) 1 then Withheld else Left (saturate (lifetime_left ttl merged_at now - 1))

-- When the lifetime of a value under an owned key begins anew.
use Rattle.std.specs.Prelude.{ℕ, ◌+◌, ◌-◌, ◌*◌, Option, Some, None, Bool, false, ◌&&◌, is_some, nat_le, nat_lt, if◌then◌else◌}
use Rattle.std.specs.Option.{option_map_or}
use Rattle.or_base.specs.declared.value.KvValue.{KvValue}
use Rattle.or_base.specs.Limits.{most_ttl_version}
use Rattle.kv_self.specs.declared.own.OwnValue.{OwnValue}

-- a quarter of the lifetime, or more, has passed since the merge
abbrev pub is_quarter_over : ℕ → ℕ → ℕ → Bool
is_quarter_over ttl merged_at now = nat_le ttl (4 * (now - merged_at))

-- What is held has a lifetime of which a quarter has passed, and there is a greater TTL version within the limits.
abbrev pub is_due : KvValue × ℕ → ℕ → Bool
is_due held now =
    option_map_or (λ ttl. is_quarter_over ttl held.1 now) held.0.ttl false && nat_lt held.0.ttl_version most_ttl_version

-- the same value with a lifetime that begins anew
abbrev pub with_new_lifetime : KvValue → Option ℕ → KvValue
with_new_lifetime value ttl = record value { ttl = ttl; ttl_version = value.ttl_version + 1 }

-- What the node offers so that a value under a key of its own doesn't expire: nothing where the key isn't owned with a
-- lifetime, or what is held isn't due.
abbrev pub refresh : Option OwnValue → KvValue × ℕ → ℕ → Option KvValue
refresh None held now = None
refresh (Some own) held now = if is_some own.ttl && is_due held now then Some (with_new_lifetime held.0 own.ttl) else None

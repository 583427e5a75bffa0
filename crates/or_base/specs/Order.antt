use Rattle.std.specs.Prelude.{◌≡◌, ℕ, List, Bool}
use Rattle.std.specs.declared.cmp.Ordering.{Ordering}
use Rattle.std.specs.declared.cmp.Ordering.TheVariants.{Equal}
use Rattle.std.specs.Cmp.Lexicographic.{slice_cmp}
use Rattle.std.specs.Ordering.{nat_cmp, ordering_then, is_lt}
use Rattle.or_base.specs.declared.value.KvValue.{KvValue}

-- names and bytes are compared byte by byte, and a proper prefix is less
abbrev pub bytes_cmp : List ℕ → List ℕ → Ordering
bytes_cmp = slice_cmp nat_cmp

-- values are compared by version, then originator, then value bytes, then TTL version; the TTL isn't compared
unfoldable pub value_cmp : KvValue → KvValue → Ordering
value_cmp v w =
    ordering_then (nat_cmp v.version w.version)
    (ordering_then (bytes_cmp v.originator w.originator)
    (ordering_then (bytes_cmp v.value w.value) (nat_cmp v.ttl_version w.ttl_version)))

-- the first value is less than the second
abbrev pub is_below : KvValue → KvValue → Bool
is_below v w = is_lt (value_cmp v w)

-- two values are the same: version, originator, value bytes and TTL version are equal, and the lifetimes may differ
abbrev pub IsSame : KvValue → KvValue → Type 0
IsSame v w = value_cmp v w ≡ Equal

-- Aggregates: prefixes that a node advertises while enough of its routes lie in them.
use Rattle.std.specs.Prelude.{◌≡◌, ℕ, ◌+◌, ◌-◌, ◌/◌, ◌^◌, List, [], ◌∷◌, ◌++◌, length, fold, nat_lt, nat_le, min, is_none, Bool, not, ◌&&◌, ◌==◌, if◌then◌else◌}
use Rattle.std.specs.Bool.{beq}
use Rattle.std.specs.BTreeMap.{insert_entry, is_at}
use Rattle.std.specs.List.{filter, AllByRecursion}
use Rattle.std.specs.Map.{lookup}
use Rattle.or_base.specs.Prefixes.{prefix_cmp, is_same_prefix}
use Rattle.or_base.specs.declared.database.PrefixEntry.{PrefixEntry}
use Rattle.or_base.specs.declared.prefix.Prefix.{Prefix}
use Rattle.prefix_manager.specs.declared.aggregate.CountedAggregate.{CountedAggregate}

-- ---- what lies in a prefix

-- how many bits an address has: IPv6, or IPv4
abbrev pub address_bits : Bool → ℕ
address_bits v6 = if v6 then 128 else 32

-- an address without so many last bits
abbrev pub without_last : ℕ → ℕ → ℕ
without_last bits count = bits / 2 ^ count

-- both addresses begin with the bits of the outer prefix
abbrev pub has_same_start : Prefix → Prefix → Bool
has_same_start outer inner =
    let count = address_bits outer.v6 - outer.len in
    without_last outer.bits count == without_last inner.bits count

-- the inner prefix is of the same family, is longer, and is a part of the outer one
unfoldable pub lies_in : Prefix → Prefix → Bool
lies_in outer inner = beq outer.v6 inner.v6 && nat_lt outer.len inner.len && has_same_start outer inner

-- how many of the prefixes lie in this one
abbrev pub count_within : List Prefix → Prefix → ℕ
count_within prefixes outer = length (filter (lies_in outer) prefixes)

-- ---- aggregates

-- An aggregate is its prefix, and how many routes have to lie in it at least. A list of aggregates has each prefix once.

abbrev pub without_aggregate : List (Prefix × ℕ) → Prefix → List (Prefix × ℕ)
without_aggregate aggregates prefix = filter (λ a. not (is_same_prefix a.0 prefix)) aggregates

abbrev pub with_aggregate : List (Prefix × ℕ) → Prefix → ℕ → List (Prefix × ℕ)
with_aggregate aggregates prefix least = without_aggregate aggregates prefix ++ (prefix, least) ∷ []

-- enough of these routes lie in it
abbrev pub is_in_force : List Prefix → Prefix × ℕ → Bool
is_in_force routed a = nat_le a.1 (count_within routed a.0)

-- what an aggregate in force advertises
abbrev pub aggregate_entry : Prefix → PrefixEntry
aggregate_entry prefix = record { prefix = prefix; path = 1000; source = 100; distance = 0 }

-- the entries with that of an aggregate, if it is in force and there is none for its prefix
abbrev pub with_covering : List (Prefix × PrefixEntry) → Prefix → Bool → List (Prefix × PrefixEntry)
with_covering entries prefix in_force =
    if in_force && is_none (lookup (is_at (prefix_cmp prefix)) entries) then insert_entry prefix_cmp entries prefix (aggregate_entry prefix) else entries

-- ---- counts that are kept

-- the aggregate of which the count is kept
abbrev pub told : CountedAggregate → Prefix × ℕ
told c = (c.prefix, c.least)

-- its count is right
abbrev pub IsCounted : List Prefix → CountedAggregate → Type 0
IsCounted routed c = c.count ≡ count_within routed c.prefix

-- it is in force by its count
abbrev pub with_counted : List (Prefix × PrefixEntry) → CountedAggregate → List (Prefix × PrefixEntry)
with_counted entries c = with_covering entries c.prefix (nat_le c.least c.count)

abbrev pub AreCounted : List Prefix → List CountedAggregate → Type 0
AreCounted routed = AllByRecursion (IsCounted routed)

-- the aggregate once there is a route to this prefix more
abbrev pub counted_in : Prefix → CountedAggregate → CountedAggregate
counted_in prefix c = if lies_in c.prefix prefix then record c { count = min (c.count + 1) (2 ^ 64 - 1) } else c

-- once there are these
abbrev pub counted_over : CountedAggregate → List Prefix → CountedAggregate
counted_over = fold (λ c prefix. counted_in prefix c)

-- and once there is one less
abbrev pub counted_out : Prefix → CountedAggregate → CountedAggregate
counted_out prefix c = if lies_in c.prefix prefix then record c { count = c.count - 1 } else c

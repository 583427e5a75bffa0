-- Prefixes as a function of their parts.
use Rattle.std.specs.Prelude.{◌≡◌, ℕ, Bool, true, false, ◌&&◌, ◌==◌, Option, Some, None, refl}
use Rattle.std.specs.Bool.{beq}
use Rattle.std.specs.declared.cmp.Ordering.{Ordering}
use Rattle.std.specs.Ordering.{bool_cmp, nat_cmp, on, then_cmp}
use Rattle.or_base.specs.Prefix.{is_prefix}
use Rattle.or_base.specs.declared.prefix.Prefix.{Prefix}

-- the prefix of these parts, where it is known whether they are one
abbrev pub prefix_if : (v6 : Bool) (bits len : ℕ) (test : Bool) → is_prefix v6 bits len ≡ test → Option Prefix
prefix_if v6 bits len true known = Some (record { v6 = v6; bits = bits; len = len; sound = known })
prefix_if v6 bits len false known = None

-- the prefix of these parts, if they are one
unfoldable pub prefix_from : Bool → ℕ → ℕ → Option Prefix
prefix_from v6 bits len = prefix_if v6 bits len (is_prefix v6 bits len) refl

-- two prefixes are the same
abbrev pub is_same_prefix : Prefix → Prefix → Bool
is_same_prefix p q = beq p.v6 q.v6 && p.bits == q.bits && p.len == q.len

-- Prefixes are compared by family, and IPv4 is less than IPv6; then by the address as a number; then by length, and the shorter
-- one is less.
abbrev pub prefix_cmp : Prefix → Prefix → Ordering
prefix_cmp = then_cmp (on (λ p. p.v6) bool_cmp) (then_cmp (on (λ p. p.bits) nat_cmp) (on (λ p. p.len) nat_cmp))

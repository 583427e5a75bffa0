-- A length past the end of the address.
use Rattle.std.proofs.Common.{◌≡◌, ℕ, ◌<◌, ◌%◌, ◌-◌, ◌^◌, Bool, false, None, ap, ◌&&◌, ◌==◌, nat_le, nat_lt, arith}
use Rattle.std.proofs.lemmas.Bool.Decides.{nat_tests}
use Rattle.or_base.specs.Prefix.{address_bits}
use Rattle.or_base.specs.Prefixes.{prefix_from}
use Rattle.or_base.proofs.Prefixes.{prefix_from_none}

-- such parts are no prefix
pub long_is_none : (v6 : Bool) (bits len : ℕ) → address_bits v6 < len → prefix_from v6 bits len ≡ None
long_is_none v6 bits len long =
    let no : nat_le len (address_bits v6) ≡ false = grind (arith, nat_tests) in
    prefix_from_none v6 bits len (ap (λ test. test && nat_lt bits (2 ^ address_bits v6) && (bits % 2 ^ (address_bits v6 - len) == 0)) no)

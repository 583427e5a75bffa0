-- What a text says whose address and length were read.
use Rattle.std.proofs.Common.{◌≡◌, ℕ, Bool, true, false, cond, List, ◌∷◌, Option, Some, None, ap, ◌∙◌}
use Rattle.std.specs.Option.{option_map}
use Rattle.or_prefix.specs.declared.address.Address.{Address}
use Rattle.or_prefix.specs.Reading.{AddressAndLength, pieces, is_short_decimal, decimal_value, has_colon, address_of, address_and_length_from, address_and_length_of}
use Rattle.or_prefix.specs.Steps.{address_and_length_as}
use Rattle.or_prefix.proofs.Octets.{two_parts}

made : Bool → ℕ → Option ℕ → Option AddressAndLength
made v6 len bits = option_map (λ b. record { v6 = v6; bits = b; len = len }) bits

by_test : (a : Address) (n len : ℕ) (colon short : Bool) (address : Option ℕ) → Some n ≡ cond short (Some len) None
    → Some a.bits ≡ address → a.v6 ≡ colon → cond short (made colon len address) None ≡ Some (address_and_length_as (a, n))
unfolding made
by_test a n len colon true address is_len is_bits is_v6 = cc
by_test a n len colon false address is_len is_bits is_v6 = cc

pub address_and_length_found : (text address len : List ℕ) (a : Address) (n : ℕ) → pieces 47 text ≡ address ∷ pieces 47 len
    → Some n ≡ cond (is_short_decimal len) (Some (decimal_value len)) None → Some a.bits ≡ address_of address → a.v6 ≡ has_colon address
    → address_and_length_of text ≡ Some (address_and_length_as (a, n))
unfolding address_and_length_of made
address_and_length_found text address len a n cut is_len is_bits is_v6 =
    ap address_and_length_from cut ∙ two_parts address len
    ∙ by_test a n (decimal_value len) (has_colon address) (is_short_decimal len) (address_of address) is_len is_bits is_v6

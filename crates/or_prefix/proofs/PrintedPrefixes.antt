-- The text of a prefix has that prefix as its reading.
use Rattle.std.proofs.Common.{◌≡◌, ℕ, ◌<◌, ◌≤◌, Bool, true, false, cond, ◌∷◌, ◌++◌, List, Option, Some, None, refl, ap, ◌∙◌, append_assoc, arith, ltb-true, leb-true, codes, decimal}
use Rattle.std.specs.Option.{option_map, option_and_then}
use Rattle.std.proofs.lemmas.Bool.{and_parts}
use Rattle.or_base.specs.Prefix.{address_bits}
use Rattle.or_base.specs.Prefixes.{prefix_from}
use Rattle.or_base.specs.declared.prefix.Prefix.{Prefix}
use Rattle.or_base.proofs.Prefixes.{prefix_from_parts}
use Rattle.or_prefix.specs.Reading.{AddressAndLength, is_digit, decimal_value, pieces, has_colon, address_of, address_and_length_from, address_and_length_of, prefix_of}
use Rattle.or_prefix.specs.Printing.{groups, octets, v6_text, v4_text, prefix_text}
use Rattle.or_prefix.proofs.PrintedCuts.{passing, pieces_whole, pieces_cut}
use Rattle.or_prefix.proofs.PrintedDigits.{octet_again, decimal_again}
use Rattle.or_prefix.proofs.PrintedAddresses.{IsAddress, is_address}

with_address : Bool → ℕ → Option ℕ → Option AddressAndLength
with_address v6 len bits = option_map (λ b. record { v6 = v6; bits = b; len = len }) bits

address_and_length_again : (v6 : Bool) (bits len : ℕ) (address : List ℕ) → IsAddress v6 bits address → len < 256
    → address_and_length_of ((address ++ codes "/") ++ decimal len) ≡ Some (record { v6 = v6; bits = bits; len = len })
unfolding address_and_length_of with_address
address_and_length_again v6 bits len address is small =
    let short = and_parts _ _ (octet_again len small) in
    let digits = and_parts _ _ (and_parts _ _ short.0).0 in
    ap (λ text. address_and_length_from (pieces 47 text)) (append_assoc address (codes "/") (decimal len))
    ∙ ap address_and_length_from (pieces_cut 47 address (decimal len) is.free ∙ ap (λ ps. address ∷ ps) (pieces_whole 47 (decimal len) (passing is_digit 47 (decimal len) refl digits.1)))
    ∙ ap (λ t. cond t (with_address (has_colon address) (decimal_value (decimal len)) (address_of address)) None) short.0
    ∙ ap (λ a. with_address (has_colon address) (decimal_value (decimal len)) a) is.address
    ∙ ap (λ t. Some (record { v6 = t; bits = bits; len = decimal_value (decimal len) })) is.colon
    ∙ ap (λ n. Some (record { v6 = v6; bits = bits; len = n })) (decimal_again len small)

width : (v6 : Bool) (len : ℕ) → len ≤ address_bits v6 → len < 256
width true len fits = omega arith
width false len fits = omega arith

pub prefix_again : (p : Prefix) → prefix_of (prefix_text p.v6 p.bits p.len) ≡ Some p
unfolding prefix_of prefix_text
prefix_again p =
    let parts = and_parts _ _ (and_parts _ _ p.sound).0 in
    let address = is_address p.v6 p.bits (ltb-true _ _ parts.1) in
    let small = width p.v6 p.len (leb-true _ _ parts.0) in
    ap (option_and_then (λ found. prefix_from found.v6 found.bits found.len)) (address_and_length_again p.v6 p.bits p.len (cond p.v6 (v6_text (groups p.bits)) (v4_text (octets p.bits))) address small)
    ∙ prefix_from_parts p.v6 p.bits p.len p.sound

-- How a prefix text is read: an address, `/` and a length. IPv4 addresses are dotted decimal; IPv6 addresses are those
-- of RFC 4291, section 2.2, without an embedded dotted part.
use Rattle.std.specs.Prelude.{ℕ, ◌+◌, ◌-◌, ◌*◌, ◌%◌, ◌^◌, List, [], ◌∷◌, ◌++◌, length, Bool, false, ◌&&◌, ◌||◌, not, ◌==◌, nat_le, nat_lt, if◌then◌else◌, Option, Some, None, option_map, option_and_then, fold, map, replicate}
use Rattle.std.specs.List.{list_all, list_any}
use Rattle.or_base.specs.Limits.{is_between}
use Rattle.or_base.specs.Prefix.{address_bits}
use Rattle.or_base.specs.Prefixes.{prefix_from}
use Rattle.or_base.specs.declared.prefix.Prefix.{Prefix}
use Rattle.or_prefix.specs.declared.fault.PrefixFault.{PrefixFault}
use Rattle.or_prefix.specs.declared.fault.PrefixFault.TheVariants.{BadForm, BadLength, HostBits}

-- an address and a length, of which nothing more is known
pub record AddressAndLength : Type 0 where
  pub v6 : Bool
  pub bits : ℕ
  pub len : ℕ

-- a byte more in front of the first piece
abbrev pub with_byte_before : ℕ → List (List ℕ) → List (List ℕ)
with_byte_before b [] = (b ∷ []) ∷ []
with_byte_before b (piece ∷ pieces) = (b ∷ piece) ∷ pieces

-- the pieces between separators, one more than there are separators
abbrev pub pieces : ℕ → List ℕ → List (List ℕ)
pieces separator [] = [] ∷ []
pieces separator (b ∷ bytes) = if b == separator then [] ∷ pieces separator bytes else with_byte_before b (pieces separator bytes)

abbrev pub is_digit : ℕ → Bool
is_digit b = is_between 48 57 b

abbrev pub begins_with_zero : List ℕ → Bool
begins_with_zero [] = false
begins_with_zero (b ∷ bytes) = b == 48

-- one to three decimal digits without a leading zero
abbrev pub is_short_decimal : List ℕ → Bool
is_short_decimal digits =
    is_between 1 3 (length digits) && list_all is_digit digits && (length digits == 1 || not (begins_with_zero digits))

abbrev pub decimal_value : List ℕ → ℕ
decimal_value digits = fold (λ n b. 10 * n + (b - 48)) 0 digits

-- a number of an IPv4 address
abbrev pub is_octet : List ℕ → Bool
is_octet digits = is_short_decimal digits && nat_le (decimal_value digits) 255

-- four such numbers
unfoldable pub v4_address : List (List ℕ) → Option ℕ
v4_address octets =
    if length octets == 4 && list_all is_octet octets then Some (fold (λ n o. 256 * n + decimal_value o) 0 octets) else None

-- a hexadecimal digit of either case, and its value
abbrev pub is_hex_digit : ℕ → Bool
is_hex_digit b = is_digit b || is_between 65 70 b || is_between 97 102 b

abbrev pub hex_digit_value : ℕ → ℕ
hex_digit_value b = if nat_le b 57 then b - 48 else (if nat_le b 70 then b - 55 else b - 87)

-- a group of an IPv6 address: one to four hexadecimal digits
abbrev pub is_group : List ℕ → Bool
is_group digits = is_between 1 4 (length digits) && list_all is_hex_digit digits

abbrev pub group_value : List ℕ → ℕ
group_value digits = fold (λ n b. 16 * n + hex_digit_value b) 0 digits

-- groups joined by colons
unfoldable pub groups_in : List ℕ → Option (List ℕ)
groups_in text = if list_all is_group (pieces 58 text) then Some (map group_value (pieces 58 text)) else None

-- the same, or nothing at all
abbrev pub groups_beside : List ℕ → Option (List ℕ)
groups_beside [] = Some []
groups_beside (b ∷ bytes) = groups_in (b ∷ bytes)

-- what stands before and behind the first `::`
abbrev pub with_front : ℕ → Option (List ℕ × List ℕ) → Option (List ℕ × List ℕ)
with_front b None = None
with_front b (Some halves) = Some (b ∷ halves.0, halves.1)

abbrev pub at_double : ℕ → List ℕ → Option (List ℕ × List ℕ) → Option (List ℕ × List ℕ)
at_double b [] later = with_front b later
at_double b (c ∷ bytes) later = if b == 58 && c == 58 then Some ([], bytes) else with_front b later

abbrev pub around_double : List ℕ → Option (List ℕ × List ℕ)
around_double [] = None
around_double (b ∷ bytes) = at_double b bytes (around_double bytes)

-- eight groups; where `::` stands, it stands for one or more groups of 0
abbrev pub all_groups : List ℕ → Option (List ℕ)
all_groups groups = if length groups == 8 then Some groups else None

abbrev pub filled_groups : List ℕ → List ℕ → Option (List ℕ)
filled_groups before behind =
    if nat_le (length before + length behind) 7
    then Some (before ++ replicate (8 - (length before + length behind)) 0 ++ behind) else None

abbrev pub groups_around : Option (List ℕ × List ℕ) → List ℕ → Option (List ℕ)
groups_around None text = option_and_then all_groups (groups_in text)
groups_around (Some halves) text =
    option_and_then (λ before. option_and_then (λ behind. filled_groups before behind) (groups_beside halves.1)) (groups_beside halves.0)

unfoldable pub v6_address : List ℕ → Option ℕ
v6_address text = option_map (fold (λ n g. 65536 * n + g) 0) (groups_around (around_double text) text)

-- an address with a colon is an IPv6 address
abbrev pub has_colon : List ℕ → Bool
has_colon text = list_any (λ b. b == 58) text

abbrev pub address_of : List ℕ → Option ℕ
address_of text = if has_colon text then v6_address text else v4_address (pieces 46 text)

abbrev pub address_and_length_from : List (List ℕ) → Option AddressAndLength
address_and_length_from [] = None
address_and_length_from (address ∷ []) = None
address_and_length_from (address ∷ len ∷ []) =
    if is_short_decimal len
    then option_map (λ bits. record { v6 = has_colon address; bits = bits; len = decimal_value len }) (address_of address) else None
address_and_length_from (address ∷ len ∷ more ∷ rest) = None

-- the address and the length that a text says, if it has the form of a prefix
unfoldable pub address_and_length_of : List ℕ → Option AddressAndLength
address_and_length_of text = address_and_length_from (pieces 47 text)

-- why what a text says is no prefix: the first of these that holds
abbrev pub fault_of : Option AddressAndLength → Option PrefixFault
fault_of None = Some BadForm
fault_of (Some found) =
    if nat_lt (address_bits found.v6) found.len then Some BadLength
    else (if found.bits % 2 ^ (address_bits found.v6 - found.len) == 0 then None else Some HostBits)

-- the prefix that a text says, if it says one
unfoldable pub prefix_of : List ℕ → Option Prefix
prefix_of text = option_and_then (λ found. prefix_from found.v6 found.bits found.len) (address_and_length_of text)

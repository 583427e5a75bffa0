-- What the steps of the reader compute.
use Rattle.std.specs.Prelude.{ℕ, ◌+◌, ◌*◌, List, length, Option, Some, None, Result, Ok, Err, nat_le, if◌then◌else◌, option_and_then, fold}
use Rattle.or_base.specs.declared.prefix.Prefix.{Prefix}
use Rattle.or_prefix.specs.declared.fault.PrefixFault.{PrefixFault}
use Rattle.or_prefix.specs.declared.address.Address.{Address}
use Rattle.or_prefix.specs.declared.groups.Groups.{Groups}
use Rattle.or_prefix.specs.Reading.{AddressAndLength}

-- the fault of a read
abbrev pub fault_in : Result Prefix PrefixFault → Option PrefixFault
fault_in (Ok prefix) = None
fault_in (Err fault) = Some fault

-- the prefix of a read
abbrev pub prefix_in : Result Prefix PrefixFault → Option Prefix
prefix_in (Ok prefix) = Some prefix
prefix_in (Err fault) = None

-- an address and a length that were read, as what a text says
abbrev pub address_and_length_as : Address × ℕ → AddressAndLength
address_and_length_as read = record { v6 = read.0.v6; bits = read.0.bits; len = read.1 }

-- the number that groups of an IPv6 address make
abbrev pub groups_value : List ℕ → ℕ
groups_value groups = fold (λ n g. 65536 * n + g) 0 groups

-- the number that at most eight groups make, and how many they are
abbrev pub few_groups : List ℕ → Option (ℕ × ℕ)
few_groups groups = if nat_le (length groups) 8 then Some (groups_value groups, length groups) else None

abbrev pub value_and_count_in : Option (List ℕ) → Option (ℕ × ℕ)
value_and_count_in groups = option_and_then few_groups groups

-- the same of groups that were read
abbrev pub value_and_count : Groups → ℕ × ℕ
value_and_count groups = (groups.bits, groups.count)

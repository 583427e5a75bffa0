use Rattle.std.specs.Prelude.{ℕ, List, Bool, true, ◌&&◌, ◌||◌, ◌==◌, nat_le, ◌^◌, ◌-◌, length}
use Rattle.std.specs.List.{list_all}
use Rattle.std.specs.Option.{option_map_or}
use Rattle.or_base.specs.declared.value.KvValue.{KvValue}
use Rattle.or_base.specs.declared.value.Pair.{Pair}

-- the greatest lengths, in bytes, of the name of a node, the name of an interface, a key and the bytes of a value
abbrev pub most_node_name_bytes : ℕ
most_node_name_bytes = 20

abbrev pub most_interface_name_bytes : ℕ
most_interface_name_bytes = 24

abbrev pub most_key_bytes : ℕ
most_key_bytes = 128

abbrev pub most_value_bytes : ℕ
most_value_bytes = 4096

-- the greatest version and the greatest TTL version of a value
abbrev pub most_version : ℕ
most_version = 2 ^ 62

abbrev pub most_ttl_version : ℕ
most_ttl_version = 2 ^ 62

-- the longest time to live, in milliseconds
abbrev pub most_lifetime : ℕ
most_lifetime = 2 ^ 40

-- how many adjacencies a link record has at most, and the greatest metric of one
abbrev pub most_adjacencies : ℕ
most_adjacencies = 24

abbrev pub most_metric : ℕ
most_metric = 2 ^ 31 - 1

-- how many entries a prefix record has at most, and the greatest path preference, source preference and distance
abbrev pub most_prefix_entries : ℕ
most_prefix_entries = 32

abbrev pub most_preference : ℕ
most_preference = 2 ^ 31 - 1

-- the number is one of these, both ends among them
abbrev pub is_between : ℕ → ℕ → ℕ → Bool
is_between low high n = nat_le low n && nat_le n high

-- the bytes of names are a to z, 0 to 9, `-`, `_` and `.`
abbrev pub is_name_byte : ℕ → Bool
is_name_byte b = is_between 97 122 b || is_between 48 57 b || b == 45 || b == 95 || b == 46

-- a node's name has such bytes, from one to the limit
unfoldable pub is_node_name : List ℕ → Bool
is_node_name name = is_between 1 most_node_name_bytes (length name) && list_all is_name_byte name

-- an interface's name has such bytes, from one to its limit
unfoldable pub is_interface_name : List ℕ → Bool
is_interface_name name = is_between 1 most_interface_name_bytes (length name) && list_all is_name_byte name

-- a byte of a key is printable ASCII other than the space
abbrev pub is_key_byte : ℕ → Bool
is_key_byte b = is_between 0x21 0x7e b

-- a key has such bytes, from one to the limit
unfoldable pub is_key : List ℕ → Bool
is_key key = is_between 1 most_key_bytes (length key) && list_all is_key_byte key

-- A value's originator is a node's name, its bytes are within their limit, its version is at least 1, its TTL, if it has one,
-- at least a millisecond, and each number is within its limit.
unfoldable pub is_valid_value : KvValue → Bool
is_valid_value v =
    is_node_name v.originator && nat_le (length v.value) most_value_bytes && is_between 1 most_version v.version
    && option_map_or (is_between 1 most_lifetime) v.ttl true && nat_le v.ttl_version most_ttl_version

-- a pair is valid where its key and its value are within the limits
unfoldable pub is_valid_pair : Pair → Bool
is_valid_pair pair = is_key pair.key && is_valid_value pair.value

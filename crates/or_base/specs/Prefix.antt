use Rattle.std.specs.Prelude.{ℕ, ◌-◌, ◌%◌, ◌^◌, Bool, ◌&&◌, ◌==◌, nat_le, nat_lt, if◌then◌else◌}

-- how many bits an address has
abbrev pub address_bits : Bool → ℕ
address_bits v6 = if v6 then 128 else 32

-- the length and the bits are those of a prefix: the length and the number are within the address, and no bit past the
-- length is set
abbrev pub is_prefix : Bool → ℕ → ℕ → Bool
is_prefix v6 bits len =
    nat_le len (address_bits v6) && nat_lt bits (2 ^ address_bits v6) && bits % 2 ^ (address_bits v6 - len) == 0

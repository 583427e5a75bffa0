-- How a prefix is printed: IPv4 in dotted decimal, IPv6 by RFC 5952.
use Rattle.std.specs.Prelude.{ℕ, ◌+◌, ◌/◌, ◌%◌, ◌^◌, max, List, [], ◌∷◌, ◌++◌, Bool, ◌==◌, nat_lt, false, if◌then◌else◌, map, take, drop, codes}
use Rattle.std.specs.Fmt.{decimal, digits}

-- texts joined by a byte
abbrev pub join_texts : ℕ → List (List ℕ) → List ℕ
join_texts separator [] = []
join_texts separator (text ∷ []) = text
join_texts separator (text ∷ other ∷ others) = text ++ separator ∷ join_texts separator (other ∷ others)

-- the four numbers of an IPv4 address, and the eight groups of an IPv6 address, the highest first
abbrev pub octets : ℕ → List ℕ
octets bits = bits / 2 ^ 24 ∷ bits / 2 ^ 16 % 256 ∷ bits / 2 ^ 8 % 256 ∷ bits % 256 ∷ []

abbrev pub groups : ℕ → List ℕ
groups bits =
    bits / 2 ^ 112 ∷ bits / 2 ^ 96 % 65536 ∷ bits / 2 ^ 80 % 65536 ∷ bits / 2 ^ 64 % 65536 ∷ bits / 2 ^ 48 % 65536
    ∷ bits / 2 ^ 32 % 65536 ∷ bits / 2 ^ 16 % 65536 ∷ bits % 65536 ∷ []

-- how many groups of 0 groups begin with
abbrev pub zero_run : List ℕ → ℕ
zero_run [] = 0
zero_run (group ∷ others) = if group == 0 then zero_run others + 1 else 0

-- the length of the longest run of groups of 0
abbrev pub longest_run : List ℕ → ℕ
longest_run [] = 0
longest_run (group ∷ others) = max (zero_run (group ∷ others)) (longest_run others)

-- where the first run of this length begins
abbrev pub run_start : ℕ → List ℕ → ℕ
run_start run [] = 0
run_start run (group ∷ others) = if zero_run (group ∷ others) == run then 0 else run_start run others + 1

-- groups in lower case hexadecimal without leading zeros, joined by colons
abbrev pub group_text : List ℕ → List ℕ
group_text gs = join_texts 58 (map (digits 16 false) gs)

-- the longest run of at least two groups of 0, the first of equal runs, is written `::`
unfoldable pub v6_text : List ℕ → List ℕ
v6_text gs =
    let run = longest_run gs in
    let start = run_start run gs in
    if nat_lt run 2 then group_text gs
    else group_text (take start gs) ++ codes "::" ++ group_text (drop (start + run) gs)

unfoldable pub v4_text : List ℕ → List ℕ
v4_text os = join_texts 46 (map decimal os)

-- the address, `/` and the length
unfoldable pub prefix_text : Bool → ℕ → ℕ → List ℕ
prefix_text v6 bits len = (if v6 then v6_text (groups bits) else v4_text (octets bits)) ++ codes "/" ++ decimal len

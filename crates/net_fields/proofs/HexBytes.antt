-- A hexadecimal text says at most half as many bytes as it has digits.
use Rattle.std.proofs.Common.{ℕ, suc, ◌+◌, ◌*◌, ◌%◌, ◌≤◌, List, [], ◌∷◌, length, Bool, true, false, cond, ◌==◌, unwrap_or, Result, Ok, Err, arith}
use Rattle.hex.specs.Hex.{decode_pairs, pair_value, ◌>>=◌}
use Rattle.hex.specs.declared.error.FromHexError.{FromHexError}
use Rattle.net_fields.specs.Forms.{bytes_or_none, hex_bytes}

abbrev bytes_said : Result (List ℕ) FromHexError → List ℕ
bytes_said r = unwrap_or (bytes_or_none r) []

half_more : (byte : Result ℕ FromHexError) (bytes : Result (List ℕ) FromHexError) (n : ℕ) → length (bytes_said bytes) * 2 ≤ n
    → length (bytes_said (byte >>= (λ b. bytes >>= (λ bs. Ok (b ∷ bs))))) * 2 ≤ suc (suc n)
half_more (Ok b) (Ok bs) n h = omega arith
half_more (Ok b) (Err e) n h = omega arith
half_more (Err e) bytes n h = omega arith

half_pairs : (i : ℕ) (text : List ℕ) → length (bytes_said (decode_pairs i text)) * 2 ≤ length text
unfolding decode_pairs
half_pairs i [] = omega arith
half_pairs i (digit ∷ []) = omega arith
half_pairs i (high ∷ low ∷ rest) = half_more (pair_value high low i) (decode_pairs (i + 2) rest) (length rest) (half_pairs (i + 2) rest)

half_if : (odd : Bool) (fault : FromHexError) (r : Result (List ℕ) FromHexError) (n : ℕ) → length (bytes_said r) * 2 ≤ n → length (bytes_said (cond odd (Err fault) r)) * 2 ≤ n
half_if true fault r n h = omega arith
half_if false fault r n h = h

-- at most half as many as digits
pub half_said : (text : List ℕ) → length (unwrap_or (hex_bytes text) []) * 2 ≤ length text
unfolding hex_bytes
half_said text = half_if (length text % 2 == 1) _ (decode_pairs 0 text) (length text) (half_pairs 0 text)

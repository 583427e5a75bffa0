-- Texts of names, numbers and prefixes are ASCII.
use Rattle.std.proofs.Common.{◌≡◌, ℕ, zero, suc, ◌/◌, ◌%◌, ◌+◌, ◌==◌, ◌<◌, Bool, true, false, cond, nat_lt, List, [], ◌∷◌, ◌++◌, map, take, drop, refl, arith, IsUtf8, lt-ltb, decimal, codes}
use Rattle.std.specs.List.{list_all}
use Rattle.std.specs.Fmt.{digits, digits_onto, digit_glyph}
use Rattle.std.proofs.lemmas.Bool.{and_parts, and_from}
use Rattle.std.proofs.lemmas.Bool.Decides.{nat_tests}
use Rattle.json.proofs.Printed.Utf8.{are_ascii, IsUtf8-are_ascii}
use Rattle.or_base.specs.Limits.{is_name_byte, is_node_name, is_interface_name}
use Rattle.or_prefix.specs.Printing.{join_texts, longest_run, run_start, group_text, groups, octets, v4_text, v6_text, prefix_text}

are_ascii-append : (xs ys : List ℕ) → are_ascii xs ≡ true → are_ascii ys ≡ true → are_ascii (xs ++ ys) ≡ true
are_ascii-append [] ys first second = second
are_ascii-append (x ∷ xs) ys first second =
    let parts = and_parts _ _ first in and_from _ _ parts.0 (are_ascii-append xs ys parts.1 second)

-- ---- names

name_byte : (b : ℕ) → is_name_byte b ≡ true → nat_lt b 128 ≡ true
name_byte b name = grind (arith, nat_tests)

name_bytes : (name : List ℕ) → list_all is_name_byte name ≡ true → are_ascii name ≡ true
name_bytes [] all = refl
name_bytes (b ∷ name) all = let parts = and_parts _ _ all in and_from _ _ (name_byte b parts.0) (name_bytes name parts.1)

pub node_name_utf8 : (name : List ℕ) → is_node_name name ≡ true → IsUtf8 name
unfolding is_node_name
node_name_utf8 name is = IsUtf8-are_ascii name (name_bytes name (and_parts _ _ is).1)

pub interface_name_utf8 : (name : List ℕ) → is_interface_name name ≡ true → IsUtf8 name
unfolding is_interface_name
interface_name_utf8 name is = IsUtf8-are_ascii name (name_bytes name (and_parts _ _ is).1)

-- ---- numbers

glyph_if : (d : ℕ) (test : Bool) → nat_lt d 10 ≡ test → d < 16 → nat_lt (cond test (48 + d) (87 + d)) 128 ≡ true
glyph_if d true known small = lt-ltb _ _ (omega arith)
glyph_if d false known small = lt-ltb _ _ (omega arith)

either_ascii : (test : Bool) (xs ys : List ℕ) → are_ascii xs ≡ true → are_ascii ys ≡ true → are_ascii (cond test xs ys) ≡ true
either_ascii true xs ys first second = first
either_ascii false xs ys first second = second

module _ (base : ℕ) (small : (n : ℕ) → n % base < 16) where
  digits_onto_ascii : (k n : ℕ) (after : List ℕ) → are_ascii after ≡ true → are_ascii (digits_onto k base false n after) ≡ true
  digits_onto_ascii zero n after ascii = ascii
  digits_onto_ascii (suc k) n after ascii =
      let more : List ℕ = digit_glyph false (n % base) ∷ after in
      let and_more : are_ascii more ≡ true = and_from _ _ (glyph_if (n % base) (nat_lt (n % base) 10) refl (small n)) ascii in
      either_ascii (n / base == 0) more _ and_more (digits_onto_ascii k (n / base) more and_more)

pub decimal_ascii : (n : ℕ) → are_ascii (decimal n) ≡ true
unfolding digits
decimal_ascii n = digits_onto_ascii 10 (λ m. omega arith) 64 n [] refl

hex_ascii : (n : ℕ) → are_ascii (digits 16 false n) ≡ true
unfolding digits
hex_ascii n = digits_onto_ascii 16 (λ m. omega arith) 64 n [] refl

-- ---- prefixes

module _ (separator : ℕ) (small : nat_lt separator 128 ≡ true) (one : ℕ → List ℕ) (ascii : (n : ℕ) → are_ascii (one n) ≡ true) where
  joined_ascii : (ns : List ℕ) → are_ascii (join_texts separator (map one ns)) ≡ true
  joined_ascii [] = refl
  joined_ascii (n ∷ []) = ascii n
  joined_ascii (n ∷ m ∷ ns) = are_ascii-append (one n) _ (ascii n) (and_from _ _ small (joined_ascii (m ∷ ns)))

group_text_ascii : (gs : List ℕ) → are_ascii (group_text gs) ≡ true
group_text_ascii gs = joined_ascii 58 refl (digits 16 false) hex_ascii gs

v6_ascii : (gs : List ℕ) → are_ascii (v6_text gs) ≡ true
unfolding v6_text
v6_ascii gs =
    let run = longest_run gs in
    let start = run_start run gs in
    let before = group_text (take start gs) in
    let behind = group_text (drop (start + run) gs) in
    either_ascii (nat_lt run 2) (group_text gs) ((before ++ codes "::") ++ behind) (group_text_ascii gs)
    (are_ascii-append (before ++ codes "::") behind
    (are_ascii-append before (codes "::") (group_text_ascii (take start gs)) refl) (group_text_ascii (drop (start + run) gs)))

v4_ascii : (os : List ℕ) → are_ascii (v4_text os) ≡ true
unfolding v4_text
v4_ascii os = joined_ascii 46 refl decimal decimal_ascii os

pub prefix_ascii : (v6 : Bool) (bits len : ℕ) → are_ascii (prefix_text v6 bits len) ≡ true
unfolding prefix_text
prefix_ascii v6 bits len =
    let address = cond v6 (v6_text (groups bits)) (v4_text (octets bits)) in
    are_ascii-append (address ++ codes "/") (decimal len)
    (are_ascii-append address (codes "/")
    (either_ascii v6 (v6_text (groups bits)) (v4_text (octets bits)) (v6_ascii (groups bits)) (v4_ascii (octets bits))) refl)
    (decimal_ascii len)

pub prefix_utf8 : (v6 : Bool) (bits len : ℕ) → IsUtf8 (prefix_text v6 bits len)
prefix_utf8 v6 bits len = IsUtf8-are_ascii _ (prefix_ascii v6 bits len)

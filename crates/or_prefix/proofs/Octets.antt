-- Four octets between dots, and a text before its length; the last piece may have a separator yet.
use Rattle.std.proofs.Common.{◌≡◌, ℕ, ◌+◌, ◌*◌, ◌≤◌, ◌==◌, Bool, true, false, ◌&&◌, ◌||◌, cond, List, [], ◌∷◌, length, Option, Some, None, refl, sym, ap, ◌∙◌, arith}
use Rattle.std.specs.List.{list_all, list_any}
use Rattle.std.specs.Option.{option_map}
use Rattle.std.proofs.lemmas.Bool.{and_left, and_right, eqb-true}
use Rattle.std.proofs.lemmas.Bool.Decides.{nat_tests}
use Rattle.or_prefix.specs.Reading.{AddressAndLength, pieces, with_byte_before, is_digit, is_short_decimal, decimal_value, is_octet, v4_address, has_colon, address_of, address_and_length_from}

abbrev has : ℕ → List ℕ → Bool
has separator text = list_any (λ b. b == separator) text

one_piece_if : (separator b : ℕ) (text : List ℕ) (test : Bool) → (test || has separator text) ≡ false
    → (has separator text ≡ false → pieces separator text ≡ text ∷ [])
    → cond test ([] ∷ pieces separator text) (with_byte_before b (pieces separator text)) ≡ (b ∷ text) ∷ []
one_piece_if separator b text true none rest = cc
one_piece_if separator b text false none rest = ap (with_byte_before b) (rest none)

-- without a separator the text is the only piece
one_piece : (separator : ℕ) (text : List ℕ) → has separator text ≡ false → pieces separator text ≡ text ∷ []
one_piece separator [] none = refl
one_piece separator (b ∷ text) none = one_piece_if separator b text (b == separator) none (one_piece separator text)

length-with_first : (b : ℕ) (texts : List (List ℕ)) → 1 ≤ length texts → length (with_byte_before b texts) ≡ length texts
length-with_first b [] some = absurd (omega arith)
length-with_first b (text ∷ texts) some = refl

one_at_least : (b : ℕ) (texts : List (List ℕ)) → 1 ≤ length (with_byte_before b texts)
one_at_least b [] = omega arith
one_at_least b (text ∷ texts) = omega arith

some_piece_if : (b : ℕ) (texts : List (List ℕ)) (test : Bool) → 1 ≤ length (cond test ([] ∷ texts) (with_byte_before b texts))
some_piece_if b texts true = omega arith
some_piece_if b texts false = one_at_least b texts

some_piece : (separator : ℕ) (text : List ℕ) → 1 ≤ length (pieces separator text)
some_piece separator [] = omega arith
some_piece separator (b ∷ text) = some_piece_if b (pieces separator text) (b == separator)

two_pieces_if : (separator b : ℕ) (text : List ℕ) (test : Bool) → (test || has separator text) ≡ true
    → (has separator text ≡ true → 2 ≤ length (pieces separator text))
    → 2 ≤ length (cond test ([] ∷ pieces separator text) (with_byte_before b (pieces separator text)))
two_pieces_if separator b text true some rest = omega (arith, some_piece separator text)
two_pieces_if separator b text false some rest =
    omega (arith, length-with_first b (pieces separator text) (some_piece separator text), rest some)

-- with a separator there are two pieces or more
two_pieces : (separator : ℕ) (text : List ℕ) → has separator text ≡ true → 2 ≤ length (pieces separator text)
two_pieces separator [] some = cc
two_pieces separator (b ∷ text) some = two_pieces_if separator b text (b == separator) some (two_pieces separator text)

not_all_if : (separator b : ℕ) (text : List ℕ) (test : Bool) → (b == separator) ≡ test → is_digit separator ≡ false
    → (test || has separator text) ≡ true → (has separator text ≡ true → list_all is_digit text ≡ false)
    → (is_digit b && list_all is_digit text) ≡ false
not_all_if separator b text true is other some rest =
    and_left (is_digit b) (list_all is_digit text) (ap is_digit (eqb-true b separator is) ∙ other)
not_all_if separator b text false is other some rest = and_right (is_digit b) (list_all is_digit text) (rest some)

-- a text with a separator isn't all digits
not_all_digits : (separator : ℕ) (text : List ℕ) → is_digit separator ≡ false → has separator text ≡ true → list_all is_digit text ≡ false
not_all_digits separator [] other some = cc
not_all_digits separator (b ∷ text) other some = not_all_if separator b text (b == separator) refl other some (not_all_digits separator text other)

not_short : (separator : ℕ) (text : List ℕ) → is_digit separator ≡ false → has separator text ≡ true → is_short_decimal text ≡ false
not_short separator text other some = let h = not_all_digits separator text other some in grind (arith, nat_tests)

not_octet : (text : List ℕ) → has 46 text ≡ true → is_octet text ≡ false
not_octet text some = and_left (is_short_decimal text) _ (not_short 46 text refl some)

number : List ℕ → List ℕ → List ℕ → List ℕ → ℕ
number a b c d = (decimal_value a * 256 + decimal_value b) * 65536 + (decimal_value c * 256 + decimal_value d)

four : (a b c d : List ℕ) → v4_address (a ∷ b ∷ c ∷ d ∷ []) ≡ cond (list_all is_octet (a ∷ b ∷ c ∷ d ∷ [])) (Some (number a b c d)) None
unfolding v4_address number
four a b c d = ap (λ n. cond (list_all is_octet (a ∷ b ∷ c ∷ d ∷ [])) (Some n) None) (omega arith)

more : (a b c : List ℕ) (others : List (List ℕ)) → 2 ≤ length others → v4_address (a ∷ b ∷ c ∷ others) ≡ None
unfolding v4_address
more a b c others many =
    let five : (length (a ∷ b ∷ c ∷ others) == 4) ≡ false = grind (arith, nat_tests) in
    rw five refl

last_not : (a b c d : List ℕ) → is_octet d ≡ false → list_all is_octet (a ∷ b ∷ c ∷ d ∷ []) ≡ false
last_not a b c d failed =
    and_right (is_octet a) _ (and_right (is_octet b) _ (and_right (is_octet c) _ (and_left (is_octet d) true failed)))

v4_if : (a b c d : List ℕ) (test : Bool) → has 46 d ≡ test
    → v4_address (a ∷ b ∷ c ∷ pieces 46 d) ≡ cond (list_all is_octet (a ∷ b ∷ c ∷ d ∷ [])) (Some (number a b c d)) None
v4_if a b c d true is =
    more a b c (pieces 46 d) (two_pieces 46 d is)
    ∙ sym (ap (λ t. cond t (Some (number a b c d)) None) (last_not a b c d (not_octet d is)))
v4_if a b c d false is = ap (λ ps. v4_address (a ∷ b ∷ c ∷ ps)) (one_piece 46 d is) ∙ four a b c d

-- the fourth octet is all that is left
pub v4_parts : (a b c d : List ℕ) → v4_address (a ∷ b ∷ c ∷ pieces 46 d)
    ≡ cond (is_octet a && (is_octet b && (is_octet c && (is_octet d && true))))
    (Some ((decimal_value a * 256 + decimal_value b) * 65536 + (decimal_value c * 256 + decimal_value d))) None
unfolding number
v4_parts a b c d = v4_if a b c d (has 46 d) refl

-- too few octets
pub v4_one : (a : List ℕ) → v4_address (a ∷ []) ≡ None
unfolding v4_address
v4_one a = refl

pub v4_two : (a b : List ℕ) → v4_address (a ∷ b ∷ []) ≡ None
unfolding v4_address
v4_two a b = refl

pub v4_three : (a b c : List ℕ) → v4_address (a ∷ b ∷ c ∷ []) ≡ None
unfolding v4_address
v4_three a b c = refl

pub ruleset v4_steps = (v4_parts, v4_one, v4_two, v4_three)

two_parts_of : List ℕ → List ℕ → Option AddressAndLength
two_parts_of address len = option_map (λ bits. record { v6 = has_colon address; bits = bits; len = decimal_value len }) (address_of address)

too_many_parts : (address : List ℕ) (others : List (List ℕ)) → 2 ≤ length others → address_and_length_from (address ∷ others) ≡ None
too_many_parts address [] many = absurd (omega arith)
too_many_parts address (len ∷ []) many = absurd (omega arith)
too_many_parts address (len ∷ other ∷ others) many = refl

two_parts_if : (address len : List ℕ) (test : Bool) → has 47 len ≡ test
    → address_and_length_from (address ∷ pieces 47 len) ≡ cond (is_short_decimal len) (two_parts_of address len) None
unfolding two_parts_of
two_parts_if address len true is =
    too_many_parts address (pieces 47 len) (two_pieces 47 len is)
    ∙ sym (ap (λ t. cond t (two_parts_of address len) None) (not_short 47 len refl is))
two_parts_if address len false is = ap (λ ps. address_and_length_from (address ∷ ps)) (one_piece 47 len is)

-- the length is all that is left
pub two_parts : (address len : List ℕ) → address_and_length_from (address ∷ pieces 47 len)
    ≡ cond (is_short_decimal len) (option_map (λ bits. record { v6 = has_colon address; bits = bits; len = decimal_value len }) (address_of address)) None
unfolding two_parts_of
two_parts address len = two_parts_if address len (has 47 len) refl

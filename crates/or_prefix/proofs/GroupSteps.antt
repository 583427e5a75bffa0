-- Groups read one after another, and the number that they make.
use Rattle.std.proofs.Common.{◌≡◌, ℕ, ◌+◌, ◌*◌, ◌^◌, ◌≤◌, ◌<◌, Bool, true, false, ◌&&◌, cond, List, [], ◌∷◌, length, Option, Some, None, refl, sym, ap, ◌∙◌, arith, lit<}
use Rattle.std.specs.Prelude.{nat_lt, nat_le, fold, map}
use Rattle.std.specs.List.{list_all}
use Rattle.std.proofs.lemmas.Bool.{and_right, ltb-true, ltb-false, lt-leb, le-leb}
use Rattle.std.proofs.Math.Nat.{pow-le-pow_right, mul_comm}
use Rattle.std.proofs.lemmas.Grind.{pow_more}
use Rattle.std.proofs.lemmas.List.{length-map}
use Rattle.or_prefix.specs.Reading.{pieces, is_group, group_value, groups_in}
use Rattle.or_prefix.specs.Steps.{value_and_count_in}

-- the number and the count after more pieces, of which each is a group
abbrev pub groups_after : ℕ → ℕ → List (List ℕ) → Option (ℕ × ℕ)
groups_after bits count [] = Some (bits, count)
groups_after bits count (piece ∷ others) =
    cond (is_group piece && nat_lt count 8) (groups_after (65536 * bits + group_value piece) (count + 1) others) None

after_value : ℕ → List (List ℕ) → ℕ
after_value bits texts = fold (λ n g. 65536 * n + g) bits (map group_value texts)

outcome : ℕ → ℕ → List (List ℕ) → Option (ℕ × ℕ)
outcome bits total texts = cond (list_all is_group texts && nat_le total 8) (Some (after_value bits texts, total)) None

abbrev some_of : ℕ → ℕ → Option (ℕ × ℕ)
some_of bits count = Some (bits, count)

none_left : (bits count total : ℕ) → count ≤ 8 → total ≡ count → some_of bits count ≡ cond (nat_le total 8) (some_of bits total) None
none_left bits count total few same =
    ap (some_of bits) (sym same) ∙ sym (ap (λ t. cond t (some_of bits total) None) (le-leb total 8 (omega arith)))

one_more : (bits count total : ℕ) (text : List ℕ) (texts : List (List ℕ)) (group room : Bool) → nat_lt count 8 ≡ room
    → (count < 8 → groups_after (65536 * bits + group_value text) (count + 1) texts ≡ outcome (65536 * bits + group_value text) total texts)
    → (8 ≤ count → nat_le total 8 ≡ false)
    → cond (group && room) (groups_after (65536 * bits + group_value text) (count + 1) texts) None
    ≡ cond ((group && list_all is_group texts) && nat_le total 8) (Some (after_value (65536 * bits + group_value text) texts, total)) None
unfolding outcome
one_more bits count total text texts false room is go stop = refl
one_more bits count total text texts true true is go stop = go (ltb-true count 8 is)
one_more bits count total text texts true false is go stop =
    sym (ap (λ t. cond t (Some (after_value (65536 * bits + group_value text) texts, total)) None)
    (and_right (list_all is_group texts) (nat_le total 8) (stop (ltb-false count 8 is))))

groups_after_is : (texts : List (List ℕ)) (bits count total : ℕ) → count ≤ 8 → total ≡ count + length texts
    → groups_after bits count texts ≡ outcome bits total texts
unfolding outcome after_value
groups_after_is [] bits count total few sum = none_left bits count total few (omega arith)
groups_after_is (text ∷ texts) bits count total few sum =
    one_more bits count total text texts (is_group text) (nat_lt count 8) refl
    (λ room. groups_after_is texts (65536 * bits + group_value text) (count + 1) total (omega arith) (omega arith))
    (λ full. lt-leb total 8 (omega arith))

counted_if : (texts : List (List ℕ)) (test : Bool)
    → cond (test && nat_le (length texts) 8) (Some (after_value 0 texts, length texts)) None
    ≡ value_and_count_in (cond test (Some (map group_value texts)) None)
unfolding after_value
counted_if texts false = refl
counted_if texts true = rw (length-map texts group_value) refl

-- all the pieces of a text
pub groups_after_all : (text : List ℕ) → groups_after 0 0 (pieces 58 text) ≡ value_and_count_in (groups_in text)
unfolding groups_in outcome
groups_after_all text =
    groups_after_is (pieces 58 text) 0 0 (length (pieces 58 text)) (omega arith) (omega arith)
    ∙ counted_if (pieces 58 text) (list_all is_group (pieces 58 text))

-- one group more fits
pub room_for_group : (count : ℕ) → count < 8 → (65536 ^ count ≤ 2 ^ 112) × (65536 ^ (count + 1) ≡ 65536 * 65536 ^ count)
room_for_group count room =
    let short : count ≤ 7 = omega arith in
    let most : 65536 ^ count ≤ 65536 ^ 7 = pow-le-pow_right (lit< tt) short in
    (most, pow_more 65536 count ∙ mul_comm (65536 ^ count) 65536)

-- Addresses that were printed are read again.
use Rattle.std.proofs.Common.{◌≡◌, ℕ, zero, suc, ◌+◌, ◌-◌, ◌*◌, ◌/◌, ◌%◌, ◌^◌, ◌<◌, ◌≤◌, Bool, true, false, cond, List, [], ◌∷◌, ◌++◌, length, map, take, drop, Option, Some, None, refl, sym, ap, ◌∙◌, append_assoc, length-append, arith, lt-ltb, le-leb, codes, decimal, replicate}
use Rattle.std.specs.Prelude.{fold, nat_lt}
use Rattle.std.specs.List.{list_all}
use Rattle.std.specs.Option.{option_map, option_and_then}
use Rattle.std.specs.Fmt.{digits}
use Rattle.std.proofs.lemmas.Bool.{and_parts, and_from, ltb-false, eq-eqb}
use Rattle.std.proofs.lemmas.List.{length-replicate}
use Rattle.or_prefix.specs.Reading.{is_digit, is_octet, decimal_value, is_hex_digit, is_group, pieces, v4_address, groups_beside, all_groups, filled_groups, groups_around, around_double, v6_address, has_colon, address_of}
use Rattle.or_prefix.specs.Printing.{join_texts, octets, groups, longest_run, run_start, group_text, v6_text, v4_text}
use Rattle.or_prefix.proofs.PrintedCuts.{has, has-append, has_behind, passing, pieces_joined, has_joined}
use Rattle.or_prefix.proofs.PrintedDigits.{octet_again, decimal_again}
use Rattle.or_prefix.proofs.PrintedDoubles.{are_groups, words_are_groups, no_double, double_found, groups_in_text, groups_beside_text}
use Rattle.or_prefix.proofs.PrintedRuns.{around_run}

-- what reading needs of an address's text
pub record IsAddress (v6 : Bool) (bits : ℕ) (text : List ℕ) : Type 0 where
  pub colon : has_colon text ≡ v6
  pub address : address_of text ≡ Some bits
  pub free : has 47 text ≡ false

-- ---- IPv4

octet_free : (byte : ℕ) → is_digit byte ≡ false → (word : List ℕ) → is_octet word ≡ true → has byte word ≡ false
octet_free byte other word is = passing is_digit byte word other (and_parts _ _ (and_parts _ _ (and_parts _ _ is).0).0).1

are_octets : (bits : ℕ) → bits < 2 ^ 32 → list_all is_octet (map decimal (octets bits)) ≡ true
are_octets bits small =
    and_from _ _ (octet_again (bits / 2 ^ 24) (omega arith))
    (and_from _ _ (octet_again (bits / 2 ^ 16 % 256) (omega arith))
    (and_from _ _ (octet_again (bits / 2 ^ 8 % 256) (omega arith)) (and_from _ _ (octet_again (bits % 256) (omega arith)) refl)))

v4_of : List (List ℕ) → Bool → Option ℕ
v4_of words test = cond test (Some (fold (λ n o. 256 * n + decimal_value o) 0 words)) None

v4_value : (bits : ℕ) → bits < 2 ^ 32 → fold (λ n o. 256 * n + decimal_value o) 0 (map decimal (octets bits)) ≡ bits
v4_value bits small =
    let a = decimal_again (bits / 2 ^ 24) (omega arith) in
    let b = decimal_again (bits / 2 ^ 16 % 256) (omega arith) in
    let c = decimal_again (bits / 2 ^ 8 % 256) (omega arith) in
    let d = decimal_again (bits % 256) (omega arith) in
    rw (a, b, c, d) (omega arith)

v4_again : (bits : ℕ) → bits < 2 ^ 32 → v4_address (pieces 46 (v4_text (octets bits))) ≡ Some bits
unfolding v4_text v4_address v4_of
v4_again bits small =
    let words = map decimal (octets bits) in
    let others = decimal (bits / 2 ^ 16 % 256) ∷ decimal (bits / 2 ^ 8 % 256) ∷ decimal (bits % 256) ∷ [] in
    ap v4_address (pieces_joined 46 is_octet (octet_free 46 refl) (decimal (bits / 2 ^ 24)) others (are_octets bits small))
    ∙ ap (v4_of words) (are_octets bits small) ∙ ap Some (v4_value bits small)

v4_is_address : (bits : ℕ) → bits < 2 ^ 32 → IsAddress false bits (v4_text (octets bits))
unfolding v4_text
v4_is_address bits small =
    let words = map decimal (octets bits) in
    let text = join_texts 46 words in
    let colon : has_colon text ≡ false = has_joined 46 58 is_octet (octet_free 58 refl) words refl (are_octets bits small) in
    record {
      colon = colon;
      address = ap (λ t. cond t (v6_address text) (v4_address (pieces 46 text))) colon ∙ v4_again bits small;
      free = has_joined 46 47 is_octet (octet_free 47 refl) words refl (are_octets bits small);
    }

-- ---- IPv6

take_groups : (count : ℕ) (gs : List ℕ) → are_groups gs ≡ true → are_groups (take count gs) ≡ true
take_groups zero gs all = refl
take_groups (suc count) [] all = refl
take_groups (suc count) (g ∷ gs) all = let parts = and_parts _ _ all in and_from _ _ parts.0 (take_groups count gs parts.1)

drop_groups : (count : ℕ) (gs : List ℕ) → are_groups gs ≡ true → are_groups (drop count gs) ≡ true
drop_groups zero gs all = all
drop_groups (suc count) [] all = refl
drop_groups (suc count) (g ∷ gs) all = drop_groups count gs (and_parts _ _ all).1

abbrev around_text : List ℕ → List ℕ → List ℕ
around_text before behind = (group_text before ++ codes "::") ++ group_text behind

whole_again : (gs : List ℕ) → length gs ≡ 8 → are_groups gs ≡ true → groups_around (around_double (group_text gs)) (group_text gs) ≡ Some gs
whole_again [] eight all = absurd (omega arith)
whole_again (g ∷ gs) eight all =
    ap (λ halves. groups_around halves (group_text (g ∷ gs))) (no_double (g ∷ gs) all)
    ∙ ap (option_and_then all_groups) (groups_in_text g gs all)
    ∙ ap (λ t. cond t (Some (g ∷ gs)) None) (eq-eqb (length (g ∷ gs)) 8 eight)

filled_again : (gs before behind : List ℕ) (run : ℕ) → length gs ≡ 8 → 2 ≤ run → gs ≡ before ++ (replicate run 0 ++ behind) → filled_groups before behind ≡ Some gs
filled_again gs before behind run eight long split =
    let sum : length gs ≡ length before + (run + length behind) =
    ap length split ∙ length-append before (replicate run 0 ++ behind)
    ∙ ap (λ n. length before + n) (length-append (replicate run 0) behind ∙ ap (λ n. n + length behind) (length-replicate run 0)) in
    let few : length before + length behind ≤ 7 = omega arith in
    let count : 8 - (length before + length behind) ≡ run = omega arith in
    ap (λ t. cond t (Some ((before ++ replicate (8 - (length before + length behind)) 0) ++ behind)) None) (le-leb _ 7 few)
    ∙ ap (λ n. Some ((before ++ replicate n 0) ++ behind)) count
    ∙ ap Some (append_assoc before (replicate run 0) behind ∙ sym split)

around_again : (gs before behind : List ℕ) (run : ℕ) → length gs ≡ 8 → 2 ≤ run → gs ≡ before ++ (replicate run 0 ++ behind)
    → are_groups before ≡ true → are_groups behind ≡ true
    → groups_around (around_double (around_text before behind)) (around_text before behind) ≡ Some gs
around_again gs before behind run eight long split first second =
    let text = around_text before behind in
    ap (λ xs. groups_around (around_double xs) text) (append_assoc (group_text before) (codes "::") (group_text behind))
    ∙ ap (λ halves. groups_around halves text) (double_found before (group_text behind) first)
    ∙ ap (option_and_then (λ b. option_and_then (λ h. filled_groups b h) (groups_beside (group_text behind)))) (groups_beside_text before first)
    ∙ ap (option_and_then (λ h. filled_groups before h)) (groups_beside_text behind second)
    ∙ filled_again gs before behind run eight long split

-- the text of groups, where the test says whether `::` stands for the run
text_if : Bool → ℕ → ℕ → List ℕ → List ℕ
text_if short start run gs = cond short (group_text gs) (around_text (take start gs) (drop (start + run) gs))

groups_again_if : (short : Bool) (start run : ℕ) (gs : List ℕ) → nat_lt run 2 ≡ short → length gs ≡ 8 → are_groups gs ≡ true
    → gs ≡ take start gs ++ (replicate run 0 ++ drop (start + run) gs)
    → groups_around (around_double (text_if short start run gs)) (text_if short start run gs) ≡ Some gs
unfolding text_if
groups_again_if true start run gs is eight all split = whole_again gs eight all
groups_again_if false start run gs is eight all split =
    around_again gs (take start gs) (drop (start + run) gs) run eight (ltb-false run 2 is) split (take_groups start gs all) (drop_groups (start + run) gs all)

colon_if : (short : Bool) (start run : ℕ) (gs : List ℕ) → length gs ≡ 8 → has 58 (text_if short start run gs) ≡ true
unfolding text_if
colon_if true start run [] eight = absurd (omega arith)
colon_if true start run (g ∷ []) eight = absurd (omega arith)
colon_if true start run (g ∷ h ∷ gs) eight = has_behind 58 (digits 16 false g) (58 ∷ group_text (h ∷ gs)) refl
colon_if false start run gs eight =
    ap (has 58) (append_assoc (group_text (take start gs)) (codes "::") (group_text (drop (start + run) gs)))
    ∙ has_behind 58 (group_text (take start gs)) (codes "::" ++ group_text (drop (start + run) gs)) refl

group_free : (word : List ℕ) → is_group word ≡ true → has 47 word ≡ false
group_free word is = passing is_hex_digit 47 word refl (and_parts _ _ is).1

free_groups : (gs : List ℕ) → are_groups gs ≡ true → has 47 (group_text gs) ≡ false
free_groups gs all = has_joined 58 47 is_group group_free (map (digits 16 false) gs) refl (words_are_groups gs all)

free_if : (short : Bool) (start run : ℕ) (gs : List ℕ) → are_groups gs ≡ true → has 47 (text_if short start run gs) ≡ false
unfolding text_if
free_if true start run gs all = free_groups gs all
free_if false start run gs all =
    has-append 47 (group_text (take start gs) ++ codes "::") (group_text (drop (start + run) gs))
    (has-append 47 (group_text (take start gs)) (codes "::") (free_groups _ (take_groups start gs all)) refl)
    (free_groups _ (drop_groups (start + run) gs all))

v6_value : (bits : ℕ) → fold (λ n g. 65536 * n + g) 0 (groups bits) ≡ bits
v6_value bits =
    let a : 65536 * (65536 * 0 + bits / 2 ^ 112) + bits / 2 ^ 96 % 65536 ≡ bits / 2 ^ 96 = omega arith in
    let b : 65536 * (bits / 2 ^ 96) + bits / 2 ^ 80 % 65536 ≡ bits / 2 ^ 80 = omega arith in
    let c : 65536 * (bits / 2 ^ 80) + bits / 2 ^ 64 % 65536 ≡ bits / 2 ^ 64 = omega arith in
    let d : 65536 * (bits / 2 ^ 64) + bits / 2 ^ 48 % 65536 ≡ bits / 2 ^ 48 = omega arith in
    let e : 65536 * (bits / 2 ^ 48) + bits / 2 ^ 32 % 65536 ≡ bits / 2 ^ 32 = omega arith in
    let f : 65536 * (bits / 2 ^ 32) + bits / 2 ^ 16 % 65536 ≡ bits / 2 ^ 16 = omega arith in
    let g : 65536 * (bits / 2 ^ 16) + bits % 65536 ≡ bits = omega arith in
    rw a (rw b (rw c (rw d (rw e (rw f g)))))

are_eight : (bits : ℕ) → bits < 2 ^ 128 → are_groups (groups bits) ≡ true
are_eight bits small =
    let less : (n : ℕ) → nat_lt (n % 65536) 65536 ≡ true = λ n. lt-ltb _ _ (omega arith) in
    and_from _ _ (lt-ltb (bits / 2 ^ 112) 65536 (omega arith))
    (and_from _ _ (less (bits / 2 ^ 96)) (and_from _ _ (less (bits / 2 ^ 80)) (and_from _ _ (less (bits / 2 ^ 64))
    (and_from _ _ (less (bits / 2 ^ 48)) (and_from _ _ (less (bits / 2 ^ 32)) (and_from _ _ (less (bits / 2 ^ 16)) (and_from _ _ (less bits) refl)))))))

v6_is_address : (bits : ℕ) → bits < 2 ^ 128 → IsAddress true bits (v6_text (groups bits))
unfolding v6_text v6_address text_if
v6_is_address bits small =
    let gs = groups bits in
    let run = longest_run gs in
    let start = run_start run gs in
    let all = are_eight bits small in
    let text = text_if (nat_lt run 2) start run gs in
    let colon : has_colon text ≡ true = colon_if (nat_lt run 2) start run gs refl in
    record {
      colon = colon;
      address = ap (λ t. cond t (v6_address text) (v4_address (pieces 46 text))) colon
          ∙ ap (option_map (fold (λ n g. 65536 * n + g) 0)) (groups_again_if (nat_lt run 2) start run gs refl refl all (around_run gs))
          ∙ ap Some (v6_value bits);
      free = free_if (nat_lt run 2) start run gs all;
    }

pub is_address : (v6 : Bool) (bits : ℕ) → bits < 2 ^ cond v6 128 32 → IsAddress v6 bits (cond v6 (v6_text (groups bits)) (v4_text (octets bits)))
is_address true bits small = v6_is_address bits small
is_address false bits small = v4_is_address bits small

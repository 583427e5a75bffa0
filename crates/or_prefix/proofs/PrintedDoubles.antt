-- Where `::` stands in a text of groups, and the groups around it.
use Rattle.std.proofs.Common.{◌≡◌, ℕ, ◌==◌, Bool, true, false, ◌&&◌, cond, List, [], ◌∷◌, ◌++◌, map, Option, Some, None, refl, sym, ap, ap₂, ◌∙◌, append_assoc, append-nil, arith}
use Rattle.std.specs.Prelude.{nat_lt}
use Rattle.std.specs.List.{list_all}
use Rattle.std.specs.Option.{option_map}
use Rattle.std.specs.Fmt.{digits}
use Rattle.std.proofs.lemmas.Bool.{and_parts, and_from, ltb-true}
use Rattle.std.proofs.lemmas.Bool.Decides.{nat_tests}
use Rattle.or_prefix.specs.Reading.{is_hex_digit, is_group, group_value, groups_in, groups_beside, at_double, with_front, around_double}
use Rattle.or_prefix.specs.Printing.{join_texts, group_text}
use Rattle.or_prefix.proofs.PrintedCuts.{has, passing, pieces_joined}
use Rattle.or_prefix.proofs.PrintedDigits.{group_again, is_group_again}

-- bytes in front of what stands before `::`
abbrev in_front : List ℕ → Option (List ℕ × List ℕ) → Option (List ℕ × List ℕ)
in_front bytes halves = option_map (λ h. (bytes ++ h.0, h.1)) halves

in_front_of_none : (halves : Option (List ℕ × List ℕ)) → halves ≡ in_front [] halves
in_front_of_none None = refl
in_front_of_none (Some halves) = refl

in_front_more : (b : ℕ) (bytes : List ℕ) (halves : Option (List ℕ × List ℕ)) → with_front b (in_front bytes halves) ≡ in_front (b ∷ bytes) halves
in_front_more b bytes None = refl
in_front_more b bytes (Some halves) = refl

in_front_twice : (word bytes : List ℕ) (halves : Option (List ℕ × List ℕ)) → in_front word (in_front bytes halves) ≡ in_front (word ++ bytes) halves
in_front_twice word bytes None = refl
in_front_twice word bytes (Some halves) = ap (λ xs. Some (xs, halves.1)) (sym (append_assoc word bytes halves.0))

abbrev begins_with_colon : List ℕ → Bool
begins_with_colon [] = false
begins_with_colon (b ∷ text) = b == 58

colon_other : (b : ℕ) → is_hex_digit b ≡ true → (b == 58) ≡ false
colon_other b hex = grind (arith, nat_tests)

other_passed : (b : ℕ) (text : List ℕ) (later : Option (List ℕ × List ℕ)) → (b == 58) ≡ false → at_double b text later ≡ with_front b later
other_passed b [] later other = refl
other_passed b (c ∷ text) later other = ap (λ t. cond (t && (c == 58)) (Some ([], text)) (with_front b later)) other

colon_passed : (text : List ℕ) → begins_with_colon text ≡ false → around_double (58 ∷ text) ≡ with_front 58 (around_double text)
colon_passed [] other = refl
colon_passed (c ∷ text) other = ap (λ t. cond t (Some ([], text)) (with_front 58 (around_double (c ∷ text)))) other

word_passed : (word rest : List ℕ) → list_all is_hex_digit word ≡ true → around_double (word ++ rest) ≡ in_front word (around_double rest)
word_passed [] rest all = in_front_of_none (around_double rest)
word_passed (b ∷ word) rest all =
    let parts = and_parts _ _ all in
    other_passed b (word ++ rest) (around_double (word ++ rest)) (colon_other b parts.0)
    ∙ ap (with_front b) (word_passed word rest parts.1) ∙ in_front_more b word (around_double rest)

group_begins : (word rest : List ℕ) → is_group word ≡ true → begins_with_colon (word ++ rest) ≡ false
group_begins [] rest is = absurd cc
group_begins (b ∷ word) rest is = colon_other b (and_parts _ _ (and_parts _ _ is).1).0

joined_begins : (word : List ℕ) (words : List (List ℕ)) (rest : List ℕ) → is_group word ≡ true → begins_with_colon (join_texts 58 (word ∷ words) ++ rest) ≡ false
joined_begins word [] rest is = group_begins word rest is
joined_begins word (next ∷ words) rest is =
    ap begins_with_colon (append_assoc word (58 ∷ join_texts 58 (next ∷ words)) rest) ∙ group_begins word ((58 ∷ join_texts 58 (next ∷ words)) ++ rest) is

-- no `::` stands in a text of groups
no_double_in : (words : List (List ℕ)) (rest : List ℕ) → list_all is_group words ≡ true → around_double (join_texts 58 words ++ rest) ≡ in_front (join_texts 58 words) (around_double rest)
no_double_in [] rest all = in_front_of_none (around_double rest)
no_double_in (word ∷ []) rest all = word_passed word rest (and_parts _ _ (and_parts _ _ all).0).1
no_double_in (word ∷ next ∷ words) rest all =
    let parts = and_parts _ _ all in
    let more = join_texts 58 (next ∷ words) in
    ap around_double (append_assoc word (58 ∷ more) rest)
    ∙ word_passed word (58 ∷ (more ++ rest)) (and_parts _ _ parts.0).1
    ∙ ap (in_front word) (colon_passed (more ++ rest) (joined_begins next words rest (and_parts _ _ parts.1).0) ∙ ap (with_front 58) (no_double_in (next ∷ words) rest parts.1) ∙ in_front_more 58 more (around_double rest))
    ∙ in_front_twice word (58 ∷ more) (around_double rest)

-- ---- groups that were printed

abbrev pub are_groups : List ℕ → Bool
are_groups gs = list_all (λ g. nat_lt g 65536) gs

pub words_are_groups : (gs : List ℕ) → are_groups gs ≡ true → list_all is_group (map (digits 16 false) gs) ≡ true
words_are_groups [] all = refl
words_are_groups (g ∷ gs) all =
    let parts = and_parts _ _ all in
    and_from _ _ (is_group_again g (ltb-true g 65536 parts.0)) (words_are_groups gs parts.1)

values_again : (gs : List ℕ) → are_groups gs ≡ true → map group_value (map (digits 16 false) gs) ≡ gs
values_again [] all = refl
values_again (g ∷ gs) all =
    let parts = and_parts _ _ all in
    ap₂ (λ (h : ℕ) (hs : List ℕ). h ∷ hs) (group_again g (ltb-true g 65536 parts.0)) (values_again gs parts.1)

pub no_double : (gs : List ℕ) → are_groups gs ≡ true → around_double (group_text gs) ≡ None
no_double gs all = ap around_double (sym (append-nil (group_text gs))) ∙ no_double_in (map (digits 16 false) gs) [] (words_are_groups gs all)

pub double_found : (before : List ℕ) (rest : List ℕ) → are_groups before ≡ true → around_double (group_text before ++ 58 ∷ 58 ∷ rest) ≡ Some (group_text before, rest)
double_found before rest all =
    no_double_in (map (digits 16 false) before) (58 ∷ 58 ∷ rest) (words_are_groups before all) ∙ ap (λ xs. Some (xs, rest)) (append-nil (group_text before))

group_free : (word : List ℕ) → is_group word ≡ true → has 58 word ≡ false
group_free word is = passing is_hex_digit 58 word refl (and_parts _ _ is).1

in_words : (word : List ℕ) (words : List (List ℕ)) → list_all is_group (word ∷ words) ≡ true → groups_in (join_texts 58 (word ∷ words)) ≡ Some (map group_value (word ∷ words))
unfolding groups_in
in_words word words all =
    ap (λ ps. cond (list_all is_group ps) (Some (map group_value ps)) None) (pieces_joined 58 is_group group_free word words all)
    ∙ ap (λ t. cond t (Some (map group_value (word ∷ words))) None) all

pub groups_in_text : (g : ℕ) (gs : List ℕ) → are_groups (g ∷ gs) ≡ true → groups_in (group_text (g ∷ gs)) ≡ Some (g ∷ gs)
groups_in_text g gs all =
    in_words (digits 16 false g) (map (digits 16 false) gs) (words_are_groups (g ∷ gs) all) ∙ ap Some (values_again (g ∷ gs) all)

beside_words : (words : List (List ℕ)) → list_all is_group words ≡ true → groups_beside (join_texts 58 words) ≡ Some (map group_value words)
beside_words [] all = refl
beside_words ([] ∷ words) all = absurd cc
beside_words ((b ∷ word) ∷ []) all = in_words (b ∷ word) [] all
beside_words ((b ∷ word) ∷ next ∷ words) all = in_words (b ∷ word) (next ∷ words) all

pub groups_beside_text : (gs : List ℕ) → are_groups gs ≡ true → groups_beside (group_text gs) ≡ Some gs
groups_beside_text gs all = beside_words (map (digits 16 false) gs) (words_are_groups gs all) ∙ ap Some (values_again gs all)

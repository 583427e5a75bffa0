-- Where the first line of some bytes ends.
use Rattle.std.proofs.Common.{◌≡◌, ℕ, ◌+◌, ◌<◌, ◌≤◌, ◌==◌, min, List, [], ◌∷◌, ◌++◌, length, take, drop, get_or, true, false, if◌then◌else◌, refl, ap, sym, ◌∙◌, arith, append-nil}
use Rattle.std.proofs.lemmas.List.{drop_more, take_more, take_all, drop_all}
use Rattle.net_scenario.specs.Language.{with_first, lines_in, lines_from}

-- some bytes without LF in front of the first line
abbrev pub joined : List ℕ → List (List ℕ) → List (List ℕ)
joined [] texts = texts
joined (b ∷ bytes) texts = with_first b (joined bytes texts)

joined_more : (bytes : List ℕ) (b : ℕ) (texts : List (List ℕ)) → joined (bytes ++ b ∷ []) texts ≡ joined bytes (with_first b texts)
joined_more [] b texts = refl
joined_more (c ∷ bytes) b texts = ap (with_first c) (joined_more bytes b texts)

joined_first : (bytes text : List ℕ) (texts : List (List ℕ)) → joined bytes (text ∷ texts) ≡ (bytes ++ text) ∷ texts
joined_first [] text texts = refl
joined_first (b ∷ bytes) text texts = ap (with_first b) (joined_first bytes text texts)

joined_none : (bytes : List ℕ) → 0 < length bytes → joined bytes [] ≡ bytes ∷ []
joined_none [] some = absurd (omega arith)
joined_none (b ∷ []) some = refl
joined_none (b ∷ c ∷ bytes) some = ap (with_first b) (joined_none (c ∷ bytes) (omega arith))

-- the first so many bytes are of the first line
pub record IsFront (bytes : List ℕ) (count : ℕ) : Type 0 where
  pub within : count ≤ length bytes
  pub front : lines_in bytes ≡ joined (take count bytes) (lines_in (drop count bytes))

pub front_none : (bytes : List ℕ) → IsFront bytes 0
front_none bytes = record { within = omega arith; front = refl }

pub front_more : (bytes : List ℕ) (count : ℕ) → IsFront bytes count → count < length bytes → (get_or bytes count 0 == 10) ≡ false → IsFront bytes (count + 1)
front_more bytes count f more other =
    let b = get_or bytes count 0 in
    let rest = drop (count + 1) bytes in
    let here : lines_in (drop count bytes) ≡ with_first b (lines_in rest) =
    ap lines_in (drop_more bytes count 0 more) ∙ ap (λ test. if test then [] ∷ lines_in rest else with_first b (lines_in rest)) other in
    record {
      within = omega arith;
      front =
          f.front ∙ ap (joined (take count bytes)) here ∙ sym (joined_more (take count bytes) b (lines_in rest))
          ∙ ap (λ front. joined front (lines_in rest)) (sym (take_more bytes count 0 more));
    }

-- the first line, where LF follows so many bytes
pub line_ends : (bytes : List ℕ) (count : ℕ) → IsFront bytes count → count < length bytes → (get_or bytes count 0 == 10) ≡ true
    → lines_in bytes ≡ take count bytes ∷ lines_in (drop (count + 1) bytes)
line_ends bytes count f more lf =
    let b = get_or bytes count 0 in
    let rest = drop (count + 1) bytes in
    let here : lines_in (drop count bytes) ≡ [] ∷ lines_in rest =
    ap lines_in (drop_more bytes count 0 more) ∙ ap (λ test. if test then [] ∷ lines_in rest else with_first b (lines_in rest)) lf in
    f.front ∙ ap (joined (take count bytes)) here ∙ joined_first (take count bytes) [] (lines_in rest)
    ∙ ap (λ text. text ∷ lines_in rest) (append-nil (take count bytes))

-- the first line, where none follows
pub bytes_end : (bytes : List ℕ) (count : ℕ) → IsFront bytes count → count ≡ length bytes → 0 < length bytes
    → lines_in bytes ≡ bytes ∷ lines_in (drop count bytes)
bytes_end bytes count f all some =
    let none : drop count bytes ≡ [] = drop_all count bytes (omega (arith, all)) in
    f.front ∙ ap (λ rest. joined (take count bytes) (lines_in rest)) none
    ∙ ap (λ front. joined front []) (take_all count bytes (omega (arith, all))) ∙ joined_none bytes some
    ∙ ap (λ rest. bytes ∷ lines_in rest) (sym none)

pub ruleset cuts = (front_none, front_more, line_ends, bytes_end)

-- ---- the lines that are left

-- where a line ends doesn't matter if no line follows
pub lines_from_next : (total number at after : ℕ) (text left rest : List ℕ) → lines_in left ≡ text ∷ lines_in rest → at + length left ≡ total
    → min (length text + 1) (length left) + length rest ≡ length left → after + length rest ≡ total
    → lines_from total number at (lines_in left) ≡ record { text = text; number = number; end = after } ∷ lines_from total (number + 1) after (lines_in rest)
lines_from_next total number at after text left [] cut all sum left_all =
    ap (lines_from total number at) cut
    ∙ ap (λ end. record { text = text; number = number; end = end } ∷ []) (omega (arith, all, sum, left_all))
lines_from_next total number at after text left (b ∷ rest) cut all sum left_all =
    let end : at + length text + 1 ≡ after = omega (arith, all, sum, left_all) in
    ap (lines_from total number at) cut
    ∙ ap (λ end. record { text = text; number = number; end = end } ∷ lines_from total (number + 1) (at + length text + 1) (lines_in (b ∷ rest))) (omega (arith, all, sum, left_all))
    ∙ ap (λ begin. record { text = text; number = number; end = after } ∷ lines_from total (number + 1) begin (lines_in (b ∷ rest))) end

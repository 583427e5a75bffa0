-- Where the first `::` stands.
use Rattle.std.proofs.Common.{◌≡◌, ℕ, ◌+◌, ◌<◌, ◌≤◌, ◌==◌, nat_eq, Bool, true, false, ◌&&◌, cond, List, [], ◌∷◌, ◌++◌, length, get_or, take, drop, Option, Some, None, refl, sym, ap, ◌∙◌, arith, append_assoc, append-nil}
use Rattle.std.specs.List.{starts_with}
use Rattle.std.specs.Option.{option_map}
use Rattle.std.proofs.lemmas.Bool.{and_parts, and_from, eqb-true, eq-eqb}
use Rattle.std.proofs.lemmas.Bool.Decides.{nat_tests}
use Rattle.std.proofs.lemmas.List.{drop_more, drop_all, take_more, drop-drop}
use Rattle.or_prefix.specs.Reading.{around_double, with_front}

abbrev begins : List ℕ → Bool
begins text = starts_with nat_eq text (58 ∷ 58 ∷ [])

front : (text : List ℕ) → begins text ≡ true → around_double text ≡ Some ([], drop 2 text)
front [] is = cc
front (b ∷ []) is = cc ((and_parts (nat_eq 58 b) false is).1)
front (b ∷ c ∷ bytes) is =
    let p = and_parts (nat_eq 58 b) (nat_eq 58 c && true) is in
    let q = and_parts (nat_eq 58 c) true p.1 in
    let both : (b == 58 && c == 58) ≡ true =
    and_from (b == 58) (c == 58) (eq-eqb b 58 (sym (eqb-true 58 b p.0))) (eq-eqb c 58 (sym (eqb-true 58 c q.0))) in
    ap (λ t. cond t (Some ([], bytes)) (with_front b (around_double (c ∷ bytes)))) both

later : (b : ℕ) (bytes : List ℕ) → begins (b ∷ bytes) ≡ false → around_double (b ∷ bytes) ≡ with_front b (around_double bytes)
later b [] is = refl
later b (c ∷ bytes) is =
    let not_both : (b == 58 && c == 58) ≡ false = grind (arith, nat_tests) in
    ap (λ t. cond t (Some ([], bytes)) (with_front b (around_double (c ∷ bytes)))) not_both

-- the bytes in front of what stands before `::`
abbrev pub in_front : List ℕ → Option (List ℕ × List ℕ) → Option (List ℕ × List ℕ)
in_front bytes halves = option_map (λ h. (bytes ++ h.0, h.1)) halves

in_front_more : (bytes : List ℕ) (b : ℕ) (halves : Option (List ℕ × List ℕ)) → in_front (bytes ++ b ∷ []) halves ≡ in_front bytes (with_front b halves)
in_front_more bytes b None = refl
in_front_more bytes b (Some halves) = ap (λ xs. Some (xs, halves.1)) (append_assoc bytes (b ∷ []) halves.0)

in_front_of_none : (halves : Option (List ℕ × List ℕ)) → in_front [] halves ≡ halves
in_front_of_none None = refl
in_front_of_none (Some halves) = refl

-- nothing is passed yet
pub double_start : (text : List ℕ) → in_front (take 0 text) (around_double (drop 0 text)) ≡ around_double text
double_start text = in_front_of_none (around_double text)

-- no `::` at this place
pub double_more : (text : List ℕ) (place : ℕ) → place < length text → starts_with nat_eq (drop place text) (58 ∷ 58 ∷ []) ≡ false
    → in_front (take (place + 1) text) (around_double (drop (place + 1) text)) ≡ in_front (take place text) (around_double (drop place text))
double_more text place within other =
    let first : ℕ = get_or text place 0 in
    let rest : List ℕ = drop (place + 1) text in
    let split : drop place text ≡ first ∷ rest = drop_more text place 0 within in
    ap (λ xs. in_front xs (around_double rest)) (take_more text place 0 within)
    ∙ in_front_more (take place text) first (around_double rest)
    ∙ ap (in_front (take place text)) (sym (later first rest (ap begins (sym split) ∙ other)) ∙ ap around_double (sym split))

-- `::` at this place
pub double_here : (text : List ℕ) (place : ℕ) → starts_with nat_eq (drop place text) (58 ∷ 58 ∷ []) ≡ true
    → in_front (take place text) (around_double (drop place text)) ≡ Some (take place text, drop (place + 2) text)
double_here text place is =
    ap (in_front (take place text)) (front (drop place text) is)
    ∙ ap (λ xs. Some (xs, drop 2 (drop place text))) (append-nil (take place text))
    ∙ ap (λ xs. Some (take place text, xs)) (drop-drop 2 place text)

-- all is passed
pub double_end : (text : List ℕ) (place : ℕ) → length text ≤ place → in_front (take place text) (around_double (drop place text)) ≡ None
double_end text place past = ap (λ xs. in_front (take place text) (around_double xs)) (drop_all place text past)

pub ruleset double_steps = (double_start, double_more, double_here, double_end)

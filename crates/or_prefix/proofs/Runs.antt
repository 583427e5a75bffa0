-- Runs of groups of 0, from a place on, and the text of groups.
use Rattle.std.proofs.Common.{◌≡◌, ℕ, suc, ◌+◌, ◌≤◌, ◌<◌, ◌==◌, max, Bool, true, false, cond, List, [], ◌∷◌, ◌++◌, length, get_or, drop, refl, sym, ap, ◌∙◌, arith, append_assoc, append-nil}
use Rattle.std.specs.Fmt.{digits}
use Rattle.std.proofs.lemmas.Bool.{eqb-false, eqb-true}
use Rattle.std.proofs.lemmas.List.{at_drop_more, at_drop_all, drop_more}
use Rattle.or_prefix.specs.Printing.{zero_run, longest_run, run_start, group_text}

pub zero_run_more : (gs : List ℕ) (i : ℕ) → i < length gs → zero_run (drop i gs) ≡ cond (get_or gs i 0 == 0) (zero_run (drop (i + 1) gs) + 1) 0
zero_run_more gs i within = at_drop_more zero_run gs i 0 within

pub zero_run_end : (gs : List ℕ) (i : ℕ) → length gs ≤ i → zero_run (drop i gs) ≡ 0
zero_run_end gs i past = at_drop_all zero_run gs i past

pub ruleset zero_run_steps = (zero_run_more, zero_run_end)

pub longest_run_more : (gs : List ℕ) (i : ℕ) → i < length gs → longest_run (drop i gs) ≡ max (zero_run (drop i gs)) (longest_run (drop (i + 1) gs))
longest_run_more gs i within =
    at_drop_more longest_run gs i 0 within ∙ ap (λ xs. max (zero_run xs) (longest_run (drop (i + 1) gs))) (sym (drop_more gs i 0 within))

pub longest_run_end : (gs : List ℕ) (i : ℕ) → length gs ≤ i → longest_run (drop i gs) ≡ 0
longest_run_end gs i past = at_drop_all longest_run gs i past

pub ruleset longest_run_steps = (longest_run_more, longest_run_end)

pub run_start_more : (run : ℕ) (gs : List ℕ) (i : ℕ) → i < length gs
    → run_start run (drop i gs) ≡ cond (zero_run (drop i gs) == run) 0 (run_start run (drop (i + 1) gs) + 1)
run_start_more run gs i within =
    at_drop_more (run_start run) gs i 0 within
    ∙ ap (λ xs. cond (zero_run xs == run) 0 (run_start run (drop (i + 1) gs) + 1)) (sym (drop_more gs i 0 within))

pub run_start_end : (run : ℕ) (gs : List ℕ) (i : ℕ) → length gs ≤ i → run_start run (drop i gs) ≡ 0
run_start_end run gs i past = at_drop_all (run_start run) gs i past

zero_run-le_if : (gs : List ℕ) (test : Bool) → zero_run gs ≤ length gs → cond test (zero_run gs + 1) 0 ≤ suc (length gs)
zero_run-le_if gs true rest = omega arith
zero_run-le_if gs false rest = omega arith

zero_run-le : (gs : List ℕ) → zero_run gs ≤ length gs
zero_run-le [] = omega arith
zero_run-le (g ∷ gs) = zero_run-le_if gs (g == 0) (zero_run-le gs)

run_fits_if : (run here later start count : ℕ) (test : Bool) → run ≡ max here later → (here == run) ≡ test → here ≤ suc count
    → (run ≡ later → start + later ≤ count) → cond test 0 (start + 1) + run ≤ suc count
run_fits_if run here later start count true most is small rest = omega (arith, eqb-true here run is)
run_fits_if run here later start count false most is small rest =
    let other = eqb-false here run is in
    let same : run ≡ later = omega arith in
    omega (arith, rest same)

-- the longest run lies within the groups
pub run_fits : (gs : List ℕ) → run_start (longest_run gs) gs + longest_run gs ≤ length gs
run_fits [] = omega arith
run_fits (g ∷ gs) =
    run_fits_if (longest_run (g ∷ gs)) (zero_run (g ∷ gs)) (longest_run gs) (run_start (longest_run (g ∷ gs)) gs) (length gs)
    (zero_run (g ∷ gs) == longest_run (g ∷ gs)) refl refl (zero_run-le (g ∷ gs))
    (λ same. rw same (run_fits gs))

pub ruleset run_start_steps = (run_start_more, run_start_end, run_fits)

-- groups, each with a colon before it
abbrev pub text_behind : List ℕ → List ℕ
text_behind [] = []
text_behind (g ∷ gs) = (58 ∷ digits 16 false g) ++ text_behind gs

pub group_text_first : (g : ℕ) (gs : List ℕ) → group_text (g ∷ gs) ≡ digits 16 false g ++ text_behind gs
group_text_first g [] = sym (append-nil (digits 16 false g))
group_text_first g (h ∷ gs) = ap (λ text. digits 16 false g ++ 58 ∷ text) (group_text_first h gs)

pub text_behind_more : (gs : List ℕ) (i : ℕ) → i < length gs → text_behind (drop i gs) ≡ (58 ∷ digits 16 false (get_or gs i 0)) ++ text_behind (drop (i + 1) gs)
text_behind_more gs i within = at_drop_more text_behind gs i 0 within

pub text_behind_end : (gs : List ℕ) (i : ℕ) → length gs ≤ i → text_behind (drop i gs) ≡ []
text_behind_end gs i past = at_drop_all text_behind gs i past

-- the first group is written
pub text_started : (groups others old new : List ℕ) (first : ℕ) → groups ≡ first ∷ others → new ≡ old ++ digits 16 false first
    → new ++ text_behind (drop 0 others) ≡ old ++ group_text groups
text_started groups others old new first split written =
    ap (λ text. text ++ text_behind others) written
    ∙ append_assoc old (digits 16 false first) (text_behind others)
    ∙ ap (λ text. old ++ text) (sym (group_text_first first others) ∙ ap group_text (sym split))

pub ruleset text_steps = (group_text_first, text_behind_more, text_behind_end)

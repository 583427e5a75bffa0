-- The longest run of groups of 0.
use Rattle.std.proofs.Common.{◌≡◌, ℕ, suc, ◌+◌, ◌==◌, max, Bool, true, false, cond, List, [], ◌∷◌, ◌++◌, take, drop, refl, sym, ap, ◌∙◌, arith, add-one, replicate}
use Rattle.std.proofs.lemmas.Bool.{eqb-true, eqb-false}
use Rattle.or_prefix.specs.Printing.{zero_run, longest_run, run_start}

-- a list without its first groups, where these are of 0
zeros_then : ℕ → List ℕ → List ℕ
zeros_then count gs = replicate count 0 ++ drop count gs

zeros_if : (g : ℕ) (gs : List ℕ) (test : Bool) → (g == 0) ≡ test → gs ≡ zeros_then (zero_run gs) gs
    → g ∷ gs ≡ zeros_then (cond test (zero_run gs + 1) 0) (g ∷ gs)
unfolding zeros_then
zeros_if g gs true is rest = rw (add-one (zero_run gs)) (ap (λ h. h ∷ gs) (eqb-true g 0 is) ∙ ap (λ hs. 0 ∷ hs) rest)
zeros_if g gs false is rest = refl

zeros : (gs : List ℕ) → gs ≡ zeros_then (zero_run gs) gs
unfolding zeros_then
zeros [] = refl
zeros (g ∷ gs) = zeros_if g gs (g == 0) refl (zeros gs)

around : ℕ → ℕ → List ℕ → List ℕ
around start run gs = take start gs ++ (replicate run 0 ++ drop (start + run) gs)

around_if : (g : ℕ) (gs : List ℕ) (run here later start : ℕ) (test : Bool) → run ≡ max here later → (here == run) ≡ test
    → here ≡ zero_run (g ∷ gs) → (run ≡ later → gs ≡ around start run gs) → g ∷ gs ≡ around (cond test 0 (start + 1)) run (g ∷ gs)
unfolding around zeros_then
around_if g gs run here later start true most is count rest =
    let same : run ≡ zero_run (g ∷ gs) = sym (eqb-true here run is) ∙ count in
    let none : 0 + run ≡ run = omega arith in
    rw none (rw same (zeros (g ∷ gs)))
around_if g gs run here later start false most is count rest =
    let other = eqb-false here run is in
    let same : run ≡ later = omega arith in
    let place : start + 1 + run ≡ suc (start + run) = omega arith in
    rw place (rw (add-one start) (ap (λ hs. g ∷ hs) (rest same)))

-- the groups before the first longest run, the run and the groups behind it are all groups
pub around_run : (gs : List ℕ) → gs ≡ take (run_start (longest_run gs) gs) gs ++ (replicate (longest_run gs) 0 ++ drop (run_start (longest_run gs) gs + longest_run gs) gs)
unfolding around
around_run [] = refl
around_run (g ∷ gs) =
    around_if g gs (longest_run (g ∷ gs)) (zero_run (g ∷ gs)) (longest_run gs) (run_start (longest_run (g ∷ gs)) gs)
    (zero_run (g ∷ gs) == longest_run (g ∷ gs)) refl refl refl
    (λ same. rw same (around_run gs))

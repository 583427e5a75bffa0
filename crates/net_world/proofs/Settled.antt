-- The items of a list are changed one after another.
use Rattle.std.proofs.Common.{◌≡◌, ℕ, zero, suc, ◌+◌, ◌<◌, ◌≤◌, List, [], ◌∷◌, ◌++◌, length, map, get_or, set, take, drop, refl, ap, sym, ◌∙◌, arith, add-one, append-nil, take_all, drop_of_length-le}

next : {X : Type 0} (f : X → X) (number : ℕ) (xs : List X) (d : X) → number < length xs
    → take (suc number) (set xs number (f (get_or xs number d))) ++ map f (drop (suc number) (set xs number (f (get_or xs number d))))
    ≡ take number xs ++ map f (drop number xs)
next f number [] d within = absurd (omega (arith, within))
next f zero (x ∷ xs) d within = refl
next f (suc number) (x ∷ xs) d within = ap (λ others. x ∷ others) (next f number xs d (omega (arith, within)))

-- one more
pub map_next : {X : Type 0} (f : X → X) (number : ℕ) (xs after : List X) (x changed d : X) (all : List X) → number < length xs
    → x ≡ get_or xs number d → changed ≡ f x → after ≡ set xs number changed
    → take number xs ++ map f (drop number xs) ≡ all
    → take (number + 1) after ++ map f (drop (number + 1) after) ≡ all
map_next f number xs after x changed d all within is became put so_far =
    rw (put, became, is, add-one number) (next f number xs d within ∙ so_far)

-- none is left
pub map_end : {X : Type 0} (f : X → X) (number : ℕ) (xs all : List X) → length xs ≤ number → take number xs ++ map f (drop number xs) ≡ all → xs ≡ all
map_end f number xs all past so_far =
    sym (append-nil xs)
    ∙ ap (λ ys. ys ++ []) (sym (take_all number xs past))
    ∙ ap (λ left. take number xs ++ map f left) (sym (drop_of_length-le xs past))
    ∙ so_far

-- Lists that are made item by item, each given with its number.
use Rattle.std.proofs.Common.{◌≡◌, ℕ, ◌+◌, ◌<◌, List, ◌∷◌, ◌++◌, length, get_or, drop, sym, ◌∙◌, ap, append_assoc}
use Rattle.std.specs.List.{flat_map, enumerate_from}
use Rattle.std.proofs.lemmas.List.{at_drop_more}

-- one item more
pub flat_more : {A B : Type 0} (f : ℕ × A → List B) (out after : List B) (number : ℕ) (all : List A) (x : A)
    → number < length all → x ≡ get_or all number x → after ≡ out ++ f (number, x)
    → after ++ flat_map f (enumerate_from (number + 1) (drop (number + 1) all)) ≡ out ++ flat_map f (enumerate_from number (drop number all))
flat_more f out after number all x within is added =
    let rest = flat_map f (enumerate_from (number + 1) (drop (number + 1) all)) in
    ap (λ ys. ys ++ rest) added ∙ append_assoc out (f (number, x)) rest
    ∙ ap (λ ys. out ++ ys)
    (ap (λ y. flat_map f (enumerate_from number (y ∷ drop (number + 1) all))) is ∙ sym (at_drop_more (λ xs. flat_map f (enumerate_from number xs)) all number x within))

-- What a walk over a map has gathered, and what is left.
use Rattle.std.proofs.Common.{◌≡◌, ◌∙◌, List, [], ◌∷◌, ◌++◌, Bool, true, false, cond, if◌then◌else◌, map, sym, ap, append_assoc}
use Rattle.std.specs.List.{filter}
use Rattle.std.proofs.lemmas.List.{append-nil}

one_kept : {A : Type 0} (so_far : List A) (x : A) (rest : List A) (test : Bool) → (so_far ++ cond test (x ∷ []) []) ++ rest ≡ so_far ++ cond test (x ∷ rest) rest
one_kept so_far x rest true = append_assoc so_far (x ∷ []) rest
one_kept so_far x rest false = ap (λ xs. xs ++ rest) (append-nil so_far)

-- of one item more what it gives is kept, where it passes the test
pub kept_more : {A B : Type 0} (give : A → B) (test : B → Bool) (so_far after all : List B) (x : A) (left rest : List A) → left ≡ x ∷ rest
    → after ≡ so_far ++ (if test (give x) then give x ∷ [] else []) → so_far ++ filter test (map give left) ≡ all → after ++ filter test (map give rest) ≡ all
kept_more give test so_far after all x left rest is added before =
    ap (λ xs. xs ++ filter test (map give rest)) added
    ∙ one_kept so_far (give x) (filter test (map give rest)) (test (give x))
    ∙ ap (λ xs. so_far ++ filter test (map give xs)) (sym is)
    ∙ before

-- what it gives is listed
pub listed_more : {A B : Type 0} (give : A → B) (so_far after all : List B) (x : A) (left rest : List A) → left ≡ x ∷ rest
    → after ≡ so_far ++ give x ∷ [] → so_far ++ map give left ≡ all → after ++ map give rest ≡ all
listed_more give so_far after all x left rest is added before =
    ap (λ xs. xs ++ map give rest) added ∙ append_assoc so_far (give x ∷ []) (map give rest) ∙ ap (λ xs. so_far ++ map give xs) (sym is) ∙ before

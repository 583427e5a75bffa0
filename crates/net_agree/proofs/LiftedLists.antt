-- What is found among all that the elements of a list give.
use Rattle.std.proofs.Common.{◌≡◌, ℕ, zero, suc, List, [], ◌∷◌, ◌++◌, Some, Bool, true, false, cond, get_or, set, ◌⊎◌, inl, inr, sym, subst}
use Rattle.std.specs.Prelude.{slice_get}
use Rattle.std.specs.List.{Contains, AllByRecursion, flat_map}
use Rattle.std.proofs.lemmas.List.Elements.{Contains-append_cases, Contains-append_left, Contains-append_right}
use Rattle.kv_agree.proofs.Lists.{all_joined}

pub some_is : {X : Type 0} {x y : X} → Some x ≡ Some y → x ≡ y
some_is same = cc

-- where one element became another
pub set_gives : {X Y : Type 0} (f : X → List Y) (xs : List X) (i : ℕ) (x : X) (y : Y) → Contains (flat_map f (set xs i x)) y → Contains (flat_map f xs) y ⊎ Contains (f x) y
set_gives f [] i x y h = inl h
set_gives f (z ∷ xs) zero x y h =
    elim (Contains-append_cases (f x) (flat_map f xs) y h) [ inl here ↦ inr here | inr later ↦ inl (Contains-append_right (f z) (flat_map f xs) y later) ]
set_gives f (z ∷ xs) (suc i) x y h =
    elim (Contains-append_cases (f z) (flat_map f (set xs i x)) y h) [
      | inl here ↦ inl (Contains-append_left (f z) (flat_map f xs) y here)
      | inr later ↦ elim (set_gives f xs i x y later) [ inl was ↦ inl (Contains-append_right (f z) (flat_map f xs) y was) | inr new ↦ inr new ]
    ]

-- what the element in a place gives
pub gives_at : {X Y : Type 0} (f : X → List Y) (xs : List X) (i : ℕ) (x : X) (y : Y) → slice_get xs i ≡ Some x → Contains (f x) y → Contains (flat_map f xs) y
gives_at f [] i x y e h = cc
gives_at f (z ∷ xs) zero x y e h = Contains-append_left (f z) (flat_map f xs) y (subst (λ u. Contains (f u) y) (sym (some_is e)) h)
gives_at f (z ∷ xs) (suc i) x y e h = Contains-append_right (f z) (flat_map f xs) y (gives_at f xs i x y e h)

-- the same with a default that gives nothing
pub gives_or : {X Y : Type 0} (f : X → List Y) (d : X) (xs : List X) (i : ℕ) (y : Y) → f d ≡ [] → Contains (f (get_or xs i d)) y → Contains (flat_map f xs) y
gives_or f d [] i y none h = subst (λ ys. Contains ys y) none h
gives_or f d (z ∷ xs) zero y none h = Contains-append_left (f z) (flat_map f xs) y h
gives_or f d (z ∷ xs) (suc i) y none h = Contains-append_right (f z) (flat_map f xs) y (gives_or f d xs i y none h)

pub gives_both : {X Y : Type 0} (f : X → List Y) (xs zs : List X) (y : Y) → Contains (flat_map f (xs ++ zs)) y → Contains (flat_map f xs) y ⊎ Contains (flat_map f zs) y
gives_both f [] zs y h = inr h
gives_both f (x ∷ xs) zs y h =
    elim (Contains-append_cases (f x) (flat_map f (xs ++ zs)) y h) [
      | inl here ↦ inl (Contains-append_left (f x) (flat_map f xs) y here)
      | inr later ↦ elim (gives_both f xs zs y later) [ inl was ↦ inl (Contains-append_right (f x) (flat_map f xs) y was) | inr new ↦ inr new ]
    ]

-- what holds of all that is given
pub all_given : {X Y : Type 0} (P : Y → Type 0) (f : X → List Y) (xs : List X) → ((x : X) → AllByRecursion P (f x)) → AllByRecursion P (flat_map f xs)
all_given P f [] each = tt
all_given P f (x ∷ xs) each = all_joined P (f x) (flat_map f xs) (each x) (all_given P f xs each)

pub all_if : {X : Type 0} (P : X → Type 0) (test : Bool) (xs : List X) → AllByRecursion P xs → AllByRecursion P (cond test xs [])
all_if P true xs all = all
all_if P false xs all = tt

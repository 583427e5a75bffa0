-- What is among the elements of lists, and what holds of all of them.
use Rattle.std.proofs.Common.{List, [], ◌∷◌, ◌++◌, inl, inr, sym, subst, reverse, arith}
use Rattle.std.specs.List.{Contains, All, AllByRecursion, flat_map}
use Rattle.std.proofs.lemmas.List.Elements.{All-nil, All-append, Contains-append_left, Contains-append_right}
use Rattle.std.proofs.lemmas.List.Sorted.{All-permutation, IsPermutation-reverse}
use Rattle.or_base.proofs.Members.{Contains-cases}

-- what f gives of an element is among what it gives of all
pub contains_at : {X Y : Type 0} (f : X → List Y) (xs : List X) (x : X) (y : Y) → Contains xs x → Contains (f x) y → Contains (flat_map f xs) y
contains_at f [] x y among here = absurd (omega (arith, among.1))
contains_at f (first ∷ xs) x y among here =
    elim (Contains-cases first xs x among) [
      | inl same ↦ Contains-append_left (f first) (flat_map f xs) y (subst (λ z. Contains (f z) y) (sym same) here)
      | inr there ↦ Contains-append_right (f first) (flat_map f xs) y (contains_at f xs x y there here)
    ]

-- what holds of all that f gives of each element
pub all_of_each : {X Y : Type 0} (P : Y → Type 0) (f : X → List Y) (xs : List X) → ((x : X) → All P (f x)) → All P (flat_map f xs)
all_of_each P f [] each = All-nil P
all_of_each P f (x ∷ xs) each = All-append P (f x) (flat_map f xs) (each x) (all_of_each P f xs each)

pub all_reversed : {X : Type 0} (P : X → Type 0) (xs : List X) → All P xs → All P (reverse xs)
all_reversed P xs all = All-permutation P xs (reverse xs) (IsPermutation-reverse xs) all

pub all_joined : {X : Type 0} (P : X → Type 0) (xs ys : List X) → AllByRecursion P xs → AllByRecursion P ys → AllByRecursion P (xs ++ ys)
all_joined P [] ys first second = second
all_joined P (x ∷ xs) ys first second = (first.0, all_joined P xs ys first.1 second)

-- what implies it holds of all as well
pub all_wider : {X : Type 0} (P Q : X → Type 0) → ((x : X) → P x → Q x) → (xs : List X) → AllByRecursion P xs → AllByRecursion Q xs
all_wider P Q implies [] all = tt
all_wider P Q implies (x ∷ xs) all = (implies x all.0, all_wider P Q implies xs all.1)

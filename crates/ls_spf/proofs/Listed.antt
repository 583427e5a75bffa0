-- What is among the elements of a filter, of a map and of joined lists.
use Rattle.std.proofs.Common.{◌≡◌, List, [], ◌∷◌, map, Bool, true, false, cond, ◌&&◌, refl, sym, ◌∙◌, ap, subst, inl, inr, arith}
use Rattle.std.specs.List.{Contains, filter, flat_map, list_all}
use Rattle.std.proofs.lemmas.List.Elements.{Contains-append_left, Contains-append_right, Contains-append_cases}
use Rattle.or_base.proofs.Members.{Contains-cases, Contains-first, Contains-later}

pub none_among : {A X : Type 0} {x : X} → Contains [] x → A
none_among c = absurd (omega (arith, c.1))

pub both_true : (b c : Bool) → (b && c) ≡ true → (b ≡ true) × (c ≡ true)
both_true true c e = (refl, e)
both_true false c e = cc

-- where all elements pass a test, one among them does
pub each_passes : {X : Type 0} (test : X → Bool) (xs : List X) (x : X) → list_all test xs ≡ true → Contains xs x → test x ≡ true
each_passes test [] x all c = none_among c
each_passes test (y ∷ ys) x all c =
    let p = both_true (test y) (list_all test ys) all in
    elim (Contains-cases y ys x c) as (λ _. test x ≡ true) [
      | inl same ↦ ap test (sym same) ∙ p.0
      | inr later ↦ each_passes test ys x p.1 later
    ]

-- one case of a filter's step, for what is found in it
found_by : {X : Type 0} (test : X → Bool) (y : X) (ys kept : List X) (x : X) (b : Bool) → test y ≡ b
    → (Contains kept x → Contains ys x × (test x ≡ true)) → Contains (cond b (y ∷ kept) kept) x → Contains (y ∷ ys) x × (test x ≡ true)
found_by test y ys kept x true passes rest c =
    elim (Contains-cases y kept x c) as (λ _. Contains (y ∷ ys) x × (test x ≡ true)) [
      | inl same ↦ (subst (λ z. Contains (y ∷ ys) z) same (Contains-first y ys), ap test (sym same) ∙ passes)
      | inr later ↦ let r = rest later in (Contains-later y ys x r.0, r.1)
    ]
found_by test y ys kept x false fails rest c = let r = rest c in (Contains-later y ys x r.0, r.1)

pub found_in_filter : {X : Type 0} (test : X → Bool) (xs : List X) (x : X) → Contains (filter test xs) x → Contains xs x × (test x ≡ true)
found_in_filter test [] x c = none_among c
found_in_filter test (y ∷ ys) x c = found_by test y ys (filter test ys) x (test y) refl (found_in_filter test ys x) c

kept_by : {X : Type 0} (y : X) (kept : List X) (x : X) (b : Bool) → Contains kept x → Contains (cond b (y ∷ kept) kept) x
kept_by y kept x true c = Contains-later y kept x c
kept_by y kept x false c = c

pub kept_in_filter : {X : Type 0} (test : X → Bool) (xs : List X) (x : X) → Contains xs x → test x ≡ true → Contains (filter test xs) x
kept_in_filter test [] x c passes = none_among c
kept_in_filter test (y ∷ ys) x c passes =
    elim (Contains-cases y ys x c) as (λ _. Contains (filter test (y ∷ ys)) x) [
      | inl same ↦ rw (ap test same ∙ passes) (subst (λ z. Contains (y ∷ filter test ys) z) same (Contains-first y (filter test ys)))
      | inr later ↦ kept_by y (filter test ys) x (test y) (kept_in_filter test ys x later passes)
    ]

pub found_in_map : {X Y : Type 0} (f : X → Y) (xs : List X) (y : Y) → Contains (map f xs) y → (x : X) × Contains xs x × (f x ≡ y)
found_in_map f [] y c = none_among c
found_in_map {X} f (x ∷ xs) y c =
    elim (Contains-cases (f x) (map f xs) y c) as (λ _. (z : X) × Contains (x ∷ xs) z × (f z ≡ y)) [
      | inl same ↦ (x, Contains-first x xs, same)
      | inr later ↦ let r = found_in_map f xs y later in (r.0, Contains-later x xs r.0 r.1, r.2)
    ]

pub kept_in_map : {X Y : Type 0} (f : X → Y) (xs : List X) (x : X) → Contains xs x → Contains (map f xs) (f x)
kept_in_map f [] x c = none_among c
kept_in_map f (z ∷ xs) x c =
    elim (Contains-cases z xs x c) as (λ _. Contains (map f (z ∷ xs)) (f x)) [
      | inl same ↦ subst (λ w. Contains (f z ∷ map f xs) w) (ap f same) (Contains-first (f z) (map f xs))
      | inr later ↦ Contains-later (f z) (map f xs) (f x) (kept_in_map f xs x later)
    ]

pub found_in_joined : {X Y : Type 0} (f : X → List Y) (xs : List X) (y : Y) → Contains (flat_map f xs) y → (x : X) × Contains xs x × Contains (f x) y
found_in_joined f [] y c = none_among c
found_in_joined {X} f (x ∷ xs) y c =
    elim (Contains-append_cases (f x) (flat_map f xs) y c) as (λ _. (z : X) × Contains (x ∷ xs) z × Contains (f z) y) [
      | inl here ↦ (x, Contains-first x xs, here)
      | inr later ↦ let r = found_in_joined f xs y later in (r.0, Contains-later x xs r.0 r.1, r.2)
    ]

pub kept_in_joined : {X Y : Type 0} (f : X → List Y) (xs : List X) (x : X) (y : Y) → Contains xs x → Contains (f x) y → Contains (flat_map f xs) y
kept_in_joined f [] x y c d = none_among c
kept_in_joined f (z ∷ xs) x y c d =
    elim (Contains-cases z xs x c) as (λ _. Contains (flat_map f (z ∷ xs)) y) [
      | inl same ↦ Contains-append_left (f z) (flat_map f xs) y (subst (λ w. Contains (f w) y) (sym same) d)
      | inr later ↦ Contains-append_right (f z) (flat_map f xs) y (kept_in_joined f xs x y later d)
    ]

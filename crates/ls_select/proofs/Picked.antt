-- What a filter keeps, and that the greatest or least of a number is that of an element.
use Rattle.std.proofs.Common.{◌≡◌, ℕ, ◌≤◌, List, [], ◌∷◌, Bool, true, false, cond, fold, map, refl, sym, ◌∙◌, ap, subst, ◌⊎◌, inl, inr, arith, ⊎_elim}
use Rattle.std.specs.Prelude.{min, max, ◌||◌}
use Rattle.std.specs.List.{Contains, filter, list_any}
use Rattle.std.proofs.lemmas.Bool.{cases_lt}
use Rattle.or_base.proofs.Members.{Contains-first, Contains-later, Contains-cases}

pub none_in_nothing : {X : Type 0} (x : X) → Contains [] x → ⊥
none_in_nothing x among = omega (arith, among.1)

-- ---- filters

module _ {X : Type 0} (test : X → Bool) where
  kept_if : (x : X) (passes : Bool) (xs rest : List X) (y : X) → test x ≡ passes → (Contains rest y → Contains xs y × (test y ≡ true)) → Contains (cond passes (x ∷ rest) rest) y
      → Contains (x ∷ xs) y × (test y ≡ true)
  kept_if x true xs rest y e later among = by_cases (Contains-cases x rest y among) where
    by_cases : (x ≡ y) ⊎ Contains rest y → Contains (x ∷ xs) y × (test y ≡ true)
    by_cases (inl same) = (subst (Contains (x ∷ xs)) same (Contains-first x xs), ap test (sym same) ∙ e)
    by_cases (inr there) = let l = later there in (Contains-later x xs y l.0, l.1)
  kept_if x false xs rest y e later among = let l = later among in (Contains-later x xs y l.0, l.1)

  -- what is kept is of the list, and passes
  pub of_kept : (xs : List X) (y : X) → Contains (filter test xs) y → Contains xs y × (test y ≡ true)
  of_kept [] y among = absurd (none_in_nothing y among)
  of_kept (x ∷ xs) y among = kept_if x (test x) xs (filter test xs) y refl (of_kept xs y) among

  keeps_if : (x : X) (passes : Bool) (rest : List X) (y : X) → test x ≡ passes → test y ≡ true → (x ≡ y) ⊎ Contains rest y → Contains (cond passes (x ∷ rest) rest) y
  keeps_if x true rest y e passes (inl same) = subst (Contains (x ∷ rest)) same (Contains-first x rest)
  keeps_if x true rest y e passes (inr there) = Contains-later x rest y there
  keeps_if x false rest y e passes (inl same) = let wrong : false ≡ true = sym e ∙ ap test same ∙ passes in absurd cc
  keeps_if x false rest y e passes (inr there) = there

  -- what passes is kept
  pub is_kept : (xs : List X) (y : X) → Contains xs y → test y ≡ true → Contains (filter test xs) y
  is_kept [] y among passes = absurd (none_in_nothing y among)
  is_kept (x ∷ xs) y among passes = keeps_if x (test x) (filter test xs) y refl passes (by_cases (Contains-cases x xs y among) (λ there. is_kept xs y there passes)) where
    by_cases : (x ≡ y) ⊎ Contains xs y → (Contains xs y → Contains (filter test xs) y) → (x ≡ y) ⊎ Contains (filter test xs) y
    by_cases (inl same) later = inl same
    by_cases (inr there) later = inr (later there)

  again_if : (x : X) (passes : Bool) (rest : List X) → test x ≡ passes → filter test rest ≡ rest → filter test (cond passes (x ∷ rest) rest) ≡ cond passes (x ∷ rest) rest
  again_if x true rest e same = ap (λ t. cond t (x ∷ filter test rest) (filter test rest)) e ∙ ap (λ xs. x ∷ xs) same
  again_if x false rest e same = same

  -- filtered twice is filtered once
  pub kept_again : (xs : List X) → filter test (filter test xs) ≡ filter test xs
  kept_again [] = refl
  kept_again (x ∷ xs) = again_if x (test x) (filter test xs) refl (kept_again xs)

  untested_if : (passes rest : Bool) → passes || rest ≡ false → (passes ≡ false) × (rest ≡ false)
  untested_if true rest e = cc
  untested_if false rest e = (refl, e)

  -- where none passes, each fails
  pub none_passes : (xs : List X) (y : X) → list_any test xs ≡ false → Contains xs y → test y ≡ false
  none_passes [] y none among = absurd (none_in_nothing y among)
  none_passes (x ∷ xs) y none among = by_cases (Contains-cases x xs y among) (none_passes xs y parts.1) where
    parts : (test x ≡ false) × (list_any test xs ≡ false)
    parts = untested_if (test x) (list_any test xs) none

    by_cases : (x ≡ y) ⊎ Contains xs y → (Contains xs y → test y ≡ false) → test y ≡ false
    by_cases (inl same) later = ap test (sym same) ∙ parts.0
    by_cases (inr there) later = later there

  some_if : (x : X) (passes : Bool) (xs : List X) → test x ≡ passes → (list_any test xs ≡ true → (y : X) × Contains xs y × (test y ≡ true)) → passes || list_any test xs ≡ true
      → (y : X) × Contains (x ∷ xs) y × (test y ≡ true)
  some_if x true xs e later some = (x, Contains-first x xs, e)
  some_if x false xs e later some = let l = later some in (l.0, Contains-later x xs l.0 l.1, l.2)

  -- one that passes
  pub some_passes : (xs : List X) → list_any test xs ≡ true → (y : X) × Contains xs y × (test y ≡ true)
  some_passes [] some = cc
  some_passes (x ∷ xs) some = some_if x (test x) xs refl (some_passes xs) some

  pub is_tested : (xs : List X) (y : X) → Contains xs y → test y ≡ true → list_any test xs ≡ true
  is_tested xs y among passes = by_any (list_any test xs) refl where
    by_any : (any : Bool) → list_any test xs ≡ any → list_any test xs ≡ true
    by_any true e = e
    by_any false e = let wrong : false ≡ true = sym (none_passes xs y e among) ∙ passes in absurd cc

-- ---- what is given for each

pub is_given : {X Y : Type 0} (give : X → Y) (xs : List X) (x : X) → Contains xs x → Contains (map give xs) (give x)
is_given give [] x among = absurd (none_in_nothing x among)
is_given {X = X} {Y = Y} give (z ∷ xs) x among = by_cases (Contains-cases z xs x among) (is_given give xs x) where
  by_cases : (z ≡ x) ⊎ Contains xs x → (Contains xs x → Contains (map give xs) (give x)) → Contains (map give (z ∷ xs)) (give x)
  by_cases (inl same) later = subst (Contains (map give (z ∷ xs))) (ap give same) (Contains-first (give z) (map give xs))
  by_cases (inr there) later = Contains-later (give z) (map give xs) (give x) (later there)

pub of_given : {X Y : Type 0} (give : X → Y) (xs : List X) (y : Y) → Contains (map give xs) y → (x : X) × Contains xs x × (give x ≡ y)
of_given give [] y among = absurd (none_in_nothing y among)
of_given {X = X} {Y = Y} give (z ∷ xs) y among = by_cases (Contains-cases (give z) (map give xs) y among) (of_given give xs y) where
  by_cases : (give z ≡ y) ⊎ Contains (map give xs) y → (Contains (map give xs) y → (x : X) × Contains xs x × (give x ≡ y)) → (x : X) × Contains (z ∷ xs) x × (give x ≡ y)
  by_cases (inl same) later = (z, Contains-first z xs, same)
  by_cases (inr there) later = let l = later there in (l.0, Contains-later z xs l.0 l.1, l.2)

-- ---- the greatest and the least

pub one_of_max : (a b : ℕ) → (max a b ≡ a) ⊎ (max a b ≡ b)
one_of_max a b = ⊎_elim (λ less. inr (omega arith)) (λ other. inl (omega arith)) (cases_lt a b)

pub one_of_min : (a b : ℕ) → (min a b ≡ a) ⊎ (min a b ≡ b)
one_of_min a b = ⊎_elim (λ less. inl (omega arith)) (λ other. inr (omega arith)) (cases_lt a b)

module _ {X : Type 0} (pick : ℕ → ℕ → ℕ) (one_of : (a b : ℕ) → (pick a b ≡ a) ⊎ (pick a b ≡ b)) (number : X → ℕ) where
  abbrev picked : ℕ → List X → ℕ
  picked a xs = fold (λ so_far x. pick so_far (number x)) a xs

  -- what is picked is the number at the start or that of an element
  pub is_picked : (a : ℕ) (xs : List X) → (picked a xs ≡ a) ⊎ ((x : X) × Contains xs x × (picked a xs ≡ number x))
  is_picked a [] = inl refl
  is_picked a (x ∷ xs) = by_cases (is_picked (pick a (number x)) xs) (one_of a (number x)) where
    by_cases : (picked (pick a (number x)) xs ≡ pick a (number x)) ⊎ ((y : X) × Contains xs y × (picked (pick a (number x)) xs ≡ number y))
        → (pick a (number x) ≡ a) ⊎ (pick a (number x) ≡ number x)
        → (picked (pick a (number x)) xs ≡ a) ⊎ ((y : X) × Contains (x ∷ xs) y × (picked (pick a (number x)) xs ≡ number y))
    by_cases (inl start) (inl first) = inl (start ∙ first)
    by_cases (inl start) (inr second) = inr (x, Contains-first x xs, start ∙ second)
    by_cases (inr later) one = inr (later.0, Contains-later x xs later.0 later.1, later.2)

  -- of some elements it is that of one, if the first is picked before the start
  pub picked_among : (a : ℕ) (x : X) (xs : List X) → pick a (number x) ≡ number x → (y : X) × Contains (x ∷ xs) y × (picked a (x ∷ xs) ≡ number y)
  picked_among a x xs first = by_cases (is_picked (pick a (number x)) xs) where
    by_cases : (picked (pick a (number x)) xs ≡ pick a (number x)) ⊎ ((y : X) × Contains xs y × (picked (pick a (number x)) xs ≡ number y))
        → (y : X) × Contains (x ∷ xs) y × (picked (pick a (number x)) xs ≡ number y)
    by_cases (inl start) = (x, Contains-first x xs, start ∙ first)
    by_cases (inr later) = (later.0, Contains-later x xs later.0 later.1, later.2)

-- no element has less than the least
module _ {X : Type 0} (number : X → ℕ) where
  abbrev least_of : ℕ → List X → ℕ
  least_of a xs = fold (λ so_far x. min so_far (number x)) a xs

  below_if : (x : X) (xs : List X) (y : X) (least : ℕ) → least ≤ number x → (Contains xs y → least ≤ number y) → (x ≡ y) ⊎ Contains xs y → least ≤ number y
  below_if x xs y least first later (inl same) = subst (λ z. least ≤ number z) same first
  below_if x xs y least first later (inr there) = later there

  pub least_below : (a : ℕ) (xs : List X) → (least_of a xs ≤ a) × ((y : X) → Contains xs y → least_of a xs ≤ number y)
  least_below a [] = (omega arith, λ y among. absurd (none_in_nothing y among))
  least_below a (x ∷ xs) =
      let later = least_below (min a (number x)) xs in
      let up_to = later.0 in
      (omega arith, λ y among. below_if x xs y (least_of (min a (number x)) xs) (omega arith) (later.1 y) (Contains-cases x xs y among))

-- What a list with one element more contains.
use Rattle.std.proofs.Common.{◌≡◌, zero, suc, List, ◌∷◌, ◌⊎◌, inl, inr, refl, arith}
use Rattle.std.specs.List.{Contains}

pub Contains-first : {X : Type 0} (x : X) (xs : List X) → Contains (x ∷ xs) x
Contains-first x xs = (0, omega arith, refl)

pub Contains-later : {X : Type 0} (x : X) (xs : List X) (y : X) → Contains xs y → Contains (x ∷ xs) y
Contains-later x xs y (k, within, at) = (suc k, omega arith, at)

pub Contains-cases : {X : Type 0} (x : X) (xs : List X) (y : X) → Contains (x ∷ xs) y → (x ≡ y) ⊎ Contains xs y
Contains-cases x xs y (zero, within, at) = inl at
Contains-cases x xs y (suc k, within, at) = inr (k, omega arith, at)

-- one element more in second place
pub Contains-second : {X : Type 0} (x y : X) (xs : List X) (z : X) → Contains (x ∷ xs) z → Contains (x ∷ y ∷ xs) z
Contains-second x y xs z (zero, within, at) = (0, omega arith, at)
Contains-second x y xs z (suc k, within, at) = (suc (suc k), omega arith, at)

-- A test of list items, seen through a map; a name that is new.
use Rattle.std.proofs.Common.{◌≡◌, ℕ, List, [], ◌∷◌, ◌++◌, Bool, false, map, refl, ap, ◌||◌}
use Rattle.std.specs.List.{list_any}
use Rattle.indexmap.specs.IndexSet.{insert_key}
use Rattle.or_base.specs.Names.{is_among}
use Rattle.net_laboratory.specs.Amounts.{with_name}

pub list_any-map : {X Y : Type 0} (p : Y → Bool) (f : X → Y) (xs : List X) → list_any p (map f xs) ≡ list_any (λ x. p (f x)) xs
list_any-map p f [] = refl
list_any-map p f (x ∷ xs) = ap (λ b. p (f x) || b) (list_any-map p f xs)

pub ruleset through_map = (list_any-map)

-- a key that is none of a set's goes last
pub insert_new : {X : Type 0} (eq : X → X → Bool) (keys : List X) (key : X) → list_any (eq key) keys ≡ false → insert_key eq keys key ≡ keys ++ key ∷ []
insert_new eq keys key new = rw new refl

pub with_new : (names : List (List ℕ)) (name : List ℕ) → is_among name names ≡ false → with_name names name ≡ names ++ name ∷ []
with_new names name new = rw new refl

-- Facts of lists: what each element has, each with all later ones, and pieces joined end to end.
use Rattle.std.proofs.Common.{◌≡◌, suc, List, [], ◌∷◌, ◌++◌, Bool, true, false, refl, sym, subst, arith, ◌⊎◌, inl, inr}
use Rattle.std.specs.Prelude.{AllPairs, ◌&&◌}
use Rattle.std.specs.List.{AllByRecursion, Contains, flat_map}
use Rattle.std.proofs.lemmas.List.Elements.{All-from_recursion, recursion_from_All, Contains-append_cases, Contains-append_left, Contains-append_right}
use Rattle.std.proofs.lemmas.List.Kept.{AllPairs-cons}
use Rattle.or_base.proofs.Members.{Contains-first, Contains-later, Contains-cases}

-- ---- tests

pub and_parts : (s t : Bool) → s && t ≡ true → (s ≡ true) × (t ≡ true)
and_parts true t e = (refl, e)
and_parts false t e = cc

pub both_true : (s t : Bool) → s ≡ true → t ≡ true → s && t ≡ true
both_true true t e f = f
both_true false t e f = cc

pub not_true : (t : Bool) → (t ≡ true → ⊥) → t ≡ false
not_true true h = absurd (h refl)
not_true false h = refl

-- ---- each element

pub all_have : {X : Type 0} (P : X → Type 0) (xs : List X) (y : X) → AllByRecursion P xs → Contains xs y → P y
all_have P [] y all among = absurd (omega (arith, among.1))
all_have {X = X} P (x ∷ xs) y all among = by_cases (Contains-cases x xs y among) (all_have P xs y all.1) where
  by_cases : (x ≡ y) ⊎ Contains xs y → (Contains xs y → P y) → P y
  by_cases (inl same) rest = subst P same all.0
  by_cases (inr there) rest = rest there

pub all_from_members : {X : Type 0} (P : X → Type 0) (xs : List X) → ((y : X) → Contains xs y → P y) → AllByRecursion P xs
all_from_members P [] have = tt
all_from_members P (x ∷ xs) have = (have x (Contains-first x xs), all_from_members P xs (λ y among. have y (Contains-later x xs y among)))

pub only_one : {X : Type 0} (x y : X) → Contains (x ∷ []) y → x ≡ y
only_one {X = X} x y among = by_cases (Contains-cases x [] y among) where
  by_cases : (x ≡ y) ⊎ Contains [] y → x ≡ y
  by_cases (inl same) = same
  by_cases (inr there) = absurd (omega (arith, there.1))

pub none_in_nothing : {X : Type 0} (y : X) → Contains [] y → ⊥
none_in_nothing y among = omega (arith, among.1)

-- ---- each with all later ones

abbrev pub EachBefore : {X : Type 0} → (X → X → Type 0) → List X → Type 0
EachBefore R [] = Unit {0}
EachBefore R (x ∷ xs) = AllByRecursion (R x) xs × EachBefore R xs

pub pairs_from_each : {X : Type 0} (R : X → X → Type 0) (xs : List X) → EachBefore R xs → AllPairs R xs
pairs_from_each R [] each = λ i j d before within. absurd (omega arith)
pairs_from_each R (x ∷ xs) each = AllPairs-cons R x xs (All-from_recursion (R x) xs each.0) (pairs_from_each R xs each.1)

pub each_from_pairs : {X : Type 0} (R : X → X → Type 0) (xs : List X) → AllPairs R xs → EachBefore R xs
each_from_pairs R [] pairs = tt
each_from_pairs R (x ∷ xs) pairs = (
  recursion_from_All (R x) xs (λ k d within. pairs 0 (suc k) d (omega arith) (omega arith)),
  each_from_pairs R xs (λ i j d before within. pairs (suc i) (suc j) d (omega arith) (omega arith)),
)

pub all_joined : {X : Type 0} (P : X → Type 0) (xs ys : List X) → AllByRecursion P xs → AllByRecursion P ys → AllByRecursion P (xs ++ ys)
all_joined P [] ys all later = later
all_joined P (x ∷ xs) ys all later = (all.0, all_joined P xs ys all.1 later)

pub each_joined : {X : Type 0} (R : X → X → Type 0) (xs ys : List X) → EachBefore R xs → EachBefore R ys
    → AllByRecursion (λ x. AllByRecursion (R x) ys) xs → EachBefore R (xs ++ ys)
each_joined R [] ys each later across = later
each_joined R (x ∷ xs) ys each later across = (all_joined (R x) xs ys each.0 across.0, each_joined R xs ys each.1 later across.1)

-- ---- pieces

pub all_in_pieces : {X Y : Type 0} (P : Y → Type 0) (f : X → List Y) (xs : List X) → AllByRecursion (λ x. AllByRecursion P (f x)) xs → AllByRecursion P (flat_map f xs)
all_in_pieces P f [] all = tt
all_in_pieces P f (x ∷ xs) all = all_joined P (f x) (flat_map f xs) all.0 (all_in_pieces P f xs all.1)

pub record IsInPiece {X Y : Type 0} (f : X → List Y) (xs : List X) (y : Y) : Type 0 where
  pub piece : X
  pub among : Contains xs piece
  pub there : Contains (f piece) y

pub piece_of : {X Y : Type 0} (f : X → List Y) (xs : List X) (y : Y) → Contains (flat_map f xs) y → IsInPiece f xs y
piece_of f [] y among = absurd (none_in_nothing y among)
piece_of {X = X} {Y = Y} f (x ∷ xs) y among = by_cases (Contains-append_cases (f x) (flat_map f xs) y among) (piece_of f xs y) where
  by_cases : Contains (f x) y ⊎ Contains (flat_map f xs) y → (Contains (flat_map f xs) y → IsInPiece f xs y) → IsInPiece f (x ∷ xs) y
  by_cases (inl here) rest = record { piece = x; among = Contains-first x xs; there = here }
  by_cases (inr later) rest = let r = rest later in record { piece = r.piece; among = Contains-later x xs r.piece r.among; there = r.there }

pub in_pieces : {X Y : Type 0} (f : X → List Y) (xs : List X) (x : X) (y : Y) → Contains xs x → Contains (f x) y → Contains (flat_map f xs) y
in_pieces f [] x y among there = absurd (none_in_nothing x among)
in_pieces {X = X} {Y = Y} f (z ∷ xs) x y among there = by_cases (Contains-cases z xs x among) (λ later. in_pieces f xs x y later there) where
  by_cases : (z ≡ x) ⊎ Contains xs x → (Contains xs x → Contains (flat_map f xs) y) → Contains (flat_map f (z ∷ xs)) y
  by_cases (inl same) rest = Contains-append_left (f z) (flat_map f xs) y (subst (λ w. Contains (f w) y) (sym same) there)
  by_cases (inr later) rest = Contains-append_right (f z) (flat_map f xs) y (rest later)

pub pieces_agree : {X Y : Type 0} (f g : X → List Y) (xs : List X) → ((x : X) → f x ≡ g x) → flat_map f xs ≡ flat_map g xs
pieces_agree f g [] same = refl
pieces_agree f g (x ∷ xs) same = let e = same x in let later = pieces_agree f g xs same in cc

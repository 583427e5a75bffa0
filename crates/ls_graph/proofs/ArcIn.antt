-- Which arc is at a place of a list of arcs, and how a list in order is known by that.
use Rattle.std.proofs.Common.{◌≡◌, ℕ, List, [], ◌∷◌, Bool, true, false, cond, Option, Some, None, refl, sym, ◌∙◌, ap, subst, arith, ◌⊎◌, inl, inr}
use Rattle.std.specs.declared.cmp.Ordering.TheVariants.{Less}
use Rattle.std.specs.List.{AllByRecursion, Contains}
use Rattle.std.specs.List.Sorted.{IsStrictlySortedBy}
use Rattle.std.specs.BTreeMap.{is_at}
use Rattle.or_base.proofs.Members.{Contains-first, Contains-later, Contains-cases}
use Rattle.ls_graph.specs.declared.arc.Arc.{Arc}
use Rattle.ls_graph.specs.Changes.{place_cmp, AreByPlace}
use Rattle.ls_graph.specs.Places.{pair_cmp, place_of, arc_in}
use Rattle.ls_graph.proofs.Lists.{all_have}
use Rattle.ls_graph.proofs.Order.{pair_total, same_place, at_itself, apart_less, apart_greater}

-- ---- arcs at other places

-- no arc stands at the place
abbrev pub NoneAt : List ℕ × List ℕ → List Arc → Type 0
NoneAt p arcs = AllByRecursion (λ b. is_at (pair_cmp p) (place_of b) ≡ false) arcs

pub none_at : (p : List ℕ × List ℕ) (arcs : List Arc) → NoneAt p arcs → arc_in arcs p ≡ None
none_at p [] none = refl
none_at p (a ∷ arcs) none = ap (λ t. cond t (Some a) (arc_in arcs p)) none.0 ∙ none_at p arcs none.1

pub some_is_none : (a : Arc) → Some a ≡ None → ⊥
some_is_none a e = cc

first_apart : (t : Bool) (a : Arc) (rest : Option Arc) → cond t (Some a) rest ≡ None → (t ≡ false) × (rest ≡ None)
first_apart true a rest e = absurd (some_is_none a e)
first_apart false a rest e = (refl, e)

pub none_from_arc_in : (p : List ℕ × List ℕ) (arcs : List Arc) → arc_in arcs p ≡ None → NoneAt p arcs
none_from_arc_in p [] e = tt
none_from_arc_in p (a ∷ arcs) e =
    let f = first_apart (is_at (pair_cmp p) (place_of a)) a (arc_in arcs p) e in (f.0, none_from_arc_in p arcs f.1)

-- ---- what is found

found_if : (p : List ℕ × List ℕ) (a b : Arc) (arcs : List Arc) (t : Bool) → is_at (pair_cmp p) (place_of a) ≡ t
    → (arc_in arcs p ≡ Some b → (p ≡ place_of b) × Contains arcs b)
    → cond t (Some a) (arc_in arcs p) ≡ Some b → (p ≡ place_of b) × Contains (a ∷ arcs) b
found_if p a b arcs true here rest e =
    let same : a ≡ b = cc in
    (same_place p (place_of a) here ∙ ap place_of same, subst (λ x. Contains (a ∷ arcs) x) same (Contains-first a arcs))
found_if p a b arcs false here rest e = let r = rest e in (r.0, Contains-later a arcs b r.1)

-- an arc that is found stands there
pub found_there : (p : List ℕ × List ℕ) (arcs : List Arc) (b : Arc) → arc_in arcs p ≡ Some b → (p ≡ place_of b) × Contains arcs b
found_there p [] b e = absurd (some_is_none b (sym e))
found_there p (a ∷ arcs) b e = found_if p a b arcs (is_at (pair_cmp p) (place_of a)) refl (found_there p arcs b) e

-- ---- lists in order

pub first_before : (a : Arc) (arcs : List Arc) → AreByPlace (a ∷ arcs) → AllByRecursion (λ b. place_cmp a b ≡ Less) arcs
unfolding IsStrictlySortedBy
first_before a arcs ordered = ordered.0

pub later_ordered : (a : Arc) (arcs : List Arc) → AreByPlace (a ∷ arcs) → AreByPlace arcs
unfolding IsStrictlySortedBy
later_ordered a arcs ordered = ordered.1

pub ordered_by : (a : Arc) (arcs : List Arc) → AllByRecursion (λ b. place_cmp a b ≡ Less) arcs → AreByPlace arcs → AreByPlace (a ∷ arcs)
unfolding IsStrictlySortedBy
ordered_by a arcs before ordered = (before, ordered)

pub ordered_none : AreByPlace []
unfolding IsStrictlySortedBy
ordered_none = tt

none_after : (a : Arc) (arcs : List Arc) → AllByRecursion (λ b. place_cmp a b ≡ Less) arcs → NoneAt (place_of a) arcs
none_after a [] before = tt
none_after a (b ∷ arcs) before = (apart_less (place_of a) (place_of b) before.0, none_after a arcs before.1)

-- nothing else stands at the place of the first
pub none_later : (p : List ℕ × List ℕ) (a : Arc) (arcs : List Arc) → AreByPlace (a ∷ arcs) → is_at (pair_cmp p) (place_of a) ≡ true → arc_in arcs p ≡ None
none_later p a arcs ordered here =
    subst (λ q. arc_in arcs q ≡ None) (sym (same_place p (place_of a) here)) (none_at (place_of a) arcs (none_after a arcs (first_before a arcs ordered)))

below_all : (p : List ℕ × List ℕ) (a : Arc) (arcs : List Arc) → pair_cmp p (place_of a) ≡ Less → AllByRecursion (λ b. place_cmp a b ≡ Less) arcs
    → AllByRecursion (λ b. pair_cmp p (place_of b) ≡ Less) arcs
below_all p a [] less before = tt
below_all p a (b ∷ arcs) less before = (pair_total.trans p (place_of a) (place_of b) less before.0, below_all p a arcs less before.1)

none_above : (p : List ℕ × List ℕ) (arcs : List Arc) → AllByRecursion (λ b. pair_cmp p (place_of b) ≡ Less) arcs → NoneAt p arcs
none_above p [] before = tt
none_above p (b ∷ arcs) before = (apart_less p (place_of b) before.0, none_above p arcs before.1)

-- nothing stands at a place before the first
pub none_before_first : (p : List ℕ × List ℕ) (a : Arc) (arcs : List Arc) → AreByPlace (a ∷ arcs) → pair_cmp p (place_of a) ≡ Less → arc_in (a ∷ arcs) p ≡ None
none_before_first p a arcs ordered less =
    none_at p (a ∷ arcs) (apart_less p (place_of a) less, none_above p arcs (below_all p a arcs less (first_before a arcs ordered)))

found_cases : (a : Arc) (arcs : List Arc) (b : Arc) → AreByPlace (a ∷ arcs) → (Contains arcs b → arc_in arcs (place_of b) ≡ Some b)
    → (a ≡ b) ⊎ Contains arcs b → arc_in (a ∷ arcs) (place_of b) ≡ Some b
found_cases a arcs b ordered rest (inl same) =
    ap (λ t. cond t (Some a) (arc_in arcs (place_of b))) (subst (λ x. is_at (pair_cmp (place_of x)) (place_of a) ≡ true) same (at_itself (place_of a))) ∙ ap Some same
found_cases a arcs b ordered rest (inr there) =
    ap (λ t. cond t (Some a) (arc_in arcs (place_of b)))
    (apart_greater (place_of a) (place_of b) (all_have (λ x. place_cmp a x ≡ Less) arcs b (first_before a arcs ordered) there)) ∙ rest there

-- an arc of the list is the one at its place
pub found_at_place : (arcs : List Arc) (b : Arc) → AreByPlace arcs → Contains arcs b → arc_in arcs (place_of b) ≡ Some b
found_at_place [] b ordered among = absurd (omega (arith, among.1))
found_at_place (a ∷ arcs) b ordered among =
    found_cases a arcs b ordered (found_at_place arcs b (later_ordered a arcs ordered)) (Contains-cases a arcs b among)

-- One arc put in, one taken out, and lists in order with the same arcs at their places.
use Rattle.std.proofs.Common.{◌≡◌, ℕ, List, [], ◌∷◌, Bool, true, false, cond, Option, Some, None, refl, sym, ◌∙◌, ap, subst}
use Rattle.std.specs.declared.cmp.Ordering.{Ordering}
use Rattle.std.specs.declared.cmp.Ordering.TheVariants.{Less, Equal, Greater}
use Rattle.std.specs.Ordering.{is_eq, match_ordering, ordering_reverse}
use Rattle.std.specs.List.{AllByRecursion}
use Rattle.std.specs.BTreeMap.{is_at}
use Rattle.std.proofs.lemmas.Bool.{false≢true}
use Rattle.ls_graph.specs.declared.arc.Arc.{Arc}
use Rattle.ls_graph.specs.declared.change.LinkChange.{LinkChange}
use Rattle.ls_graph.specs.Changes.{place_cmp, AreByPlace, with_arc_in_place, without_place, change_in_force, with_change}
use Rattle.ls_graph.specs.Places.{pair_cmp, place_of, arc_in}
use Rattle.ls_graph.proofs.Order.{place_total, pair_exact, same_place, at_itself}
use Rattle.ls_graph.proofs.ArcIn.{first_before, later_ordered, ordered_by, ordered_none, none_later, none_before_first, some_is_none}

-- ---- one arc put in

-- two tests that are never both true can be asked in either order
pub either_first : {X : Type 0} (s t : Bool) (v w : X) (rest : Option X) → (s ≡ true → t ≡ true → ⊥)
    → cond s (Some v) (cond t (Some w) rest) ≡ cond t (Some w) (cond s (Some v) rest)
either_first true true v w rest apart = absurd (apart refl refl)
either_first true false v w rest apart = refl
either_first false true v w rest apart = refl
either_first false false v w rest apart = refl

second_unasked : (s t : Bool) (a b : Arc) (rest : Option Arc) → s ≡ t → cond s (Some a) rest ≡ cond s (Some a) (cond t (Some b) rest)
second_unasked true t a b rest e = refl
second_unasked false true a b rest e = absurd (false≢true e)
second_unasked false false a b rest e = refl

apart_if : (p : List ℕ × List ℕ) (a b : Arc) → place_cmp a b ≡ Greater → is_at (pair_cmp p) (place_of b) ≡ true → is_at (pair_cmp p) (place_of a) ≡ true → ⊥
apart_if p a b above at_b at_a =
    let same : place_of b ≡ place_of a = sym (same_place p (place_of b) at_b) ∙ same_place p (place_of a) at_a in
    false≢true (sym (ap is_eq above) ∙ subst (λ q. is_at (pair_cmp (place_of a)) q ≡ true) (sym same) (at_itself (place_of a)))

put_by_order : (p : List ℕ × List ℕ) (a b : Arc) (arcs : List Arc) (o : Ordering) → place_cmp a b ≡ o
    → arc_in (with_arc_in_place arcs a) p ≡ cond (is_at (pair_cmp p) (place_of a)) (Some a) (arc_in arcs p)
    → arc_in (match_ordering o (a ∷ b ∷ arcs) (a ∷ arcs) (b ∷ with_arc_in_place arcs a)) p ≡ cond (is_at (pair_cmp p) (place_of a)) (Some a) (arc_in (b ∷ arcs) p)
put_by_order p a b arcs Less is rest = refl
put_by_order p a b arcs Equal is rest =
    second_unasked (is_at (pair_cmp p) (place_of a)) (is_at (pair_cmp p) (place_of b)) a b (arc_in arcs p)
    (ap (λ q. is_at (pair_cmp p) q) (pair_exact (place_of a) (place_of b) is))
put_by_order p a b arcs Greater is rest =
    ap (λ found. cond (is_at (pair_cmp p) (place_of b)) (Some b) found) rest
    ∙ either_first (is_at (pair_cmp p) (place_of b)) (is_at (pair_cmp p) (place_of a)) b a (arc_in arcs p) (apart_if p a b is)

pub arc_in_put : (p : List ℕ × List ℕ) (arcs : List Arc) (a : Arc)
    → arc_in (with_arc_in_place arcs a) p ≡ cond (is_at (pair_cmp p) (place_of a)) (Some a) (arc_in arcs p)
arc_in_put p [] a = refl
arc_in_put p (b ∷ arcs) a = put_by_order p a b arcs (place_cmp a b) refl (arc_in_put p arcs a)

all_placed : (P : Arc → Type 0) (o : Ordering) (a b : Arc) (arcs later : List Arc) → P a → P b → AllByRecursion P arcs → AllByRecursion P later
    → AllByRecursion P (match_ordering o (a ∷ b ∷ arcs) (a ∷ arcs) (b ∷ later))
all_placed P Less a b arcs later here at all after = (here, (at, all))
all_placed P Equal a b arcs later here at all after = (here, all)
all_placed P Greater a b arcs later here at all after = (at, after)

pub all_put : (P : Arc → Type 0) (arcs : List Arc) (a : Arc) → P a → AllByRecursion P arcs → AllByRecursion P (with_arc_in_place arcs a)
all_put P [] a here all = (here, tt)
all_put P (b ∷ arcs) a here all = all_placed P (place_cmp a b) a b arcs (with_arc_in_place arcs a) here all.0 all.1 (all_put P arcs a here all.1)

all_below : (a b : Arc) (arcs : List Arc) → place_cmp a b ≡ Less → AllByRecursion (λ x. place_cmp b x ≡ Less) arcs → AllByRecursion (λ x. place_cmp a x ≡ Less) arcs
all_below a b [] less all = tt
all_below a b (x ∷ arcs) less all = (place_total.trans a b x less all.0, all_below a b arcs less all.1)

same_side : (a b : Arc) (arcs : List Arc) → place_cmp a b ≡ Equal → AllByRecursion (λ x. place_cmp b x ≡ Less) arcs → AllByRecursion (λ x. place_cmp a x ≡ Less) arcs
same_side a b [] same all = tt
same_side a b (x ∷ arcs) same all = (place_total.congr a b x same ∙ all.0, same_side a b arcs same all.1)

ordered_placed : (o : Ordering) (a b : Arc) (arcs later : List Arc) → place_cmp a b ≡ o → AllByRecursion (λ x. place_cmp b x ≡ Less) arcs → AreByPlace arcs
    → (place_cmp b a ≡ Less → AllByRecursion (λ x. place_cmp b x ≡ Less) later) → AreByPlace later
    → AreByPlace (match_ordering o (a ∷ b ∷ arcs) (a ∷ arcs) (b ∷ later))
ordered_placed Less a b arcs later is before ordered follows after =
    ordered_by a (b ∷ arcs) (is, all_below a b arcs is before) (ordered_by b arcs before ordered)
ordered_placed Equal a b arcs later is before ordered follows after = ordered_by a arcs (same_side a b arcs is before) ordered
ordered_placed Greater a b arcs later is before ordered follows after =
    ordered_by b later (follows (place_total.antisymm b a ∙ ap ordering_reverse is)) after

pub ordered_put : (arcs : List Arc) (a : Arc) → AreByPlace arcs → AreByPlace (with_arc_in_place arcs a)
ordered_put [] a ordered = ordered_by a [] tt ordered_none
ordered_put (b ∷ arcs) a ordered =
    ordered_placed (place_cmp a b) a b arcs (with_arc_in_place arcs a) refl (first_before b arcs ordered) (later_ordered b arcs ordered)
    (λ less. all_put (λ x. place_cmp b x ≡ Less) arcs a less (first_before b arcs ordered)) (ordered_put arcs a (later_ordered b arcs ordered))

-- ---- one arc taken out

none_if : (p : List ℕ × List ℕ) (t : Bool) (a : Arc) (found : Option Arc) → is_at (pair_cmp p) (place_of a) ≡ t → (p ≡ place_of a → found ≡ None) → found ≡ cond t None found
none_if p true a found e none = none (same_place p (place_of a) e)
none_if p false a found e none = refl

left_out : (s t : Bool) (b : Arc) (rest : Option Arc) → s ≡ t → (t ≡ true → rest ≡ None) → rest ≡ cond s None (cond t (Some b) rest)
left_out true t b rest e none = none (sym e)
left_out false true b rest e none = absurd (false≢true e)
left_out false false b rest e none = refl

pass_by : (s t : Bool) (b : Arc) (rest : Option Arc) → (t ≡ true → s ≡ true → ⊥) → cond t (Some b) (cond s None rest) ≡ cond s None (cond t (Some b) rest)
pass_by true true b rest apart = absurd (apart refl refl)
pass_by true false b rest apart = refl
pass_by false true b rest apart = refl
pass_by false false b rest apart = refl

take_by_order : (p : List ℕ × List ℕ) (a b : Arc) (arcs : List Arc) (o : Ordering) → place_cmp a b ≡ o → AreByPlace (b ∷ arcs)
    → arc_in (without_place arcs a) p ≡ cond (is_at (pair_cmp p) (place_of a)) None (arc_in arcs p)
    → arc_in (match_ordering o (b ∷ arcs) arcs (b ∷ without_place arcs a)) p ≡ cond (is_at (pair_cmp p) (place_of a)) None (arc_in (b ∷ arcs) p)
take_by_order p a b arcs Less is ordered rest =
    none_if p (is_at (pair_cmp p) (place_of a)) a (arc_in (b ∷ arcs) p) refl
    (λ same. none_before_first p b arcs ordered (ap (λ q. pair_cmp q (place_of b)) same ∙ is))
take_by_order p a b arcs Equal is ordered rest =
    left_out (is_at (pair_cmp p) (place_of a)) (is_at (pair_cmp p) (place_of b)) b (arc_in arcs p)
    (ap (λ q. is_at (pair_cmp p) q) (pair_exact (place_of a) (place_of b) is)) (λ here. none_later p b arcs ordered here)
take_by_order p a b arcs Greater is ordered rest =
    ap (λ found. cond (is_at (pair_cmp p) (place_of b)) (Some b) found) rest
    ∙ pass_by (is_at (pair_cmp p) (place_of a)) (is_at (pair_cmp p) (place_of b)) b (arc_in arcs p) (apart_if p a b is)

none_of_none : (t : Bool) → let none : Option Arc = None in none ≡ cond t none none
none_of_none true = refl
none_of_none false = refl

pub arc_in_taken : (p : List ℕ × List ℕ) (arcs : List Arc) (a : Arc) → AreByPlace arcs
    → arc_in (without_place arcs a) p ≡ cond (is_at (pair_cmp p) (place_of a)) None (arc_in arcs p)
arc_in_taken p [] a ordered = none_of_none (is_at (pair_cmp p) (place_of a))
arc_in_taken p (b ∷ arcs) a ordered = take_by_order p a b arcs (place_cmp a b) refl ordered (arc_in_taken p arcs a (later_ordered b arcs ordered))

all_left : (P : Arc → Type 0) (o : Ordering) (b : Arc) (arcs left : List Arc) → P b → AllByRecursion P arcs → AllByRecursion P left
    → AllByRecursion P (match_ordering o (b ∷ arcs) arcs (b ∷ left))
all_left P Less b arcs left here all rest = (here, all)
all_left P Equal b arcs left here all rest = all
all_left P Greater b arcs left here all rest = (here, rest)

pub all_taken : (P : Arc → Type 0) (arcs : List Arc) (a : Arc) → AllByRecursion P arcs → AllByRecursion P (without_place arcs a)
all_taken P [] a all = tt
all_taken P (b ∷ arcs) a all = all_left P (place_cmp a b) b arcs (without_place arcs a) all.0 all.1 (all_taken P arcs a all.1)

ordered_left : (o : Ordering) (b : Arc) (arcs left : List Arc) → AreByPlace (b ∷ arcs) → AreByPlace arcs → AllByRecursion (λ x. place_cmp b x ≡ Less) left → AreByPlace left
    → AreByPlace (match_ordering o (b ∷ arcs) arcs (b ∷ left))
ordered_left Less b arcs left all later before rest = all
ordered_left Equal b arcs left all later before rest = later
ordered_left Greater b arcs left all later before rest = ordered_by b left before rest

pub ordered_taken : (arcs : List Arc) (a : Arc) → AreByPlace arcs → AreByPlace (without_place arcs a)
ordered_taken [] a ordered = ordered_none
ordered_taken (b ∷ arcs) a ordered =
    ordered_left (place_cmp a b) b arcs (without_place arcs a) ordered (later_ordered b arcs ordered)
    (all_taken (λ x. place_cmp b x ≡ Less) arcs a (first_before b arcs ordered)) (ordered_taken arcs a (later_ordered b arcs ordered))

-- ---- a change in force

-- what stands at a change's place once it is in force
abbrev pub landed : Arc → Option ℕ → Option Arc
landed a None = None
landed a (Some metric) = Some a

changed_in : (p : List ℕ × List ℕ) (arcs : List Arc) (a : Arc) (new : Option ℕ) → AreByPlace arcs
    → arc_in (change_in_force arcs a new) p ≡ cond (is_at (pair_cmp p) (place_of a)) (landed a new) (arc_in arcs p)
changed_in p arcs a None ordered = arc_in_taken p arcs a ordered
changed_in p arcs a (Some metric) ordered = arc_in_put p arcs a

pub arc_in_changed : (p : List ℕ × List ℕ) (arcs : List Arc) (c : LinkChange) → AreByPlace arcs
    → arc_in (with_change arcs c) p ≡ cond (is_at (pair_cmp p) (place_of c.arc)) (landed c.arc c.new) (arc_in arcs p)
arc_in_changed p arcs c ordered = changed_in p arcs c.arc c.new ordered

ordered_by_change : (arcs : List Arc) (a : Arc) (new : Option ℕ) → AreByPlace arcs → AreByPlace (change_in_force arcs a new)
ordered_by_change arcs a None ordered = ordered_taken arcs a ordered
ordered_by_change arcs a (Some metric) ordered = ordered_put arcs a ordered

pub ordered_changed : (arcs : List Arc) (c : LinkChange) → AreByPlace arcs → AreByPlace (with_change arcs c)
ordered_changed arcs c ordered = ordered_by_change arcs c.arc c.new ordered

-- ---- lists in order with the same arc at each place

first_found : (a : Arc) (arcs : List Arc) → arc_in (a ∷ arcs) (place_of a) ≡ Some a
first_found a arcs = ap (λ t. cond t (Some a) (arc_in arcs (place_of a))) (at_itself (place_of a))

same_rest : (a : Arc) (xs ys : List Arc) → AreByPlace (a ∷ xs) → AreByPlace (a ∷ ys)
    → ((p : List ℕ × List ℕ) → arc_in (a ∷ xs) p ≡ arc_in (a ∷ ys) p) → (p : List ℕ × List ℕ) → arc_in xs p ≡ arc_in ys p
same_rest a xs ys ordered ordered' same p = by_test (is_at (pair_cmp p) (place_of a)) refl where
  by_test : (t : Bool) → is_at (pair_cmp p) (place_of a) ≡ t → arc_in xs p ≡ arc_in ys p
  by_test true here = none_later p a xs ordered here ∙ sym (none_later p a ys ordered' here)
  by_test false there = sym (ap (λ t. cond t (Some a) (arc_in xs p)) there) ∙ same p ∙ ap (λ t. cond t (Some a) (arc_in ys p)) there

same_first : (a b : Arc) (xs ys : List Arc) (o : Ordering) → place_cmp a b ≡ o → AreByPlace (a ∷ xs) → AreByPlace (b ∷ ys)
    → ((p : List ℕ × List ℕ) → arc_in (a ∷ xs) p ≡ arc_in (b ∷ ys) p) → a ≡ b
same_first a b xs ys Less is ordered ordered' same =
    absurd (some_is_none a (sym (first_found a xs) ∙ same (place_of a) ∙ none_before_first (place_of a) b ys ordered' is))
same_first a b xs ys Equal is ordered ordered' same =
    let e : Some a ≡ Some b = sym (first_found a xs) ∙ same (place_of a) ∙ ap (arc_in (b ∷ ys)) (pair_exact (place_of a) (place_of b) is) ∙ first_found b ys in cc
same_first a b xs ys Greater is ordered ordered' same =
    absurd (some_is_none b (sym (first_found b ys) ∙ sym (same (place_of b))
    ∙ none_before_first (place_of b) a xs ordered (place_total.antisymm b a ∙ ap ordering_reverse is)))

pub same_arcs : (xs ys : List Arc) → AreByPlace xs → AreByPlace ys → ((p : List ℕ × List ℕ) → arc_in xs p ≡ arc_in ys p) → xs ≡ ys
same_arcs [] [] ordered ordered' same = refl
same_arcs [] (b ∷ ys) ordered ordered' same = absurd (some_is_none b (sym (first_found b ys) ∙ sym (same (place_of b))))
same_arcs (a ∷ xs) [] ordered ordered' same = absurd (some_is_none a (sym (first_found a xs) ∙ same (place_of a)))
same_arcs (a ∷ xs) (b ∷ ys) ordered ordered' same =
    let e = same_first a b xs ys (place_cmp a b) refl ordered ordered' same in
    same_from a b xs ys e ordered ordered' same (λ h h' s. same_arcs xs ys h h' s) where
      same_from : (a b : Arc) (xs ys : List Arc) → a ≡ b → AreByPlace (a ∷ xs) → AreByPlace (b ∷ ys) → ((p : List ℕ × List ℕ) → arc_in (a ∷ xs) p ≡ arc_in (b ∷ ys) p)
          → (AreByPlace xs → AreByPlace ys → ((p : List ℕ × List ℕ) → arc_in xs p ≡ arc_in ys p) → xs ≡ ys) → a ∷ xs ≡ b ∷ ys
      same_from a b xs ys e ordered ordered' same rest =
          let ordered_a : AreByPlace (a ∷ ys) = subst (λ x. AreByPlace (x ∷ ys)) (sym e) ordered' in
          let same_a : (p : List ℕ × List ℕ) → arc_in (a ∷ xs) p ≡ arc_in (a ∷ ys) p = λ p. same p ∙ ap (λ x. arc_in (x ∷ ys) p) (sym e) in
          ap (λ zs. a ∷ zs) (rest (later_ordered a xs ordered) (later_ordered a ys ordered_a) (same_rest a xs ys ordered ordered_a same_a)) ∙ ap (λ x. x ∷ ys) e

-- Arcs by place are searched, changed and read at the index where a search ends.
use Rattle.std.proofs.Common.{◌≡◌, ℕ, zero, suc, ◌+◌, ◌<◌, ◌≤◌, List, [], ◌∷◌, length, get_or, set, false, cond, Some, None, Result, Ok, Err, refl, sym, ◌∙◌, ap, arith}
use Rattle.std.specs.declared.cmp.Ordering.{Ordering}
use Rattle.std.specs.declared.cmp.Ordering.TheVariants.{Less, Equal, Greater}
use Rattle.std.specs.Ordering.{is_eq, is_lt, match_ordering, ordering_reverse, ordering_index}
use Rattle.std.specs.List.{AllByRecursion, AllWithin, HoldsAt, insert, remove, slice_get}
use Rattle.std.specs.List.Sorted.{IsBinarySearchResult, IsSearchInRange, IsNonDecreasingBy, IsSortedBy}
use Rattle.std.specs.BTreeMap.{is_at}
use Rattle.std.proofs.lemmas.List.Sorted.{searchable_from_sorted}
use Rattle.std.proofs.lemmas.Map.Keys.{Less-from_sorted}
use Rattle.ls_graph.specs.declared.arc.Arc.{Arc}
use Rattle.ls_graph.specs.Changes.{place_cmp, AreByPlace, with_arc_in_place, without_place}
use Rattle.ls_graph.specs.Places.{pair_cmp, place_of, arc_in, IsFoundAt}
use Rattle.ls_graph.proofs.Order.{pair_total, place_total, test_back}
use Rattle.ls_graph.proofs.ArcIn.{first_before, later_ordered}

-- ---- a binary search finds the place

not_below : (a b : Arc) → place_cmp a b ≡ Less → is_lt (pair_cmp (place_of b) (place_of a)) ≡ false
not_below a b less = ap is_lt (place_total.antisymm b a ∙ ap ordering_reverse less)

in_order : (arcs : List Arc) → AreByPlace arcs → IsSortedBy (λ a b. is_lt (pair_cmp (place_of a) (place_of b))) arcs
in_order arcs ordered k d low within =
    not_below (get_or arcs k d) (get_or arcs (k + 1) d) (Less-from_sorted place_cmp arcs k (k + 1) d ordered (omega arith) within)

rises : (arcs : List Arc) (p : List ℕ × List ℕ) → AreByPlace arcs → IsNonDecreasingBy (λ b. ordering_index (pair_cmp (place_of b) p)) arcs
rises arcs p ordered = searchable_from_sorted pair_total place_of arcs p (in_order arcs ordered)

pub found_at : (arcs : List Arc) (p : List ℕ × List ℕ) (r : Result ℕ ℕ) → AreByPlace arcs → IsSearchInRange r (length arcs)
    → IsBinarySearchResult (λ b. pair_cmp (place_of b) p) arcs r → IsFoundAt arcs p r
found_at arcs p (Ok i) ordered bound found = (bound, found)
found_at arcs p (Err i) ordered bound found = let parts = found (rises arcs p ordered) in (bound, parts.0, parts.1)

-- ---- at the index of the place

all_at : (P : Arc → Type 0) (arcs : List Arc) (i : ℕ) (d : Arc) → i < length arcs → AllByRecursion P arcs → P (get_or arcs i d)
all_at P [] i d within all = absurd (omega arith)
all_at P (a ∷ arcs) zero d within all = all.0
all_at P (a ∷ arcs) (suc i) d within all = all_at P arcs i d (omega arith) all.1

turned : (a b : Arc) (o : Ordering) → place_cmp b a ≡ o → place_cmp a b ≡ ordering_reverse o
turned a b o e = place_total.antisymm a b ∙ ap ordering_reverse e

-- an arc before one that is at the place is before the place
before_place : (b x a : Arc) → place_cmp b x ≡ Less → place_cmp x a ≡ Equal → place_cmp b a ≡ Less
before_place b x a less same =
    let back : place_cmp x b ≡ Greater = turned x b Less less in
    turned b a Greater (sym (place_total.congr x a b same) ∙ back)

pub put_found : (arcs : List Arc) (a : Arc) (i : ℕ) → AreByPlace arcs → i < length arcs → HoldsAt (λ b. pair_cmp (place_of b) (place_of a) ≡ Equal) arcs i
    → set arcs i a ≡ with_arc_in_place arcs a
put_found [] a i ordered within at = absurd (omega arith)
put_found (b ∷ arcs) a zero ordered within at =
    sym (ap (λ o. match_ordering o (a ∷ b ∷ arcs) (a ∷ arcs) (b ∷ with_arc_in_place arcs a)) (turned a b Equal (at a)))
put_found (b ∷ arcs) a (suc i) ordered within at =
    let less : place_cmp b a ≡ Less = before_place b (get_or arcs i a) a (all_at (λ x. place_cmp b x ≡ Less) arcs i a (omega arith) (first_before b arcs ordered)) (at a) in
    ap (λ later. b ∷ later) (put_found arcs a i (later_ordered b arcs ordered) (omega arith) at)
    ∙ sym (ap (λ o. match_ordering o (a ∷ b ∷ arcs) (a ∷ arcs) (b ∷ with_arc_in_place arcs a)) (turned a b Less less))

pub taken_found : (arcs : List Arc) (a : Arc) (i : ℕ) → AreByPlace arcs → i < length arcs → HoldsAt (λ b. pair_cmp (place_of b) (place_of a) ≡ Equal) arcs i
    → remove arcs i ≡ without_place arcs a
taken_found [] a i ordered within at = absurd (omega arith)
taken_found (b ∷ arcs) a zero ordered within at =
    sym (ap (λ o. match_ordering o (b ∷ arcs) arcs (b ∷ without_place arcs a)) (turned a b Equal (at a)))
taken_found (b ∷ arcs) a (suc i) ordered within at =
    let less : place_cmp b a ≡ Less = before_place b (get_or arcs i a) a (all_at (λ x. place_cmp b x ≡ Less) arcs i a (omega arith) (first_before b arcs ordered)) (at a) in
    ap (λ later. b ∷ later) (taken_found arcs a i (later_ordered b arcs ordered) (omega arith) at)
    ∙ sym (ap (λ o. match_ordering o (b ∷ arcs) arcs (b ∷ without_place arcs a)) (turned a b Less less))

-- ---- where nothing is at the place

later_within : (P : Arc → Type 0) (b : Arc) (arcs : List Arc) (i : ℕ) → AllWithin P (b ∷ arcs) 0 (suc i) → AllWithin P arcs 0 i
later_within P b arcs i all k d low within = all (suc k) d (omega arith) (omega arith)

above_within : (P : Arc → Type 0) (b : Arc) (arcs : List Arc) (i : ℕ) → AllWithin P (b ∷ arcs) (suc i) (length (b ∷ arcs)) → AllWithin P arcs i (length arcs)
above_within P b arcs i all k d low within = all (suc k) d (omega arith) (omega arith)

abbrev IsBelow : List ℕ × List ℕ → Arc → Type 0
IsBelow p b = pair_cmp (place_of b) p ≡ Less

abbrev IsAbove : List ℕ × List ℕ → Arc → Type 0
IsAbove p b = pair_cmp (place_of b) p ≡ Greater

pub put_absent : (arcs : List Arc) (a : Arc) (i : ℕ) → i ≤ length arcs → AllWithin (IsBelow (place_of a)) arcs 0 i → AllWithin (IsAbove (place_of a)) arcs i (length arcs)
    → insert arcs i a ≡ with_arc_in_place arcs a
put_absent [] a zero within below above = refl
put_absent [] a (suc i) within below above = absurd (omega arith)
put_absent (b ∷ arcs) a zero within below above =
    sym (ap (λ o. match_ordering o (a ∷ b ∷ arcs) (a ∷ arcs) (b ∷ with_arc_in_place arcs a)) (turned a b Greater (above 0 b (omega arith) (omega arith))))
put_absent (b ∷ arcs) a (suc i) within below above =
    ap (λ later. b ∷ later)
    (put_absent arcs a i (omega arith) (later_within (IsBelow (place_of a)) b arcs i below) (above_within (IsAbove (place_of a)) b arcs i above))
    ∙ sym (ap (λ o. match_ordering o (a ∷ b ∷ arcs) (a ∷ arcs) (b ∷ with_arc_in_place arcs a)) (turned a b Less (below 0 b (omega arith) (omega arith))))

pub taken_absent : (arcs : List Arc) (a : Arc) (i : ℕ) → i ≤ length arcs → AllWithin (IsBelow (place_of a)) arcs 0 i → AllWithin (IsAbove (place_of a)) arcs i (length arcs)
    → arcs ≡ without_place arcs a
taken_absent [] a i within below above = refl
taken_absent (b ∷ arcs) a zero within below above =
    sym (ap (λ o. match_ordering o (b ∷ arcs) arcs (b ∷ without_place arcs a)) (turned a b Greater (above 0 b (omega arith) (omega arith))))
taken_absent (b ∷ arcs) a (suc i) within below above =
    ap (λ later. b ∷ later)
    (taken_absent arcs a i (omega arith) (later_within (IsBelow (place_of a)) b arcs i below) (above_within (IsAbove (place_of a)) b arcs i above))
    ∙ sym (ap (λ o. match_ordering o (b ∷ arcs) arcs (b ∷ without_place arcs a)) (turned a b Less (below 0 b (omega arith) (omega arith))))

-- ---- what is read

apart_from : (p : List ℕ × List ℕ) (b : Arc) (o : Ordering) → pair_cmp (place_of b) p ≡ o → is_eq o ≡ false → is_at (pair_cmp p) (place_of b) ≡ false
apart_from p b o e apart = test_back (place_of b) p ∙ ap is_eq e ∙ apart

pub read_found : (arcs : List Arc) (p : List ℕ × List ℕ) (i : ℕ) → AreByPlace arcs → i < length arcs → HoldsAt (λ b. pair_cmp (place_of b) p ≡ Equal) arcs i
    → slice_get arcs i ≡ arc_in arcs p
read_found [] p i ordered within at = absurd (omega arith)
read_found (b ∷ arcs) p zero ordered within at =
    sym (ap (λ t. cond t (Some b) (arc_in arcs p)) (test_back (place_of b) p ∙ ap is_eq (at b)))
read_found (b ∷ arcs) p (suc i) ordered within at =
    let x = get_or arcs i b in
    let less : place_cmp b x ≡ Less = all_at (λ y. place_cmp b y ≡ Less) arcs i b (omega arith) (first_before b arcs ordered) in
    let apart : pair_cmp (place_of b) p ≡ Less =
    pair_total.antisymm (place_of b) p ∙ ap ordering_reverse (sym (pair_total.congr (place_of x) p (place_of b) (at b)) ∙ turned x b Less less) in
    read_found arcs p i (later_ordered b arcs ordered) (omega arith) at
    ∙ sym (ap (λ t. cond t (Some b) (arc_in arcs p)) (apart_from p b Less apart refl))

pub read_absent : (arcs : List Arc) (p : List ℕ × List ℕ) (i : ℕ) → i ≤ length arcs → AllWithin (IsBelow p) arcs 0 i → AllWithin (IsAbove p) arcs i (length arcs) → None ≡ arc_in arcs p
read_absent [] p i within below above = refl
read_absent (b ∷ arcs) p zero within below above =
    read_absent arcs p 0 (omega arith) (λ k d low h. absurd (omega arith)) (λ k d low h. above (suc k) d (omega arith) (omega arith))
    ∙ sym (ap (λ t. cond t (Some b) (arc_in arcs p)) (apart_from p b Greater (above 0 b (omega arith) (omega arith)) refl))
read_absent (b ∷ arcs) p (suc i) within below above =
    read_absent arcs p i (omega arith) (later_within (IsBelow p) b arcs i below) (above_within (IsAbove p) b arcs i above)
    ∙ sym (ap (λ t. cond t (Some b) (arc_in arcs p)) (apart_from p b Less (below 0 b (omega arith) (omega arith)) refl))

pub some_at : (arcs : List Arc) (i : ℕ) (x : Arc) → i < length arcs → x ≡ get_or arcs i x → Some x ≡ slice_get arcs i
some_at [] i x within e = absurd (omega arith)
some_at (b ∷ arcs) zero x within e = ap Some e
some_at (b ∷ arcs) (suc i) x within e = some_at arcs i x (omega arith) e

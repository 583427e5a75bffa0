-- Records by name: one in place of another, or none, and what look-ups tell then.
use Rattle.std.proofs.Common.{◌≡◌, ℕ, List, [], ◌∷◌, Bool, true, false, cond, Option, Some, None, refl, sym, ◌∙◌, ap}
use Rattle.std.specs.declared.cmp.Ordering.{Ordering}
use Rattle.std.specs.declared.cmp.Ordering.TheVariants.{Less, Equal, Greater}
use Rattle.std.specs.Ordering.{is_eq, match_ordering, ordering_reverse}
use Rattle.std.specs.List.{AllByRecursion}
use Rattle.std.specs.List.Sorted.{IsStrictlySortedBy}
use Rattle.std.specs.Map.{keys_of, lookup, remove_entry}
use Rattle.std.specs.BTreeMap.{insert_entry, is_at}
use Rattle.std.proofs.lemmas.Bool.{false≢true}
use Rattle.std.proofs.lemmas.Cmp.{nat_list_cmp_total, eq_by_cmp_equiv}
use Rattle.std.proofs.lemmas.Map.{lookup-none, lookup-remove_entry}
use Rattle.std.proofs.lemmas.Map.Entries.{none_below_head, none_past_head}
use Rattle.std.proofs.lemmas.Map.Keys.{sorted_tail, IsDistinct-from_sorted}
use Rattle.std.proofs.lemmas.Map.Lookups.{exact_bytes}
use Rattle.or_base.specs.Order.{bytes_cmp}
use Rattle.ls_graph.proofs.Order.{same_name, name_back, name_itself}
use Rattle.ls_records.specs.Step.{changed}

abbrev pub AreByName : {X : Type 0} → List (List ℕ × X) → Type 0
AreByName records = IsStrictlySortedBy bytes_cmp (keys_of records)

-- ---- records with the same look-ups

first_found : {X : Type 0} (e : List ℕ × X) (es : List (List ℕ × X)) → lookup (is_at (bytes_cmp e.0)) (e ∷ es) ≡ Some e.1
first_found e es = ap (λ t. cond t (Some e.1) (lookup (is_at (bytes_cmp e.0)) es)) (name_itself e.0)

below_first : {X : Type 0} (name : List ℕ) (e : List ℕ × X) (es : List (List ℕ × X)) → AreByName (e ∷ es) → bytes_cmp name e.0 ≡ Less
    → lookup (is_at (bytes_cmp name)) (e ∷ es) ≡ None
below_first name e es ordered below = lookup-none (is_at (bytes_cmp name)) (e ∷ es) (none_below_head nat_list_cmp_total name e es ordered below)

past_first : {X : Type 0} (name : List ℕ) (e : List ℕ × X) (es : List (List ℕ × X)) → AreByName (e ∷ es) → is_at (bytes_cmp name) e.0 ≡ true → lookup (is_at (bytes_cmp name)) es ≡ None
past_first name e es ordered here =
    lookup-none (is_at (bytes_cmp name)) es
    (none_past_head (eq_by_cmp_equiv nat_list_cmp_total) name e es (IsDistinct-from_sorted bytes_cmp (keys_of (e ∷ es)) ordered) here)

abbrev FindTheSame : {X : Type 0} → List (List ℕ × X) → List (List ℕ × X) → Type 0
FindTheSame es fs = (name : List ℕ) → lookup (is_at (bytes_cmp name)) es ≡ lookup (is_at (bytes_cmp name)) fs

later_same : {X : Type 0} (e f : List ℕ × X) (es fs : List (List ℕ × X)) → AreByName (e ∷ es) → AreByName (f ∷ fs) → e.0 ≡ f.0 → FindTheSame (e ∷ es) (f ∷ fs)
    → (name : List ℕ) (here : Bool) → is_at (bytes_cmp name) e.0 ≡ here → lookup (is_at (bytes_cmp name)) es ≡ lookup (is_at (bytes_cmp name)) fs
later_same e f es fs ordered ordered' named same name true at =
    past_first name e es ordered at ∙ sym (past_first name f fs ordered' (ap (is_at (bytes_cmp name)) (sym named) ∙ at))
later_same e f es fs ordered ordered' named same name false at =
    sym (ap (λ t. cond t (Some e.1) (lookup (is_at (bytes_cmp name)) es)) at) ∙ same name
    ∙ ap (λ t. cond t (Some f.1) (lookup (is_at (bytes_cmp name)) fs)) (ap (is_at (bytes_cmp name)) (sym named) ∙ at)

not_below : {X : Type 0} (e f : List ℕ × X) (es fs : List (List ℕ × X)) → AreByName (f ∷ fs) → FindTheSame (e ∷ es) (f ∷ fs) → bytes_cmp e.0 f.0 ≡ Less → ⊥
not_below e f es fs ordered same below =
    let wrong : Some e.1 ≡ None = sym (first_found e es) ∙ same e.0 ∙ below_first e.0 f fs ordered below in cc

by_firsts : {X : Type 0} (e f : List ℕ × X) (es fs : List (List ℕ × X)) → AreByName (e ∷ es) → AreByName (f ∷ fs) → FindTheSame (e ∷ es) (f ∷ fs) → (e.0 ≡ f.0 → es ≡ fs)
    → (o : Ordering) → bytes_cmp e.0 f.0 ≡ o → e ∷ es ≡ f ∷ fs
by_firsts e f es fs ordered ordered' same rest Less is = absurd (not_below e f es fs ordered' same is)
by_firsts e f es fs ordered ordered' same rest Greater is =
    absurd (not_below f e fs es ordered (λ name. sym (same name)) (nat_list_cmp_total.antisymm f.0 e.0 ∙ ap ordering_reverse is))
by_firsts e f es fs ordered ordered' same rest Equal is =
    let named : e.0 ≡ f.0 = exact_bytes e.0 f.0 is in
    let found : Some e.1 ≡ Some f.1 = sym (first_found e es) ∙ same e.0 ∙ ap (λ k. lookup (is_at (bytes_cmp k)) (f ∷ fs)) named ∙ first_found f fs in
    let value : e.1 ≡ f.1 = cc in
    ap (λ k. (k, e.1) ∷ es) named ∙ ap (λ v. (f.0, v) ∷ es) value ∙ ap (λ gs. f ∷ gs) (rest named)

-- records with the same look-ups are the same
pub same_records : {X : Type 0} (es fs : List (List ℕ × X)) → AreByName es → AreByName fs → FindTheSame es fs → es ≡ fs
same_records [] [] ordered ordered' same = refl
same_records [] (f ∷ fs) ordered ordered' same = let wrong : None ≡ Some f.1 = same f.0 ∙ first_found f fs in cc
same_records (e ∷ es) [] ordered ordered' same = let wrong : Some e.1 ≡ None = sym (first_found e es) ∙ same e.0 in cc
same_records (e ∷ es) (f ∷ fs) ordered ordered' same =
    by_firsts e f es fs ordered ordered' same
    (λ named. same_records es fs (sorted_tail bytes_cmp e.0 (keys_of es) ordered) (sorted_tail bytes_cmp f.0 (keys_of fs) ordered')
    (λ name. later_same e f es fs ordered ordered' named same name (is_at (bytes_cmp name) e.0) refl))
    (bytes_cmp e.0 f.0) refl

-- ---- the order of names

-- a name stands before all of these
abbrev IsAbove : {X : Type 0} → List ℕ → List (List ℕ × X) → Type 0
IsAbove name es = AllByRecursion (λ other. bytes_cmp name other ≡ Less) (keys_of es)

above_all : {X : Type 0} (name first : List ℕ) (es : List (List ℕ × X)) → bytes_cmp name first ≡ Less → IsAbove first es → IsAbove name es
above_all name first [] less all = tt
above_all name first (e ∷ es) less all = (nat_list_cmp_total.trans name first e.0 less all.0, above_all name first es less all.1)

above_placed : {X : Type 0} (name : List ℕ) (o : Ordering) (node : List ℕ) (x : X) (e : List ℕ × X) (es later : List (List ℕ × X)) → bytes_cmp name node ≡ Less
    → IsAbove name (e ∷ es) → IsAbove name later → IsAbove name (match_ordering o ((node, x) ∷ e ∷ es) ((e.0, x) ∷ es) (e ∷ later))
above_placed name Less node x e es later here all after = (here, all)
above_placed name Equal node x e es later here all after = all
above_placed name Greater node x e es later here all after = (all.0, after)

above_with : {X : Type 0} (name node : List ℕ) (x : X) (es : List (List ℕ × X)) → bytes_cmp name node ≡ Less → IsAbove name es → IsAbove name (insert_entry bytes_cmp es node x)
above_with name node x [] here all = (here, tt)
above_with name node x (e ∷ es) here all =
    above_placed name (bytes_cmp node e.0) node x e es (insert_entry bytes_cmp es node x) here all (above_with name node x es here all.1)

ordered_placed : {X : Type 0} (o : Ordering) (node : List ℕ) (x : X) (e : List ℕ × X) (es later : List (List ℕ × X)) → bytes_cmp node e.0 ≡ o → IsAbove e.0 es → AreByName es
    → (bytes_cmp e.0 node ≡ Less → IsAbove e.0 later) → AreByName later
    → AreByName (match_ordering o ((node, x) ∷ e ∷ es) ((e.0, x) ∷ es) (e ∷ later))
unfolding IsStrictlySortedBy
ordered_placed Less node x e es later is above ordered follows after = ((is, above_all node e.0 es is above), (above, ordered))
ordered_placed Equal node x e es later is above ordered follows after = (above, ordered)
ordered_placed Greater node x e es later is above ordered follows after = (follows (nat_list_cmp_total.antisymm e.0 node ∙ ap ordering_reverse is), after)

ordered_with : {X : Type 0} (node : List ℕ) (x : X) (es : List (List ℕ × X)) → AreByName es → AreByName (insert_entry bytes_cmp es node x)
unfolding IsStrictlySortedBy
ordered_with node x [] ordered = (tt, tt)
ordered_with node x (e ∷ es) ordered =
    ordered_placed (bytes_cmp node e.0) node x e es (insert_entry bytes_cmp es node x) refl ordered.0 ordered.1
    (λ less. above_with e.0 node x es less ordered.0) (ordered_with node x es ordered.1)

above_left_if : {X : Type 0} (name : List ℕ) (here : Bool) (e : List ℕ × X) (es left : List (List ℕ × X)) → IsAbove name (e ∷ es) → IsAbove name left → IsAbove name (cond here es (e ∷ left))
above_left_if name true e es left all rest = all.1
above_left_if name false e es left all rest = (all.0, rest)

above_without : {X : Type 0} (name node : List ℕ) (es : List (List ℕ × X)) → IsAbove name es → IsAbove name (remove_entry (is_at (bytes_cmp node)) es)
above_without name node [] all = tt
above_without name node (e ∷ es) all =
    above_left_if name (is_at (bytes_cmp node) e.0) e es (remove_entry (is_at (bytes_cmp node)) es) all (above_without name node es all.1)

ordered_left_if : {X : Type 0} (here : Bool) (e : List ℕ × X) (es left : List (List ℕ × X)) → AreByName es → IsAbove e.0 left → AreByName left → AreByName (cond here es (e ∷ left))
unfolding IsStrictlySortedBy
ordered_left_if true e es left ordered above rest = ordered
ordered_left_if false e es left ordered above rest = (above, rest)

ordered_without : {X : Type 0} (node : List ℕ) (es : List (List ℕ × X)) → AreByName es → AreByName (remove_entry (is_at (bytes_cmp node)) es)
unfolding IsStrictlySortedBy
ordered_without node [] ordered = tt
ordered_without node (e ∷ es) ordered =
    ordered_left_if (is_at (bytes_cmp node) e.0) e es (remove_entry (is_at (bytes_cmp node)) es) ordered.1
    (above_without e.0 node es ordered.0) (ordered_without node es ordered.1)

-- a change of one record leaves all in order
pub ordered_changed : {X : Type 0} (records : List (List ℕ × X)) (node : List ℕ) (x : Option X) → AreByName records → AreByName (changed records node x)
ordered_changed records node None ordered = ordered_without node records ordered
ordered_changed records node (Some x) ordered = ordered_with node x records ordered

-- ---- what look-ups tell

at_first : {X : Type 0} (here at : Bool) (v w : X) (rest : Option X) → here ≡ at → cond at (Some v) rest ≡ cond here (Some v) (cond at (Some w) rest)
at_first true true v w rest e = refl
at_first true false v w rest e = absurd (false≢true (sym e))
at_first false true v w rest e = absurd (false≢true e)
at_first false false v w rest e = refl

at_either : {X : Type 0} (here at : Bool) (v w : X) (rest : Option X) → (here ≡ true → at ≡ true → ⊥)
    → cond at (Some w) (cond here (Some v) rest) ≡ cond here (Some v) (cond at (Some w) rest)
at_either true true v w rest apart = absurd (apart refl refl)
at_either true false v w rest apart = refl
at_either false true v w rest apart = refl
at_either false false v w rest apart = refl

found_placed : {X : Type 0} (node : List ℕ) (x : X) (y : List ℕ) (e : List ℕ × X) (es : List (List ℕ × X)) (o : Ordering) → bytes_cmp node e.0 ≡ o
    → lookup (is_at (bytes_cmp y)) (insert_entry bytes_cmp es node x) ≡ cond (is_at (bytes_cmp node) y) (Some x) (lookup (is_at (bytes_cmp y)) es)
    → lookup (is_at (bytes_cmp y)) (match_ordering o ((node, x) ∷ e ∷ es) ((e.0, x) ∷ es) (e ∷ insert_entry bytes_cmp es node x))
    ≡ cond (is_at (bytes_cmp node) y) (Some x) (lookup (is_at (bytes_cmp y)) (e ∷ es))
found_placed node x y e es Less below rest = ap (λ t. cond t (Some x) (lookup (is_at (bytes_cmp y)) (e ∷ es))) (name_back node y)
found_placed node x y e es Equal same rest =
    at_first (is_at (bytes_cmp node) y) (is_at (bytes_cmp y) e.0) x e.1 (lookup (is_at (bytes_cmp y)) es)
    (sym (name_back node y) ∙ ap (λ k. is_at (bytes_cmp y) k) (exact_bytes node e.0 same))
found_placed node x y e es Greater above rest =
    ap (λ found. cond (is_at (bytes_cmp y) e.0) (Some e.1) found) rest
    ∙ at_either (is_at (bytes_cmp node) y) (is_at (bytes_cmp y) e.0) x e.1 (lookup (is_at (bytes_cmp y)) es)
    (λ here at. false≢true (sym (ap is_eq above) ∙ ap (λ k. is_at (bytes_cmp k) e.0) (same_name node y here) ∙ at))

found_with : {X : Type 0} (node : List ℕ) (x : X) (y : List ℕ) (es : List (List ℕ × X))
    → lookup (is_at (bytes_cmp y)) (insert_entry bytes_cmp es node x) ≡ cond (is_at (bytes_cmp node) y) (Some x) (lookup (is_at (bytes_cmp y)) es)
found_with node x y [] = ap (λ t. cond t (Some x) None) (name_back node y)
found_with node x y (e ∷ es) = found_placed node x y e es (bytes_cmp node e.0) refl (found_with node x y es)

-- the node has the new record, and each other node what it had
pub found_changed : {X : Type 0} (records : List (List ℕ × X)) (node : List ℕ) (x : Option X) (y : List ℕ) → AreByName records
    → lookup (is_at (bytes_cmp y)) (changed records node x) ≡ cond (is_at (bytes_cmp node) y) x (lookup (is_at (bytes_cmp y)) records)
found_changed records node None y ordered =
    lookup-remove_entry (eq_by_cmp_equiv nat_list_cmp_total) (is_at (bytes_cmp node))
    (λ k z e. ap (λ j. is_at (bytes_cmp j) z) (same_name node k e)) y records (IsDistinct-from_sorted bytes_cmp (keys_of records) ordered)
found_changed records node (Some x) y ordered = found_with node x y records

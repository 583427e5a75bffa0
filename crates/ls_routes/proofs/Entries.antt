-- Lists of entries in the order of their keys: what a look-up finds after a change, and that look-ups tell all of a list.
use Rattle.std.proofs.Common.{◌≡◌, List, [], ◌∷◌, Bool, true, false, cond, Option, Some, None, refl, sym, ◌∙◌, ap}
use Rattle.std.specs.declared.cmp.Ordering.{Ordering}
use Rattle.std.specs.declared.cmp.Ordering.TheVariants.{Less, Equal, Greater}
use Rattle.std.specs.Cmp.{IsTotalOrder}
use Rattle.std.specs.Option.{unwrap_or}
use Rattle.std.specs.Ordering.{is_eq, match_ordering, ordering_reverse}
use Rattle.std.specs.List.{AllByRecursion}
use Rattle.std.specs.List.Sorted.{IsStrictlySortedBy}
use Rattle.std.specs.Map.{keys_of, lookup, remove_entry}
use Rattle.std.specs.BTreeMap.{insert_entry, is_at}
use Rattle.std.proofs.lemmas.Bool.{false≢true}
use Rattle.std.proofs.lemmas.Cmp.{tied_itself, eq_by_cmp_equiv}
use Rattle.std.proofs.lemmas.Map.{lookup-none, lookup-remove_entry}
use Rattle.std.proofs.lemmas.Map.Entries.{none_below_head, none_past_head}
use Rattle.std.proofs.lemmas.Map.Keys.{sorted_tail, IsDistinct-from_sorted}
use Rattle.std.proofs.lemmas.Map.Lookups.{CmpEqualImpliesEq}

pub some_is_none : {X : Type 0} (x : X) → Some x ≡ None → ⊥
some_is_none x e = cc

equal_from_test : (o : Ordering) → is_eq o ≡ true → o ≡ Equal
equal_from_test Less e = cc
equal_from_test Equal e = refl
equal_from_test Greater e = cc

reversed_test : (o : Ordering) → is_eq (ordering_reverse o) ≡ is_eq o
reversed_test Less = refl
reversed_test Equal = refl
reversed_test Greater = refl

at_first : {X : Type 0} (here at : Bool) (v w : X) (rest : Option X) → here ≡ at → cond at (Some v) rest ≡ cond here (Some v) (cond at (Some w) rest)
at_first true true v w rest e = refl
at_first true false v w rest e = cc
at_first false true v w rest e = cc
at_first false false v w rest e = refl

at_either : {X : Type 0} (here at : Bool) (v w : X) (rest : Option X) → (here ≡ true → at ≡ true → ⊥)
    → cond at (Some w) (cond here (Some v) rest) ≡ cond here (Some v) (cond at (Some w) rest)
at_either true true v w rest apart = absurd (apart refl refl)
at_either true false v w rest apart = refl
at_either false true v w rest apart = refl
at_either false false v w rest apart = refl

rest_if : {X : Type 0} (here : Bool) (v : X) (rest : Option X) → (here ≡ true → rest ≡ None) → rest ≡ cond here None (cond here (Some v) rest)
rest_if true v rest none = none refl
rest_if false v rest none = refl

module _ {K : Type 0} {R : K → K → Ordering} (total : IsTotalOrder R) (exact : CmpEqualImpliesEq R) where
  pub same_key : (p q : K) → is_at (R p) q ≡ true → p ≡ q
  same_key p q e = exact p q (equal_from_test (R p q) e)

  pub at_itself : (p : K) → is_at (R p) p ≡ true
  at_itself p = ap is_eq (tied_itself total p)

  pub test_back : (p q : K) → is_at (R q) p ≡ is_at (R p) q
  test_back p q = ap is_eq (total.antisymm q p) ∙ reversed_test (R p q)

  all_below : (p first : K) (keys : List K) → R p first ≡ Less → AllByRecursion (λ q. R first q ≡ Less) keys → AllByRecursion (λ q. R p q ≡ Less) keys
  all_below p first [] less all = tt
  all_below p first (q ∷ keys) less all = (total.trans p first q less all.0, all_below p first keys less all.1)

  module _ {X : Type 0} where
    abbrev found_in : List (K × X) → K → Option X
    found_in es q = lookup (is_at (R q)) es

    -- ---- what a look-up finds after a change

    with_by_order : (key q : K) (value : X) (e : K × X) (es later : List (K × X)) → found_in later q ≡ cond (is_at (R key) q) (Some value) (found_in es q)
        → (o : Ordering) → R key e.0 ≡ o
        → found_in (match_ordering o ((key, value) ∷ e ∷ es) ((e.0, value) ∷ es) (e ∷ later)) q ≡ cond (is_at (R key) q) (Some value) (found_in (e ∷ es) q)
    with_by_order key q value e es later rest Less below = ap (λ t. cond t (Some value) (found_in (e ∷ es) q)) (test_back key q)
    with_by_order key q value e es later rest Equal same =
        at_first (is_at (R key) q) (is_at (R q) e.0) value e.1 (found_in es q) (sym (test_back key q) ∙ ap (λ k. is_at (R q) k) (exact key e.0 same))
    with_by_order key q value e es later rest Greater above =
        ap (λ found. cond (is_at (R q) e.0) (Some e.1) found) rest
        ∙ at_either (is_at (R key) q) (is_at (R q) e.0) value e.1 (found_in es q)
        (λ here at. false≢true (sym (ap is_eq above) ∙ ap (λ k. is_at (R k) e.0) (same_key key q here) ∙ at))

    pub lookup_with : (key : K) (value : X) (q : K) (es : List (K × X))
        → lookup (is_at (R q)) (insert_entry R es key value) ≡ cond (is_at (R key) q) (Some value) (lookup (is_at (R q)) es)
    lookup_with key value q [] = ap (λ t. cond t (Some value) None) (test_back key q)
    lookup_with key value q (e ∷ es) = with_by_order key q value e es (insert_entry R es key value) (lookup_with key value q es) (R key e.0) refl

    pub lookup_without : (key q : K) (es : List (K × X)) → IsStrictlySortedBy R (keys_of es)
        → lookup (is_at (R q)) (remove_entry (is_at (R key)) es) ≡ cond (is_at (R key) q) None (lookup (is_at (R q)) es)
    lookup_without key q es ordered =
        lookup-remove_entry (eq_by_cmp_equiv total) (is_at (R key)) (λ x y e. ap (λ k. is_at (R k) y) (same_key key x e)) q es (IsDistinct-from_sorted R (keys_of es) ordered)

    -- ---- the order of keys after a change

    all_placed : (P : K → Type 0) (o : Ordering) (key : K) (value : X) (e : K × X) (es later : List (K × X))
        → P key → P e.0 → AllByRecursion P (keys_of es) → AllByRecursion P (keys_of later)
        → AllByRecursion P (keys_of (match_ordering o ((key, value) ∷ e ∷ es) ((e.0, value) ∷ es) (e ∷ later)))
    all_placed P Less key value e es later here at all after = (here, (at, all))
    all_placed P Equal key value e es later here at all after = (at, all)
    all_placed P Greater key value e es later here at all after = (at, after)

    all_with : (P : K → Type 0) (key : K) (value : X) (es : List (K × X)) → P key → AllByRecursion P (keys_of es)
        → AllByRecursion P (keys_of (insert_entry R es key value))
    all_with P key value [] here all = (here, tt)
    all_with P key value (e ∷ es) here all = all_placed P (R key e.0) key value e es (insert_entry R es key value) here all.0 all.1 (all_with P key value es here all.1)

    ordered_placed : (o : Ordering) (key : K) (value : X) (e : K × X) (es later : List (K × X)) → R key e.0 ≡ o
        → AllByRecursion (λ q. R e.0 q ≡ Less) (keys_of es) → IsStrictlySortedBy R (keys_of es)
        → (R e.0 key ≡ Less → AllByRecursion (λ q. R e.0 q ≡ Less) (keys_of later)) → IsStrictlySortedBy R (keys_of later)
        → IsStrictlySortedBy R (keys_of (match_ordering o ((key, value) ∷ e ∷ es) ((e.0, value) ∷ es) (e ∷ later)))
    unfolding IsStrictlySortedBy
    ordered_placed Less key value e es later is before ordered follows after = ((is, all_below key e.0 (keys_of es) is before), (before, ordered))
    ordered_placed Equal key value e es later is before ordered follows after = (before, ordered)
    ordered_placed Greater key value e es later is before ordered follows after = (follows (total.antisymm e.0 key ∙ ap ordering_reverse is), after)

    pub ordered_with : (key : K) (value : X) (es : List (K × X)) → IsStrictlySortedBy R (keys_of es) → IsStrictlySortedBy R (keys_of (insert_entry R es key value))
    unfolding IsStrictlySortedBy
    ordered_with key value [] ordered = (tt, tt)
    ordered_with key value (e ∷ es) ordered =
        ordered_placed (R key e.0) key value e es (insert_entry R es key value) refl ordered.0 ordered.1
        (λ less. all_with (λ q. R e.0 q ≡ Less) key value es less ordered.0) (ordered_with key value es ordered.1)

    all_left_if : (P : K → Type 0) (here : Bool) (e : K × X) (es left : List (K × X)) → P e.0 → AllByRecursion P (keys_of es) → AllByRecursion P (keys_of left)
        → AllByRecursion P (keys_of (cond here es (e ∷ left)))
    all_left_if P true e es left at all rest = all
    all_left_if P false e es left at all rest = (at, rest)

    all_without : (P : K → Type 0) (key : K) (es : List (K × X)) → AllByRecursion P (keys_of es) → AllByRecursion P (keys_of (remove_entry (is_at (R key)) es))
    all_without P key [] all = tt
    all_without P key (e ∷ es) all = all_left_if P (is_at (R key) e.0) e es (remove_entry (is_at (R key)) es) all.0 all.1 (all_without P key es all.1)

    ordered_left_if : (here : Bool) (e : K × X) (es left : List (K × X)) → IsStrictlySortedBy R (keys_of es)
        → AllByRecursion (λ q. R e.0 q ≡ Less) (keys_of left) → IsStrictlySortedBy R (keys_of left) → IsStrictlySortedBy R (keys_of (cond here es (e ∷ left)))
    unfolding IsStrictlySortedBy
    ordered_left_if true e es left ordered before rest = ordered
    ordered_left_if false e es left ordered before rest = (before, rest)

    pub ordered_without : (key : K) (es : List (K × X)) → IsStrictlySortedBy R (keys_of es) → IsStrictlySortedBy R (keys_of (remove_entry (is_at (R key)) es))
    unfolding IsStrictlySortedBy
    ordered_without key [] ordered = tt
    ordered_without key (e ∷ es) ordered =
        ordered_left_if (is_at (R key) e.0) e es (remove_entry (is_at (R key)) es) ordered.1
        (all_without (λ q. R e.0 q ≡ Less) key es ordered.0) (ordered_without key es ordered.1)

    -- ---- look-ups tell all of a list

    pub none_later : (e : K × X) (es : List (K × X)) (q : K) → IsStrictlySortedBy R (keys_of (e ∷ es)) → is_at (R q) e.0 ≡ true → lookup (is_at (R q)) es ≡ None
    none_later e es q ordered at =
        lookup-none (is_at (R q)) es (none_past_head (eq_by_cmp_equiv total) q e es (IsDistinct-from_sorted R (keys_of (e ∷ es)) ordered) at)

    first_found : (e : K × X) (es : List (K × X)) → found_in (e ∷ es) e.0 ≡ Some e.1
    first_found e es = ap (λ t. cond t (Some e.1) (found_in es e.0)) (at_itself e.0)

    -- what is found behind the first entry
    rest_found : (e : K × X) (es : List (K × X)) (q : K) → IsStrictlySortedBy R (keys_of (e ∷ es)) → found_in es q ≡ cond (is_at (R q) e.0) None (found_in (e ∷ es) q)
    rest_found e es q ordered = rest_if (is_at (R q) e.0) e.1 (found_in es q) (none_later e es q ordered)

    -- a key before all of a list isn't there
    none_before : (e f : K × X) (es fs : List (K × X)) → IsStrictlySortedBy R (keys_of (f ∷ fs)) → R e.0 f.0 ≡ Less → found_in (e ∷ es) e.0 ≡ found_in (f ∷ fs) e.0 → ⊥
    none_before e f es fs ordered less same =
        some_is_none e.1 (sym (first_found e es) ∙ same ∙ lookup-none (is_at (R e.0)) (f ∷ fs) (none_below_head total e.0 f fs ordered less))

    first_keys : (e f : K × X) (es fs : List (K × X)) → IsStrictlySortedBy R (keys_of (e ∷ es)) → IsStrictlySortedBy R (keys_of (f ∷ fs))
        → ((q : K) → found_in (e ∷ es) q ≡ found_in (f ∷ fs) q) → (o : Ordering) → R e.0 f.0 ≡ o → e.0 ≡ f.0
    first_keys e f es fs ordered ordered' same Less is = absurd (none_before e f es fs ordered' is (same e.0))
    first_keys e f es fs ordered ordered' same Equal is = exact e.0 f.0 is
    first_keys e f es fs ordered ordered' same Greater is =
        absurd (none_before f e fs es ordered (total.antisymm f.0 e.0 ∙ ap ordering_reverse is) (sym (same f.0)))

    pub same_entries : (es fs : List (K × X)) → IsStrictlySortedBy R (keys_of es) → IsStrictlySortedBy R (keys_of fs)
        → ((q : K) → lookup (is_at (R q)) es ≡ lookup (is_at (R q)) fs) → es ≡ fs
    same_entries [] [] ordered ordered' same = refl
    same_entries [] (f ∷ fs) ordered ordered' same = absurd (some_is_none f.1 (sym (first_found f fs) ∙ sym (same f.0)))
    same_entries (e ∷ es) [] ordered ordered' same = absurd (some_is_none e.1 (sym (first_found e es) ∙ same e.0))
    same_entries (e ∷ es) (f ∷ fs) ordered ordered' same =
        let key = first_keys e f es fs ordered ordered' same (R e.0 f.0) refl in
        let value = ap (λ found. unwrap_or found e.1) (sym (first_found e es) ∙ same e.0 ∙ ap (λ k. found_in (f ∷ fs) k) key ∙ first_found f fs) in
        let later =
        same_entries es fs (sorted_tail R e.0 (keys_of es) ordered) (sorted_tail R f.0 (keys_of fs) ordered')
        (λ q. rest_found e es q ordered ∙ (λ i. cond (is_at (R q) (key i)) None (same q i)) ∙ sym (rest_found f fs q ordered')) in
        λ i. (key i, value i) ∷ later i

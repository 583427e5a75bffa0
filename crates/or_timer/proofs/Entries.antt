-- Lists of entries in byte order of keys: one entry put in, one taken out, and a part that is kept.
use Rattle.std.proofs.Common.{◌≡◌, ℕ, List, [], ◌∷◌, Bool, true, false, cond, Option, Some, None, refl, sym, ◌∙◌, ap}
use Rattle.std.specs.declared.cmp.Ordering.{Ordering}
use Rattle.std.specs.declared.cmp.Ordering.TheVariants.{Less, Equal, Greater}
use Rattle.std.specs.Ordering.{is_eq, match_ordering, ordering_reverse}
use Rattle.std.specs.List.{AllByRecursion, filter}
use Rattle.std.specs.List.Sorted.{IsStrictlySortedBy}
use Rattle.std.specs.Map.{keys_of, lookup, remove_entry, set_value}
use Rattle.std.specs.BTreeMap.{insert_entry, is_at}
use Rattle.std.proofs.lemmas.Bool.{false≢true}
use Rattle.std.proofs.lemmas.Cmp.{nat_list_cmp_total, tied_itself, eq_by_cmp_equiv}
use Rattle.std.proofs.lemmas.Map.{lookup-none, lookup-remove_entry}
use Rattle.std.proofs.lemmas.Map.Entries.{none_below_head, none_past_head}
use Rattle.std.proofs.lemmas.Map.Keys.{sorted_tail, IsDistinct-from_sorted}
use Rattle.std.proofs.lemmas.Map.Lookups.{exact_bytes}
use Rattle.std.proofs.lemmas.Map.Steps.{set_value_same}
use Rattle.or_base.specs.Order.{bytes_cmp}

-- ---- keys that compare as equal

pub equal_from_test : (o : Ordering) → is_eq o ≡ true → o ≡ Equal
equal_from_test Less e = cc
equal_from_test Equal e = refl
equal_from_test Greater e = cc

pub same_key : (key other : List ℕ) → is_at (bytes_cmp key) other ≡ true → key ≡ other
same_key key other e = exact_bytes key other (equal_from_test (bytes_cmp key other) e)

pub at_itself : (key : List ℕ) → is_at (bytes_cmp key) key ≡ true
at_itself key = ap is_eq (tied_itself nat_list_cmp_total key)

reversed_test : (o : Ordering) → is_eq (ordering_reverse o) ≡ is_eq o
reversed_test Less = refl
reversed_test Equal = refl
reversed_test Greater = refl

pub test_back : (key other : List ℕ) → is_at (bytes_cmp other) key ≡ is_at (bytes_cmp key) other
test_back key other = ap is_eq (nat_list_cmp_total.antisymm other key) ∙ reversed_test (bytes_cmp key other)

-- ---- what a look-up finds after a change

at_first : {X : Type 0} (here at : Bool) (v w : X) (rest : Option X) → here ≡ at → cond at (Some v) rest ≡ cond here (Some v) (cond at (Some w) rest)
at_first true true v w rest e = refl
at_first true false v w rest e = cc
at_first false true v w rest e = cc
at_first false false v w rest e = refl

at_either : {X : Type 0} (here at : Bool) (v w : X) (rest : Option X) → (here ≡ true → at ≡ true → ⊥)
    → cond at (Some w) (cond here (Some v) rest) ≡ cond here (Some v) (cond at (Some w) rest)
at_either true true v w rest apart = absurd (apart refl refl)
at_either true false v w rest apart = refl
at_either false true v w rest apart = refl
at_either false false v w rest apart = refl

pub lookup_with : {X : Type 0} (key : List ℕ) (value : X) (other : List ℕ) (entries : List (List ℕ × X))
    → lookup (is_at (bytes_cmp other)) (insert_entry bytes_cmp entries key value) ≡ cond (is_at (bytes_cmp key) other) (Some value) (lookup (is_at (bytes_cmp other)) entries)
lookup_with key value other [] = ap (λ t. cond t (Some value) None) (test_back key other)
lookup_with {X = X} key value other (e ∷ es) = by_order (lookup_with key value other es) (bytes_cmp key e.0) refl where
  by_order : lookup (is_at (bytes_cmp other)) (insert_entry bytes_cmp es key value) ≡ cond (is_at (bytes_cmp key) other) (Some value) (lookup (is_at (bytes_cmp other)) es)
      → (o : Ordering) → bytes_cmp key e.0 ≡ o
      → lookup (is_at (bytes_cmp other)) (match_ordering o ((key, value) ∷ e ∷ es) ((e.0, value) ∷ es) (e ∷ insert_entry bytes_cmp es key value))
      ≡ cond (is_at (bytes_cmp key) other) (Some value) (lookup (is_at (bytes_cmp other)) (e ∷ es))
  by_order later Less below = ap (λ t. cond t (Some value) (lookup (is_at (bytes_cmp other)) (e ∷ es))) (test_back key other)
  by_order later Equal same =
      at_first (is_at (bytes_cmp key) other) (is_at (bytes_cmp other) e.0) value e.1 (lookup (is_at (bytes_cmp other)) es)
      (sym (test_back key other) ∙ ap (λ k. is_at (bytes_cmp other) k) (exact_bytes key e.0 same))
  by_order later Greater above =
      ap (λ found. cond (is_at (bytes_cmp other) e.0) (Some e.1) found) later
      ∙ at_either (is_at (bytes_cmp key) other) (is_at (bytes_cmp other) e.0) value e.1 (lookup (is_at (bytes_cmp other)) es)
      (λ here at. false≢true (sym (ap is_eq above) ∙ ap (λ k. is_at (bytes_cmp k) e.0) (same_key key other here) ∙ at))

pub lookup_without : {X : Type 0} (key other : List ℕ) (entries : List (List ℕ × X)) → IsStrictlySortedBy bytes_cmp (keys_of entries)
    → lookup (is_at (bytes_cmp other)) (remove_entry (is_at (bytes_cmp key)) entries) ≡ cond (is_at (bytes_cmp key) other) None (lookup (is_at (bytes_cmp other)) entries)
lookup_without key other entries ordered =
    lookup-remove_entry (eq_by_cmp_equiv nat_list_cmp_total) (is_at (bytes_cmp key))
    (λ x y e. ap (λ k. is_at (bytes_cmp k) y) (same_key key x e)) other entries (IsDistinct-from_sorted bytes_cmp (keys_of entries) ordered)

-- putting a value where there is one is writing it over
pub insert_found : {X : Type 0} (key : List ℕ) (value found : X) (entries : List (List ℕ × X)) → lookup (is_at (bytes_cmp key)) entries ≡ Some found
    → IsStrictlySortedBy bytes_cmp (keys_of entries) → insert_entry bytes_cmp entries key value ≡ set_value (is_at (bytes_cmp key)) entries value
insert_found key value found [] there ordered = cc
insert_found {X = X} key value found (e ∷ es) there ordered =
    by_order (λ later. insert_found key value found es later (sorted_tail bytes_cmp e.0 (keys_of es) ordered)) (bytes_cmp key e.0) refl where
      by_order : (lookup (is_at (bytes_cmp key)) es ≡ Some found → insert_entry bytes_cmp es key value ≡ set_value (is_at (bytes_cmp key)) es value)
          → (o : Ordering) → bytes_cmp key e.0 ≡ o
          → match_ordering o ((key, value) ∷ e ∷ es) ((e.0, value) ∷ es) (e ∷ insert_entry bytes_cmp es key value)
          ≡ cond (is_eq o) ((e.0, value) ∷ es) (e ∷ set_value (is_at (bytes_cmp key)) es value)
      by_order rest Less below =
          let none : lookup (is_at (bytes_cmp key)) (e ∷ es) ≡ None =
          lookup-none (is_at (bytes_cmp key)) (e ∷ es) (none_below_head nat_list_cmp_total key e es ordered below) in
          let wrong : None ≡ Some found = sym none ∙ there in absurd cc
      by_order rest Equal same = refl
      by_order rest Greater above =
          let later : lookup (is_at (bytes_cmp key)) es ≡ Some found = sym (ap (λ o. cond (is_eq o) (Some e.1) (lookup (is_at (bytes_cmp key)) es)) above) ∙ there in
          ap (λ fs. e ∷ fs) (rest later)

-- and what is there already changes nothing
pub insert_same : {X : Type 0} (key : List ℕ) (value : X) (entries : List (List ℕ × X)) → lookup (is_at (bytes_cmp key)) entries ≡ Some value
    → IsStrictlySortedBy bytes_cmp (keys_of entries) → insert_entry bytes_cmp entries key value ≡ entries
insert_same key value entries there ordered =
    insert_found key value value entries there ordered ∙ set_value_same (is_at (bytes_cmp key)) entries value there

-- ---- the order of keys after a change

all_placed : {X : Type 0} (P : List ℕ → Type 0) (o : Ordering) (key : List ℕ) (value : X) (e : List ℕ × X) (es later : List (List ℕ × X))
    → P key → P e.0 → AllByRecursion P (keys_of es) → AllByRecursion P (keys_of later)
    → AllByRecursion P (keys_of (match_ordering o ((key, value) ∷ e ∷ es) ((e.0, value) ∷ es) (e ∷ later)))
all_placed P Less key value e es later here at all after = (here, (at, all))
all_placed P Equal key value e es later here at all after = (at, all)
all_placed P Greater key value e es later here at all after = (at, after)

all_with : {X : Type 0} (P : List ℕ → Type 0) (key : List ℕ) (value : X) (entries : List (List ℕ × X)) → P key → AllByRecursion P (keys_of entries)
    → AllByRecursion P (keys_of (insert_entry bytes_cmp entries key value))
all_with P key value [] here all = (here, tt)
all_with P key value (e ∷ es) here all =
    all_placed P (bytes_cmp key e.0) key value e es (insert_entry bytes_cmp es key value) here all.0 all.1 (all_with P key value es here all.1)

all_below : (key first : List ℕ) (keys : List (List ℕ)) → bytes_cmp key first ≡ Less → AllByRecursion (λ other. bytes_cmp first other ≡ Less) keys
    → AllByRecursion (λ other. bytes_cmp key other ≡ Less) keys
all_below key first [] less all = tt
all_below key first (other ∷ keys) less all = (nat_list_cmp_total.trans key first other less all.0, all_below key first keys less all.1)

ordered_placed : {X : Type 0} (o : Ordering) (key : List ℕ) (value : X) (e : List ℕ × X) (es later : List (List ℕ × X)) → bytes_cmp key e.0 ≡ o
    → AllByRecursion (λ other. bytes_cmp e.0 other ≡ Less) (keys_of es) → IsStrictlySortedBy bytes_cmp (keys_of es)
    → (bytes_cmp e.0 key ≡ Less → AllByRecursion (λ other. bytes_cmp e.0 other ≡ Less) (keys_of later)) → IsStrictlySortedBy bytes_cmp (keys_of later)
    → IsStrictlySortedBy bytes_cmp (keys_of (match_ordering o ((key, value) ∷ e ∷ es) ((e.0, value) ∷ es) (e ∷ later)))
unfolding IsStrictlySortedBy
ordered_placed Less key value e es later is before ordered follows after = ((is, all_below key e.0 (keys_of es) is before), (before, ordered))
ordered_placed Equal key value e es later is before ordered follows after = (before, ordered)
ordered_placed Greater key value e es later is before ordered follows after =
    (follows (nat_list_cmp_total.antisymm e.0 key ∙ ap ordering_reverse is), after)

pub ordered_with : {X : Type 0} (key : List ℕ) (value : X) (entries : List (List ℕ × X)) → IsStrictlySortedBy bytes_cmp (keys_of entries)
    → IsStrictlySortedBy bytes_cmp (keys_of (insert_entry bytes_cmp entries key value))
unfolding IsStrictlySortedBy
ordered_with key value [] ordered = (tt, tt)
ordered_with key value (e ∷ es) ordered =
    ordered_placed (bytes_cmp key e.0) key value e es (insert_entry bytes_cmp es key value) refl ordered.0 ordered.1
    (λ less. all_with (λ other. bytes_cmp e.0 other ≡ Less) key value es less ordered.0) (ordered_with key value es ordered.1)

all_kept_if : {X : Type 0} (P : List ℕ → Type 0) (passes : Bool) (e : List ℕ × X) (rest : List (List ℕ × X)) → P e.0 → AllByRecursion P (keys_of rest)
    → AllByRecursion P (keys_of (cond passes (e ∷ rest) rest))
all_kept_if P true e rest here all = (here, all)
all_kept_if P false e rest here all = all

all_kept : {X : Type 0} (P : List ℕ → Type 0) (test : List ℕ × X → Bool) (entries : List (List ℕ × X)) → AllByRecursion P (keys_of entries)
    → AllByRecursion P (keys_of (filter test entries))
all_kept P test [] all = tt
all_kept P test (e ∷ es) all = all_kept_if P (test e) e (filter test es) all.0 (all_kept P test es all.1)

ordered_kept_if : {X : Type 0} (passes : Bool) (e : List ℕ × X) (rest : List (List ℕ × X)) → AllByRecursion (λ other. bytes_cmp e.0 other ≡ Less) (keys_of rest)
    → IsStrictlySortedBy bytes_cmp (keys_of rest) → IsStrictlySortedBy bytes_cmp (keys_of (cond passes (e ∷ rest) rest))
unfolding IsStrictlySortedBy
ordered_kept_if true e rest before ordered = (before, ordered)
ordered_kept_if false e rest before ordered = ordered

pub ordered_kept : {X : Type 0} (test : List ℕ × X → Bool) (entries : List (List ℕ × X)) → IsStrictlySortedBy bytes_cmp (keys_of entries)
    → IsStrictlySortedBy bytes_cmp (keys_of (filter test entries))
unfolding IsStrictlySortedBy
ordered_kept test [] ordered = tt
ordered_kept test (e ∷ es) ordered =
    ordered_kept_if (test e) e (filter test es) (all_kept (λ other. bytes_cmp e.0 other ≡ Less) test es ordered.0) (ordered_kept test es ordered.1)

all_left_if : {X : Type 0} (P : List ℕ → Type 0) (here : Bool) (e : List ℕ × X) (es left : List (List ℕ × X)) → P e.0 → AllByRecursion P (keys_of es) → AllByRecursion P (keys_of left)
    → AllByRecursion P (keys_of (cond here es (e ∷ left)))
all_left_if P true e es left at all rest = all
all_left_if P false e es left at all rest = (at, rest)

all_left : {X : Type 0} (P : List ℕ → Type 0) (test : List ℕ → Bool) (entries : List (List ℕ × X)) → AllByRecursion P (keys_of entries)
    → AllByRecursion P (keys_of (remove_entry test entries))
all_left P test [] all = tt
all_left P test (e ∷ es) all = all_left_if P (test e.0) e es (remove_entry test es) all.0 all.1 (all_left P test es all.1)

ordered_left_if : {X : Type 0} (here : Bool) (e : List ℕ × X) (es left : List (List ℕ × X)) → IsStrictlySortedBy bytes_cmp (keys_of es)
    → AllByRecursion (λ other. bytes_cmp e.0 other ≡ Less) (keys_of left) → IsStrictlySortedBy bytes_cmp (keys_of left)
    → IsStrictlySortedBy bytes_cmp (keys_of (cond here es (e ∷ left)))
unfolding IsStrictlySortedBy
ordered_left_if true e es left ordered before rest = ordered
ordered_left_if false e es left ordered before rest = (before, rest)

pub ordered_without : {X : Type 0} (test : List ℕ → Bool) (entries : List (List ℕ × X)) → IsStrictlySortedBy bytes_cmp (keys_of entries)
    → IsStrictlySortedBy bytes_cmp (keys_of (remove_entry test entries))
unfolding IsStrictlySortedBy
ordered_without test [] ordered = tt
ordered_without test (e ∷ es) ordered =
    ordered_left_if (test e.0) e es (remove_entry test es) ordered.1
    (all_left (λ other. bytes_cmp e.0 other ≡ Less) test es ordered.0) (ordered_without test es ordered.1)

-- ---- entries with the same look-ups

none_in_rest : {X : Type 0} (other : List ℕ) (e : List ℕ × X) (es : List (List ℕ × X)) → IsStrictlySortedBy bytes_cmp (keys_of (e ∷ es)) → is_at (bytes_cmp other) e.0 ≡ true
    → lookup (is_at (bytes_cmp other)) es ≡ None
none_in_rest other e es ordered here =
    lookup-none (is_at (bytes_cmp other)) es
    (none_past_head (eq_by_cmp_equiv nat_list_cmp_total) other e es (IsDistinct-from_sorted bytes_cmp (keys_of (e ∷ es)) ordered) here)

same_rest : {X : Type 0} (e f : List ℕ × X) (es fs : List (List ℕ × X)) → IsStrictlySortedBy bytes_cmp (keys_of (e ∷ es)) → IsStrictlySortedBy bytes_cmp (keys_of (f ∷ fs)) → e.0 ≡ f.0
    → ((other : List ℕ) → lookup (is_at (bytes_cmp other)) (e ∷ es) ≡ lookup (is_at (bytes_cmp other)) (f ∷ fs))
    → (other : List ℕ) → lookup (is_at (bytes_cmp other)) es ≡ lookup (is_at (bytes_cmp other)) fs
same_rest {X = X} e f es fs ordered ordered' named same other = by_test (is_at (bytes_cmp other) e.0) refl where
  by_test : (test : Bool) → is_at (bytes_cmp other) e.0 ≡ test → lookup (is_at (bytes_cmp other)) es ≡ lookup (is_at (bytes_cmp other)) fs
  by_test true here =
      none_in_rest other e es ordered here ∙ sym (none_in_rest other f fs ordered' (ap (λ k. is_at (bytes_cmp other) k) (sym named) ∙ here))
  by_test false there =
      sym (ap (λ t. cond t (Some e.1) (lookup (is_at (bytes_cmp other)) es)) there) ∙ same other
      ∙ ap (λ t. cond t (Some f.1) (lookup (is_at (bytes_cmp other)) fs)) (ap (λ k. is_at (bytes_cmp other) k) (sym named) ∙ there)

found_first : {X : Type 0} (e : List ℕ × X) (es : List (List ℕ × X)) → lookup (is_at (bytes_cmp e.0)) (e ∷ es) ≡ Some e.1
found_first e es = ap (λ t. cond t (Some e.1) (lookup (is_at (bytes_cmp e.0)) es)) (at_itself e.0)

not_below : {X : Type 0} (e f : List ℕ × X) (es fs : List (List ℕ × X)) → IsStrictlySortedBy bytes_cmp (keys_of (f ∷ fs)) → bytes_cmp e.0 f.0 ≡ Less
    → lookup (is_at (bytes_cmp e.0)) (e ∷ es) ≡ lookup (is_at (bytes_cmp e.0)) (f ∷ fs) → ⊥
not_below e f es fs ordered below same =
    let none : lookup (is_at (bytes_cmp e.0)) (f ∷ fs) ≡ None =
    lookup-none (is_at (bytes_cmp e.0)) (f ∷ fs) (none_below_head nat_list_cmp_total e.0 f fs ordered below) in
    let wrong : Some e.1 ≡ None = sym (found_first e es) ∙ same ∙ none in cc

pub same_entries : {X : Type 0} (es fs : List (List ℕ × X)) → IsStrictlySortedBy bytes_cmp (keys_of es) → IsStrictlySortedBy bytes_cmp (keys_of fs)
    → ((other : List ℕ) → lookup (is_at (bytes_cmp other)) es ≡ lookup (is_at (bytes_cmp other)) fs) → es ≡ fs
same_entries [] [] ordered ordered' same = refl
same_entries [] (f ∷ fs) ordered ordered' same = let wrong : None ≡ Some f.1 = same f.0 ∙ found_first f fs in cc
same_entries (e ∷ es) [] ordered ordered' same = let wrong : Some e.1 ≡ None = sym (found_first e es) ∙ same e.0 in cc
same_entries {X = X} (e ∷ es) (f ∷ fs) ordered ordered' same =
    by_order
    (λ named. same_entries es fs (sorted_tail bytes_cmp e.0 (keys_of es) ordered) (sorted_tail bytes_cmp f.0 (keys_of fs) ordered') (same_rest e f es fs ordered ordered' named same))
    (bytes_cmp e.0 f.0) refl where
      by_order : (e.0 ≡ f.0 → es ≡ fs) → (o : Ordering) → bytes_cmp e.0 f.0 ≡ o → e ∷ es ≡ f ∷ fs
      by_order rest Less below = absurd (not_below e f es fs ordered' below (same e.0))
      by_order rest Greater above =
          absurd (not_below f e fs es ordered (nat_list_cmp_total.antisymm f.0 e.0 ∙ ap ordering_reverse above) (sym (same f.0)))
      by_order rest Equal equal =
          let named : e.0 ≡ f.0 = exact_bytes e.0 f.0 equal in
          let read : Some e.1 ≡ Some f.1 = sym (found_first e es) ∙ same e.0 ∙ ap (λ k. lookup (is_at (bytes_cmp k)) (f ∷ fs)) named ∙ found_first f fs in
          let value : e.1 ≡ f.1 = cc in
          let first : e ≡ f = ap (λ k. (k, e.1)) named ∙ ap (λ v. (f.0, v)) value in
          ap (λ g. g ∷ es) first ∙ ap (λ gs. f ∷ gs) (rest named)

-- The records of one kind that a store holds: under the key of a node there is that node's record, if it is one.
use Rattle.std.proofs.Common.{◌≡◌, ℕ, List, [], ◌∷◌, ◌++◌, Bool, true, false, cond, Option, Some, None, refl, sym, ◌∙◌, ap}
use Rattle.std.specs.Prelude.{◌||◌, option_map, option_and_then, is_some}
use Rattle.std.specs.declared.cmp.Ordering.TheVariants.{Less}
use Rattle.std.specs.List.{AllByRecursion, All, cons_option, filter_map, list_any}
use Rattle.std.specs.List.Sorted.{IsStrictlySortedBy}
use Rattle.std.specs.Ordering.{is_eq}
use Rattle.std.specs.Map.{keys_of, values_of, lookup}
use Rattle.std.specs.BTreeMap.{is_at}
use Rattle.std.proofs.lemmas.Bool.{false≢true}
use Rattle.std.proofs.lemmas.Cmp.{nat_list_cmp_total, eq_by_cmp_equiv}
use Rattle.std.proofs.lemmas.List.Elements.{All-nil, All-cons}
use Rattle.std.proofs.lemmas.Map.Views.{list_any-from_Contains}
use Rattle.or_base.specs.Journal.{holds, held_value, held_keys}
use Rattle.or_base.specs.Law.{IsBeforeAll, AreInByteOrder}
use Rattle.or_base.specs.Order.{bytes_cmp}
use Rattle.or_base.specs.declared.entry.JournalEntry.{JournalEntry}
use Rattle.or_base.specs.declared.value.KvValue.{KvValue}
use Rattle.or_base.proofs.HeldKeys.{held_keys_are_these}
use Rattle.ls_graph.proofs.Order.{same_name}
use Rattle.ls_records.proofs.Named.{AreByName}

-- keys of a kind begin with one start, and a value under a key is a record of the node that the key names, or none
pub record IsKind {X : Type 0} (start : List ℕ) (record_in : List ℕ → KvValue → Option (List ℕ × X)) : Type 0 where
  pub in_order : (a b : List ℕ) → bytes_cmp (start ++ a) (start ++ b) ≡ bytes_cmp a b
  pub named : (key : List ℕ) (value : KvValue) (e : List ℕ × X) → record_in key value ≡ Some e → start ++ e.0 ≡ key

-- the record that is held under a key
abbrev pub held_in : {X : Type 0} → (List ℕ → KvValue → Option (List ℕ × X)) → List JournalEntry → List ℕ → Option (List ℕ × X)
held_in record_in journal key = option_and_then (record_in key) (held_value journal key)

-- the records that are held
abbrev pub records_of : {X : Type 0} → (List ℕ → KvValue → Option (List ℕ × X)) → List JournalEntry → List (List ℕ × X)
records_of record_in journal = filter_map (λ key. option_and_then (record_in key) (held_value journal key)) (held_keys journal)

abbrev Names : {X : Type 0} → List ℕ → (List ℕ → Option (List ℕ × X)) → Type 0
Names {X} start f = (key : List ℕ) (e : List ℕ × X) → f key ≡ Some e → start ++ e.0 ≡ key

names_held : {X : Type 0} (start : List ℕ) (record_in : List ℕ → KvValue → Option (List ℕ × X)) → IsKind start record_in → (key : List ℕ) (value : Option KvValue) (e : List ℕ × X)
    → option_and_then (record_in key) value ≡ Some e → start ++ e.0 ≡ key
names_held start record_in kind key None e is = absurd cc
names_held start record_in kind key (Some value) e is = kind.named key value e is

-- ---- look-ups

either_same : {Y : Type 0} (t : Bool) (y : Y) → cond t y y ≡ y
either_same true y = refl
either_same false y = refl

module _ {X : Type 0} (start : List ℕ) (f : List ℕ → Option (List ℕ × X)) (in_order : (a b : List ℕ) → bytes_cmp (start ++ a) (start ++ b) ≡ bytes_cmp a b) (names : Names start f) where
  one_kept : (node key : List ℕ) (rest : List (List ℕ × X)) (any : Bool) (found : Option (List ℕ × X)) → f key ≡ found → (here : Bool) → is_at (bytes_cmp (start ++ node)) key ≡ here
      → lookup (is_at (bytes_cmp node)) rest ≡ cond any (option_map (λ e. e.1) (f (start ++ node))) None
      → lookup (is_at (bytes_cmp node)) (cons_option found rest) ≡ cond (here || any) (option_map (λ e. e.1) (f (start ++ node))) None
  one_kept node key rest any None is true at later =
      let none : f (start ++ node) ≡ None = ap f (same_name (start ++ node) key at) ∙ is in
      later ∙ ap (λ found. cond any (option_map (λ e. e.1) found) None) none ∙ either_same any None ∙ ap (λ found. option_map (λ e. e.1) found) (sym none)
  one_kept node key rest any None is false at later = later
  one_kept node key rest any (Some e) is true at later =
      let here : is_at (bytes_cmp node) e.0 ≡ true =
      ap (λ o. is_eq o) (sym (in_order node e.0)) ∙ ap (λ k. is_at (bytes_cmp (start ++ node)) k) (names key e is) ∙ at in
      ap (λ t. cond t (Some e.1) (lookup (is_at (bytes_cmp node)) rest)) here
      ∙ ap (λ found. option_map (λ e. e.1) found) (sym (ap f (same_name (start ++ node) key at) ∙ is))
  one_kept node key rest any (Some e) is false at later =
      let there : is_at (bytes_cmp node) e.0 ≡ false =
      ap (λ o. is_eq o) (sym (in_order node e.0)) ∙ ap (λ k. is_at (bytes_cmp (start ++ node)) k) (names key e is) ∙ at in
      ap (λ t. cond t (Some e.1) (lookup (is_at (bytes_cmp node)) rest)) there ∙ later

  all_kept : (node : List ℕ) (keys : List (List ℕ))
      → lookup (is_at (bytes_cmp node)) (filter_map f keys) ≡ cond (list_any (is_at (bytes_cmp (start ++ node))) keys) (option_map (λ e. e.1) (f (start ++ node))) None
  all_kept node [] = refl
  all_kept node (key ∷ keys) =
      one_kept node key (filter_map f keys) (list_any (is_at (bytes_cmp (start ++ node))) keys) (f key) refl (is_at (bytes_cmp (start ++ node)) key) refl (all_kept node keys)

  -- ---- order

  one_above : (key other : List ℕ) (e : List ℕ × X) (rest : List (List ℕ × X)) → f key ≡ Some e → bytes_cmp key other ≡ Less → (found : Option (List ℕ × X)) → f other ≡ found
      → AllByRecursion (λ name. bytes_cmp e.0 name ≡ Less) (keys_of rest) → AllByRecursion (λ name. bytes_cmp e.0 name ≡ Less) (keys_of (cons_option found rest))
  one_above key other e rest is less None is' later = later
  one_above key other e rest is less (Some g) is' later =
      (sym (in_order e.0 g.0) ∙ ap (λ k. bytes_cmp k (start ++ g.0)) (names key e is) ∙ ap (λ k. bytes_cmp key k) (names other g is') ∙ less, later)

  all_above : (key : List ℕ) (e : List ℕ × X) (keys : List (List ℕ)) → f key ≡ Some e → IsBeforeAll key keys → AllByRecursion (λ name. bytes_cmp e.0 name ≡ Less) (keys_of (filter_map f keys))
  all_above key e [] is before = tt
  all_above key e (other ∷ keys) is before = one_above key other e (filter_map f keys) is before.0 (f other) refl (all_above key e keys is before.1)

  one_ordered : (key : List ℕ) (keys : List (List ℕ)) → IsBeforeAll key keys → (found : Option (List ℕ × X)) → f key ≡ found → AreByName (filter_map f keys)
      → AreByName (cons_option found (filter_map f keys))
  unfolding IsStrictlySortedBy
  one_ordered key keys before None is later = later
  one_ordered key keys before (Some e) is later = (all_above key e keys is before, later)

  all_ordered : (keys : List (List ℕ)) → AreInByteOrder keys → AreByName (filter_map f keys)
  unfolding IsStrictlySortedBy
  all_ordered [] ordered = tt
  all_ordered (key ∷ keys) ordered = one_ordered key keys ordered.0 (f key) refl (all_ordered keys ordered.1)

  -- ---- each record

  one_sound : (P : X → Type 0) → ((key : List ℕ) (e : List ℕ × X) → f key ≡ Some e → P e.1) → (key : List ℕ) (found : Option (List ℕ × X)) → f key ≡ found → (rest : List (List ℕ × X))
      → All P (values_of rest) → All P (values_of (cons_option found rest))
  one_sound P each key None is rest later = later
  one_sound P each key (Some e) is rest later = All-cons P e.1 (values_of rest) (each key e is) later

  all_sound : (P : X → Type 0) → ((key : List ℕ) (e : List ℕ × X) → f key ≡ Some e → P e.1) → (keys : List (List ℕ)) → All P (values_of (filter_map f keys))
  all_sound P each [] = All-nil P
  all_sound P each (key ∷ keys) = one_sound P each key (f key) refl (filter_map f keys) (all_sound P each keys)

-- ---- the records of a journal

none_if_none : {X : Type 0} (record_in : List ℕ → KvValue → Option (List ℕ × X)) (journal : List JournalEntry) (key : List ℕ) (found : Option (KvValue × ℕ)) → holds journal key ≡ found
    → (is_some found ≡ true → ⊥) → held_in record_in journal key ≡ None
none_if_none record_in journal key None is apart = ap (λ held. option_and_then (record_in key) (option_map (λ h. h.0) held)) is
none_if_none record_in journal key (Some found) is apart = absurd (apart refl)

one_found : {X : Type 0} (any : Bool) (x : Option X) → (any ≡ false → x ≡ None) → cond any x None ≡ x
one_found true x none = refl
one_found false x none = sym (none refl)

module _ {X : Type 0} (start : List ℕ) (record_in : List ℕ → KvValue → Option (List ℕ × X)) (kind : IsKind start record_in) where
  -- a node has the record that is held under its key
  pub found_held : (journal : List JournalEntry) (node : List ℕ)
      → lookup (is_at (bytes_cmp node)) (records_of record_in journal) ≡ option_map (λ e. e.1) (held_in record_in journal (start ++ node))
  found_held journal node =
      let key = start ++ node in
      let any = list_any (is_at (bytes_cmp key)) (held_keys journal) in
      all_kept start (held_in record_in journal) kind.in_order (λ k e. names_held start record_in kind k (held_value journal k) e) node (held_keys journal)
      ∙ one_found any (option_map (λ e. e.1) (held_in record_in journal key))
      (λ absent. ap (λ found. option_map (λ e. e.1) found) (none_if_none record_in journal key (holds journal key) refl
      (λ some. false≢true (sym absent ∙ list_any-from_Contains (eq_by_cmp_equiv nat_list_cmp_total) key (held_keys journal) ((held_keys_are_these journal).all key some)))))

  -- in the order of names
  pub ordered_held : (journal : List JournalEntry) → AreByName (records_of record_in journal)
  ordered_held journal =
      all_ordered start (held_in record_in journal) kind.in_order (λ k e. names_held start record_in kind k (held_value journal k) e) (held_keys journal) (held_keys_are_these journal).ordered

  -- what each value that is a record has, each record has
  pub sound_held : (P : X → Type 0) → ((key : List ℕ) (value : KvValue) (e : List ℕ × X) → record_in key value ≡ Some e → P e.1) → (journal : List JournalEntry)
      → All P (values_of (records_of record_in journal))
  sound_held P each journal =
      all_sound start (held_in record_in journal) kind.in_order (λ k e. names_held start record_in kind k (held_value journal k) e) P
      (λ key e. by_value key e (held_value journal key)) (held_keys journal) where
        by_value : (key : List ℕ) (e : List ℕ × X) (value : Option KvValue) → option_and_then (record_in key) value ≡ Some e → P e.1
        by_value key e None is = absurd cc
        by_value key e (Some value) is = each key value e is

-- What the held rows of a table tell: they are in byte order, have the hashes of their values, and of each key the value that
-- is held.
use Rattle.std.proofs.Common.{◌≡◌, ℕ, List, [], ◌∷◌, map, Bool, true, false, cond, ◌||◌, Option, Some, None, refl, sym, ◌∙◌, ap, subst}
use Rattle.std.specs.Prelude.{is_some}
use Rattle.std.specs.Option.{option_map}
use Rattle.std.specs.Str.{bytes_eq}
use Rattle.std.specs.List.{AllByRecursion, filter, filter_map, cons_option, list_any}
use Rattle.std.specs.List.Sorted.{IsStrictlySortedBy}
use Rattle.std.specs.Map.{lookup, keys_of as keys_of_entries}
use Rattle.std.specs.BTreeMap.{is_at}
use Rattle.std.proofs.lemmas.List.Kept.{IsStrictlySortedBy-filter}
use Rattle.std.proofs.lemmas.Map.Text.{is_eq-slice_cmp}
use Rattle.or_base.specs.declared.value.KvValue.{KvValue}
use Rattle.or_base.specs.declared.entry.JournalEntry.{JournalEntry}
use Rattle.or_base.specs.Order.{bytes_cmp}
use Rattle.or_base.specs.Journal.{holds, held_value, held_keys}
use Rattle.or_base.proofs.HeldKeys.{held_keys_are_these}
use Rattle.or_timer.proofs.Entries.{same_key, test_back}
use Rattle.kv_value.specs.Hashing.{hash_of}
use Rattle.kv_table.specs.declared.held.HeldRow.{HeldRow}
use Rattle.kv_table.specs.Held.{with_hash, row_shown, held_rows}
use Rattle.kv_table.proofs.Found.{sorted_from_byte_order, any_held}
use Rattle.kv_sync.specs.Rows.{AreInOrder}
use Rattle.kv_sync.specs.Walk.{held_key, HaveTheirHashes, found_with}

-- the rows of some keys
abbrev pub rows_with : List JournalEntry → List (List ℕ) → List (List ℕ × (KvValue × ℕ))
rows_with journal keys = filter_map (λ key. option_map (λ held. (key, with_hash held)) (holds journal key)) keys

-- ---- the rows are in order

kept_if : (key : List ℕ) (held : Option (KvValue × ℕ)) (rest : List (List ℕ × (KvValue × ℕ))) (keys : List (List ℕ)) → keys_of_entries rest ≡ keys
    → keys_of_entries (cons_option (option_map (λ h. (key, with_hash h)) held) rest) ≡ cond (is_some held) (key ∷ keys) keys
kept_if key None rest keys same = same
kept_if key (Some held) rest keys same = ap (λ ks. key ∷ ks) same

keys_with : (journal : List JournalEntry) (keys : List (List ℕ)) → keys_of_entries (rows_with journal keys) ≡ filter (λ key. is_some (holds journal key)) keys
keys_with journal [] = refl
keys_with journal (key ∷ keys) = kept_if key (holds journal key) (rows_with journal keys) (filter (λ k. is_some (holds journal k)) keys) (keys_with journal keys)

keys_shown : (held : List HeldRow) → map held_key held ≡ keys_of_entries (map row_shown held)
keys_shown [] = refl
keys_shown (h ∷ held) = ap (λ ks. h.key.now ∷ ks) (keys_shown held)

pub held_in_order : (journal : List JournalEntry) (held : List HeldRow) → map row_shown held ≡ held_rows journal → AreInOrder held_key held
unfolding held_rows
held_in_order journal held shown =
    subst (λ keys. IsStrictlySortedBy bytes_cmp keys) (sym (keys_shown held ∙ ap (λ es. keys_of_entries es) shown ∙ keys_with journal (held_keys journal)))
    (IsStrictlySortedBy-filter bytes_cmp (λ key. is_some (holds journal key)) (held_keys journal) (sorted_from_byte_order (held_keys journal) (held_keys_are_these journal).ordered))

-- ---- the hashes

abbrev HasHash : List ℕ × (KvValue × ℕ) → Type 0
HasHash e = e.1.1 ≡ hash_of e.1.0

has_hash_if : (key : List ℕ) (held : Option (KvValue × ℕ)) (rest : List (List ℕ × (KvValue × ℕ))) → AllByRecursion HasHash rest
    → AllByRecursion HasHash (cons_option (option_map (λ h. (key, with_hash h)) held) rest)
has_hash_if key None rest all = all
has_hash_if key (Some held) rest all = (refl, all)

have_hashes : (journal : List JournalEntry) (keys : List (List ℕ)) → AllByRecursion HasHash (rows_with journal keys)
have_hashes journal [] = tt
have_hashes journal (key ∷ keys) = has_hash_if key (holds journal key) (rows_with journal keys) (have_hashes journal keys)

hashes_shown : (held : List HeldRow) → AllByRecursion HasHash (map row_shown held) → HaveTheirHashes held
hashes_shown [] all = tt
hashes_shown (h ∷ held) all = (all.0, hashes_shown held all.1)

pub held_have_hashes : (journal : List JournalEntry) (held : List HeldRow) → map row_shown held ≡ held_rows journal → HaveTheirHashes held
unfolding held_rows
held_have_hashes journal held shown = hashes_shown held (subst (λ es. AllByRecursion HasHash es) (sym shown) (have_hashes journal (held_keys journal)))

-- ---- the value of a key

abbrev pub row_value : HeldRow → KvValue
row_value held = held.value.now

found_shown : (key : List ℕ) (held : List HeldRow) → option_map row_value (found_with held_key held key) ≡ option_map (λ v. v.0) (lookup (is_at (bytes_cmp key)) (map row_shown held))
found_shown key [] = refl
found_shown key (h ∷ held) =
    by_test (bytes_eq h.key.now key) (is_at (bytes_cmp key) h.key.now) (sym (test_back h.key.now key ∙ is_eq-slice_cmp h.key.now key)) (found_shown key held) where
      by_test : (here at : Bool) → here ≡ at → option_map row_value (found_with held_key held key) ≡ option_map (λ v. v.0) (lookup (is_at (bytes_cmp key)) (map row_shown held))
          → option_map row_value (cond here (Some h) (found_with held_key held key))
          ≡ option_map (λ v. v.0) (cond at (Some (h.value.now, h.hash)) (lookup (is_at (bytes_cmp key)) (map row_shown held)))
      by_test true true e rest = refl
      by_test true false e rest = cc
      by_test false true e rest = cc
      by_test false false e rest = rest

none_either : (any : Bool) → None ≡ cond any (option_map with_hash None) None
none_either true = refl
none_either false = refl

value_if : (key first : List ℕ) (held first_held : Option (KvValue × ℕ)) (rest : List (List ℕ × (KvValue × ℕ))) (any : Bool) → (is_at (bytes_cmp key) first ≡ true → first_held ≡ held)
    → lookup (is_at (bytes_cmp key)) rest ≡ cond any (option_map with_hash held) None
    → (here : Bool) → is_at (bytes_cmp key) first ≡ here
    → lookup (is_at (bytes_cmp key)) (cons_option (option_map (λ h. (first, with_hash h)) first_held) rest) ≡ cond (here || any) (option_map with_hash held) None
value_if key first held None rest any same found true is = found ∙ sym (none_held (same is)) where
  none_held : None ≡ held → option_map with_hash held ≡ cond any (option_map with_hash held) None
  none_held gone = ap (option_map with_hash) (sym gone) ∙ none_either any ∙ ap (λ h. cond any (option_map with_hash h) None) gone
value_if key first held (Some h) rest any same found true is =
    ap (λ t. cond t (Some (with_hash h)) (lookup (is_at (bytes_cmp key)) rest)) is ∙ ap (option_map with_hash) (same is)
value_if key first held None rest any same found false is = found
value_if key first held (Some h) rest any same found false is =
    ap (λ t. cond t (Some (with_hash h)) (lookup (is_at (bytes_cmp key)) rest)) is ∙ found

value_with : (journal : List JournalEntry) (key : List ℕ) (keys : List (List ℕ))
    → lookup (is_at (bytes_cmp key)) (rows_with journal keys) ≡ cond (list_any (is_at (bytes_cmp key)) keys) (option_map with_hash (holds journal key)) None
value_with journal key [] = refl
value_with journal key (first ∷ keys) =
    value_if key first (holds journal key) (holds journal first) (rows_with journal keys) (list_any (is_at (bytes_cmp key)) keys)
    (λ same. ap (holds journal) (sym (same_key key first same))) (value_with journal key keys) (is_at (bytes_cmp key) first) refl

as_held : (held : Option (KvValue × ℕ)) → option_map (λ v. v.0) (cond (is_some held) (option_map with_hash held) None) ≡ option_map (λ h. h.0) held
as_held None = refl
as_held (Some held) = refl

pub held_found : (journal : List JournalEntry) (held : List HeldRow) (key : List ℕ) → map row_shown held ≡ held_rows journal
    → option_map row_value (found_with held_key held key) ≡ held_value journal key
unfolding held_rows
held_found journal held key shown =
    found_shown key held
    ∙ ap (option_map (λ v. v.0)) (ap (λ es. lookup (is_at (bytes_cmp key)) es) shown ∙ value_with journal key (held_keys journal)
    ∙ ap (λ t. cond t (option_map with_hash (holds journal key)) None) (any_held journal key))
    ∙ as_held (holds journal key)

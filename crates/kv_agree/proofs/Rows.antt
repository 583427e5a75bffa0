-- What a digest tells of a key, and which keys differ.
use Rattle.std.proofs.Common.{◌≡◌, ℕ, List, [], ◌∷◌, Bool, true, false, cond, ◌||◌, Option, Some, None, Decides, refl, sym, ◌∙◌, ap}
use Rattle.std.specs.Prelude.{filter, is_some}
use Rattle.std.specs.Str.{bytes_eq}
use Rattle.std.specs.List.{Contains, list_any, cons_option, filter_map}
use Rattle.std.specs.Option.{option_map}
use Rattle.std.specs.BTreeSet.{insert_key}
use Rattle.std.specs.Ordering.{match_ordering}
use Rattle.std.specs.declared.cmp.Ordering.{Ordering}
use Rattle.std.specs.declared.cmp.Ordering.TheVariants.{Less, Equal, Greater}
use Rattle.std.proofs.Math.Bool.{or_assoc, or_comm, or_self_left}
use Rattle.std.proofs.lemmas.Bool.{cond-true, cond-false}
use Rattle.std.proofs.lemmas.Cmp.{nat_list_eq_equiv}
use Rattle.std.proofs.lemmas.Map.Lookups.{exact_bytes}
use Rattle.std.proofs.lemmas.Map.Made.{is_member-Decides}
use Rattle.std.proofs.lemmas.Map.Views.{any-filter_same}
use Rattle.std.proofs.lemmas.Slice.Eq.{bytes_eq-Decides}
use Rattle.or_base.specs.declared.value.KvValue.{KvValue}
use Rattle.or_base.specs.declared.digest.DigestRow.{DigestRow}
use Rattle.or_base.specs.declared.entry.JournalEntry.{JournalEntry}
use Rattle.or_base.specs.Order.{bytes_cmp}
use Rattle.or_base.specs.Journal.{holds, held_value, held_keys}
use Rattle.or_base.proofs.HeldKeys.{held_keys_are_these}
use Rattle.kv_table.specs.Digest.{digest, row_of, row_with}
use Rattle.kv_sync.specs.Difference.{row_for, keys_of, is_better_than, is_wanted_over, better_keys, wanted_keys}
use Rattle.kv_agree.proofs.Order.{value_in}

-- ---- keys in a list

abbrev has_key : List (List ℕ) → List ℕ → Bool
has_key keys key = list_any (bytes_eq key) keys

has_key-Decides : (keys : List (List ℕ)) (key : List ℕ) → Decides (has_key keys key) (Contains keys key)
has_key-Decides keys key = is_member-Decides bytes_eq-Decides keys key

-- whether a test passes at some key of a list with one key more
module _ (test : List ℕ → Bool) (k : List ℕ) where
  any_placed : (o : Ordering) (first : List ℕ) (rest later : List (List ℕ)) → bytes_cmp k first ≡ o → list_any test later ≡ (test k || list_any test rest)
      → list_any test (match_ordering o (k ∷ first ∷ rest) (first ∷ rest) (first ∷ later)) ≡ (test k || list_any test (first ∷ rest))
  any_placed Less first rest later e found = refl
  any_placed Equal first rest later e found =
      sym (or_self_left (test first) (list_any test rest)) ∙ ap (λ b. b || list_any test (first ∷ rest)) (ap test (sym (exact_bytes k first e)))
  any_placed Greater first rest later e found =
      ap (λ b. test first || b) found ∙ sym (or_assoc (test first) (test k) (list_any test rest))
      ∙ ap (λ b. b || list_any test rest) (or_comm (test first) (test k)) ∙ or_assoc (test k) (test first) (list_any test rest)

  any_inserted : (keys : List (List ℕ)) → list_any test (insert_key bytes_cmp keys k) ≡ (test k || list_any test keys)
  any_inserted [] = refl
  any_inserted (first ∷ rest) = any_placed (bytes_cmp k first) first rest (insert_key bytes_cmp rest k) refl (any_inserted rest)

has_row : (same : Bool) (row : DigestRow) (others : Option DigestRow) → (same || is_some others) ≡ is_some (cond same (Some row) others)
has_row true row others = refl
has_row false row others = refl

-- the keys of rows are those that have a row
keys_have_rows : (rows : List DigestRow) (key : List ℕ) → has_key (keys_of rows) key ≡ is_some (row_for rows key)
keys_have_rows [] key = refl
keys_have_rows (row ∷ rows) key =
    any_inserted (bytes_eq key) row.key (keys_of rows)
    ∙ ap (λ b. b || has_key (keys_of rows) key) (nat_list_eq_equiv.symm key row.key)
    ∙ ap (λ b. bytes_eq row.key key || b) (keys_have_rows rows key)
    ∙ has_row (bytes_eq row.key key) row (row_for rows key)

-- a key that is in a list and passes a test is kept
pub filter_keeps : (test : List ℕ → Bool) (keys : List (List ℕ)) (key : List ℕ) → test key ≡ true → Contains keys key → Contains (filter test keys) key
filter_keeps test keys key passes among =
    (has_key-Decides (filter test keys) key).0
    (any-filter_same (bytes_eq key) test true (λ k same. ap test (sym ((bytes_eq-Decides key k).0 same)) ∙ passes) keys
    ∙ (has_key-Decides keys key).1 among)

-- ---- the digest

cond_same : {X : Type 0} (b : Bool) (x : X) → cond b x x ≡ x
cond_same true x = refl
cond_same false x = refl

module _ (journal : List JournalEntry) (key : List ℕ) where
  row_placed : (same others : Bool) (k : List ℕ) (held : Option (KvValue × ℕ)) (rows : List DigestRow) → bytes_eq key k ≡ same → holds journal k ≡ held
      → row_for rows key ≡ cond others (row_of journal key) None
      → row_for (cons_option (option_map (λ h. row_with k h.0) held) rows) key ≡ cond (same || others) (row_of journal key) None
  row_placed false others k None rows e here found = found
  row_placed false others k (Some h) rows e here found = cond-false (bytes_eq k key) (Some (row_with k h.0)) (row_for rows key) (nat_list_eq_equiv.symm k key ∙ e) ∙ found
  row_placed true others k None rows e here found =
      let none : row_of journal key ≡ None = ap (row_of journal) ((bytes_eq-Decides key k).0 e) ∙ ap (option_map (λ h. row_with k h.0)) here in
      found ∙ ap (λ row. cond others row None) none ∙ cond_same others None ∙ sym none
  row_placed true others k (Some h) rows e here found =
      cond-true (bytes_eq k key) (Some (row_with k h.0)) (row_for rows key) (nat_list_eq_equiv.symm k key ∙ e)
      ∙ ap (option_map (λ h. row_with k h.0)) (sym here) ∙ ap (row_of journal) (sym ((bytes_eq-Decides key k).0 e))

  row_among : (keys : List (List ℕ)) → row_for (filter_map (row_of journal) keys) key ≡ cond (has_key keys key) (row_of journal key) None
  row_among [] = refl
  row_among (k ∷ keys) =
      row_placed (bytes_eq key k) (has_key keys key) k (holds journal k) (filter_map (row_of journal) keys) refl refl (row_among keys)

row_found : (key : List ℕ) (held : Option (KvValue × ℕ)) (listed : Bool) → (is_some held ≡ true → listed ≡ true)
    → cond listed (option_map (λ h. row_with key h.0) held) None ≡ option_map (row_with key) (value_in held)
row_found key None listed all = cond_same listed None
row_found key (Some h) listed all = cond-true listed (Some (row_with key h.0)) None (all refl)

-- the row of a key in a digest is that of the value that is held
pub row_for_digest : (journal : List JournalEntry) (key : List ℕ) → row_for (digest journal) key ≡ option_map (row_with key) (held_value journal key)
unfolding digest
row_for_digest journal key =
    row_among journal key (held_keys journal)
    ∙ row_found key (holds journal key) (has_key (held_keys journal) key)
    (λ held. (has_key-Decides (held_keys journal) key).1 ((held_keys_are_these journal).all key held))

-- ---- the keys that differ

held_if_better : (held : Option (KvValue × ℕ)) (row : Option DigestRow) → is_better_than (value_in held) row ≡ true → is_some held ≡ true
held_if_better None row better = better
held_if_better (Some h) row better = refl

pub better_listed : (rows : List DigestRow) (journal : List JournalEntry) (key : List ℕ) → is_better_than (held_value journal key) (row_for rows key) ≡ true
    → Contains (better_keys rows journal) key
unfolding better_keys
better_listed rows journal key better =
    filter_keeps (λ k. is_better_than (held_value journal k) (row_for rows k)) (held_keys journal) key better
    ((held_keys_are_these journal).all key (held_if_better (holds journal key) (row_for rows key) better))

row_if_wanted : (held : Option KvValue) (row : Option DigestRow) → is_wanted_over held row ≡ true → is_some row ≡ true
row_if_wanted held None wanted = wanted
row_if_wanted held (Some row) wanted = refl

pub wanted_listed : (rows : List DigestRow) (journal : List JournalEntry) (key : List ℕ) → is_wanted_over (held_value journal key) (row_for rows key) ≡ true
    → Contains (wanted_keys rows journal) key
unfolding wanted_keys
wanted_listed rows journal key wanted =
    filter_keeps (λ k. is_wanted_over (held_value journal k) (row_for rows k)) (keys_of rows) key wanted
    ((has_key-Decides (keys_of rows) key).0 (keys_have_rows rows key ∙ row_if_wanted (held_value journal key) (row_for rows key) wanted))

-- Rows in byte order of their keys.
use Rattle.std.proofs.Common.{◌≡◌, ℕ, ◌+◌, ◌<◌, List, [], ◌∷◌, ◌++◌, length, map, get_or, Bool, true, cond, Some, refl, sym, ◌∙◌, ap, arith}
use Rattle.std.specs.declared.cmp.Ordering.{Ordering}
use Rattle.std.specs.declared.cmp.Ordering.TheVariants.{Less, Equal, Greater}
use Rattle.std.specs.Ordering.{is_lt, match_ordering}
use Rattle.std.specs.Str.{bytes_eq}
use Rattle.std.specs.List.{AllByRecursion, IsAllAdjacentAnswer}
use Rattle.std.specs.List.Sorted.{IsStrictlySortedBy}
use Rattle.std.specs.Map.{lookup, keys_of as keys_of_entries, values_of}
use Rattle.std.specs.BTreeMap.{is_at, insert_entry}
use Rattle.std.specs.BTreeSet.{insert_key}
use Rattle.std.proofs.lemmas.Bool.{MatchBool-at_true}
use Rattle.std.proofs.lemmas.Cmp.{nat_list_cmp_total}
use Rattle.std.proofs.lemmas.List.{length-map, get_or-map}
use Rattle.std.proofs.lemmas.Map.Keys.{sorted_from_all_adjacent}
use Rattle.std.proofs.lemmas.Map.Lookups.{exact_bytes}
use Rattle.std.proofs.lemmas.Map.Text.{is_eq-slice_cmp}
use Rattle.or_base.specs.Order.{bytes_cmp}
use Rattle.or_base.specs.declared.digest.DigestRow.{DigestRow}
use Rattle.or_timer.proofs.Entries.{lookup_with, ordered_with, test_back}
use Rattle.kv_sync.specs.Difference.{row_for, keys_of}
use Rattle.kv_sync.specs.Rows.{row_key, AreInKeyOrder, rows_by_key, rows_in_order}

-- ---- the test of the code

less_from_test : (o : Ordering) → true ≡ is_lt o → o ≡ Less
less_from_test Less e = refl
less_from_test Equal e = cc
less_from_test Greater e = cc

pub in_key_order : (rows : List DigestRow) (r : Bool) → IsAllAdjacentAnswer (λ row next b. b ≡ is_lt (bytes_cmp row.key next.key)) rows r → r ≡ true → AreInKeyOrder rows
unfolding IsStrictlySortedBy
in_key_order [] r answer is = tt
in_key_order (first ∷ rows) r answer is =
    let adjacent = MatchBool-at_true _ _ is answer in
    sorted_from_all_adjacent nat_list_cmp_total (map row_key (first ∷ rows)) first.key
    (λ k within.
    let below : k + 1 < length (first ∷ rows) = omega (arith, within, length-map (first ∷ rows) row_key) in
    let here : k < length (first ∷ rows) = omega (arith, below) in
    ap (λ key. bytes_cmp key (get_or (map row_key (first ∷ rows)) (k + 1) first.key)) (get_or-map row_key (first ∷ rows) k first first.key here)
    ∙ ap (bytes_cmp (get_or (first ∷ rows) k first).key) (get_or-map row_key (first ∷ rows) (k + 1) first first.key below)
    ∙ less_from_test (bytes_cmp (get_or (first ∷ rows) k first).key (get_or (first ∷ rows) (k + 1) first).key) (adjacent k first below))

-- ---- entries with the first rows of these, the last row put in first

abbrev pub rows_onto : List DigestRow → List (List ℕ × DigestRow) → List (List ℕ × DigestRow)
rows_onto [] entries = entries
rows_onto (row ∷ rows) entries = insert_entry bytes_cmp (rows_onto rows entries) row.key row

pub rows_onto_last : (rows : List DigestRow) (row : DigestRow) (entries : List (List ℕ × DigestRow))
    → rows_onto (rows ++ row ∷ []) entries ≡ rows_onto rows (insert_entry bytes_cmp entries row.key row)
rows_onto_last [] row entries = refl
rows_onto_last (first ∷ rows) row entries = ap (λ es. insert_entry bytes_cmp es first.key first) (rows_onto_last rows row entries)

rows_onto_none : (rows : List DigestRow) → rows_onto rows [] ≡ rows_by_key rows
rows_onto_none [] = refl
rows_onto_none (row ∷ rows) = ap (λ es. insert_entry bytes_cmp es row.key row) (rows_onto_none rows)

no_rows : (rows : List DigestRow) → length rows ≡ 0 → rows ≡ []
no_rows [] none = refl
no_rows (row ∷ rows) none = absurd (omega (arith, none))

pub none_left : (rows left : List DigestRow) (entries : List (List ℕ × DigestRow)) → length left ≡ 0 → rows_onto left entries ≡ rows_onto rows [] → entries ≡ rows_by_key rows
none_left rows left entries none same = ap (λ rs. rows_onto rs entries) (sym (no_rows left none)) ∙ same ∙ rows_onto_none rows

-- ---- each row stands under its key

names_by : (o : Ordering) (row : DigestRow) (e : List ℕ × DigestRow) (es later : List (List ℕ × DigestRow)) → bytes_cmp row.key e.0 ≡ o
    → e.0 ≡ e.1.key → keys_of_entries es ≡ map row_key (values_of es) → keys_of_entries later ≡ map row_key (values_of later)
    → keys_of_entries (match_ordering o ((row.key, row) ∷ e ∷ es) ((e.0, row) ∷ es) (e ∷ later))
    ≡ map row_key (values_of (match_ordering o ((row.key, row) ∷ e ∷ es) ((e.0, row) ∷ es) (e ∷ later)))
names_by Less row e es later is named names after = ap (λ key. row.key ∷ key ∷ keys_of_entries es) named ∙ ap (λ ks. row.key ∷ e.1.key ∷ ks) names
names_by Equal row e es later is named names after = ap (λ key. key ∷ keys_of_entries es) (sym (exact_bytes row.key e.0 is)) ∙ ap (λ ks. row.key ∷ ks) names
names_by Greater row e es later is named names after = ap (λ key. key ∷ keys_of_entries later) named ∙ ap (λ ks. e.1.key ∷ ks) after

names_with : (row : DigestRow) (es : List (List ℕ × DigestRow)) → keys_of_entries es ≡ map row_key (values_of es)
    → keys_of_entries (insert_entry bytes_cmp es row.key row) ≡ map row_key (values_of (insert_entry bytes_cmp es row.key row))
names_with row [] names = refl
names_with row (e ∷ es) names =
    let named : e.0 ≡ e.1.key = cc in
    let rest : keys_of_entries es ≡ map row_key (values_of es) = cc in
    names_by (bytes_cmp row.key e.0) row e es (insert_entry bytes_cmp es row.key row) refl named rest (names_with row es rest)

names : (rows : List DigestRow) → keys_of_entries (rows_by_key rows) ≡ map row_key (rows_in_order rows)
names [] = refl
names (row ∷ rows) = names_with row (rows_by_key rows) (names rows)

-- ---- the rows in order have the keys of all, and for each key the row that is found among all

ordered_by_key : (rows : List DigestRow) → IsStrictlySortedBy bytes_cmp (keys_of_entries (rows_by_key rows))
unfolding IsStrictlySortedBy
ordered_by_key [] = tt
ordered_by_key (row ∷ rows) = ordered_with row.key row (rows_by_key rows) (ordered_by_key rows)

pub are_ordered : (rows : List DigestRow) → AreInKeyOrder (rows_in_order rows)
are_ordered rows = rw (← names rows) (ordered_by_key rows)

found_under : (key : List ℕ) (es : List (List ℕ × DigestRow)) → keys_of_entries es ≡ map row_key (values_of es) → row_for (values_of es) key ≡ lookup (is_at (bytes_cmp key)) es
found_under key [] names = refl
found_under key (e ∷ es) names =
    let named : e.0 ≡ e.1.key = cc in
    let rest : keys_of_entries es ≡ map row_key (values_of es) = cc in
    let same : bytes_eq e.1.key key ≡ is_at (bytes_cmp key) e.0 =
    ap (λ k. bytes_eq k key) (sym named) ∙ sym (is_eq-slice_cmp e.0 key) ∙ sym (test_back e.0 key) in
    ap (λ t. cond t (Some e.1) (row_for (values_of es) key)) same ∙ ap (λ found. cond (is_at (bytes_cmp key) e.0) (Some e.1) found) (found_under key es rest)

by_key_found : (key : List ℕ) (rows : List DigestRow) → lookup (is_at (bytes_cmp key)) (rows_by_key rows) ≡ row_for rows key
by_key_found key [] = refl
by_key_found key (row ∷ rows) =
    lookup_with row.key row key (rows_by_key rows)
    ∙ ap (λ t. cond t (Some row) (lookup (is_at (bytes_cmp key)) (rows_by_key rows))) (is_eq-slice_cmp row.key key)
    ∙ ap (λ found. cond (bytes_eq row.key key) (Some row) found) (by_key_found key rows)

pub found_in_order : (rows : List DigestRow) (key : List ℕ) → row_for (rows_in_order rows) key ≡ row_for rows key
found_in_order rows key = found_under key (rows_by_key rows) (names rows) ∙ by_key_found key rows

keys_by : (o : Ordering) (row : DigestRow) (e : List ℕ × DigestRow) (es later : List (List ℕ × DigestRow)) (keys : List (List ℕ)) → keys_of_entries later ≡ keys
    → keys_of_entries (match_ordering o ((row.key, row) ∷ e ∷ es) ((e.0, row) ∷ es) (e ∷ later))
    ≡ match_ordering o (row.key ∷ e.0 ∷ keys_of_entries es) (e.0 ∷ keys_of_entries es) (e.0 ∷ keys)
keys_by Less row e es later keys same = refl
keys_by Equal row e es later keys same = refl
keys_by Greater row e es later keys same = ap (λ ks. e.0 ∷ ks) same

keys_with : (es : List (List ℕ × DigestRow)) (row : DigestRow) → keys_of_entries (insert_entry bytes_cmp es row.key row) ≡ insert_key bytes_cmp (keys_of_entries es) row.key
keys_with [] row = refl
keys_with (e ∷ es) row =
    keys_by (bytes_cmp row.key e.0) row e es (insert_entry bytes_cmp es row.key row) (insert_key bytes_cmp (keys_of_entries es) row.key) (keys_with es row)

keys_by_key : (rows : List DigestRow) → keys_of_entries (rows_by_key rows) ≡ keys_of rows
keys_by_key [] = refl
keys_by_key (row ∷ rows) = keys_with (rows_by_key rows) row ∙ ap (λ ks. insert_key bytes_cmp ks row.key) (keys_by_key rows)

-- ---- what is in order already

first_put : (key : List ℕ) (keys : List (List ℕ)) → AllByRecursion (λ other. bytes_cmp key other ≡ Less) keys → insert_key bytes_cmp keys key ≡ key ∷ keys
first_put key [] below = refl
first_put key (other ∷ keys) below = ap (λ o. match_ordering o (key ∷ other ∷ keys) (other ∷ keys) (other ∷ insert_key bytes_cmp keys key)) below.0

pub keys_in_order : (rows : List DigestRow) → AreInKeyOrder rows → keys_of rows ≡ map row_key rows
unfolding IsStrictlySortedBy
keys_in_order [] ordered = refl
keys_in_order (row ∷ rows) ordered = ap (λ ks. insert_key bytes_cmp ks row.key) (keys_in_order rows ordered.1) ∙ first_put row.key (map row_key rows) ordered.0

pub keys_of_ordered : (rows : List DigestRow) → keys_of (rows_in_order rows) ≡ keys_of rows
keys_of_ordered rows = keys_in_order (rows_in_order rows) (are_ordered rows) ∙ sym (names rows) ∙ keys_by_key rows

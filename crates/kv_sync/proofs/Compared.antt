-- The keys of rows and of held rows that pass are the better and the wanted ones.
use Rattle.std.proofs.Common.{◌≡◌, ℕ, List, [], ◌∷◌, ◌++◌, map, Bool, true, false, cond, Option, Some, None, refl, sym, ◌∙◌, ap}
use Rattle.std.specs.Option.{option_map}
use Rattle.std.specs.Str.{bytes_eq}
use Rattle.std.specs.List.{AllByRecursion, filter, cons_option}
use Rattle.std.specs.List.Sorted.{IsStrictlySortedBy}
use Rattle.std.specs.declared.cmp.Ordering.TheVariants.{Less}
use Rattle.std.proofs.Math.Path.{fun_ext}
use Rattle.std.proofs.lemmas.Cmp.{nat_list_cmp_total, tied_itself}
use Rattle.std.proofs.lemmas.Map.Text.{is_eq-slice_cmp}
use Rattle.std.specs.Ordering.{is_eq}
use Rattle.or_base.specs.declared.value.KvValue.{KvValue}
use Rattle.or_base.specs.declared.digest.DigestRow.{DigestRow}
use Rattle.or_base.specs.declared.entry.JournalEntry.{JournalEntry}
use Rattle.or_base.specs.Journal.{holds, held_value, held_keys}
use Rattle.kv_table.specs.declared.held.HeldRow.{HeldRow}
use Rattle.kv_table.specs.Held.{with_hash, row_shown, held_rows}
use Rattle.kv_sync.specs.Difference.{row_for, keys_of, is_better_than, is_wanted_over, better_keys, wanted_keys}
use Rattle.kv_sync.specs.Rows.{row_key, AreInKeyOrder, rows_in_order}
use Rattle.kv_sync.specs.Walk.{held_key, found_with, keys_where, is_better_row, is_wanted_row, better_among, wanted_among}
use Rattle.kv_sync.proofs.InOrder.{are_ordered, found_in_order, keys_in_order, keys_of_ordered}
use Rattle.kv_sync.proofs.Walking.{AreAllAbove, differ_if}
use Rattle.kv_sync.proofs.HeldRows.{rows_with, row_value, held_in_order, held_have_hashes, held_found}

found_row : (rows : List DigestRow) (key : List ℕ) → found_with row_key rows key ≡ row_for rows key
found_row [] key = refl
found_row (row ∷ rows) key = ap (λ found. cond (bytes_eq row.key key) (Some row) found) (found_row rows key)

one_if : (key : List ℕ) (passes : Bool) (rest keys : List (List ℕ)) → rest ≡ keys → cond passes (key ∷ []) [] ++ rest ≡ cond passes (key ∷ keys) keys
one_if key true rest keys same = ap (λ ks. key ∷ ks) same
one_if key false rest keys same = same

-- ---- the better keys

abbrev better_of : List DigestRow → List (List ℕ × (KvValue × ℕ)) → List (List ℕ)
better_of rows [] = []
better_of rows (e ∷ es) = cond (is_better_than (Some e.1.0) (row_for rows e.0)) (e.0 ∷ []) [] ++ better_of rows es

better_shown : (rows : List DigestRow) (held : List HeldRow) → keys_where held_key row_key is_better_row held rows ≡ better_of rows (map row_shown held)
better_shown rows [] = refl
better_shown rows (h ∷ held) =
    ap (λ found. cond (is_better_than (Some h.value.now) found) (h.key.now ∷ []) [] ++ keys_where held_key row_key is_better_row held rows) (found_row rows h.key.now)
    ∙ ap (λ keys. cond (is_better_than (Some h.value.now) (row_for rows h.key.now)) (h.key.now ∷ []) [] ++ keys) (better_shown rows held)

better_if : (rows : List DigestRow) (key : List ℕ) (held : Option (KvValue × ℕ)) (rest : List (List ℕ × (KvValue × ℕ))) (keys : List (List ℕ)) → better_of rows rest ≡ keys
    → better_of rows (cons_option (option_map (λ h. (key, with_hash h)) held) rest)
    ≡ cond (is_better_than (option_map (λ h. h.0) held) (row_for rows key)) (key ∷ keys) keys
better_if rows key None rest keys same = same
better_if rows key (Some held) rest keys same = one_if key (is_better_than (Some held.0) (row_for rows key)) (better_of rows rest) keys same

better_with : (rows : List DigestRow) (journal : List JournalEntry) (keys : List (List ℕ))
    → better_of rows (rows_with journal keys) ≡ filter (λ key. is_better_than (held_value journal key) (row_for rows key)) keys
better_with rows journal [] = refl
better_with rows journal (key ∷ keys) =
    better_if rows key (holds journal key) (rows_with journal keys) (filter (λ k. is_better_than (held_value journal k) (row_for rows k)) keys) (better_with rows journal keys)

pub better_are : (rows : List DigestRow) (journal : List JournalEntry) (held : List HeldRow) → map row_shown held ≡ held_rows journal
    → better_among held rows ≡ better_keys rows journal
unfolding better_keys held_rows
better_are rows journal held shown =
    better_shown rows held ∙ ap (better_of rows) shown ∙ better_with rows journal (held_keys journal)

-- ---- the wanted keys

at_itself : (key : List ℕ) → bytes_eq key key ≡ true
at_itself key = sym (is_eq-slice_cmp key key) ∙ ap is_eq (tied_itself nat_list_cmp_total key)

still_found : (first : DigestRow) (find : List ℕ → Option DigestRow) (rows : List DigestRow) → AreAllAbove first.key (map row_key rows) → AllByRecursion (λ row. find row.key ≡ Some row) rows
    → AllByRecursion (λ row. cond (bytes_eq first.key row.key) (Some first) (find row.key) ≡ Some row) rows
still_found first find [] above found = tt
still_found first find (row ∷ rows) above found =
    (ap (λ t. cond t (Some first) (find row.key)) (differ_if Less first.key row.key above.0 refl) ∙ found.0, still_found first find rows above.1 found.1)

each_found : (rows : List DigestRow) → AreInKeyOrder rows → AllByRecursion (λ row. row_for rows row.key ≡ Some row) rows
unfolding IsStrictlySortedBy
each_found [] ordered = tt
each_found (row ∷ rows) ordered =
    (ap (λ t. cond t (Some row) (row_for rows row.key)) (at_itself row.key), still_found row (row_for rows) rows ordered.0 (each_found rows ordered.1))

wanted_with : (find : List ℕ → Option DigestRow) (rows : List DigestRow) (journal : List JournalEntry) (held : List HeldRow) → map row_shown held ≡ held_rows journal
    → AllByRecursion (λ row. find row.key ≡ Some row) rows
    → keys_where row_key held_key is_wanted_row rows held ≡ filter (λ key. is_wanted_over (held_value journal key) (find key)) (map row_key rows)
wanted_with find [] journal held shown found = refl
wanted_with find (row ∷ rows) journal held shown found =
    let keys = filter (λ key. is_wanted_over (held_value journal key) (find key)) (map row_key rows) in
    one_if row.key (is_wanted_row row (found_with held_key held row.key)) (keys_where row_key held_key is_wanted_row rows held) keys (wanted_with find rows journal held shown found.1)
    ∙ ap (λ v. cond (is_wanted_over v (Some row)) (row.key ∷ keys) keys) (held_found journal held row.key shown)
    ∙ ap (λ r. cond (is_wanted_over (held_value journal row.key) r) (row.key ∷ keys) keys) (sym found.0)

pub wanted_are : (rows : List DigestRow) (journal : List JournalEntry) (held : List HeldRow) → map row_shown held ≡ held_rows journal → AreInKeyOrder rows
    → wanted_among rows held ≡ wanted_keys rows journal
unfolding wanted_keys
wanted_are rows journal held shown ordered =
    wanted_with (row_for rows) rows journal held shown (each_found rows ordered)
    ∙ ap (λ keys. filter (λ key. is_wanted_over (held_value journal key) (row_for rows key)) keys) (sym (keys_in_order rows ordered))

-- ---- rows that are put in order

pub better_in_order : (rows : List DigestRow) (journal : List JournalEntry) → better_keys (rows_in_order rows) journal ≡ better_keys rows journal
unfolding better_keys
better_in_order rows journal =
    ap (λ (find : List ℕ → Option DigestRow). filter (λ key. is_better_than (held_value journal key) (find key)) (held_keys journal)) (fun_ext (found_in_order rows))

pub wanted_in_order : (rows : List DigestRow) (journal : List JournalEntry) → wanted_keys (rows_in_order rows) journal ≡ wanted_keys rows journal
unfolding wanted_keys
wanted_in_order rows journal =
    ap (λ (find : List ℕ → Option DigestRow). filter (λ key. is_wanted_over (held_value journal key) (find key)) (keys_of (rows_in_order rows))) (fun_ext (found_in_order rows))
    ∙ ap (λ keys. filter (λ key. is_wanted_over (held_value journal key) (row_for rows key)) keys) (keys_of_ordered rows)

pub ruleset a_walk_compares = (held_in_order, held_have_hashes, better_are, wanted_are)

pub ruleset order_is_the_same = (are_ordered, better_in_order, wanted_in_order)

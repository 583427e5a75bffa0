-- How two lists in byte order of keys are compared, and how they are walked side by side.
use Rattle.std.specs.Prelude.{◌≡◌, ℕ, List, [], ◌∷◌, ◌++◌, Option, Some, None, Bool, false, if◌then◌else◌}
use Rattle.std.specs.Option.{option_map}
use Rattle.std.specs.declared.cmp.Ordering.{Ordering}
use Rattle.std.specs.declared.cmp.Ordering.TheVariants.{Less, Equal, Greater}
use Rattle.std.specs.Str.{bytes_eq}
use Rattle.std.specs.List.{AllByRecursion}
use Rattle.or_base.specs.declared.digest.DigestRow.{DigestRow}
use Rattle.kv_value.specs.Hashing.{hash_of}
use Rattle.kv_table.specs.declared.held.HeldRow.{HeldRow}
use Rattle.kv_sync.specs.Difference.{is_better_than, is_wanted_over}
use Rattle.kv_sync.specs.Rows.{row_key}

abbrev pub held_key : HeldRow → List ℕ
held_key held = held.key.now

-- each has the hash of its value
abbrev pub HaveTheirHashes : List HeldRow → Type 0
HaveTheirHashes held = AllByRecursion (λ (h : HeldRow). h.hash ≡ hash_of h.value.now) held

-- the first item with a key
abbrev pub found_with : {X : Type 0} → (X → List ℕ) → List X → List ℕ → Option X
found_with key_of [] key = None
found_with key_of (x ∷ xs) key = if bytes_eq (key_of x) key then Some x else found_with key_of xs key

-- the keys of the items that pass the test beside the item with the same key in the other list, if there is one
abbrev pub keys_where : {X Y : Type 0} → (X → List ℕ) → (Y → List ℕ) → (X → Option Y → Bool) → List X → List Y → List (List ℕ)
keys_where key_of other_key test [] others = []
keys_where key_of other_key test (x ∷ xs) others =
    (if test x (found_with other_key others (key_of x)) then key_of x ∷ [] else []) ++ keys_where key_of other_key test xs others

-- a held row, where the row of its key, if there is one, isn't better
abbrev pub is_better_row : HeldRow → Option DigestRow → Bool
is_better_row held row = is_better_than (Some held.value.now) row

-- a row, where what is held under its key, if something is, isn't better
abbrev pub is_wanted_row : DigestRow → Option HeldRow → Bool
is_wanted_row row held = is_wanted_over (option_map (λ h. h.value.now) held) (Some row)

abbrev pub better_among : List HeldRow → List DigestRow → List (List ℕ)
better_among held rows = keys_where held_key row_key is_better_row held rows

abbrev pub wanted_among : List DigestRow → List HeldRow → List (List ℕ)
wanted_among rows held = keys_where row_key held_key is_wanted_row rows held

-- ---- a step of the walk

-- an item passes beside the first of the others, as the keys of the two compare: no later one of the others has a lesser key
abbrev pub passes_at : {X Y : Type 0} → Ordering → (X → Option Y → Bool) → X → Y → Bool
passes_at Less test x other = test x None
passes_at Equal test x other = test x (Some other)
passes_at Greater test x other = false

-- the items without the first, if that is done with
abbrev pub left_of : {X : Type 0} → Bool → List X → List X
left_of is_done [] = []
left_of is_done (x ∷ xs) = if is_done then xs else x ∷ xs
